-- Four chains over the places of one arena.
use Rattle.std.proofs.Common.{◌≡◌, ℕ, ◌+◌, ◌*◌, ◌^◌, ◌==◌, ◌<◌, ◌≤◌, List, ◌∷◌, Bool, true, false, Option, Some, None, refl, sym, ap, ◌∙◌, subst, arith}
use Rattle.std.specs.Prelude.{if◌then◌else◌}
use Rattle.std.proofs.lemmas.Bool.{cases_lt}
use Rattle.std.proofs.Common.{inl, inr}
use Rattle.mc_item.specs.declared.{lists.Entry.Entry, lists.Seg.Seg, lists.Seg.TheVariants.Hot, lists.Seg.TheVariants.Warm, lists.Seg.TheVariants.Cold}
use Rattle.mc_item.specs.declared.{lists.Seg.TheVariants.Temp}
use Rattle.mc_rule.specs.Lists.{found, found_in, count_of, Lists, list_of, with_list, linked, unlinked, find, without, times, times_in}
use Rattle.mc_segment.specs.declared.{arena.Node.Node, arena.Listed.Listed, ends.Ends.Ends, ends.Heads.Heads}
use Rattle.mc_segment.specs.{Neighbours.with_newer, Neighbours.with_older, Neighbours.points_to, Nodes.node, Nodes.node_at, Nodes.lacks}
use Rattle.std.specs.HashMap.{spare}
use Rattle.mc_segment.specs.Slots.{Slots, slot, renewed, reolded, place_newer, place_older}
use Rattle.mc_segment.specs.Arena.{Held, held, all_bytes, code, part, nodes_of, ends_of, with_ends, pushed_ends, taken_ends, lists_in, AreNodesOf, IsArena}
use Rattle.mc_segment.proofs.ChainLemmas.{apply_newer, apply_older, by_eq, not_equal, some_none, walk_is, chain_cong, push_chain, take_chain, absent, node_entry, lacks_absent, first_lacked}
use Rattle.mc_segment.proofs.ChainLemmas.{names_lacked, cost_le, taken_length}
use Rattle.mc_segment.proofs.OneListLemmas.{entry_of, named, four, own_part, other_part, part_newer, part_relinked, still, quiet, untouched, with_count, with_bytes, numbered, one_if, at_most, times_at}

pub whole : (f : ℕ → Option Listed) (next : ℕ) (h : Heads) (l : Lists) → IsArena f next h l → lists_in f h ≡ l
whole f next h l a = four
    (walk_is _ _ _ _ _ _ (a.parts Hot))
    (walk_is _ _ _ _ _ _ (a.parts Warm))
    (walk_is _ _ _ _ _ _ (a.parts Cold))
    (walk_is _ _ _ _ _ _ (a.parts Temp))

pub closed : (f : ℕ → Option Listed) (next : ℕ) (h : Heads) (l : Lists) → IsArena f next h l → IsArena f next h (lists_in f h)
closed f next h l a =
    let P : Lists → Type 0 = λ x. IsArena f next h x in
    subst P (sym (whole f next h l a)) a

-- the same, of the lists that contracts see
pub seen : (slots : Slots) (next : ℕ) (h : Heads) (v : Held) → held (lists_in (slot slots) h) next (spare slots) slots.entries ≡ v
    → IsArena (slot slots) next h (lists_in (slot slots) h) → IsArena (slot slots) next h v.lists
seen slots next h v is a =
    let P : Held → Type 0 = λ x. IsArena (slot slots) next h x.lists in
    subst P is a

found_pure : (o : Option Listed) → found_in Hot (entry_of (part 0 o)) (found_in Warm (entry_of (part 1 o)) (found_in Cold (entry_of (part 2 o)) (found_in Temp (entry_of (part 3 o)) None))) ≡ named o
found_pure None = refl
found_pure (Some p) =
    let x = p.node in
    elim p.seg as (λ (s : Seg). found_in Hot (entry_of (if code s == 0 then Some x else None))
    (found_in Warm (entry_of (if code s == 1 then Some x else None)) (found_in Cold (entry_of (if code s == 2 then Some x else None))
    (found_in Temp (entry_of (if code s == 3 then Some x else None)) None))) ≡ Some (s, x.entry))
    [ Hot ↦ refl | Warm ↦ refl | Cold ↦ refl | Temp ↦ refl ]

by_found : {a b c d x y z w : Option Entry} → a ≡ x → b ≡ y → c ≡ z → d ≡ w
    → found_in Hot a (found_in Warm b (found_in Cold c (found_in Temp d None))) ≡ found_in Hot x (found_in Warm y (found_in Cold z (found_in Temp w None)))
by_found p q r s = cc

-- the four lists after a step on one of them
pub replaced : (f g : ℕ → Option Listed) (h : Heads) (l : Lists) (s : Seg) (e : Ends) (es : List Entry) → ((t : Seg) → AreNodesOf (nodes_of f (code t)) (ends_of h t) (list_of l t))
    → AreNodesOf (nodes_of g (code s)) e es
    → ((t : Seg) → (code s == code t) ≡ false → (q : ℕ) → nodes_of g (code t) q ≡ nodes_of f (code t) q)
    → (t : Seg) → AreNodesOf (nodes_of g (code t)) (ends_of (with_ends h s e) t) (list_of (with_list l s es) t)
replaced f g h l s e es a new other =
    let keep : (t : Seg) → (code s == code t) ≡ false → AreNodesOf (nodes_of g (code t)) (ends_of h t) (list_of l t) = λ t away. chain_cong _ _ _ _ _ _ _ (other t away) (a t) in
    (elim s as (λ (s : Seg). AreNodesOf (nodes_of g (code s)) e es → ((t : Seg) → (code s == code t) ≡ false
    → AreNodesOf (nodes_of g (code t)) (ends_of h t) (list_of l t)) → (t : Seg)
    → AreNodesOf (nodes_of g (code t)) (ends_of (with_ends h s e) t) (list_of (with_list l s es) t)) [
      | Hot ↦ λ n k. elim [ Hot ↦ n | Warm ↦ k Warm refl | Cold ↦ k Cold refl | Temp ↦ k Temp refl ]
      | Warm ↦ λ n k. elim [ Hot ↦ k Hot refl | Warm ↦ n | Cold ↦ k Cold refl | Temp ↦ k Temp refl ]
      | Cold ↦ λ n k. elim [ Hot ↦ k Hot refl | Warm ↦ k Warm refl | Cold ↦ n | Temp ↦ k Temp refl ]
      | Temp ↦ λ n k. elim [ Hot ↦ k Hot refl | Warm ↦ k Warm refl | Cold ↦ k Cold refl | Temp ↦ n ]
    ]) new keep

unlinked_one : (l : Lists) (n : ℕ) (s : Seg) → ((t : Seg) → (code s == code t) ≡ false → without n (list_of l t) ≡ list_of l t) → with_list l s (without n (list_of l s)) ≡ unlinked n l
unlinked_one l n Hot k = four refl (sym (k Warm refl)) (sym (k Cold refl)) (sym (k Temp refl))
unlinked_one l n Warm k = four (sym (k Hot refl)) refl (sym (k Cold refl)) (sym (k Temp refl))
unlinked_one l n Cold k = four (sym (k Hot refl)) (sym (k Warm refl)) refl (sym (k Temp refl))
unlinked_one l n Temp k = four (sym (k Hot refl)) (sym (k Warm refl)) (sym (k Cold refl)) refl

module _ (f : ℕ → Option Listed) (next : ℕ) (h : Heads) (l : Lists) (a : IsArena f next h l) where
  find_is : (n : ℕ) (s : Seg) → find n (list_of l s) ≡ entry_of (part (code s) (f n))
  find_is n s = sym (node_entry None (list_of l s) n) ∙ ap entry_of (sym ((a.parts s).nodes n))

  pub found_is : (n : ℕ) → found n l ≡ named (f n)
  found_is n = by_found (find_is n Hot) (find_is n Warm) (find_is n Cold) (find_is n Temp) ∙ found_pure (f n)

  -- a number that is in no list has an empty slot
  pub slot_none : (n : ℕ) → found n l ≡ None → f n ≡ None
  slot_none n none =
      (elim (f n) as (λ (o : Option Listed). named o ≡ None → o ≡ None) [ None ↦ λ _. refl | Some p ↦ λ k. absurd (some_none (sym k)) ]) (sym (found_is n) ∙ none)

  missing_here : (s : Seg) (q : ℕ) → part (code s) (f q) ≡ None → lacks q (list_of l s) ≡ true
  missing_here s q none = lacks_absent q (list_of l s) (absent _ _ _ _ _ _ q (a.parts s) none).0

  -- a number stands once in one list at most
  pub once : (q : ℕ) → times_in q l ≤ 1
  once q =
      let at : (s : Seg) → times q (list_of l s) ≡ one_if (part (code s) (f q)) = λ s. times_at None (list_of l s) q (a.parts s).apart ∙ ap one_if (sym ((a.parts s).nodes q)) in
      let most = at_most (f q) in
      omega (arith, at Hot, at Warm, at Cold, at Temp, most)

  pub below : (q : ℕ) → next ≤ q → found q l ≡ None
  below q past = found_is q ∙ ap named (a.later q past)

  -- a number that has a place is below the next
  pub slot_below : (q : ℕ) (p : Listed) → f q ≡ Some p → q < next
  slot_below q p is =
      elim (cases_lt q next) [ inl less ↦ less | inr past ↦ absurd (some_none (sym (a.later q past) ∙ is)) ]

  -- an entry is put at a head
  pub put_arena : (g : ℕ → Option Listed) (s : Seg) (e : Entry) → found e.number l ≡ None → e.number < next → count_of l < next → all_bytes l + e.cost ≤ 2 ^ 20 * next
      → ((q : ℕ) → g q ≡ (if e.number == q then Some (record { seg = s; node = node e None (ends_of h s).newest }) else place_newer (ends_of h s).newest (Some e.number) q (f q)))
      → IsArena g next (with_ends h s (pushed_ends (ends_of h s) e.number e.cost)) (linked s e l)
  put_arena g s e none within free fits new =
      let ends = ends_of h s in
      let p : Listed = record { seg = s; node = node e None ends.newest } in
      let empty = slot_none e.number none in
      let at : (k q : ℕ) → nodes_of g k q ≡ (if e.number == q then part k (Some p) else apply_newer ends.newest (Some e.number) q (part k (f q))) = λ k q.
      ap (part k) (new q) ∙ (elim (e.number == q) as (λ (b : Bool). part k (if b then Some p else place_newer ends.newest (Some e.number) q (f q))
      ≡ (if b then part k (Some p) else apply_newer ends.newest (Some e.number) q (part k (f q)))) [
        | true ↦ refl
        | false ↦
            part_newer k ends.newest (Some e.number) q (f q)
      ]) in
      record {
        parts = replaced f g h l s _ (e ∷ list_of l s) a.parts
            (push_chain (nodes_of f (code s)) (nodes_of g (code s)) ends.newest ends.oldest ends.count ends.bytes (list_of l s) e (a.parts s)
            (missing_here s e.number (ap (part (code s)) empty))
            (λ q. at (code s) q ∙ ap (λ (o : Option Node). if e.number == q then o else apply_newer ends.newest (Some e.number) q (part (code s) (f q))) (own_part (Some p) p refl)))
            (λ t away q. at (code t) q ∙ by_eq e.number q (λ b. (if b then part (code t) (Some p) else apply_newer ends.newest (Some e.number) q (part (code t) (f q))) ≡ part (code t) (f q))
            (λ same. other_part (code t) (Some p) p refl away ∙ sym (ap (λ (n : ℕ). part (code t) (f n)) (sym same) ∙ ap (part (code t)) empty))
            (λ other. untouched (code s) (code t) (points_to q ends.newest) (with_newer (Some e.number)) (f q) away
            (λ miss. ap (points_to q) (a.parts s).newest_is ∙ first_lacked (list_of l s) q (missing_here s q miss))));
        later = λ q past. new q ∙ (ap (λ (b : Bool). if b then Some p else place_newer ends.newest (Some e.number) q (f q)) (not_equal e.number q (λ same. absurd (omega arith)))
            ∙ (ap (place_newer ends.newest (Some e.number) q) (a.later q past) ∙ quiet (points_to q ends.newest) (renewed (Some e.number))));
        count = let c = with_count l s (e ∷ list_of l s) in omega (arith, c, free);
        bytes = let c = with_bytes l s (e ∷ list_of l s) in omega (arith, c, fits);
        limit = a.limit;
      }

  -- places that are alike
  pub same_slots : (g : ℕ → Option Listed) → ((q : ℕ) → g q ≡ f q) → IsArena g next h l
  same_slots g same = record {
    parts = λ s. chain_cong _ _ _ _ _ _ _ (λ q. ap (part (code s)) (same q)) (a.parts s);
    later = λ q past. same q ∙ a.later q past;
    count = a.count;
    bytes = a.bytes;
    limit = a.limit;
  }

  -- a number more
  pub grown : next < 2 ^ 32 → IsArena f (next + 1) h l
  grown less = record {
    parts = a.parts;
    later = λ q past. a.later q (omega arith);
    count = omega (arith, a.count);
    bytes = omega (arith, a.bytes);
    limit = omega arith;
  }

  pub unlinked_none : (n : ℕ) → f n ≡ None → l ≡ unlinked n l
  unlinked_none n none =
      let kept : (t : Seg) → list_of l t ≡ without n (list_of l t) = λ t. sym (absent _ _ _ _ _ _ n (a.parts t) (ap (part (code t)) none)).1 in
      four (kept Hot) (kept Warm) (kept Cold) (kept Temp)

  -- the entry of a number is taken out
  module _ (m : ℕ) (p : Listed) (is : f m ≡ Some p) where
    own : nodes_of f (code p.seg) m ≡ Some p.node
    own = own_part (f m) p is

    here : node_at None (list_of l p.seg) m ≡ Some p.node
    here = sym ((a.parts p.seg).nodes m) ∙ own

    apart : (t : Seg) → (code p.seg == code t) ≡ false → part (code t) (f m) ≡ None
    apart t away = other_part (code t) (f m) p is away

    -- the number's entry is in the list of its place's segment
    pub find_here : find m (list_of l p.seg) ≡ Some p.node.entry
    find_here = find_is m p.seg ∙ ap entry_of own

    pub unlinked_is : with_list l p.seg (without m (list_of l p.seg)) ≡ unlinked m l
    unlinked_is = unlinked_one l m p.seg (λ t away. (absent _ _ _ _ _ _ m (a.parts t) (apart t away)).1)

    pub cost_fits : p.node.entry.cost ≤ (ends_of h p.seg).bytes
    cost_fits = cost_le _ _ _ _ _ _ m p.node (a.parts p.seg) own

    pub number_is : p.node.entry.number ≡ m
    number_is = numbered None (list_of l p.seg) m p.node here

    pub length_is : 0 < (ends_of h p.seg).count
    length_is = let size = taken_length None (list_of l p.seg) m p.node here in let n = (a.parts p.seg).count_is in omega (arith, size, n)

    pub taken_sums : (count_of (unlinked m l) + 1 ≡ count_of l) × (all_bytes (unlinked m l) + p.node.entry.cost ≡ all_bytes l)
    taken_sums =
        let size = taken_length None (list_of l p.seg) m p.node here in
        let n = with_count l p.seg (without m (list_of l p.seg)) in
        let b = with_bytes l p.seg (without m (list_of l p.seg)) in
        let P : Lists → Type 0 = λ x. (count_of x + 1 ≡ count_of l) × (all_bytes x + p.node.entry.cost ≡ all_bytes l) in
        subst P unlinked_is (omega (arith, size, n), omega (arith, size, b))

    pub take_arena : (g : ℕ → Option Listed)
        → ((q : ℕ) → g q ≡ place_newer p.node.older p.node.newer q (place_older p.node.newer p.node.older q (if m == q then None else f q)))
        → IsArena g next (with_ends h p.seg (taken_ends (ends_of h p.seg) p.node.newer p.node.older p.node.entry.cost)) (unlinked m l)
    take_arena g new =
        let x = p.node in
        let s = p.seg in
        let at : (k q : ℕ) → nodes_of g k q ≡ apply_newer x.older x.newer q (apply_older x.newer x.older q (if m == q then None else part k (f q))) = λ k q.
        ap (part k) (new q) ∙ (part_relinked k x.newer x.older q (if m == q then None else f q)
        ∙ ap (λ (o : Option Node). apply_newer x.older x.newer q (apply_older x.newer x.older q o))
        (elim (m == q) as (λ (b : Bool). part k (if b then None else f q) ≡ (if b then None else part k (f q))) [ true ↦ refl | false ↦ refl ])) in
        let far : (q : ℕ) → part (code s) (f q) ≡ None → (points_to q x.newer ≡ false) × (points_to q x.older ≡ false) = λ q miss. names_lacked None (list_of l s) m q x here refl (missing_here s q miss) in
        let sums = taken_sums in
        let P : Lists → Type 0 = λ v. (t : Seg) → AreNodesOf (nodes_of g (code t)) (ends_of (with_ends h s (taken_ends (ends_of h s) x.newer x.older x.entry.cost)) t) (list_of v t) in
        record {
          parts = subst P unlinked_is (replaced f g h l s _ (without m (list_of l s)) a.parts
              (take_chain (nodes_of f (code s)) (nodes_of g (code s)) _ _ _ _ (list_of l s) m x (a.parts s) own (at (code s)))
              (λ t away q. at (code t) q ∙ by_eq m q (λ b. apply_newer x.older x.newer q (apply_older x.newer x.older q (if b then None else part (code t) (f q))) ≡ part (code t) (f q))
              (λ same. ap (apply_newer x.older x.newer q) (still (points_to q x.newer) (with_older x.older))
              ∙ (still (points_to q x.older) (with_newer x.newer) ∙ sym (ap (λ (n : ℕ). part (code t) (f n)) (sym same) ∙ apart t away)))
              (λ other. ap (apply_newer x.older x.newer q) (untouched (code s) (code t) (points_to q x.newer) (with_older x.older) (f q) away
              (λ miss. (far q miss).0)) ∙ untouched (code s) (code t) (points_to q x.older) (with_newer x.newer) (f q) away (λ miss. (far q miss).1))));
          later = λ q past. new q ∙ (ap (λ (o : Option Listed). place_newer x.older x.newer q (place_older x.newer x.older q o))
              (elim (m == q) as (λ (b : Bool). (if b then None else f q) ≡ None) [ true ↦ refl | false ↦ a.later q past ])
              ∙ (ap (place_newer x.older x.newer q) (quiet (points_to q x.newer) (reolded x.older)) ∙ quiet (points_to q x.older) (renewed x.newer)));
          count = omega (arith, sums, a.count);
          bytes = omega (arith, sums, a.bytes);
          limit = a.limit;
        }
