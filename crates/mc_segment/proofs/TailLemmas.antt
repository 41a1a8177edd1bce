-- Places of a list, from its tail.
use Rattle.std.proofs.Common.{◌≡◌, ◌≢◌, ℕ, zero, suc, ◌+◌, ◌-◌, ◌==◌, ◌<◌, ◌≤◌, List, [], ◌∷◌, Bool, true, Option, Some, None, refl, sym, ap, ◌∙◌, subst, length, arith}
use Rattle.std.specs.Prelude.{if◌then◌else◌, slice_get}
use Rattle.std.proofs.lemmas.{Bool.false≢true, Bool.cases_lt, List.take-append-drop, List.reverse-append, List.length-reverse, List.length-map, List.map-append}
use Rattle.std.proofs.lemmas.{List.get_or-reverse, Option.slice_get-get_or, Option.get_or_from_slice_get, Option.slice_get_past, Option.slice_get_within}
use Rattle.std.proofs.Common.{inl, inr}
use Rattle.std.proofs.Common.{◌++◌, take, drop, reverse, length-drop}
use Rattle.std.proofs.Math.Seq.{take-append_seam}
use Rattle.mc_item.specs.declared.{lists.Entry.Entry, lists.Seg.Seg, lists.Seg.TheVariants.Hot, lists.Seg.TheVariants.Warm, lists.Seg.TheVariants.Cold}
use Rattle.mc_item.specs.declared.{lists.Seg.TheVariants.Temp}
use Rattle.std.specs.Prelude.{IfSome}
use Rattle.mc_rule.specs.{Lists.Lists, Lists.list_of, Lists.from_tail, Lists.times, Lists.times_in, Segment.behind, Segment.numbers_of, Segment.numbers_behind}
use Rattle.mc_segment.specs.declared.arena.Node.{Node}
use Rattle.mc_segment.specs.Nodes.{node, first_number, last_from, node_at, lacks, distinct, before, IsChain}
use Rattle.mc_segment.proofs.ChainLemmas.{by_eq, both_of, not_of, itself, some_none}

abbrev pub one_if : Bool → ℕ
one_if b = if b then 1 else 0

pub before_last : (w : Option ℕ) (es : List Entry) → before w es (length es) ≡ last_from w es
before_last w [] = refl
before_last w (e ∷ es) = before_last (Some e.number) es

lacks_other : (es : List Entry) (k : ℕ) (q : ℕ) (e : Entry) → lacks q es ≡ true → slice_get es k ≡ Some e → q ≢ e.number
lacks_other [] k q e l h = absurd (some_none h)
lacks_other (x ∷ es) zero q e l h =
    let same : x ≡ e = cc in
    λ eq. false≢true (sym (not_of (x.number == q) (lacks q es) l).0 ∙ (ap (λ (y : Entry). y.number == q) same ∙ (ap (λ n. e.number == n) eq ∙ itself e.number)))
lacks_other (x ∷ es) (suc k) q e l h = lacks_other es k q e (not_of (x.number == q) (lacks q es) l).1 h

-- the node of what stands at place k
pub node_there : (w : Option ℕ) (es : List Entry) (k : ℕ) (e : Entry) → distinct es ≡ true → slice_get es k ≡ Some e → (older : Option ℕ) × (node_at w es e.number ≡ Some (node e (before w es k) older))
node_there w [] k e d h = absurd (some_none h)
node_there w (x ∷ es) zero e d h =
    let same : x ≡ e = cc in
    let P : Entry → Type 0 = λ y. (older : Option ℕ) × (node_at w (x ∷ es) y.number ≡ Some (node y w older)) in
    subst P same (first_number es, ap (λ (b : Bool). if b then Some (node x w (first_number es)) else node_at (Some x.number) es x.number) (itself x.number))
node_there w (x ∷ es) (suc k) e d h =
    let p = both_of (lacks x.number es) (distinct es) d in
    let later = node_there (Some x.number) es k e p.1 h in (
      later.0,
      by_eq x.number e.number (λ t. (if t then Some (node x w (first_number es)) else node_at (Some x.number) es e.number) ≡ Some (node e (before (Some x.number) es k) later.0))
          (λ same. absurd (lacks_other es k x.number e p.0 h same))
          (λ other. later.1),
    )

pub there_is : (es : List Entry) (k : ℕ) → k < length es → (e : Entry) × (slice_get es k ≡ Some e)
there_is [] k h = absurd (omega arith)
there_is (x ∷ es) zero h = (x, refl)
there_is (x ∷ es) (suc k) h = there_is es k (omega arith)

pub before_is : (w : Option ℕ) (es : List Entry) (k : ℕ) (e : Entry) → slice_get es k ≡ Some e → before w es (suc k) ≡ Some e.number
before_is w [] k e h = absurd (some_none h)
before_is w (x ∷ es) zero e h = let same : x ≡ e = cc in ap (λ (y : Entry). Some y.number) same
before_is w (x ∷ es) (suc k) e h = before_is (Some x.number) es k e h

-- what stands at place i from the tail, with its node
pub record Stands (f : ℕ → Option Node) (es : List Entry) (i : ℕ) (at : Option ℕ) : Type 0 where
  pub entry : Entry
  pub older : Option ℕ
  pub number : at ≡ Some entry.number
  pub place : slice_get es (length es - 1 - i) ≡ Some entry
  pub node : f entry.number ≡ Some (node entry (before None es (length es - (i + 1))) older)

pub stands : (f : ℕ → Option Node) (n o : Option ℕ) (count bytes : ℕ) (es : List Entry) (i : ℕ) (at : Option ℕ) → IsChain f n o count bytes es → at ≡ before None es (length es - i) → i < length es → Stands f es i at
stands f n o count bytes es i at c h less =
    let k = length es - 1 - i in
    let one : length es - i ≡ suc k = omega arith in
    let two : length es - (i + 1) ≡ k = omega arith in
    let here = there_is es k (omega arith) in
    let there = node_there None es k here.0 c.apart here.1 in record {
      entry = here.0;
      older = there.0;
      number = h ∙ (ap (before None es) one ∙ before_is None es k here.0 here.1);
      place = here.1;
      node = c.nodes here.0.number ∙ (there.1 ∙ ap (λ j. Some (node here.0 (before None es j) there.0)) (sym two));
    }

pub stands_once : (es : List Entry) (k : ℕ) (e : Entry) → slice_get es k ≡ Some e → 1 ≤ times e.number es
stands_once [] k e h = absurd (some_none h)
stands_once (x ∷ es) zero e h =
    let same : x ≡ e = cc in
    let one : (if x.number == e.number then 1 else 0) ≡ 1 = ap (λ (y : Entry). one_if (x.number == y.number)) (sym same) ∙ ap one_if (itself x.number) in
    omega (arith, one)
stands_once (x ∷ es) (suc k) e h = let later = stands_once es k e h in omega (arith, later)

zero_is : (n : ℕ) → n ≤ 0 → 0 ≡ n
zero_is n h = omega arith

-- a number is there, so the place is in the list
pub is_inside : (es : List Entry) (i q : ℕ) (at : Option ℕ) → at ≡ before None es (length es - i) → i ≤ length es → at ≡ Some q → i < length es
is_inside es i q at h le is =
    elim (cases_lt i (length es)) [ inl p ↦ p | inr p ↦ absurd (some_none (ap (before None es) (zero_is (length es - i) (omega arith)) ∙ (sym h ∙ is))) ]

pub some_same : {A : Type 0} (a b : A) → Some a ≡ Some b → a ≡ b
some_same a b h = cc

module _ (f : ℕ → Option Node) (n o : Option ℕ) (count bytes : ℕ) (es : List Entry) (i q : ℕ) (at : Option ℕ) (c : IsChain f n o count bytes es) (h : at ≡ before None es (length es - i)) (le : i ≤ length es) where
  -- an end of the list is met behind its last entry alone
  pub not_yet : at ≡ None → i < length es → ⊥
  not_yet none less = some_none (sym none ∙ (stands f n o count bytes es i at c h less).number)

  pub here : at ≡ Some q → Stands f es i (Some q)
  here some =
      let P : Option ℕ → Type 0 = λ a. Stands f es i a in
      subst P some (stands f n o count bytes es i at c h (is_inside es i q at h le some))

  pub node_here : (some : at ≡ Some q) → f q ≡ Some (node (here some).entry (before None es (length es - (i + 1))) (here some).older)
  node_here some = ap f (some_same q (here some).entry.number (here some).number) ∙ (here some).node

  pub missing : at ≡ Some q → f q ≡ None → ⊥
  missing some none = some_none (sym none ∙ node_here some)

  pub next_is : (x : Node) → at ≡ Some q → f q ≡ Some x → (x.newer ≡ before None es (length es - (i + 1))) × (i + 1 ≤ length es)
  next_is x some is_x =
      let less = is_inside es i q at h le some in
      (ap (λ (y : Node). y.newer) (some_same x _ (sym is_x ∙ node_here some)), omega arith)

  pub entry_is : (x : Node) → at ≡ Some q → f q ≡ Some x → Some x.entry ≡ slice_get es (length es - 1 - i)
  entry_is x some is_x = ap (λ (y : Node). Some y.entry) (some_same x _ (sym is_x ∙ node_here some)) ∙ sym (here some).place

-- ---- what is behind a place
-- the numbers behind what stands at place k, where its number stands once
behind_place : (es : List Entry) (k : ℕ) (e : Entry) → slice_get es k ≡ Some e → times e.number es ≤ 1 → numbers_of (behind e.number es) ≡ drop (suc k) (numbers_of es)
behind_place [] k e h once = absurd (some_none h)
behind_place (x ∷ es) zero e h once =
    let same : x ≡ e = cc in
    ap (λ (y : Entry). numbers_of (if x.number == y.number then es else behind y.number es)) (sym same)
    ∙ ap (λ (b : Bool). numbers_of (if b then es else behind x.number es)) (itself x.number)
behind_place (x ∷ es) (suc k) e h once =
    by_eq x.number e.number (λ b. (if b then 1 else 0) + times e.number es ≤ 1 → numbers_of (if b then es else behind e.number es) ≡ drop (suc k) (numbers_of es))
    (λ same most. let here = stands_once es k e h in absurd (omega arith))
    (λ other most. behind_place es k e h (omega arith))
    once

reverse_drop : (i j : ℕ) (ns : List ℕ) → i + j ≡ length ns → reverse (drop i ns) ≡ take j (reverse ns)
reverse_drop i j ns h =
    let len : length (reverse (drop i ns)) ≡ j = omega (arith, length-reverse (drop i ns), length-drop i ns) in
    let parts : reverse ns ≡ reverse (drop i ns) ++ reverse (take i ns) = ap reverse (sym (take-append-drop i ns)) ∙ reverse-append (take i ns) (drop i ns) in
    sym (ap (take j) parts ∙ (ap (λ (n : ℕ). take n (reverse (drop i ns) ++ reverse (take i ns))) (sym len) ∙ take-append_seam (reverse (drop i ns)) (reverse (take i ns))))

-- the numbers behind the j-th entry from the tail are the j numbers from the tail
pub behind_tail : (es : List Entry) (j : ℕ) (e : Entry) → j < length es → slice_get es (length es - 1 - j) ≡ Some e → times e.number es ≤ 1 → numbers_behind e.number es ≡ take j (reverse (numbers_of es))
behind_tail es j e less h once =
    let k = length es - 1 - j in
    ap reverse (behind_place es k e h once) ∙ reverse_drop (suc k) j (numbers_of es) (omega (arith, length-map es (λ (x : Entry). x.number)))

-- the same of what a look from the tail answers
pub behind_read : (es : List Entry) (j : ℕ) (o : Option Entry) → (j < length es → o ≡ slice_get es (length es - 1 - j)) → (length es ≤ j → o ≡ None) → ((q : ℕ) → times q es ≤ 1)
    → IfSome o (λ e. numbers_behind e.number es ≡ take j (reverse (numbers_of es)))
behind_read es j None inside outside once = tt
behind_read es j (Some e) inside outside once =
    elim (cases_lt j (length es)) [ inl less ↦ behind_tail es j e less (sym (inside less)) (once e.number) | inr past ↦ absurd (some_none (sym (outside past))) ]

-- a number that stands once in the lists stands once in each
pub once_in : (q : ℕ) (l : Lists) (s : Seg) → times_in q l ≤ 1 → times q (list_of l s) ≤ 1
once_in q l Hot h = omega arith
once_in q l Warm h = omega arith
once_in q l Cold h = omega arith
once_in q l Temp h = omega arith

-- ---- one place newer
tail_there : (es : List Entry) (j : ℕ) → j < length es → (e : Entry) × (slice_get es (length es - 1 - j) ≡ Some e) × (from_tail es j ≡ Some e)
tail_there es j h =
    let here = there_is es (length es - 1 - j) (omega arith) in
    let len = length-reverse es in (
      here.0,
      here.1,
      slice_get-get_or (reverse es) j here.0 (omega (arith, len)) ∙ ap (λ (e : Entry). Some e) (get_or-reverse es j here.0 h ∙ get_or_from_slice_get es _ here.0 here.0 here.1),
    )

pub past_tail : (es : List Entry) (j : ℕ) → length es ≤ j → from_tail es j ≡ None
past_tail es j h = slice_get_past (reverse es) j (let len = length-reverse es in omega (arith, len))

-- what stands at a place from the tail, by its place from the head
pub from_head : (es : List Entry) (j : ℕ) → j < length es → from_tail es j ≡ slice_get es (length es - 1 - j)
from_head es j h = let here = tail_there es j h in here.2 ∙ sym here.1

module _ (f : ℕ → Option Node) (n o : Option ℕ) (count bytes : ℕ) (es : List Entry) (c : IsChain f n o count bytes es) (j : ℕ) (e : Entry) (there : from_tail es j ≡ Some e) where
  pub inside : j < length es
  inside = let within = slice_get_within (reverse es) j e there in let len = length-reverse es in omega (arith, within, len)

  pub tail_node : (older : Option ℕ) × (f e.number ≡ Some (node e (before None es (length es - 1 - j)) older))
  tail_node =
      let here = node_there None es (length es - 1 - j) e c.apart (sym (from_head es j inside) ∙ there) in
      (here.0, c.nodes e.number ∙ here.1)

  pub not_missing : f e.number ≡ None → ⊥
  not_missing none = some_none (sym none ∙ tail_node.1)

  before_here : (x : Node) → f e.number ≡ Some x → x.newer ≡ before None es (length es - 1 - j)
  before_here x is = ap (λ (y : Node). y.newer) (some_same x _ (sym is ∙ tail_node.1))

  -- the newest entry is the last from the tail
  pub none_newer : (x : Node) → f e.number ≡ Some x → x.newer ≡ None → None ≡ from_tail es (j + 1)
  none_newer x is none =
      elim (cases_lt (j + 1) (length es)) [
        | inl less ↦
            let here = tail_there es (j + 1) less in
            let at : length es - 1 - j ≡ suc (length es - 1 - (j + 1)) = omega (arith, less) in
            absurd (some_none (sym none ∙ (before_here x is ∙ (ap (before None es) at ∙ before_is None es _ here.0 here.1))))
        | inr past ↦ sym (past_tail es (j + 1) past)
      ]

  -- the number beside an entry is that of the next one from the tail
  pub newer_stands : (x : Node) (q : ℕ) → f e.number ≡ Some x → x.newer ≡ Some q → (later : Entry) × (q ≡ later.number) × (from_tail es (j + 1) ≡ Some later)
  newer_stands x q is some =
      elim (cases_lt (j + 1) (length es)) [
        | inl less ↦
            let here = tail_there es (j + 1) less in
            let at : length es - 1 - j ≡ suc (length es - 1 - (j + 1)) = omega (arith, less) in
            (here.0, some_same q here.0.number (sym some ∙ (before_here x is ∙ (ap (before None es) at ∙ before_is None es _ here.0 here.1))), here.2)
        | inr past ↦
            let within = inside in
            let at : length es - 1 - j ≡ 0 = omega (arith, past, within) in
            absurd (some_none (ap (before None es) (sym at) ∙ (sym (before_here x is) ∙ some)))
      ]

-- ---- the numbers from the tail
numbers_reverse : (es : List Entry) → reverse (numbers_of es) ≡ numbers_of (reverse es)
numbers_reverse [] = refl
numbers_reverse (e ∷ es) =
    reverse-append (e.number ∷ []) (numbers_of es)
    ∙ (ap (λ (ns : List ℕ). ns ++ e.number ∷ []) (numbers_reverse es)
    ∙ sym (ap numbers_of (reverse-append (e ∷ []) es) ∙ map-append (λ (x : Entry). x.number) (reverse es) (e ∷ [])))

take_next : (rs : List Entry) (j : ℕ) (e : Entry) → slice_get rs j ≡ Some e → take (suc j) (numbers_of rs) ≡ take j (numbers_of rs) ++ e.number ∷ []
take_next [] j e h = absurd (some_none h)
take_next (x ∷ rs) zero e h = ap (λ (y : Entry). y.number ∷ []) (some_same x e h)
take_next (x ∷ rs) (suc j) e h = ap (λ (ns : List ℕ). x.number ∷ ns) (take_next rs j e h)

-- one number more from the tail
pub tail_number : (es : List Entry) (j : ℕ) (e : Entry) → j < length es → slice_get es (length es - 1 - j) ≡ Some e → take (j + 1) (reverse (numbers_of es)) ≡ take j (reverse (numbers_of es)) ++ e.number ∷ []
tail_number es j e less h =
    let same = numbers_reverse es in
    let more : j + 1 ≡ suc j = omega arith in
    ap (λ (ns : List ℕ). take (j + 1) ns) same
    ∙ (ap (λ (k : ℕ). take k (numbers_of (reverse es))) more
    ∙ (take_next (reverse es) j e (from_head es j less ∙ h) ∙ ap (λ (ns : List ℕ). take j ns ++ e.number ∷ []) (sym same)))
