-- Places seen from one of the four lists.
use Rattle.std.proofs.Common.{◌≡◌, ℕ, ◌+◌, ◌==◌, ◌≤◌, List, [], ◌∷◌, Bool, true, false, Option, Some, None, refl, sym, ap, ◌∙◌, length, arith}
use Rattle.std.specs.Prelude.{if◌then◌else◌}
use Rattle.std.specs.Option.{option_map}
use Rattle.std.proofs.lemmas.Bool.{false≢true}
use Rattle.mc_item.specs.declared.{lists.Entry.Entry, lists.Seg.Seg, lists.Seg.TheVariants.Hot, lists.Seg.TheVariants.Warm, lists.Seg.TheVariants.Cold}
use Rattle.mc_item.specs.declared.{lists.Seg.TheVariants.Temp}
use Rattle.mc_rule.specs.Lists.{count_of, Lists, list_of, with_list, linked, cost_sum, times}
use Rattle.mc_segment.specs.declared.{arena.Node.Node, arena.Listed.Listed}
use Rattle.mc_segment.specs.Neighbours.{with_newer, with_older, points_to}
use Rattle.mc_segment.specs.Nodes.{node, first_number, node_at, lacks, distinct}
use Rattle.mc_segment.specs.{Slots.renewed, Slots.reolded, Slots.place_newer, Slots.place_older, Arena.all_bytes, Arena.code, Arena.part}
use Rattle.mc_segment.proofs.ChainLemmas.{apply_newer, apply_older, by_eq, both_of, not_of, not_equal, some_none}

abbrev pub entry_of : Option Node → Option Entry
entry_of o = option_map (λ (n : Node). n.entry) o

abbrev pub named : Option Listed → Option (Seg × Entry)
named o = option_map (λ (p : Listed). (p.seg, p.node.entry)) o

abbrev pub lists_of : List Entry → List Entry → List Entry → List Entry → Lists
lists_of a b c d = record { hot = a; warm = b; cold = c; temp = d }

pub four : {a b c d x y z w : List Entry} → a ≡ x → b ≡ y → c ≡ z → d ≡ w → lists_of a b c d ≡ lists_of x y z w
four p q r s = cc

-- ---- a slot seen from one list
some_part : (k : ℕ) (o : Option Listed) (p : Listed) → o ≡ Some p → part k o ≡ (if code p.seg == k then Some p.node else None)
some_part k o p h = ap (part k) h

pub own_part : (o : Option Listed) (p : Listed) → o ≡ Some p → part (code p.seg) o ≡ Some p.node
own_part o p h = some_part (code p.seg) o p h ∙ by_eq (code p.seg) (code p.seg) (λ b. (if b then Some p.node else None) ≡ Some p.node) (λ _. refl) (λ not. absurd (not refl))

pub other_part : (k : ℕ) (o : Option Listed) (p : Listed) → o ≡ Some p → (code p.seg == k) ≡ false → part k o ≡ None
other_part k o p h away = some_part k o p h ∙ ap (λ (b : Bool). if b then Some p.node else None) away

-- what one list sees in a slot is the slot's node
pub mine : (k : ℕ) (o : Option Listed) (p : Listed) (y : Node) → part k o ≡ Some y → o ≡ Some p → part k o ≡ Some p.node
mine k o p y h is =
    some_part k o p is ∙ by_eq (code p.seg) k (λ b. (if b then Some p.node else None) ≡ Some y → (if b then Some p.node else None) ≡ Some p.node)
    (λ same g. refl)
    (λ other g. absurd (some_none g))
    (sym (some_part k o p is) ∙ h)

pub part_newer : (k : ℕ) (at to : Option ℕ) (q : ℕ) (o : Option Listed) → part k (place_newer at to q o) ≡ apply_newer at to q (part k o)
part_newer k at to q None = elim (points_to q at) as (λ (b : Bool). part k (if b then option_map (renewed to) None else None) ≡ (if b then option_map (with_newer to) None else None)) [ true ↦ refl | false ↦ refl ]
part_newer k at to q (Some p) =
    elim (points_to q at) as (λ (b : Bool). part k (if b then option_map (renewed to) (Some p) else Some p) ≡ (if b then option_map (with_newer to) (part k (Some p)) else part k (Some p)))
    [ true ↦ elim (code p.seg == k) as (λ (t : Bool). (if t then Some (with_newer to p.node) else None) ≡ option_map (with_newer to) (if t then Some p.node else None)) [ true ↦ refl | false ↦ refl ] | false ↦ refl ]

part_older : (k : ℕ) (at to : Option ℕ) (q : ℕ) (o : Option Listed) → part k (place_older at to q o) ≡ apply_older at to q (part k o)
part_older k at to q None = elim (points_to q at) as (λ (b : Bool). part k (if b then option_map (reolded to) None else None) ≡ (if b then option_map (with_older to) None else None)) [ true ↦ refl | false ↦ refl ]
part_older k at to q (Some p) =
    elim (points_to q at) as (λ (b : Bool). part k (if b then option_map (reolded to) (Some p) else Some p) ≡ (if b then option_map (with_older to) (part k (Some p)) else part k (Some p)))
    [ true ↦ elim (code p.seg == k) as (λ (t : Bool). (if t then Some (with_older to p.node) else None) ≡ option_map (with_older to) (if t then Some p.node else None)) [ true ↦ refl | false ↦ refl ] | false ↦ refl ]

pub part_relinked : (k : ℕ) (newer older : Option ℕ) (q : ℕ) (o : Option Listed) → part k (place_newer older newer q (place_older newer older q o)) ≡ apply_newer older newer q (apply_older newer older q (part k o))
part_relinked k newer older q o = part_newer k older newer q (place_older newer older q o) ∙ ap (apply_newer older newer q) (part_older k newer older q o)

-- what is told of the slots of one list leaves each other list's nodes
pub still : (b : Bool) (F : Node → Node) → (if b then option_map F None else None) ≡ None
still true F = refl
still false F = refl

pub quiet : (b : Bool) (F : Listed → Listed) → (if b then option_map F None else None) ≡ None
quiet true F = refl
quiet false F = refl

unless : (b : Bool) (F : Node → Node) (o : Option Node) → b ≡ false → (if b then option_map F o else o) ≡ o
unless b F o h = ap (λ (t : Bool). if t then option_map F o else o) h

pub untouched : (s k : ℕ) (b : Bool) (F : Node → Node) (o : Option Listed) → (s == k) ≡ false → (part s o ≡ None → b ≡ false) → (if b then option_map F (part k o) else part k o) ≡ part k o
untouched s k b F None apart h = still b F
untouched s k b F (Some p) apart h =
    by_eq (code p.seg) k (λ t. (if b then option_map F (if t then Some p.node else None) else (if t then Some p.node else None)) ≡ (if t then Some p.node else None))
    (λ same. unless b F (Some p.node) (h (other_part s (Some p) p refl (not_equal (code p.seg) s
    (λ eq. false≢true (sym apart ∙ (ap (λ (n : ℕ). n == k) (sym eq ∙ same)
    ∙ by_eq k k (λ (t : Bool). t ≡ true) (λ _. refl) (λ not. absurd (not refl)))))))))
    (λ other. still b F)

-- a number that was taken out has an empty slot
pub emptied : (m : ℕ) (newer older : Option ℕ) (o y : Option Listed) → y ≡ place_newer older newer m (place_older newer older m (if m == m then None else o)) → y ≡ None
emptied m newer older o y h =
    h ∙ by_eq m m (λ b. place_newer older newer m (place_older newer older m (if b then None else o)) ≡ None)
    (λ _. ap (place_newer older newer m) (quiet (points_to m newer) (reolded older)) ∙ quiet (points_to m older) (renewed newer))
    (λ not. absurd (not refl))

pub none_slot : (n q : ℕ) (f : ℕ → Option Listed) → f n ≡ None → (if n == q then None else f q) ≡ f q
none_slot n q f none = by_eq n q (λ b. (if b then None else f q) ≡ f q) (λ same. sym (ap f (sym same) ∙ none)) (λ other. refl)

-- ---- sums
pub with_count : (l : Lists) (s : Seg) (es : List Entry) → count_of (with_list l s es) + length (list_of l s) ≡ count_of l + length es
with_count l Hot es = omega arith
with_count l Warm es = omega arith
with_count l Cold es = omega arith
with_count l Temp es = omega arith

-- one entry more
pub linked_count : (l : Lists) (s : Seg) (e : Entry) → count_of (linked s e l) ≡ count_of l + 1
linked_count l s e = let c = with_count l s (e ∷ list_of l s) in omega (arith, c)

pub with_bytes : (l : Lists) (s : Seg) (es : List Entry) → all_bytes (with_list l s es) + cost_sum (list_of l s) ≡ all_bytes l + cost_sum es
with_bytes l Hot es = omega arith
with_bytes l Warm es = omega arith
with_bytes l Cold es = omega arith
with_bytes l Temp es = omega arith

pub numbered : (w : Option ℕ) (es : List Entry) (q : ℕ) (x : Node) → node_at w es q ≡ Some x → x.entry.number ≡ q
numbered w [] q x h = absurd (some_none h)
numbered w (e ∷ es) q x h =
    by_eq e.number q (λ b. (if b then Some (node e w (first_number es)) else node_at (Some e.number) es q) ≡ Some x → x.entry.number ≡ q)
    (λ same k. let at : node e w (first_number es) ≡ x = cc in ap (λ (y : Node). y.entry.number) (sym at) ∙ same)
    (λ other k. numbered (Some e.number) es q x k)
    h

abbrev pub one_if : Option Node → ℕ
one_if None = 0
one_if (Some x) = 1

pub at_most : (o : Option Listed) → one_if (part 0 o) + one_if (part 1 o) + one_if (part 2 o) + one_if (part 3 o) ≤ 1
at_most None = omega arith
at_most (Some p) =
    let x = p.node in
    elim p.seg as (λ (s : Seg). one_if (if code s == 0 then Some x else None) + one_if (if code s == 1 then Some x else None)
    + one_if (if code s == 2 then Some x else None) + one_if (if code s == 3 then Some x else None) ≤ 1)
    [ Hot ↦ omega arith | Warm ↦ omega arith | Cold ↦ omega arith | Temp ↦ omega arith ]

times_lacked : (q : ℕ) (es : List Entry) → lacks q es ≡ true → times q es ≡ 0
times_lacked q [] h = refl
times_lacked q (e ∷ es) h =
    let p = not_of (e.number == q) (lacks q es) h in
    let later = times_lacked q es p.1 in
    ap (λ (t : Bool). (if t then 1 else 0) + times q es) p.0 ∙ omega (arith, later)

pub times_at : (w : Option ℕ) (es : List Entry) (q : ℕ) → distinct es ≡ true → times q es ≡ one_if (node_at w es q)
times_at w [] q d = refl
times_at w (e ∷ es) q d =
    let p = both_of (lacks e.number es) (distinct es) d in
    by_eq e.number q (λ b. (if b then 1 else 0) + times q es ≡ one_if (if b then Some (node e w (first_number es)) else node_at (Some e.number) es q))
    (λ same. let z = times_lacked q es (ap (λ k. lacks k es) (sym same) ∙ p.0) in omega arith)
    (λ other. let later = times_at (Some e.number) es q p.1 in omega (arith, later))
