-- Stripes and classes in the order of their numbers, with one more at the end.
use Rattle.std.proofs.Common.{◌≡◌, ◌≢◌, ◌+◌, ◌-◌, ◌<◌, ◌≤◌, ℕ, zero, suc, List, [], ◌∷◌, ◌++◌, drop, get_or, length, length-drop, Some, slice_get, refl, ap, sym, ◌∙◌, ⊎_elim, subst, arith}
use Rattle.std.specs.Prelude.{remove, slice_index_or}
use Rattle.std.specs.List.{All}
use Rattle.std.specs.List.Sorted.{IsNonDecreasingBy}
use Rattle.std.proofs.lemmas.{List.get_or_default, List.length-append, Option.get_or_from_slice_get, Option.slice_get_within}
use Rattle.mc_board.specs.Views.{AreOwners, OwnerView, new_owner}
use Rattle.mc_board.proofs.PrefixLemmas.{same_or_not}
use Rattle.mc_pull.proofs.GrowthLemmas.{slice_get-last}
use Rattle.atomic_table.specs.Seated.{TableId}
use Rattle.mc_item.specs.declared.config.Config.{Config}
use Rattle.mc_store.specs.{Finals.AreClasses, Finals.AreStripes, Passes.ArePasses, Passes.PassView, Passes.new_pass, Locked.IsLockedClass}
use Rattle.mc_store.specs.{Locked.IsLockedStripe, Sides.AreClassesOn, Sides.AreStripesOn, Sides.ClassSide, Sides.StripeSide}

-- something stands at each place below the length
pub get_some : {A : Type 0} (xs : List A) (k : ℕ) → k < length xs → (x : A) × (slice_get xs k ≡ Some x)
get_some [] k lt = absurd (omega (arith, lt))
get_some (x ∷ xs) zero lt = (x, refl)
get_some (x ∷ xs) (suc k) lt = get_some xs k (omega (arith, lt))

-- what stands in a list stands in each longer one
pub get_before : {A : Type 0} (xs ys : List A) (y : A) (k : ℕ) → slice_get xs k ≡ Some y → slice_get (xs ++ ys) k ≡ Some y
get_before [] ys y k e = absurd (cc e)
get_before (x ∷ xs) ys y zero e = e
get_before (x ∷ xs) ys y (suc k) e = get_before xs ys y k e

-- what is left of a list behind a place, where something stands
drop_at : {A : Type 0} (xs : List A) (k : ℕ) (x : A) → slice_get xs k ≡ Some x → drop k xs ≡ x ∷ drop (suc k) xs
drop_at [] k x is = absurd (cc is)
drop_at {A = A} (y ∷ xs) zero x is = let same : y ≡ x = cc is in ap (λ (z : A). z ∷ xs) same
drop_at (y ∷ xs) (suc k) x is = drop_at xs k x is

-- the owner of a place is that of the lock with the place's number
pub owner_at : (board : TableId) (owners : List OwnerView) (first many place k : ℕ) (owner : OwnerView) → AreOwners board first many owners
    → (k < length owners) × (owner ≡ get_or owners k owner) → place ≡ k
    → (place < many) × (owner ≡ new_owner board first place)
owner_at board owners first many place k owner all turn at =
    let below : place < many = omega (arith, turn.0, all.0, at) in
    (below, turn.1 ∙ get_or_from_slice_get owners k (new_owner board first place) owner (ap (slice_get owners) (sym at) ∙ all.1 place below))

-- of so many in a list, some are left behind a place
pub some_left : {A : Type 0} (all items : List A) (k many : ℕ) → items ≡ drop k all → length all ≡ many → k < many → 0 < length items
some_left all items k many at long below = omega (arith, ap (λ l. length l) at, length-drop k all)

-- the next one is taken out of it
pub next_of : {A : Type 0} (all items items_new : List A) (k : ℕ) (x own : A) → items ≡ drop k all → slice_get all k ≡ Some x → own ≡ slice_index_or items 0 own → items_new ≡ remove items 0
    → (0 < length items) × (own ≡ x) × (items_new ≡ drop (suc k) all)
next_of all items items_new k x own at there is left =
    let split = at ∙ drop_at all k x there in
    let long = ap (λ l. length l) split in (
      omega (arith, long),
      is ∙ ap (λ l. slice_index_or l 0 own) split,
      left ∙ ap (λ l. remove l 0) split,
    )

-- the pass of the next caller comes at the end
pub passes_push : (tables : List TableId) (callers : ℕ) (xs : List PassView) (x : PassView) → ArePasses tables callers xs → x ≡ new_pass tables callers → ArePasses tables (callers + 1) (xs ++ x ∷ [])
passes_push tables callers xs x all is = record {
  many = length-append xs (x ∷ []) ∙ ap (λ (n : ℕ). n + 1) all.many;
  each = λ caller below. ⊎_elim
      (λ (e : caller ≡ callers).
      ap (λ (k : ℕ). slice_get (xs ++ x ∷ []) k) (e ∙ sym all.many) ∙ (slice_get-last xs x ∙ ap (λ (p : PassView). Some p) (is ∙ ap (new_pass tables) (sym e))))
      (λ (away : caller ≢ callers). get_before xs (x ∷ []) (new_pass tables caller) caller (all.each caller (omega (arith, below, away))))
      (same_or_not caller callers);
}

-- numbers that rise from place to place rise by at least one a place
climbs : (f : ℕ → ℕ) (many : ℕ) → ((k : ℕ) → k + 1 < many → f k < f (k + 1)) → (k d : ℕ) → k + d < many → f k + d ≤ f (k + d)
climbs f many rises k zero lt =
    let here : k ≡ k + 0 = omega arith in
    let same : f k ≡ f (k + 0) = ap f here in
    omega (arith, same)
climbs f many rises k (suc d) lt =
    let next : f (k + d) < f (k + d + 1) = rises (k + d) (omega (arith, lt)) in
    let same : f (k + d + 1) ≡ f (k + suc d) = ap f (omega arith) in
    omega (arith, climbs f many rises k d (omega (arith, lt)), next, same)

-- so many numbers that rise, each below their number, are their places
at_its_place : (f : ℕ → ℕ) (many : ℕ) → ((k : ℕ) → k + 1 < many → f k < f (k + 1)) → ((k : ℕ) → k < many → f k < many) → (k : ℕ) → k < many → f k ≡ k
at_its_place f many rises below k lt =
    let here : f (0 + k) ≡ f k = ap f (omega arith) in
    let low : f 0 + k ≤ f (0 + k) = climbs f many rises 0 k (omega (arith, lt)) in
    let last : f k + (many - (k + 1)) ≤ f (k + (many - (k + 1))) = climbs f many rises k (many - (k + 1)) (omega (arith, lt)) in
    omega (arith, lt, here, low, last, below (k + (many - (k + 1))) (omega (arith, lt)))

-- up to a place, each element has another number than the one before it
abbrev pub AreApart : {A : Type 0} → (A → ℕ) → List A → ℕ → Type 0
AreApart {A} n xs places = (j : ℕ) (d : A) → j + 1 < places → n (slice_index_or xs j d) ≢ n (slice_index_or xs (j + 1) d)

-- there is one element at a place
pub same_at : {A : Type 0} (xs : List A) (k : ℕ) (x y : A) → k < length xs → x ≡ slice_index_or xs k x → y ≡ slice_index_or xs k y → x ≡ y
same_at xs k x y below is also = is ∙ (get_or_default xs k x y below ∙ sym also)

-- the next element has another number, too
pub apart_more : {A : Type 0} (n : A → ℕ) (xs : List A) (place : ℕ) (x y : A) → 0 < place → place < length xs → x ≡ slice_index_or xs (place - 1) x → y ≡ slice_index_or xs place y
    → n x ≢ n y → AreApart n xs place → AreApart n xs (place + 1)
apart_more {A = A} n xs place x y some below before here apart so_far j d lt =
    ⊎_elim
    (λ (last : j ≡ place - 1). λ (same : n (slice_index_or xs j d) ≡ n (slice_index_or xs (j + 1) d)).
    let first : x ≡ slice_index_or xs j d = before ∙ (get_or_default xs (place - 1) x d (omega (arith, some, below)) ∙ ap (λ (k : ℕ). slice_index_or xs k d) (sym last)) in
    let next : place ≡ j + 1 = omega (arith, last, some) in
    let second : y ≡ slice_index_or xs (j + 1) d = here ∙ (get_or_default xs place y d below ∙ ap (λ (k : ℕ). slice_index_or xs k d) next) in
    apart (ap n first ∙ (same ∙ ap n (sym second))))
    (λ (away : j ≢ place - 1). so_far j d (omega (arith, lt, away, some)))
    (same_or_not j (place - 1))

-- elements in the order of their numbers, no two of the same, each below their number: each number is its place
pub in_order : {A : Type 0} (n : A → ℕ) (xs : List A) → IsNonDecreasingBy n xs → AreApart n xs (length xs) → ((k : ℕ) (d : A) → k < length xs → n (slice_index_or xs k d) < length xs)
    → (k : ℕ) (x : A) → slice_get xs k ≡ Some x → n x ≡ k
in_order n xs ascend apart below k x is =
    let lt : k < length xs = slice_get_within xs k x is in
    let f : ℕ → ℕ = λ j. n (slice_index_or xs j x) in
    let rises : (j : ℕ) → j + 1 < length xs → f j < f (j + 1) = λ j more. omega (arith, ascend j (j + 1) x (omega arith) more, apart j x more) in
    ap n (sym (get_or_from_slice_get xs k x x is)) ∙ at_its_place f (length xs) rises (λ j less. below j x less) k lt

-- the number of a stripe
abbrev pub stripe_number : StripeSide → ℕ
stripe_number s = s.stripe.site.stripe

-- the number of a class
abbrev pub class_number : ClassSide → ℕ
class_number s = s.class.number.0

-- all stripes of a configuration, no two of the same number, in the order of their numbers
pub stripes_in_order : (table : TableId) (config : Config) (xs : List StripeSide) → All (IsLockedStripe table config) xs → IsNonDecreasingBy stripe_number xs → AreApart stripe_number xs (length xs)
    → length xs ≡ config.stripes → AreStripes table config xs
stripes_in_order table config xs kept ascend apart many = record {
  many = many;
  each = λ k s is. record {
    kept = subst (IsLockedStripe table config) (get_or_from_slice_get xs k s s is) (kept k s (slice_get_within xs k s is));
    number_is = in_order stripe_number xs ascend apart (λ j d lt. omega (arith, (kept j d lt).of, many)) k s is;
  };
}

-- and of the classes
pub classes_in_order : (table : TableId) (config : Config) (xs : List ClassSide) → All (IsLockedClass table config) xs → IsNonDecreasingBy class_number xs → AreApart class_number xs (length xs)
    → length xs ≡ length config.sizes → AreClasses table config xs
classes_in_order table config xs kept ascend apart many = record {
  many = many;
  each = λ k s is.
      let before : class_number s - 1 ≡ k = in_order (λ (x : ClassSide). class_number x - 1) xs
      (λ i j d le lt. omega (arith, ascend i j d le lt))
      (λ j d more same. apart j d more (omega (arith, same, (kept j d (omega (arith, more))).held.is.0, (kept (j + 1) d more).held.is.0)))
      (λ j d lt. omega (arith, (kept j d lt).held.is.0, (kept j d lt).held.is.1, many)) k s is in
      let own : IsLockedClass table config s = subst (IsLockedClass table config) (get_or_from_slice_get xs k s s is) (kept k s (slice_get_within xs k s is)) in
      record { kept = own; number_is = omega (arith, before, own.held.is.0) };
}

-- stripes as their locks kept them are all of one board
pub stripes_on : (table : TableId) (config : Config) (xs : List StripeSide) → AreStripes table config xs → AreStripesOn table xs
stripes_on table config xs all = record { each = λ k s e. (all.each k s e).kept.board_is }

-- and so are classes
pub classes_on : (table : TableId) (config : Config) (xs : List ClassSide) → AreClasses table config xs → AreClassesOn table xs
classes_on table config xs all = record { each = λ k s e. (all.each k s e).kept.held.board_is }
