-- Pieces: where an event lies in them, and that the places of one more can be counted.
use Rattle.std.proofs.Common.{◌≡◌, ℕ, zero, suc, ◌+◌, ◌*◌, ◌^◌, ◌<◌, ◌≤◌, List, [], ◌∷◌, ◌++◌, Some, None, refl, ap, ◌∙◌, length, length-append, arith}
use Rattle.std.specs.Prelude.{slice_get}
use Rattle.std.specs.List.{All, flat_map}
use Rattle.std.proofs.lemmas.{List.append_assoc, List.Elements.All-head, List.Elements.All-tail}

get_front : {A : Type 0} (xs ys : List A) (n : ℕ) → n < length xs → slice_get (xs ++ ys) n ≡ slice_get xs n
get_front [] ys n h = absurd (omega arith)
get_front (x ∷ xs) ys zero h = refl
get_front (x ∷ xs) ys (suc n) h = get_front xs ys n (omega arith)

pub get_behind : {A : Type 0} (xs ys : List A) (n m : ℕ) → n ≡ length xs + m → slice_get (xs ++ ys) n ≡ slice_get ys m
get_behind [] ys n m h = ap (slice_get ys) (omega (arith, h))
get_behind (x ∷ xs) ys zero m h = absurd (omega (arith, h))
get_behind (x ∷ xs) ys (suc n) m h = get_behind xs ys n m (omega (arith, h))

pub past_from_none : {A : Type 0} (xs : List A) (n : ℕ) → None ≡ slice_get xs n → length xs ≤ n
past_from_none [] n h = omega arith
past_from_none (x ∷ xs) zero h = absurd (cc)
past_from_none (x ∷ xs) (suc n) h = let rest = past_from_none xs n h in omega (arith, rest)

-- where there are fewer than 2^63 places, a piece more has no place beyond
pub one_more_fits : (last pieces : ℕ) → (0 < last → last ≡ 4096) → 4096 * pieces + last < 2 ^ 63 → 4096 * (pieces + 1) + last ≤ 2 ^ 63
one_more_fits zero pieces whole few = omega (arith, few)
one_more_fits (suc n) pieces whole few = let is = whole (omega arith) in omega (arith, is, few)

module _ {X E : Type 0} (items : X → List E) (size : ℕ) where
  -- lists of one length have so many items together
  pub length_of_full : (xs : List X) → All (λ x. length (items x) ≡ size) xs → length (flat_map items xs) ≡ size * length xs
  length_of_full [] full = omega arith
  length_of_full (x ∷ xs) full =
      let here = All-head (λ z. length (items z) ≡ size) x xs full in
      let rest = length_of_full xs (All-tail (λ z. length (items z) ≡ size) x xs full) in
      omega (arith, length-append (items x) (flat_map items xs), here, rest)

  -- an item is in the list of its quotient, at its rest
  pub get_in_full : (xs : List X) (later : List E) (x : X) (q r n : ℕ) → All (λ x. length (items x) ≡ size) xs → slice_get xs q ≡ Some x → r < size → n ≡ size * q + r
      → slice_get (flat_map items xs ++ later) n ≡ slice_get (items x) r
  get_in_full [] later x q r n full there less is = absurd (cc)
  get_in_full (y ∷ xs) later x zero r n full there less is =
      let same : y ≡ x = cc in
      let here = All-head (λ z. length (items z) ≡ size) y xs full in
      rw (append_assoc (items y) (flat_map items xs) later)
      (get_front (items y) _ n (omega (arith, here, is)) ∙ (ap (slice_get (items y)) (omega (arith, is)) ∙ ap (λ z. slice_get (items z) r) same))
  get_in_full (y ∷ xs) later x (suc q) r n full there less is =
      let here = All-head (λ z. length (items z) ≡ size) y xs full in
      rw (append_assoc (items y) (flat_map items xs) later)
      (get_behind (items y) _ n (size * q + r) (omega (arith, here, is)) ∙ get_in_full xs later x q r (size * q + r) (All-tail (λ z. length (items z) ≡ size) y xs full) there less refl)
