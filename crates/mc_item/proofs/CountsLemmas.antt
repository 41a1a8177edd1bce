-- Two lists of numbers, summed place by place from the front.
use Rattle.std.proofs.Common.{◌≡◌, ◌<◌, ◌+◌, ◌^◌, ℕ, List, [], ◌∷◌, zero, suc, refl, ap, length, get_or, set, arith}
use Rattle.mc_item.specs.Counts.{sums, FitInPairs}

-- the list of which the first so many numbers are summed
abbrev pub summed : ℕ → List ℕ → List ℕ → List ℕ
summed zero xs ys = xs
summed (suc i) (x ∷ xs) (y ∷ ys) = (x + y) ∷ summed i xs ys
summed (suc i) [] ys = []
summed (suc i) (x ∷ xs) [] = x ∷ xs

-- the number at the next place is as it was
pub get_or-summed : (i : ℕ) (xs ys : List ℕ) (d : ℕ) → get_or (summed i xs ys) i d ≡ get_or xs i d
get_or-summed zero xs ys d = refl
get_or-summed (suc i) [] ys d = refl
get_or-summed (suc i) (x ∷ xs) [] d = refl
get_or-summed (suc i) (x ∷ xs) (y ∷ ys) d = get_or-summed i xs ys d

-- one place more
pub summed-next : (i : ℕ) (xs ys : List ℕ) (d e : ℕ) → i < length xs → i < length ys → set (summed i xs ys) i (get_or xs i d + get_or ys i e) ≡ summed (suc i) xs ys
summed-next zero [] ys d e a b = absurd (omega arith)
summed-next zero (x ∷ xs) [] d e a b = absurd (omega arith)
summed-next zero (x ∷ xs) (y ∷ ys) d e a b = refl
summed-next (suc i) [] ys d e a b = absurd (omega arith)
summed-next (suc i) (x ∷ xs) [] d e a b = absurd (omega arith)
summed-next (suc i) (x ∷ xs) (y ∷ ys) d e a b = ap (λ (t : List ℕ). (x + y) ∷ t) (summed-next i xs ys d e (omega arith) (omega arith))

-- all places
pub summed-all : (i : ℕ) (xs ys : List ℕ) → length xs ≡ i → length ys ≡ i → summed i xs ys ≡ sums xs ys
summed-all zero [] ys a b = refl
summed-all zero (x ∷ xs) ys a b = absurd (omega arith)
summed-all (suc i) [] ys a b = absurd (omega arith)
summed-all (suc i) (x ∷ xs) [] a b = absurd (omega arith)
summed-all (suc i) (x ∷ xs) (y ∷ ys) a b = ap (λ (t : List ℕ). (x + y) ∷ t) (summed-all i xs ys (omega arith) (omega arith))

-- each sum fits
pub pair_fits : (i : ℕ) (xs ys : List ℕ) (d e : ℕ) → FitInPairs xs ys → i < length xs → i < length ys → get_or xs i d + get_or ys i e < 2 ^ 64
pair_fits i [] ys d e f a b = absurd (omega arith)
pair_fits i (x ∷ xs) [] d e f a b = absurd (omega arith)
pair_fits zero (x ∷ xs) (y ∷ ys) d e f a b = f.0
pair_fits (suc i) (x ∷ xs) (y ∷ ys) d e f a b = pair_fits i xs ys d e f.1 (omega arith) (omega arith)
