-- Beginnings of lists, and lists by their places.
use Rattle.std.proofs.Common.{◌≡◌, ◌≢◌, ◌⊎◌, ◌≤◌, ◌<◌, ℕ, zero, suc, set, List, [], ◌∷◌, ◌++◌, length, take, drop, refl, ap, sym, subst, ◌∙◌, inl, inr, ⊎_elim, arith, append_assoc, length-append}
use Rattle.std.proofs.lemmas.List.{take-append-le}
use Rattle.std.specs.Prelude.{slice_index}
use mathlib.Core.List.{IsPrefix}
use mathlib.Core.Option.{some, some-injective, some-ne-none}
use mathlib.Core.Logic.{dite}
use native.Mathlib.Decide.{ℕ_discrete}
use lib.ListN.{get_elem?}

pub prefix_nil : {A : Type 0} (xs : List A) → IsPrefix [] xs
prefix_nil xs = (xs, refl)

pub prefix_self : {A : Type 0} (xs : List A) → IsPrefix xs xs
prefix_self [] = ([], refl)
prefix_self (x ∷ xs) = let r = prefix_self xs in (r.0, ap (λ ys. x ∷ ys) r.1)

-- a beginning of a list begins the longer list
pub prefix_more : {A : Type 0} (xs ys zs : List A) → IsPrefix xs ys → IsPrefix xs (ys ++ zs)
prefix_more xs ys zs p = (p.0 ++ zs, sym (append_assoc xs p.0 zs) ∙ ap (λ w. w ++ zs) p.1)

-- a beginning of a beginning is a beginning
pub prefix_trans : {A : Type 0} (xs ys zs : List A) → IsPrefix xs ys → IsPrefix ys zs → IsPrefix xs zs
prefix_trans xs ys zs p q = subst (IsPrefix xs) q.1 (prefix_more xs ys q.0 p)

-- a beginning of a list, and what the list has beyond its length
pub prefix_rest : {A : Type 0} (xs ys : List A) → IsPrefix xs ys → xs ++ drop (length xs) ys ≡ ys
prefix_rest [] ys p = refl
prefix_rest (x ∷ xs) [] p = absurd (cc (p.1))
prefix_rest (x ∷ xs) (y ∷ ys) p =
    let heads : x ≡ y = cc (p.1) in
    let tails : xs ++ drop (length xs) ys ≡ ys = prefix_rest xs ys (p.0, cc (p.1)) in
    cc (heads, tails)

-- the first elements of a list are those of each beginning that has as many
pub prefix_take : {A : Type 0} (n : ℕ) (xs ys : List A) → IsPrefix xs ys → n ≤ length xs → take n ys ≡ take n xs
prefix_take n xs ys p few = ap (take n) (sym p.1) ∙ take-append-le n xs p.0 few

pub prefix_length : {A : Type 0} (xs ys : List A) → IsPrefix xs ys → length xs ≤ length ys
prefix_length xs ys p = omega (arith, sym (ap length p.1) ∙ length-append xs p.0)

-- of two beginnings of one list one begins the other
pub prefix_either : {A : Type 0} (xs ys zs : List A) → IsPrefix xs zs → IsPrefix ys zs → IsPrefix xs ys ⊎ IsPrefix ys xs
prefix_either [] ys zs p q = inl (ys, refl)
prefix_either (x ∷ xs) [] zs p q = inr (x ∷ xs, refl)
prefix_either (x ∷ xs) (y ∷ ys) [] p q = absurd (cc (p.1))
prefix_either (x ∷ xs) (y ∷ ys) (z ∷ zs) p q =
    let heads : x ≡ y = cc (p.1, q.1) in
    ⊎_elim
    (λ (r : IsPrefix xs ys). inl (r.0, cc (heads, r.1)))
    (λ (r : IsPrefix ys xs). inr (r.0, cc (heads, r.1)))
    (prefix_either xs ys zs (p.0, cc (p.1)) (q.0, cc (q.1)))

-- what holds of each element of a list, and of one more
pub each_more : (P : ℕ → ℕ → Type 0) (xs : List ℕ) (x : ℕ) → ((j : ℕ) → j < length xs → P j (slice_index xs j)) → P (length xs) x
    → (j : ℕ) → j < length (xs ++ x ∷ []) → P j (slice_index (xs ++ x ∷ []) j)
each_more P [] x all last zero lt = last
each_more P [] x all last (suc j) lt = absurd (omega (arith, lt))
each_more P (y ∷ ys) x all last zero lt = all 0 (omega arith)
each_more P (y ∷ ys) x all last (suc j) lt = each_more (λ i v. P (suc i) v) ys x (λ i below. all (suc i) (omega (arith, below))) last j (omega (arith, lt))

-- two numbers are equal or not
pub same_or_not : (j k : ℕ) → (j ≡ k) ⊎ (j ≢ k)
same_or_not j k = dite (ℕ_discrete j k) (λ e. inl e) (λ n. inr n)

-- the last one stands at the length of the others
pub at_end : {A : Type 0} (l : List A) (a b : A) (j : ℕ) → get_elem? (l ++ a ∷ []) j ≡ some b → (get_elem? l j ≡ some b) ⊎ ((j ≡ length l) × (a ≡ b))
at_end [] a b zero e = inr (refl, some-injective a b e)
at_end [] a b (suc j) e = absurd (some-ne-none b (sym e))
at_end (x ∷ xs) a b zero e = inl e
at_end (x ∷ xs) a b (suc j) e = ⊎_elim (λ t. inl t) (λ t. inr (ap suc t.0, t.1)) (at_end xs a b j e)

-- a word written with what it was leaves the words as they were
pub set_back : (ws : List ℕ) (i : ℕ) → set ws i (slice_index ws i) ≡ ws
set_back [] i = refl
set_back (x ∷ xs) zero = refl
set_back (x ∷ xs) (suc i) = ap (λ ys. x ∷ ys) (set_back xs i)
