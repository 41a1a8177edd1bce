-- Tests of numbers and keys, and what is in an option.
use Rattle.std.proofs.Common.{◌≡◌, ◌≢◌, ℕ, ◌==◌, List, Bool, true, false, Option, Some, None, refl, sym, ◌∙◌, subst, ◌⊎◌, inl, inr}
use Rattle.std.specs.Prelude.{nat_eq, IsSome}
use Rattle.std.specs.Cmp.Lexicographic.{pointwise, bytes_decides}
use Rattle.std.proofs.lemmas.{Bool.false≢true, Bool.eq-eqb, Bool.Decides.eqb_tells}

-- what holds where two numbers are one, and where they aren't, holds by the test of it
pub by_eq : (a b : ℕ) (P : Bool → Type 0) → (a ≡ b → P true) → (a ≢ b → P false) → P (a == b)
by_eq a b P hit miss =
    elim (eqb_tells a b) [ inl p ↦ subst P (sym p.0) (hit p.1) | inr p ↦ subst P (sym p.0) (miss p.1) ]

-- a number is itself
pub itself : (a : ℕ) → (a == a) ≡ true
itself a = eq-eqb a a refl

-- two numbers that differ are told apart
pub not_equal : (a b : ℕ) → a ≢ b → (a == b) ≡ false
not_equal a b h = by_eq a b (λ t. t ≡ false) (λ same. absurd (h same)) (λ _. refl)

-- nothing is no something
pub none_some : {A : Type 0} {x : A} → None ≡ Some x → ⊥
none_some h = cc

-- equal options have equal contents
pub some_same : {A : Type 0} (a b : A) → Some a ≡ Some b → a ≡ b
some_same a b h = cc

-- what is there is something
pub is_some_of : {A : Type 0} (o : Option A) → IsSome o → (x : A) × (o ≡ Some x)
is_some_of None h = cc
is_some_of (Some x) h = (x, refl)

-- two numbers differ, or are one
pub same_number : (a b : ℕ) → (a ≢ b) ⊎ (a ≡ b)
same_number a b = elim (eqb_tells a b) as (λ (t : _). (a ≢ b) ⊎ (a ≡ b)) [ inl p ↦ inr p.1 | inr p ↦ inl p.1 ]

-- two keys differ, or are one
pub same_key : (a b : List ℕ) → (a ≢ b) ⊎ (a ≡ b)
same_key a b = by (pointwise nat_eq a b) refl
  where
    by : (t : Bool) → pointwise nat_eq a b ≡ t → (a ≢ b) ⊎ (a ≡ b)
    by true is = inr ((bytes_decides a b).0 is)
    by false is = inl (λ same. false≢true (sym is ∙ (bytes_decides a b).1 same))
