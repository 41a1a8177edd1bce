-- A history whose answers to one caller stand just at the places that were noted has just the calls that stand there.
use Rattle.std.proofs.Common.{◌≡◌, ◌<◌, ◌+◌, ℕ, zero, suc, List, [], ◌∷◌, ◌⊎◌, inl, inr, refl, ap, ◌∙◌, subst, arith}
use Rattle.std.specs.Prelude.{Bool, true, false, Some, cond, nat_eq}
use Rattle.std.specs.List.{slice_get}
use Rattle.std.proofs.lemmas.Bool.Decides.{eqb_tells}
use Rattle.mc_item.specs.declared.{stripe_event.Did.Did, stripe_event.StripeEvent.StripeEvent}
use Rattle.mc_item.specs.declared.stripe_event.StripeEvent.TheVariants as events
use Rattle.mc_script.specs.Exchanges.{Exchange}
use Rattle.mc_driver.specs.{Caller.AreAt, Caller.AreRising, Caller.IsAt, Noted.exchange_of, Stand.calls_by}

-- a number is one of these
abbrev pub IsOneOf : ℕ → List ℕ → Type 0
IsOneOf n [] = ⊥
IsOneOf n (m ∷ ms) = (m ≡ n) ⊎ IsOneOf n ms

-- none below where numbers rise from is one of them
none_below : (from n : ℕ) (ps : List ℕ) → AreRising from ps → n < from → IsOneOf n ps → ⊥
none_below from n [] rising below other = elim other [ ]
none_below from n (p ∷ ps) rising below (inl is) = absurd (omega (arith, rising.0, below, is))
none_below from n (p ∷ ps) rising below (inr more) = none_below (p + 1) n ps rising.1 (omega (arith, rising.0, below)) more

-- behind so many events of a history the rest has the answers to these calls at these places
abbrev AreFrom : List StripeEvent → ℕ → ℕ → List ℕ → List Exchange → Type 0
AreFrom rest caller k [] [] = Unit {0}
AreFrom rest caller k (place ∷ places) (call ∷ calls) = ((j : ℕ) × (place ≡ j + k) × IsAt rest caller j call) × AreFrom rest caller k places calls
AreFrom rest caller k [] (call ∷ calls) = ⊥
AreFrom rest caller k (place ∷ places) [] = ⊥

-- one event further
from_next : (e : StripeEvent) (rest : List StripeEvent) (caller k from : ℕ) (ps : List ℕ) (xs : List Exchange) → k < from → AreRising from ps → AreFrom (e ∷ rest) caller k ps xs → AreFrom rest caller (suc k) ps xs
from_next e rest caller k from [] [] past rising at = tt
from_next e rest caller k from (p ∷ ps) (x ∷ xs) past rising ((zero, is, here), at) = absurd (omega (arith, is, rising.0, past))
from_next e rest caller k from (p ∷ ps) (x ∷ xs) past rising ((suc j, is, here), at) =
    ((j, omega (arith, is), record { did = here.did; there = here.there; call_is = here.call_is; by = here.by }), from_next e rest caller k (p + 1) ps xs (omega (arith, rising.0, past)) rising.1 at)
from_next e rest caller k from [] (x ∷ xs) past rising at = absurd at
from_next e rest caller k from (p ∷ ps) [] past rising at = absurd at

-- a test that is passed keeps what stands first
keeps_if : (b : Bool) (x : Exchange) (xs : List Exchange) → b ≡ true → cond b (x ∷ xs) xs ≡ x ∷ xs
keeps_if true x xs is = refl
keeps_if false x xs is = absurd (cc)

-- and one that isn't drops it
drops_if : (b : Bool) (x : Exchange) (xs : List Exchange) → b ≡ false → cond b (x ∷ xs) xs ≡ xs
drops_if false x xs is = refl
drops_if true x xs is = absurd (cc)

-- what is so is tested so
pub is_yes : (a b : ℕ) → a ≡ b → nat_eq a b ≡ true
is_yes a b same = elim (eqb_tells a b) [
  | inl same_are ↦ same_are.0
  | inr others ↦ absurd (others.1 same)
]

-- what is tested so is so
pub is_same : (a b : ℕ) → nat_eq a b ≡ true → a ≡ b
is_same a b yes_is = elim (eqb_tells a b) [
  | inl same_are ↦ same_are.1
  | inr others ↦ let no_is = others.0 in absurd (cc)
]

-- and what isn't
is_no : (a b : ℕ) → (a ≡ b → ⊥) → nat_eq a b ≡ false
is_no a b other = elim (eqb_tells a b) [
  | inl same_are ↦ absurd (other same_are.1)
  | inr others ↦ others.0
]

-- an event that is no answer to the caller adds no call of its
skips : (caller : ℕ) (e : StripeEvent) (rest : List StripeEvent) → ((did : Did) → e ≡ events.Did did → did.who.caller ≡ caller → ⊥) → calls_by caller (e ∷ rest) ≡ calls_by caller rest
skips caller (events.Did did) rest none = drops_if (nat_eq did.who.caller caller) (exchange_of did) (calls_by caller rest) (is_no did.who.caller caller (none did refl))
skips caller (events.Lost lost) rest none = refl
skips caller (events.Cooled cooled) rest none = refl

-- an answer to the caller adds its call
takes : (caller : ℕ) (e : StripeEvent) (did : Did) (rest : List StripeEvent) → Some e ≡ Some (events.Did did) → did.who.caller ≡ caller → calls_by caller (e ∷ rest) ≡ exchange_of did ∷ calls_by caller rest
takes caller e did rest is by =
    let same : e ≡ events.Did did = cc in
    ap (λ (x : StripeEvent). calls_by caller (x ∷ rest)) same ∙ keeps_if (nat_eq did.who.caller caller) (exchange_of did) (calls_by caller rest) (is_yes did.who.caller caller by)

-- behind so many events the rest has just these calls of the caller
only_from : (caller k : ℕ) (rest : List StripeEvent) (ps : List ℕ) (xs : List Exchange) → AreRising k ps → AreFrom rest caller k ps xs
    → ((j : ℕ) (did : Did) → slice_get rest j ≡ Some (events.Did did) → did.who.caller ≡ caller → IsOneOf (j + k) ps) → calls_by caller rest ≡ xs
only_from caller k [] [] [] rising at own = refl
only_from caller k [] (p ∷ ps) (x ∷ xs) rising ((j, is, here), at) own = let there = here.there in absurd (cc)
only_from caller k [] [] (x ∷ xs) rising at own = absurd at
only_from caller k [] (p ∷ ps) [] rising at own = absurd at
only_from caller k (e ∷ rest) [] [] rising at own =
    skips caller e rest (λ did is by. own 0 did (ap Some is) by)
    ∙ only_from caller (suc k) rest [] [] tt tt (λ j did at' by. own (suc j) did at' by)
only_from caller k (e ∷ rest) [] (x ∷ xs) rising at own = absurd at
only_from caller k (e ∷ rest) (p ∷ ps) [] rising at own = absurd at
only_from caller k (e ∷ rest) (p ∷ ps) (x ∷ xs) rising ((zero, is, here), at) own =
    let behind : k < p + 1 = omega (arith, is) in
    let up : AreRising (suc k) ps = subst (λ (n : ℕ). AreRising n ps) (omega (arith, is)) rising.1 in
    takes caller e here.did rest here.there here.by
    ∙ ap (λ (x' : Exchange). x' ∷ calls_by caller rest) here.call_is
    ∙ ap (λ (xs' : List Exchange). x ∷ xs') (only_from caller (suc k) rest ps xs up (from_next e rest caller k (p + 1) ps xs behind rising.1 at)
    (λ j did at' by. elim (own (suc j) did at' by) [
      | inl same ↦ absurd (omega (arith, same, is))
      | inr more ↦ subst (λ (n : ℕ). IsOneOf n ps) (omega arith) more
    ]))
only_from caller k (e ∷ rest) (p ∷ ps) (x ∷ xs) rising ((suc j', is, here), at) own =
    let behind : k < p = omega (arith, is) in
    skips caller e rest (λ did e_is by. elim (own 0 did (ap Some e_is) by) [
      | inl same ↦ absurd (omega (arith, same, is))
      | inr more ↦ none_below (p + 1) k ps rising.1 (omega (arith, is)) (subst (λ (n : ℕ). IsOneOf n ps) (omega arith) more)
    ])
    ∙ only_from caller (suc k) rest (p ∷ ps) (x ∷ xs) (behind, rising.1) (from_next e rest caller k p (p ∷ ps) (x ∷ xs) behind (omega arith, rising.1) ((suc j', is, here), at))
    (λ j did at' by. subst (λ (n : ℕ). IsOneOf n (p ∷ ps)) (omega arith) (own (suc j) did at' by))

-- from the start
from_start : (h : List StripeEvent) (caller : ℕ) (ps : List ℕ) (xs : List Exchange) → AreAt h caller ps xs → AreFrom h caller 0 ps xs
from_start h caller [] [] at = tt
from_start h caller (p ∷ ps) (x ∷ xs) at = ((p, omega arith, at.0), from_start h caller ps xs at.1)
from_start h caller [] (x ∷ xs) at = absurd at
from_start h caller (p ∷ ps) [] at = absurd at

-- a history whose answers to the caller stand at these places alone has just the calls that stand there
pub only_these : (caller : ℕ) (h : List StripeEvent) (ps : List ℕ) (xs : List Exchange) → AreRising 0 ps → AreAt h caller ps xs
    → ((place : ℕ) (did : Did) → slice_get h place ≡ Some (events.Did did) → did.who.caller ≡ caller → IsOneOf place ps) → calls_by caller h ≡ xs
only_these caller h ps xs rising at own =
    only_from caller 0 h ps xs rising (from_start h caller ps xs at) (λ j did there by. subst (λ (n : ℕ). IsOneOf n ps) (omega arith) (own j did there by))
