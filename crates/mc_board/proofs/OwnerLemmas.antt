-- What an owner has in memory, and the figures that it writes one by one.
use Rattle.std.proofs.Common.{◌≡◌, ℕ, zero, suc, ◌<◌, List, [], ◌∷◌, ◌++◌, length, set, take, drop, refl, sym, ap, subst, arith}
use Rattle.std.specs.Prelude.{slice_index}
use Rattle.atomic_table.specs.Table.{Me}
use Rattle.mc_board.specs.declared.{rule.Owned.Owned, rule.View.View}
use Rattle.mc_board.specs.declared.rule.Stage.TheVariants as stages
use Rattle.mc_board.specs.declared.rule.View.TheVariants as views
use Rattle.mc_board.specs.{Figures.figures_of, Steps.owned_of, Writing.IsOwnerAt}

-- an owner that isn't writing, and what it has in memory
abbrev pub HasInMemory : ℕ → ℕ → List ℕ → Me Unit View → Type 0
HasInMemory word events figures me =
    IsOwnerAt word stages.Still me × (length (owned_of me.0).history ≡ events) × (figures ≡ figures_of (owned_of me.0).history)

pub kept_in_memory : (me : Me Unit View) (owned : Owned) (word events : ℕ) (figures : List ℕ) → me ≡ (views.Owner owned, [])
    → owned.word ≡ word → owned.stage ≡ stages.Still → length owned.history ≡ events → figures ≡ figures_of owned.history → HasInMemory word events figures me
kept_in_memory me owned word events figures is at still many same =
    subst (HasInMemory word events figures) (sym is) (record { owner = refl; word = at; stage = still }, many, same)

-- the first new figures before the rest of the old ones, with one more new figure
pub one_more : (i : ℕ) (xs ys : List ℕ) → i < length xs → length xs ≡ length ys → set (take i xs ++ drop i ys) i (slice_index xs i) ≡ take (suc i) xs ++ drop (suc i) ys
one_more i [] ys below same = absurd (omega (arith, below))
one_more i (x ∷ xs) [] below same = absurd (omega (arith, same))
one_more zero (x ∷ xs) (y ∷ ys) below same = refl
one_more (suc i) (x ∷ xs) (y ∷ ys) below same = ap (λ (zs : List ℕ). x ∷ zs) (one_more i xs ys (omega (arith, below)) (omega (arith, same)))
