-- No two seats own one lock.
use Rattle.std.proofs.Common.{◌≡◌, ◌≢◌, ℕ, [], sym, ap, ◌∙◌, subst, ⊎_elim, arith}
use mathlib.Core.Option.{none, some, some-injective}
use lib.ListN.{get_elem?}
use Rattle.atomic_table.specs.Table.{Me, Allows, Joins, step}
use Rattle.atomic_table.proofs.Lists.{at_set}
use Rattle.mc_board.specs.declared.{rule.Counts.Counts, rule.Owned.Owned, rule.View.View}
use Rattle.mc_board.specs.declared.rule.View.TheVariants as views
use Rattle.mc_board.specs.{Board.IsOwner, Steps.NeverHappens, Steps.no_view, Steps.owned_of}
use Rattle.mc_board.proofs.RuleLemmas.{Law, ledger}

-- two owners of one lock can be joined into any view, as there are none
clashes : (counts : Counts) (id other : ℕ) (mine theirs : Owned) (both : View) → mine.lock ≡ theirs.lock
    → Joins (Law counts) id (views.Owner mine) other (views.Owner theirs) both views.Spent
clashes counts id other mine theirs both same s k at apart there =
    let l = ledger counts s.words k.history k.stage k.owner k.made in
    let first : IsOwner l id mine = k.known id (views.Owner mine) at in
    let second : IsOwner l other theirs = ⊎_elim
    (λ (t : (other ≡ id) × (both ≡ views.Owner theirs)). absurd (apart t.0))
    (λ (t : (other ≢ id) × (get_elem? s.views other ≡ some (views.Owner theirs))). k.known other (views.Owner theirs) t.1)
    (at_set s.views id other both (views.Owner theirs) there) in
    absurd (apart (some-injective other id (sym second.owner ∙ (ap k.owner (sym same) ∙ first.owner))))

-- the same of views that are known to be these
pub clashes_as : (counts : Counts) (id other : ℕ) (v w both : View) → v ≡ views.Owner (owned_of v) → w ≡ views.Owner (owned_of w) → (owned_of v).lock ≡ (owned_of w).lock
    → Joins (Law counts) id v other w both views.Spent
clashes_as counts id other v w both is also same =
    subst (λ (u : View × View). Joins (Law counts) id u.0 other u.1 both views.Spent) (λ i. (sym is i, sym also i))
    (clashes counts id other (owned_of v) (owned_of w) both same)

-- no seat has that view
never : (counts : Counts) (slots id word : ℕ) → Allows (Law counts) slots id (no_view, []) word (λ n. n) (NeverHappens (step slots word 0 0 none) (no_view, []))
never counts slots id word s k homes at fits =
    let mine : IsOwner (ledger counts s.words k.history k.stage k.owner k.made) id (owned_of no_view) = k.known id no_view at in
    absurd (omega (arith, mine.word))

-- the same of a seat that is known to have it
pub never_as : (counts : Counts) (slots id word : ℕ) (me : Me Unit View) → me ≡ (no_view, []) → Allows (Law counts) slots id me word (λ n. n) (NeverHappens (step slots word 0 0 none) me)
never_as counts slots id word me is =
    subst (λ (m : Me Unit View). Allows (Law counts) slots id m word (λ n. n) (NeverHappens (step slots word 0 0 none) m)) (sym is) (never counts slots id word)
