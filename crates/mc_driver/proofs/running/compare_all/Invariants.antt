use Rattle.std.proofs.Common.{◌≡◌, ◌<◌, ℕ, Some, slice_get}
use Rattle.mc_store.specs.Passes.{PassView}
use Rattle.mc_driver.specs.Called.{IsCompared}
use Rattle.mc_driver.proofs.running.compare_all.Given as goal

-- the passes so far were compared, and nothing changed
abbrev pub invariant-loop-i : goal.invariant-loop-i
invariant-loop-i g l =
    (l.ledger ≡ l.fn.ledger) × (l.passes.items ≡ l.fn.passes.items)
    × ((k : ℕ) → k < l.i → (p : PassView) → slice_get l.fn.passes.items k ≡ Some p → IsCompared p l.fn.ledger)
