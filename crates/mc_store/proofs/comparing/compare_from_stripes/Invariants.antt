use Rattle.std.proofs.Common.{◌≡◌, ◌<◌, ℕ, Some, slice_get}
use Rattle.mc_store.specs.{Finals.IsBehindClasses, Sides.StripeSide}
use Rattle.mc_store.proofs.comparing.compare_from_stripes.Given as goal

abbrev pub invariant-loop-i : goal.invariant-loop-i
invariant-loop-i l =
    (l.stripes.items ≡ l.fn.stripes.items) × (l.classes.items ≡ l.fn.classes.items)
    × ((k : ℕ) → k < l.i → (s : StripeSide) → slice_get l.fn.stripes.items k ≡ Some s → IsBehindClasses s.sight l.fn.classes.items)
