use Rattle.std.proofs.Common.{◌≡◌, ◌<◌, ℕ, Some, slice_get}
use Rattle.mc_store.specs.{Finals.IsBehindStripes, Sides.ClassSide}
use Rattle.mc_store.proofs.comparing.compare_from_classes.Given as goal

abbrev pub invariant-loop-i : goal.invariant-loop-i
invariant-loop-i l =
    (l.classes.items ≡ l.fn.classes.items) × (l.stripes.items ≡ l.fn.stripes.items)
    × ((k : ℕ) → k < l.i → (s : ClassSide) → slice_get l.fn.classes.items k ≡ Some s → IsBehindStripes s.sight l.fn.stripes.items)
