use Rattle.std.proofs.Common.{◌≡◌, ◌<◌, ℕ, Some, slice_get}
use Rattle.mc_store.specs.{Finals.IsBehindAt, Sides.ClassSide, Sides.class_told}
use Rattle.mc_store.proofs.comparing.compare_classes.Given as goal

abbrev pub invariant-loop-i : goal.invariant-loop-i
invariant-loop-i l =
    (l.classes.items ≡ l.fn.classes.items) × (l.seen ≡ l.fn.seen)
    × ((k : ℕ) → k < l.i → (s : ClassSide) → slice_get l.fn.classes.items k ≡ Some s → IsBehindAt l.fn.seen.sight s.lock (class_told s.class.history))
