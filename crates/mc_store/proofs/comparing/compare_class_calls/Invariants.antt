use Rattle.std.proofs.Common.{◌≡◌, ◌<◌, ℕ, Some, slice_get}
use Rattle.mc_board.specs.Histories.{HasSeen}
use Rattle.mc_store.specs.{Callers.calls_told, Finals.AreEntered, Locked.caller_place, Sides.ClassSide, Sides.class_told}
use Rattle.mc_store.proofs.comparing.compare_class_calls.Given as goal

abbrev pub invariant-loop-i : goal.invariant-loop-i
invariant-loop-i g l =
    (l.classes.items ≡ l.fn.classes.items) × (l.caller ≡ l.fn.caller)
    × ((k : ℕ) → k < l.i → (s : ClassSide) → slice_get l.fn.classes.items k ≡ Some s
    → HasSeen (calls_told l.fn.caller.calls) s.sight (caller_place g.N.Named.config l.fn.caller.number) × AreEntered l.fn.caller s.lock (class_told s.class.history))
