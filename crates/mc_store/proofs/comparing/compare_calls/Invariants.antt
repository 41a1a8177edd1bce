use Rattle.std.proofs.Common.{◌≡◌, ◌<◌, ℕ, Some, slice_get}
use Rattle.mc_board.specs.Histories.{HasSeen}
use Rattle.mc_store.specs.{Callers.calls_told, Finals.AreEntered, Locked.caller_place, Sides.StripeSide, Sides.stripe_told}
use Rattle.mc_store.proofs.comparing.compare_calls.Given as goal

abbrev pub invariant-loop-i : goal.invariant-loop-i
invariant-loop-i g l =
    (l.stripes.items ≡ l.fn.stripes.items) × (l.caller ≡ l.fn.caller)
    × ((k : ℕ) → k < l.i → (s : StripeSide) → slice_get l.fn.stripes.items k ≡ Some s
    → HasSeen (calls_told l.fn.caller.calls) s.sight (caller_place g.N.Named.config l.fn.caller.number) × AreEntered l.fn.caller s.lock (stripe_told s.stripe.history))
