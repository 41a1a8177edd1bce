use Rattle.std.proofs.Common.{◌≡◌, ◌<◌, ℕ, Some, slice_get}
use Rattle.mc_store.specs.{Finals.IsBehindAt, Sides.StripeSide, Sides.stripe_told}
use Rattle.mc_store.proofs.comparing.compare_stripes.Given as goal

abbrev pub invariant-loop-i : goal.invariant-loop-i
invariant-loop-i l =
    (l.stripes.items ≡ l.fn.stripes.items) × (l.seen ≡ l.fn.seen)
    × ((k : ℕ) → k < l.i → (s : StripeSide) → slice_get l.fn.stripes.items k ≡ Some s → IsBehindAt l.fn.seen.sight s.lock (stripe_told s.stripe.history))
