use Rattle.std.proofs.Common.{ap, subst, sym}
use Rattle.mc_store.specs.Locked.{IsLockedStripe}
use Rattle.mc_store.specs.declared.locked.LockedStripe.TheInside.{Inside}
use Rattle.mc_store.proofs.{LockKeepsLemmas.stripe_sees, SyncedLemmas.stripe_side}
use Rattle.mc_store.proofs.caller.Caller.tell_stripe.Goals as goal

pub invariant_of-stripe : goal.invariant_of-stripe
invariant_of-stripe g c =
    let table = g.N.Named.board.table in
    let config = g.N.Named.config in
    let own = c.stripe-inside.inside.0.0 in
    let own_is = ap (λ (l : Inside g.row.N.Denot). l.side) c.stripe-inside.view_is in
    stripe_sees table config (stripe_side own.owner own.seen own.state) c.tell.new.seen.sight c.tell.ensures.grows (subst (IsLockedStripe table config) (sym own_is) c.stripe.invariant)
