use Rattle.std.proofs.Common.{subst, sym}
use Rattle.mc_store.specs.Locked.{IsLockedStripe}
use Rattle.mc_store.proofs.{LockKeepsLemmas.stripe_sees, SyncedLemmas.stripe_side}
use Rattle.mc_store.proofs.locked.LockedStripe.learn.Goals as goal

pub invariant_of-self : goal.invariant_of-self
invariant_of-self g c =
    let table = g.N.Named.board.table in
    let config = g.N.Named.config in
    let side = c.side.inside in
    stripe_sees table config (stripe_side side.owner side.seen side.state) c.learn.new.self.sight c.learn.ensures.mine (subst (IsLockedStripe table config) (sym c.side.view_is) c.self.invariant)
