use Rattle.std.proofs.Common.{subst, sym}
use Rattle.mc_store.specs.{Locked.IsLockedClass, Serving.class_side}
use Rattle.mc_store.proofs.OwnEventLemmas.{locked_sees}
use Rattle.mc_store.proofs.locked.LockedClass.learn.Goals as goal

pub invariant_of-self : goal.invariant_of-self
invariant_of-self g c =
    let table = g.N.Named.board.table in
    let config = g.N.Named.config in
    let side = c.side.inside in
    locked_sees table config (class_side side.owner side.seen side.state) c.learn.new.self.sight c.learn.ensures.mine (subst (IsLockedClass table config) (sym c.side.view_is) c.self.invariant)
