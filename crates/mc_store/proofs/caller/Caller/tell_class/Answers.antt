use Rattle.std.proofs.Common.{ap, subst, sym}
use Rattle.mc_store.specs.{Locked.IsLockedClass, Serving.class_side}
use Rattle.mc_store.specs.declared.locked.LockedClass.TheInside.{Inside}
use Rattle.mc_store.proofs.OwnEventLemmas.{locked_sees}
use Rattle.mc_store.proofs.caller.Caller.tell_class.Goals as goal

pub invariant_of-class : goal.invariant_of-class
invariant_of-class g c =
    let table = g.N.Named.board.table in
    let config = g.N.Named.config in
    let own = c.class-inside.inside.0.0 in
    let own_is = ap (λ (l : Inside g.row.N.Denot). l.side) c.class-inside.view_is in
    locked_sees table config (class_side own.owner own.seen own.state) c.tell.new.seen.sight c.tell.ensures.grows (subst (IsLockedClass table config) (sym own_is) c.class.invariant)
