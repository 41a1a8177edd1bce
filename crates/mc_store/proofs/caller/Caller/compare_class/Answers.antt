use Rattle.std.proofs.Common.{ap, ◌∙◌, subst, sym}
use Rattle.mc_store.specs.{Locked.IsLockedClass, Made.HasNoneMadeBy, Passes.next_call, Serving.class_side, Sides.ClassSide}
use Rattle.mc_store.specs.declared.locked.LockedClass.TheInside.{Inside}
use Rattle.mc_store.proofs.NextTurnLemmas.{none_made_next}
use Rattle.mc_store.proofs.caller.Caller.compare_class.Goals as goal

pub returns-clause-first : goal.returns-clause-first
returns-clause-first g c =
    let table = g.N.Named.board.table in
    let config = g.N.Named.config in
    let own = c.class-inside.inside.0.0 in
    let own_is = ap (λ (l : Inside g.row.N.Denot). l.side) c.class-inside.view_is in
    let kept : IsLockedClass table config (class_side own.owner own.seen own.state) = subst (IsLockedClass table config) (sym own_is) c.class.invariant in
    subst (λ (x : ClassSide). HasNoneMadeBy (next_call c.args.self.now) x.class.history) (own_is ∙ c.class.view_is)
    (none_made_next config own.seen.sight c.args.self.now c.compare.ensures.behind own.state.number own.state.history kept.called)
