use Rattle.std.proofs.Common.{ap, ◌∙◌, subst, sym}
use Rattle.mc_store.specs.{Callers.HasNoneOf, Locked.IsLockedStripe, Passes.next_call, Sides.StripeSide}
use Rattle.mc_store.specs.declared.locked.LockedStripe.TheInside.{Inside}
use Rattle.mc_store.proofs.{NextTurnLemmas.none_next, SyncedLemmas.stripe_side}
use Rattle.mc_store.proofs.caller.Caller.compare_stripe.Goals as goal

pub returns-clause-first : goal.returns-clause-first
returns-clause-first g c =
    let table = g.N.Named.board.table in
    let config = g.N.Named.config in
    let own = c.stripe-inside.inside.0.0 in
    let own_is = ap (λ (l : Inside g.row.N.Denot). l.side) c.stripe-inside.view_is in
    let kept : IsLockedStripe table config (stripe_side own.owner own.seen own.state) = subst (IsLockedStripe table config) (sym own_is) c.stripe.invariant in
    subst (λ (x : StripeSide). HasNoneOf (next_call c.args.self.now) x.stripe.history) (own_is ∙ c.stripe.view_is)
    (none_next config own.seen.sight c.args.self.now c.compare.ensures.behind own.state.site.stripe own.state.history kept.called)
