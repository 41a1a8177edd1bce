use Rattle.std.proofs.Common.{subst, sym}
use Rattle.mc_stripe.specs.StripeState.{cache_now}
use Rattle.mc_pull.specs.Question.{question_of}
use Rattle.mc_pull.proofs.OutcomeLemmas.{IsNoWalk, no_cold}
use Rattle.mc_pull.proofs.settling.settle_by.Goals as goal

pub unreachable-requires : goal.unreachable-requires
unreachable-requires c =
    let ask = c.args.ask.now in
    no_cold c.args.class.now (question_of ask) (cache_now c.args.stripe.now) (subst IsNoWalk (sym c.in-Dead.is) tt) (c.in-ToCold.ensures ask.who)

pub unreachable-requires-in-Hit : goal.unreachable-requires-in-Hit
unreachable-requires-in-Hit c =
    let ask = c.args.ask.now in
    no_cold c.args.class.now (question_of ask) (cache_now c.args.stripe.now) (subst IsNoWalk (sym c.in-Hit.is) tt) (c.in-ToCold.ensures ask.who)
