use Rattle.std.proofs.Common.{◌≡◌, refl, subst, sym}
use Rattle.mc_stripe.specs.StripeState.{Stripe}
use Rattle.mc_item.specs.declared.item.StripeNo.{StripeNo}
use Rattle.mc_pull.specs.{Looks.IsJudgedBy, Looks.judgement, Question.question_of}
use Rattle.mc_pull.proofs.looking.Look.settle.Goals as goal

pub returns-clause-follows : goal.returns-clause-follows
returns-clause-follows c =
    let look = c.args.self.now in
    let number : StripeNo = record { 0 = c.args.stripe.now.site.stripe } in
    subst (λ (s : Stripe). IsJudgedBy (λ state. state ≡ c.args.stripe.now) look.ask.config.now number look.class.now (question_of look.ask) (judgement c.in_ok-done.done s))
    (sym c.of-state.ensures)
    (record { legal = c.history.ensures.legal; of = c.requires.look.asked.stripe; number_is = refl; done_is = c.in_ok-done.ensures.done }, refl)
