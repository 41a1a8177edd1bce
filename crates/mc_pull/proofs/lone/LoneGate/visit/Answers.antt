use Rattle.std.proofs.Common.{rules, ◌≡◌, ℕ, None, Some, refl, ap, subst}
use Rattle.mc_item.specs.declared.item.StripeNo.{StripeNo}
use Rattle.mc_pull.specs.declared.looking.Judged.{Judged}
use Rattle.mc_pull.specs.{Looks.IsReachedIf, Looks.answer_by, Question.question_of, Walker.walker_of}
use Rattle.mc_pull.proofs.OneStripeGateLemmas.{alone_later, alone_more, settle_walked, walked_both}
use Rattle.mc_pull.proofs.lone.LoneGate.visit.Goals as goal

pub returns-then-stripe-self-clause-gate : goal.returns-then-stripe-self-clause-gate
returns-then-stripe-self-clause-gate c = record {
  holds = search rules;
  serves = search rules;
  kept = λ g h k. (k.0, alone_more g c.args.self.now _ (answer_by c.args.stripe None) k.1 refl (search rules) ((λ some. absurd (cc)), λ same. absurd (search rules)));
}

pub returns-in_err-judged-clause-gate : goal.returns-in_err-judged-clause-gate
returns-in_err-judged-clause-gate c =
    let look = c.args.look.now in
    let q = question_of look.ask in
    let made = c.settle.ensures in
    let walked = settle_walked _ _ _ _ q made.keeps.site made.keeps.agreement (λ (j : Judged). j.done) c.settle.result made.settled made.err in
    record { holds = search rules; serves = search rules; kept = λ g h k. (walked_both (walker_of look.class.now q.who q.moment) _ _ _ _ _ _ k.0 walked, alone_later g c.args.self.now _ k.1 refl refl) }

pub returns-clause-gate : goal.returns-clause-gate
returns-clause-gate c =
    let look = c.args.look.now in
    let q = question_of look.ask in
    let made = c.settle.ensures in
    let walked = settle_walked _ _ _ _ q made.keeps.site made.keeps.agreement (λ (j : Judged). j.done) c.settle.result made.settled made.err in
    record {
      holds = search rules;
      serves = search rules;
      kept = λ g h k. (
        walked_both (walker_of look.class.now q.who q.moment) _ _ _ _ _ _ k.0 walked,
        alone_more g c.args.self.now _ (answer_by c.args.stripe (Some c.in_ok-judged.judged)) k.1 refl (search rules) ((λ some. search rules), (λ same. refl)),
      );
    }

pub returns-clause-answer : goal.returns-clause-answer
returns-clause-answer c =
    let look = c.args.look.now in
    let q = question_of look.ask in
    let own = c.args.self.now.stripe.now in
    let done = c.in_ok-judged.ensures in
    let number : own.site.stripe ≡ c.args.stripe.0 = search rules in
    let at : record { 0 = own.site.stripe } ≡ c.args.stripe = ap (λ (n : ℕ). record { 0 = n }) number in
    record {
      judged = Some c.in_ok-judged.judged;
      made_is = done.done;
      answers = search rules;
      class = search rules;
      reached = subst (λ (n : StripeNo). IsReachedIf (λ state. state ≡ own) look.ask.config.now n look.class.now q (Some c.in_ok-judged.judged)) at done.follows;
    }
