use Rattle.std.proofs.Common.{◌≡◌, ◌∙◌, ap, subst}
use Rattle.std.specs.Prelude.{Some, IfSome}
use Rattle.std.specs.Option.{option_map}
use Rattle.mc_item.specs.{Answer.stepped, Measure.numeral_of}
use Rattle.mc_item.specs.declared.{answer.Answer.Answer, answer.Need.Need, item.ClassNo.ClassNo}
use Rattle.mc_item.specs.declared.answer.Need.TheVariants as needs
use Rattle.mc_stripe.specs.{Counting.step_row, Plan.fate_of, Wanting.IsTaken, Wanting.LacksPlace}
use Rattle.mc_stripe.specs.declared.fate.Fate.{Fate}
use Rattle.mc_stripe.proofs.CountLemmas.{number_covers}
use Rattle.mc_stripe.proofs.counting.count_anew.Goals as goal

pub count_answer-requires-clause-known : goal.count_answer-requires-clause-known
count_answer-requires-clause-known c =
    subst (λ (need : Need). IfSome c.in-Ok.offer.class (λ (class : ClassNo). need ≡ needs.Fresh class)) (c.count_need-need.ensures.need c.args.trial.versions) c.in-Ok.ensures.class

pub returns-in-Some-clause-wants : goal.returns-in-Some-clause-wants
returns-in-Some-clause-wants c = λ moment alive.
    let row = step_row c.args.trial.site.now c.args.trial.versions c.args.key.now c.args.step (Some c.args.item.now) in
    let need_is = c.count_need-need.ensures.need c.args.trial.versions in
    record {
      alive = alive;
      covers = number_covers c.args.trial.given.now c.args.trial.site.now c.args.trial.versions c.args.key.now c.args.item.now (option_map (stepped c.args.step) (numeral_of c.args.item.now.value))
          (λ class fresh. c.in-Ok.ensures.covers class (need_is ∙ fresh));
      room = c.in-Ok.offer.room;
      taken = subst (λ (need : Need). IsTaken c.args.trial.given.now need c.in-Ok.offer.room) need_is c.in-Ok.ensures.room;
      lacks = subst (λ (f : Fate). LacksPlace c.args.trial.given.now c.in-Ok.offer.room f c.in-Some.class)
          (c.fate_by_change-fate.ensures ∙ ap (fate_of c.args.key.now (Some c.args.item.now)) (ap (λ (a : Answer). a.change) c.in_ok-reply.ensures))
          c.in-Some.ensures.lacks;
    }

pub returns-clause-made : goal.returns-clause-made
returns-clause-made c = λ moment alive.
    let row = step_row c.args.trial.site.now c.args.trial.versions c.args.key.now c.args.step (Some c.args.item.now) in
    let need_is = c.count_need-need.ensures.need c.args.trial.versions in
    record {
      alive = alive;
      covers = number_covers c.args.trial.given.now c.args.trial.site.now c.args.trial.versions c.args.key.now c.args.item.now (option_map (stepped c.args.step) (numeral_of c.args.item.now.value))
          (λ class fresh. c.in-Ok.ensures.covers class (need_is ∙ fresh));
      taken = subst (λ (need : Need). IsTaken c.args.trial.given.now need c.in-Ok.offer.room) need_is c.in-Ok.ensures.room;
      fate_is = c.fate_by_change-fate.ensures ∙ ap (fate_of c.args.key.now (Some c.args.item.now)) (ap (λ (a : Answer). a.change) c.in_ok-reply.ensures);
      places = c.in_default.ensures.places;
    }
