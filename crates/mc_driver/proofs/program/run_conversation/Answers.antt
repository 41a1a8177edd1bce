use Rattle.std.proofs.Common.{◌≡◌, true, arith, inr, subst}
use Rattle.std.specs.List.{All}
use Rattle.mc_script.specs.declared.outcome.Outcome.TheVariants.{Done}
use Rattle.mc_driver.specs.Status.{IsFirstFault}
use Rattle.mc_driver.proofs.StatusLemmas.{all_done, not_output, told_not_two, told_small}
use Rattle.mc_driver.proofs.program.run_conversation.Goals as goal

pub returns-in-Ok-clause-done : goal.returns-in-Ok-clause-done
returns-in-Ok-clause-done g c = λ zero.
    let of = c.in-Ok.ensures.ok in
    let all = subst (All (λ outcome. outcome ≡ Done)) c.as_slice.ensures.value (c.say_outcomes.ensures.done zero) in
    record {
      input = of.input;
      whole = of.whole;
      done = record {
        printed = of.done.printed;
        ended = c.in-Ok.outcomes.items;
        final = of.done.final;
        run = of.done.run;
        done = all;
        written = of.done.written (all_done c.in-Ok.outcomes.items (omega (arith, of.done.run.run.many)) all);
      };
    }

pub returns-in-Ok-clause-broken : goal.returns-in-Ok-clause-broken
returns-in-Ok-clause-broken g c = λ one.
    let of = c.in-Ok.ensures.ok in
    let fault = subst (λ status. IsFirstFault true status c.in-Ok.outcomes.items) one
    (subst (IsFirstFault true c.say_outcomes.result) c.as_slice.ensures.value (c.say_outcomes.ensures.first (omega (arith, one)))) in
    inr (record {
      input = of.input;
      whole = of.whole;
      done = record {
        printed = of.done.printed;
        ended = c.in-Ok.outcomes.items;
        final = of.done.final;
        run = of.done.run;
        fault = fault;
        written = of.done.written (not_output c.in-Ok.outcomes.items fault);
      };
    })

pub returns-in-Ok-clause-never : goal.returns-in-Ok-clause-never
returns-in-Ok-clause-never g c = λ two. told_not_two true _ _ c.say_outcomes.ensures.first two

pub returns-in-Ok-clause-few : goal.returns-in-Ok-clause-few
returns-in-Ok-clause-few g c = told_small true _ _ c.say_outcomes.ensures.first
