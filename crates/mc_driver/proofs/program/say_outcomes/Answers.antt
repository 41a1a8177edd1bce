use Rattle.std.proofs.Common.{◌≡◌, ◌∙◌, arith, below_more, sym}
use Rattle.std.proofs.{KnownBytes.Keeps-trans, lemmas.List.get_or_default}
use Rattle.mc_script.specs.declared.outcome.Outcome.TheVariants.{Done}
use Rattle.mc_driver.proofs.StatusLemmas.{done_by_status}
use Rattle.mc_driver.proofs.program.say_outcomes.Goals as goal

pub loop-outcome-preserved : goal.loop-outcome-preserved
loop-outcome-preserved g c =
    let zero : c.say_outcome-status.result ≡ 0 = omega (arith, c.if-status-ne0.false) in (
      below_more _ _ c.loop-outcome.invariant.0 (λ d. get_or_default c.args.outcomes.now c.loop-outcome.outcome-index d Done c.loop-outcome-test.true
          ∙ done_by_status c.args.follow _ (sym c.say_outcome-status.ensures.status ∙ zero)),
      Keeps-trans _ _ _ c.loop-outcome.invariant.1 (c.say_outcome-status.ensures.quiet zero),
    )

pub returns-clause-done : goal.returns-clause-done
returns-clause-done g c = λ zero k d below. c.loop-outcome.invariant.0 k (omega (arith, below, c.loop-outcome-test.false)) d
