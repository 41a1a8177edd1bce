use Rattle.std.proofs.Common.{◌≡◌, ◌≢◌, ◌∙◌, Err, false, ap, inl, subst, sym, arith}
use Rattle.std.proofs.KnownBytes.{Keeps-refl}
use Rattle.clap.specs.Walk.{texts}
use Rattle.clap.specs.Words.{kind_of}
use Rattle.clap.specs.declared.error.kind.ErrorKind.TheVariants.{DisplayHelp, DisplayVersion, OutOfMemory}
use Rattle.std.specs.List.{flat_map}
use Rattle.mc_options.proofs.PlanLemmas.{moments_early}
use Rattle.mc_options.specs.Asked.{asked as config_asked}
use Rattle.mc_driver.specs.Input.{IsInputAnswered}
use Rattle.mc_driver.proofs.StatusLemmas.{mistaken}
use Rattle.mc_driver.proofs.program.run_words.Goals as goal

pub run_input-requires-clause-plan : goal.run_input-requires-clause-plan
run_input-requires-clause-plan g c = λ lifetimes met. (c.in-Ok.ensures.config, moments_early _ c.in-Ok.plan.upkeep c.in-Ok.ensures.asked.2.moments)

pub run_conversation-requires-clause-early : goal.run_conversation-requires-clause-early
run_conversation-requires-clause-early g c = λ lifetimes met. moments_early _ c.in-Ok.plan.upkeep c.in-Ok.ensures.asked.2.moments

pub returns-clause-done : goal.returns-clause-done
returns-clause-done g c = λ zero none.
    let asked = c.in-Ok.ensures.asked in
    let input = flat_map (λ v. v.items) c.in-Ok-read_pieces.input.items in
    record {
      taken = none;
      sizes = asked.0;
      moments = c.in-Ok.plan.upkeep;
      options = asked.1;
      are_asked = asked.2;
      done = record {
        input = input;
        whole = c.in-Ok-read_pieces.ensures;
        done = subst (λ follow. IsInputAnswered follow (config_asked asked.0 asked.1) c.in-Ok.plan.upkeep input (g.W.Write.contents c.args.writer.now)
            (g.W.Write.contents c.run_input.new.writer)) (sym c.if-plan.false ∙ asked.4)
            (subst (λ config. IsInputAnswered false config c.in-Ok.plan.upkeep input (g.W.Write.contents c.args.writer.now) (g.W.Write.contents c.run_input.new.writer)) asked.3
            (c.run_input.ensures.done zero));
      };
    }

pub returns-in-Err-Words-clause-refused : goal.returns-in-Err-Words-clause-refused
returns-in-Err-Words-clause-refused g c = λ two.
    inl (inl (mistaken (texts c.args.words.now) c.in-Err-Words.error (c.in-Err-Words.ensures.words c.in-Err-Words.error (ap Err c.in-Err-Words.field-0-is))
    (λ memory. omega (arith, two, c.say_words.ensures.memory (subst (λ e. kind_of e ≡ OutOfMemory) (sym c.in-Err-Words.error-is) memory)))
    (subst (λ e. (kind_of e ≢ DisplayHelp) × (kind_of e ≢ DisplayVersion)) c.in-Err-Words.error-is (c.say_words.ensures.mistake two))))

pub returns-in-Err-Configuration-clause-broken : goal.returns-in-Err-Configuration-clause-broken
returns-in-Err-Configuration-clause-broken g c = λ one. inl (Keeps-refl (g.W.Write.contents c.args.writer.now))

pub returns-in-Err-NoMemory-clause-broken : goal.returns-in-Err-NoMemory-clause-broken
returns-in-Err-NoMemory-clause-broken g c = λ one. inl (Keeps-refl (g.W.Write.contents c.args.writer.now))

pub returns-then-eq-clause-broken : goal.returns-then-eq-clause-broken
returns-then-eq-clause-broken g c = λ one. inl (Keeps-refl (g.W.Write.contents c.args.writer.now))
