use Rattle.std.proofs.Common.{◌≡◌, false, subst, arith}
use Rattle.std.specs.{List.All, List.flat_map, Io.KnownBytes.Appends}
use Rattle.mc_script.specs.declared.outcome.Outcome.TheVariants.{Done}
use Rattle.mc_proto.specs.Gathered.{bytes_of_parts}
use Rattle.mc_driver.specs.Status.{IsFirstFault}
use Rattle.mc_driver.proofs.StatusLemmas.{told_not_two, told_small}
use Rattle.mc_driver.proofs.program.print_answered.Goals as goal

pub returns-clause-printed : goal.returns-clause-printed
returns-clause-printed g c = λ other.
    subst (λ ends. Appends (g.W.Write.contents c.args.writer.now) (g.W.Write.contents c.print_scripts.new.writer)
    (flat_map (λ end. bytes_of_parts end.1.pieces.items) ends)) c.as_slice.ensures.value c.in-Ok.ensures

pub returns-clause-done : goal.returns-clause-done
returns-clause-done g c = λ zero. subst (All (λ outcome. outcome ≡ Done)) c.as_slice-2.ensures.value (c.say_outcomes.ensures.done zero)

pub returns-clause-first : goal.returns-clause-first
returns-clause-first g c = λ one.
    subst (λ status. IsFirstFault false status c.args.run.now.outcomes.items) one
    (subst (IsFirstFault false c.say_outcomes.result) c.as_slice-2.ensures.value (c.say_outcomes.ensures.first (omega (arith, one))))

pub returns-clause-never : goal.returns-clause-never
returns-clause-never g c = λ two. told_not_two false _ _ c.say_outcomes.ensures.first two

pub returns-clause-few : goal.returns-clause-few
returns-clause-few g c = told_small false _ _ c.say_outcomes.ensures.first
