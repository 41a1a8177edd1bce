use Rattle.std.specs.Prelude.{Result, IfErr}
use Rattle.std.proofs.lemmas.Result.{err_from_is_err_and}
use Rattle.std.proofs.Common.{List, ◌++◌, Bool, false, refl, ap, ◌∙◌, sym, subst, append_assoc, inr}
use Rattle.mc_segment.specs.ClassState.{ClassView}
use Rattle.mc_rule.specs.Segment.{Rule}
use Rattle.mc_item.specs.declared.{counts.Moves.Moves, fault.Fault.Fault}
use Rattle.mc_pull.specs.Broken.{BreaksRounds, BreaksJuggle}
use Rattle.mc_pull.specs.{Juggle.juggling, Juggle.JugglesTemp, Juggle.JugglesRounds, Rounds.rounds}
use Rattle.mc_pull.specs.declared.looking.Answer.{Answer}
use Rattle.mc_pull.proofs.{BrokenLemmas.Since, BrokenLemmas.broken_after, ChunkEventLemmas.gains_both}
use Rattle.mc_pull.proofs.juggling.juggle.Goals as goal

pub returns-clause-juggle : goal.returns-clause-juggle
returns-clause-juggle g c =
    let old = c.args.class.now in
    let mid = c.juggle_temp.new.class in
    let after = c.juggle_rest.new.class in
    let temp = c.in_ok-before.ensures.temp in
    let rest = c.in_ok-sum.ensures.rest in
    let between = juggling mid.history c.in_ok-before.before in
    let end = juggling after.history c.in_ok-sum.sum in
    let r = rounds old c.args.context.turn.who c.args.context.turn.moment c.args.context.config.now in
    let rest_is = subst (λ (x : ClassView). JugglesRounds (rounds x c.args.context.turn.who c.args.context.turn.moment c.args.context.config.now) between rest.0 end) c.in_ok-before.ensures.gains.grows.same rest.2 in
    let temp_is = subst (λ (b : Bool). JugglesTemp r b old.history temp.0 between) (ap (λ (x : Rule). x.temp) (sym c.requires.gate.served.class.rule)) temp.2 in (
      temp.0 ++ rest.0,
      rest.1 ∙ (ap (λ (ys : List Answer). ys ++ rest.0) temp.1 ∙ append_assoc _ temp.0 rest.0),
      record {
        temp = temp.0;
        rest = rest.0;
        between = between;
        sum = c.in_ok-sum.sum;
        temp_is = temp_is;
        rest_is = rest_is;
        moves_is = refl;
        answers = refl;
      },
    )

pub returns-in_err-sum-clause-gains : goal.returns-in_err-sum-clause-gains
returns-in_err-sum-clause-gains g c = gains_both false c.args.class.now c.juggle_temp.new.class c.juggle_rest.new.class c.in_ok-before.ensures.gains c.in_err-sum.ensures.gains

pub returns-clause-gains : goal.returns-clause-gains
returns-clause-gains g c = gains_both false c.args.class.now c.juggle_temp.new.class c.juggle_rest.new.class c.in_ok-before.ensures.gains c.in_ok-sum.ensures.gains

pub returns-in_err-sum-clause-err : goal.returns-in_err-sum-clause-err
returns-in_err-sum-clause-err g c =
    let old = c.args.class.now in
    let mid = c.juggle_temp.new.class in
    let after = c.juggle_rest.new.class in
    let fault = c.in_err-sum.field-0.0 in
    let Faults : Fault → Type 0 = g.G.Gate.faults c.juggle_rest.new.gate after in
    let temp = c.in_ok-before.ensures.temp in
    let rest = c.in_err-sum.ensures.err in
    let between = juggling mid.history c.in_ok-before.before in
    let r = rounds old c.args.context.turn.who c.args.context.turn.moment c.args.context.config.now in
    let rest_is = subst (λ (x : ClassView). BreaksRounds (rounds x c.args.context.turn.who c.args.context.turn.moment c.args.context.config.now) Faults fault between rest.0 after.history)
    c.in_ok-before.ensures.gains.grows.same rest.2 in
    let temp_is = subst (λ (b : Bool). JugglesTemp r b old.history temp.0 between) (ap (λ (x : Rule). x.temp) (sym c.requires.gate.served.class.rule)) temp.2 in
    let both =
    broken_after (JugglesTemp r r.class.rule.temp) (BreaksRounds r Faults fault)
    (g.G.Gate.answers c.args.gate.now) (g.G.Gate.answers c.juggle_temp.new.gate) (g.G.Gate.answers c.juggle_rest.new.gate) old.history between after.history
    (temp.0, temp.1, temp_is) (rest.0, rest.1, rest_is) in
    let broken : Since (g.G.Gate.answers c.args.gate.now) (g.G.Gate.answers c.juggle_rest.new.gate) (λ xs. BreaksJuggle r Faults fault old.history xs after.history) = (both.0, both.1, inr both.2) in
    let came = err_from_is_err_and c.from_residual-in_err-sum.result c.from_residual-in_err-sum.ensures.1 in
    let P : Fault → Type 0 = λ x. Since (g.G.Gate.answers c.args.gate.now) (g.G.Gate.answers c.juggle_rest.new.gate) (λ xs. BreaksJuggle r Faults x old.history xs after.history) in
    subst (λ (x : Result Moves Fault). IfErr x P) (sym came.1) (subst P (sym came.2) broken)
