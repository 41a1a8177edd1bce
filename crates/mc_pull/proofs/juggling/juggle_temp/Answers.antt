use Rattle.std.proofs.Common.{List, ◌≡◌, ◌++◌, Bool, true, false, sym, subst, inr, rules}
use Rattle.std.proofs.lemmas.Result.{IfErr-weaker}
use Rattle.std.specs.Prelude.{IfOk, IfErr, OnErr}
use Rattle.mc_item.specs.declared.{class_event.ClassEvent.ClassEvent, lists.Seg.TheVariants.Temp}
use Rattle.mc_segment.specs.ClassState.{ClassView}
use Rattle.mc_segment.specs.declared.surveying.Survey.{Survey}
use Rattle.mc_item.specs.declared.fault.Fault.{Fault}
use Rattle.mc_pull.specs.Broken.{BreaksJuggled, BreaksWalk, BreaksTemp}
use Rattle.mc_pull.specs.Juggle.{juggling, survey_at, history_surveyed, IsJuggled, JugglesTemp}
use Rattle.mc_pull.specs.{Pulled.none_pulled, Rounds.rounds, Rounds.Walks}
use Rattle.mc_pull.specs.declared.{judge.Mode.TheVariants.Plain, looking.Answer.Answer}
use Rattle.mc_pull.proofs.{BrokenLemmas.Since, BrokenLemmas.err_both, ChunkEventLemmas.gains_both, ChunkEventLemmas.gains_itself, LeavesGateLemmas.leaves_both, LeavesGateLemmas.leaves_surveyed}
use Rattle.mc_pull.proofs.juggling.juggle_temp.Goals as goal

pub returns-clause-temp : goal.returns-clause-temp
returns-clause-temp g c =
    let config = c.args.context.config.now in
    let after = c.temp_rounds.new.class in
    let survey = c.in_ok-survey.ensures in
    let old = c.args.class.now in
    let r = rounds old c.args.context.turn.who c.args.context.turn.moment config in
    let P : ClassView → Survey → List ClassEvent → Type 0 =
    λ x s h. IfOk c.temp_rounds.result (λ sum. (xs : List Answer) × (g.G.Gate.answers c.temp_rounds.new.gate ≡ g.G.Gate.answers c.args.gate.now ++ xs)
    × IsJuggled (Walks (rounds x c.args.context.turn.who c.args.context.turn.moment config) Temp (Plain s)) (juggling h none_pulled) xs (juggling after.history sum)) in
    let made = subst (λ (x : ClassView). P x c.in_ok-survey.survey c.survey_class.new.class.history) survey.gains.grows.same c.temp_rounds.ensures.juggled in
    let named = subst (λ (s : Survey). P old s c.survey_class.new.class.history) (survey.survey config) made in
    let noted = subst (λ (h : List ClassEvent). P old (survey_at r old.history) h) (survey.history config) named in
    subst (λ (b : Bool). IfOk c.temp_rounds.result (λ sum. (xs : List Answer) × (g.G.Gate.answers c.temp_rounds.new.gate ≡ g.G.Gate.answers c.args.gate.now ++ xs)
    × JugglesTemp r b old.history xs (juggling after.history sum))) (sym c.if-not-context.false) noted

pub returns-clause-gate : goal.returns-clause-gate
returns-clause-gate g c =
    let old = c.args.class.now in
    let mid = c.survey_class.new.class in
    let survey = c.in_ok-survey.ensures in
    leaves_both g.G.Gate.references g.G.Gate.serves g.G.Gate.keeps c.args.context _ _ _ old mid c.temp_rounds.new.class survey.gains.grows
    (leaves_surveyed g.G.Gate.references g.G.Gate.serves g.G.Gate.keeps c.args.context c.args.gate.now old mid c.requires.gate survey.event) c.temp_rounds.ensures.gate

pub returns-then-not-context-clause-gains : goal.returns-then-not-context-clause-gains
returns-then-not-context-clause-gains g c = gains_itself false c.args.class.now

pub returns-clause-gains : goal.returns-clause-gains
returns-clause-gains g c = gains_both false c.args.class.now c.survey_class.new.class c.temp_rounds.new.class c.in_ok-survey.ensures.gains c.temp_rounds.ensures.gains

pub returns-in_err-survey-clause-err : goal.returns-in_err-survey-clause-err
returns-in_err-survey-clause-err g c =
    let r = rounds c.args.class.now c.args.context.turn.who c.args.context.turn.moment c.args.context.config.now in
    let given = g.G.Gate.answers c.args.gate.now in
    let P : Bool → Type 0 =
    λ b. IfErr c.from_residual.result (λ fault. Since given given (λ xs. BreaksTemp r (g.G.Gate.faults c.args.gate.now c.survey_class.new.class) fault b c.args.class.now.history xs c.survey_class.new.class.history)) in
    let refused : P true = search rules in
    subst P (sym c.if-not-context.false) refused

pub returns-clause-err : goal.returns-clause-err
returns-clause-err g c =
    let config = c.args.context.config.now in
    let after = c.temp_rounds.new.class in
    let survey = c.in_ok-survey.ensures in
    let old = c.args.class.now in
    let r = rounds old c.args.context.turn.who c.args.context.turn.moment config in
    let given = g.G.Gate.answers c.args.gate.now in
    let later = g.G.Gate.answers c.temp_rounds.new.gate in
    let Broken : ClassView → Survey → List ClassEvent → List Answer → Type 0 =
    λ x s h xs. BreaksJuggled (Walks (rounds x c.args.context.turn.who c.args.context.turn.moment config) Temp (Plain s)) (BreaksWalk (rounds x c.args.context.turn.who c.args.context.turn.moment config) Temp (Plain s))
    (juggling h none_pulled) xs after.history in
    let P : ClassView → Survey → List ClassEvent → Type 0 = λ x s h. OnErr c.temp_rounds.result (Since given later (Broken x s h)) in
    let made = subst (λ (x : ClassView). P x c.in_ok-survey.survey c.survey_class.new.class.history) survey.gains.grows.same c.temp_rounds.ensures.err in
    let named = subst (λ (s : Survey). P old s c.survey_class.new.class.history) (survey.survey config) made in
    let noted = subst (λ (h : List ClassEvent). P old (survey_at r old.history) h) (survey.history config) named in
    let Faults : Fault → Type 0 = g.G.Gate.faults c.temp_rounds.new.gate after in
    let left : Fault → Type 0 = λ fault. Since given later (Broken old (survey_at r old.history) (history_surveyed r old.history)) in
    let both = err_both c.temp_rounds.result Faults left c.temp_rounds.ensures.fault noted in
    let Q : Bool → Fault → Type 0 = λ b fault. Since given later (λ xs. BreaksTemp r Faults fault b old.history xs after.history) in
    let weaker = IfErr-weaker c.temp_rounds.result (λ (fault : Fault). Faults fault × left fault) (Q true) (λ fault it. (it.1.0, it.1.1, inr (it.0, it.1.2))) both in
    subst (λ (b : Bool). IfErr c.temp_rounds.result (Q b)) (sym c.if-not-context.false) weaker
