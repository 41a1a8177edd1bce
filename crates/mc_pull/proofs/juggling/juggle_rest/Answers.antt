use Rattle.std.proofs.Common.{List, ◌≡◌, ◌++◌, false, subst, inr}
use Rattle.std.proofs.lemmas.Result.{IfErr-weaker}
use Rattle.std.specs.Prelude.{IfOk, OnErr}
use Rattle.mc_item.specs.declared.class_event.ClassEvent.{ClassEvent}
use Rattle.mc_segment.specs.ClassState.{ClassView}
use Rattle.mc_segment.specs.declared.surveying.Survey.{Survey}
use Rattle.mc_item.specs.declared.fault.Fault.{Fault}
use Rattle.mc_pull.specs.Broken.{BreaksJuggled, BreaksRound, BreaksRounds}
use Rattle.mc_pull.specs.{Juggle.juggling, Juggle.survey_at, Juggle.history_surveyed, Juggle.IsJuggled, Juggle.IsJuggleRound, Rounds.rounds}
use Rattle.mc_pull.specs.declared.looking.Answer.{Answer}
use Rattle.mc_pull.proofs.{BrokenLemmas.Since, BrokenLemmas.err_both, ChunkEventLemmas.gains_both, LeavesGateLemmas.leaves_both, LeavesGateLemmas.leaves_surveyed}
use Rattle.mc_pull.proofs.juggling.juggle_rest.Goals as goal

pub returns-clause-rest : goal.returns-clause-rest
returns-clause-rest g c =
    let config = c.args.context.config.now in
    let after = c.juggle_rounds.new.class in
    let survey = c.in_ok-survey.ensures in
    let old = c.args.class.now in
    let r = rounds old c.args.context.turn.who c.args.context.turn.moment config in
    let P : ClassView → Survey → List ClassEvent → Type 0 =
    λ x s h. IfOk c.juggle_rounds.result (λ sum. (xs : List Answer) × (g.G.Gate.answers c.juggle_rounds.new.gate ≡ g.G.Gate.answers c.args.gate.now ++ xs)
    × IsJuggled (IsJuggleRound (rounds x c.args.context.turn.who c.args.context.turn.moment config) s) (juggling h c.args.total) xs (juggling after.history sum)) in
    let made = subst (λ (x : ClassView). P x c.in_ok-survey.survey c.survey_class.new.class.history) survey.gains.grows.same c.juggle_rounds.ensures.juggled in
    let named = subst (λ (s : Survey). P old s c.survey_class.new.class.history) (survey.survey config) made in
    subst (λ (h : List ClassEvent). P old (survey_at r old.history) h) (survey.history config) named

pub returns-clause-gate : goal.returns-clause-gate
returns-clause-gate g c =
    let old = c.args.class.now in
    let mid = c.survey_class.new.class in
    let survey = c.in_ok-survey.ensures in
    leaves_both g.G.Gate.references g.G.Gate.serves g.G.Gate.keeps c.args.context _ _ _ old mid c.juggle_rounds.new.class survey.gains.grows
    (leaves_surveyed g.G.Gate.references g.G.Gate.serves g.G.Gate.keeps c.args.context c.args.gate.now old mid c.requires.gate survey.event) c.juggle_rounds.ensures.gate

pub returns-clause-gains : goal.returns-clause-gains
returns-clause-gains g c = gains_both false c.args.class.now c.survey_class.new.class c.juggle_rounds.new.class c.in_ok-survey.ensures.gains c.juggle_rounds.ensures.gains

pub returns-clause-err : goal.returns-clause-err
returns-clause-err g c =
    let config = c.args.context.config.now in
    let after = c.juggle_rounds.new.class in
    let survey = c.in_ok-survey.ensures in
    let old = c.args.class.now in
    let r = rounds old c.args.context.turn.who c.args.context.turn.moment config in
    let given = g.G.Gate.answers c.args.gate.now in
    let later = g.G.Gate.answers c.juggle_rounds.new.gate in
    let Broken : ClassView → Survey → List ClassEvent → List Answer → Type 0 =
    λ x s h xs. BreaksJuggled (IsJuggleRound (rounds x c.args.context.turn.who c.args.context.turn.moment config) s) (BreaksRound (rounds x c.args.context.turn.who c.args.context.turn.moment config) s)
    (juggling h c.args.total) xs after.history in
    let P : ClassView → Survey → List ClassEvent → Type 0 = λ x s h. OnErr c.juggle_rounds.result (Since given later (Broken x s h)) in
    let made = subst (λ (x : ClassView). P x c.in_ok-survey.survey c.survey_class.new.class.history) survey.gains.grows.same c.juggle_rounds.ensures.err in
    let named = subst (λ (s : Survey). P old s c.survey_class.new.class.history) (survey.survey config) made in
    let noted = subst (λ (h : List ClassEvent). P old (survey_at r old.history) h) (survey.history config) named in
    let Faults : Fault → Type 0 = g.G.Gate.faults c.juggle_rounds.new.gate after in
    let left : Fault → Type 0 = λ fault. Since given later (Broken old (survey_at r old.history) (history_surveyed r old.history)) in
    let both = err_both c.juggle_rounds.result Faults left c.juggle_rounds.ensures.fault noted in
    IfErr-weaker c.juggle_rounds.result (λ (fault : Fault). Faults fault × left fault)
    (λ (fault : Fault). Since given later (λ xs. BreaksRounds r Faults fault (juggling old.history c.args.total) xs after.history))
    (λ fault it. (it.1.0, it.1.1, inr (it.0, it.1.2))) both
