use Rattle.mc_pull.proofs.ChunkEventLemmas.{gains_surveyed}
use Rattle.mc_pull.proofs.juggling.survey_class.Goals as goal

pub returns-clause-gains : goal.returns-clause-gains
returns-clause-gains c = gains_surveyed c.args.class.now c.survey.new.self c.args.turn.who c.args.turn.moment c.survey.result c.survey.ensures.ok c.survey.ensures.err
