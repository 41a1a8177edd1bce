use Rattle.std.proofs.Common.{false}
use Rattle.mc_pull.proofs.ChunkEventLemmas.{gains_itself}
use Rattle.mc_pull.proofs.juggling.pull_warm.Goals as goal

pub returns-then-did-clause-gains : goal.returns-then-did-clause-gains
returns-then-did-clause-gains g c = gains_itself false c.args.class.now
