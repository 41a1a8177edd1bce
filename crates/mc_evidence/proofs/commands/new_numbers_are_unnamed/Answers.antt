use Rattle.mc_evidence.proofs.UnnamedLemmas.{next_unnamed}
use Rattle.mc_evidence.proofs.commands.new_numbers_are_unnamed.Goals as goal

pub returns : goal.returns
returns c = next_unnamed
