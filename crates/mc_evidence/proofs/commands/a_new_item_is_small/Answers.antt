use Rattle.mc_evidence.proofs.SmallItemLemmas.{small_item}
use Rattle.mc_evidence.proofs.commands.a_new_item_is_small.Goals as goal

pub returns : goal.returns
returns c = λ site stripe did link small. small_item site small stripe did link
