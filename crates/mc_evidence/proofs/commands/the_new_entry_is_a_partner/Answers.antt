use Rattle.mc_evidence.proofs.RoomLemmas.{new_entry}
use Rattle.mc_evidence.proofs.commands.the_new_entry_is_a_partner.Goals as goal

pub returns : goal.returns
returns c = new_entry
