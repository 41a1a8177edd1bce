use Rattle.mc_evidence.proofs.RoomLemmas.{was_refused}
use Rattle.mc_evidence.proofs.commands.a_command_without_room_was_refused.Goals as goal

pub returns : goal.returns
returns c = was_refused
