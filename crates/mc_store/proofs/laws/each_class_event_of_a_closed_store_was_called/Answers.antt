use Rattle.mc_store.proofs.AnsweredTurnLemmas.{class_was_called}
use Rattle.mc_store.proofs.laws.each_class_event_of_a_closed_store_was_called.Goals as goal

pub returns : goal.returns
returns c = class_was_called
