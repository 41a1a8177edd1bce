use Rattle.mc_store.proofs.AnsweredTurnLemmas.{answered_once}
use Rattle.mc_store.proofs.laws.a_turn_of_a_closed_store_is_answered_once.Goals as goal

pub returns : goal.returns
returns c = answered_once
