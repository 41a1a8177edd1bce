use Rattle.mc_store.proofs.HeadlineLemmas.{borne_out}
use Rattle.mc_store.proofs.laws.a_closed_store_bears_out_each_reply.Goals as goal

pub returns : goal.returns
returns c = borne_out
