-- A job of a store may be sent to a thread.
use denote.RattleType.{RattleType}
use denote.Param.Send.{IsSend, IsSync, sendable}
use Rattle.std.proofs.Crossing.{crosses}
use Rattle.mc_store.specs.contracts.store.Store as Store
use Rattle.mc_store.proofs.SendStoreLemmas.{store_sync, pass_send}
use Rattle.mc_driver.specs.contracts.jobs.Job as Job
use Rattle.mc_store.specs.declared.named.Named
use denote.Ref.{NamedLft}

-- a job has a pass and a reference to the store, and the ends of a script
pub job_send : (a : NamedLft) (N E : RattleType) (g : Named.Ghosts N.Denot) → IsSend N → IsSync N → IsSend E → IsSend (Job.the_row a N E g)
job_send a N E g sn yn se =
    let store : IsSync (Store.the_row N g) = store_sync N g sn yn in
    search (store, pass_send, sendable, crosses) depth 40 fits 50000
