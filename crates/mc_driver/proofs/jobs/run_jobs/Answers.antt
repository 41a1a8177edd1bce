use denote.Exit.{no}
use denote.Param.Send.{arg_send, param_send}
use Rattle.mc_driver.proofs.SendJobLemmas.{job_send}
use Rattle.mc_driver.proofs.jobs.run_jobs.Goals as goal

pub for_each_mut-requires-send-T : goal.for_each_mut-requires-send-T
for_each_mut-requires-send-T g c κs within =
    param_send 1 _ (arg_send _ no _ (job_send _ _ _ g.N.Named c.type_bounds.send-N c.type_bounds.sync-N c.type_bounds.send-E))
