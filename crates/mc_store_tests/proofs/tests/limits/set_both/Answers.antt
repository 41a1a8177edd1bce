use denote.Param.{param}
use denote.Param.Send.{shr_send, mut_send}
use Rattle.std.proofs.Crossing.{sync}
use Rattle.mc_store.proofs.SendStoreLemmas.{store_sync, pass_send, closure_send, nothing, one_sent}
use Rattle.mc_store_tests.proofs.tests.limits.set_both.Goals as goal

pub join-requires-send-F : goal.join-requires-send-F
join-requires-send-F g c κs within =
    let store = store_sync (param 0 g.row.N) g.N.Named c.type_bounds.send-N c.type_bounds.sync-N in
    let pass = pass_send (param 0 g.row.N) g.N.Named c.type_bounds.send-N in
    closure_send 1 _ _ _
    (one_sent _ _ (shr_send _ _ _ c.type_bounds.sync-R)
    (one_sent _ _ (shr_send _ _ _ sync)
    (one_sent _ _ (shr_send _ _ _ store)
    (one_sent _ _ (mut_send _ _ _ pass) (nothing _)))))
