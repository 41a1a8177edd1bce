use denote.Param.{param}
use denote.Param.Send.{IsSync, shr_send, mut_send, sendable}
use Rattle.std.proofs.Crossing.{Vec-send, crosses, sync}
use Rattle.mc_store.proofs.SendStoreLemmas.{store_sync, pass_send, closure_send, nothing, one_sent}
use Rattle.mc_store_tests.specs.contracts.tests.own_locks.Signs as Signs
use Rattle.mc_store_tests.proofs.tests.own_locks.ask_both.Goals as goal

pub join-requires-send-F : goal.join-requires-send-F
join-requires-send-F g c κs within =
    let store = store_sync (param 0 g.row.N) g.N.Named c.type_bounds.send-N c.type_bounds.sync-N in
    let pass = pass_send (param 0 g.row.N) g.N.Named c.type_bounds.send-N in
    let signs : IsSync Signs.the_row = search (sendable, crosses) depth 40 fits 50000 in
    closure_send 1 _ _ _
    (one_sent _ _ (shr_send _ _ _ c.type_bounds.sync-R)
    (one_sent _ _ (shr_send _ _ _ sync)
    (one_sent _ _ (shr_send _ _ _ store)
    (one_sent _ _ (mut_send _ _ _ (Vec-send _ pass))
    (one_sent _ _ (shr_send _ _ _ signs) (nothing _))))))
