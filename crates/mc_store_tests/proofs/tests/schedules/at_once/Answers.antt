use denote.Param.{param}
use denote.Param.Send.{IsSync, shr_sync, sendable}
use Rattle.std.proofs.Crossing.{crosses, sync}
use Rattle.mc_store.proofs.SendStoreLemmas.{store_sync, closure_sync, nothing, one_shared}
use Rattle.mc_store_tests.specs.contracts.tests.paces.Signs as Signs
use Rattle.mc_store_tests.proofs.tests.schedules.at_once.Goals as goal

pub map_vec-requires-sync-F : goal.map_vec-requires-sync-F
map_vec-requires-sync-F g c κs within =
    let store = store_sync (param 0 g.row.N) g.N.Named c.type_bounds.send-N c.type_bounds.sync-N in
    let signs : IsSync Signs.the_row = search (sendable, crosses) depth 40 fits 50000 in
    closure_sync 4 _ _ _
    (one_shared _ _ (shr_sync _ _ _ c.type_bounds.sync-R)
    (one_shared _ _ (shr_sync _ _ _ sync)
    (one_shared _ _ (shr_sync _ _ _ store)
    (one_shared _ _ (shr_sync _ _ _ signs) (nothing _)))))
