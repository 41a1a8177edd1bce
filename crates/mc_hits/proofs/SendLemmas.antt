-- Queues may be shared by threads, and hands may be sent to one. A crate above names these two lemmas in its search for
-- a struct that has queues or hands, as mc_store does for its store and its passes.
use denote.Param.Send.{IsSend, IsSync, sendable}
use Rattle.std.proofs.Crossing.{crosses}
use Rattle.atomic_table.proofs.shared.Seat.TheSendSync as seat
use Rattle.atomic_table.proofs.shared.Shared.TheSendSync as shared
use Rattle.atomic_table.proofs.send_lease.SendLease.TheSendSync as lease
use Rattle.mc_hits.specs.contracts.hand.Hand as Hand
use Rattle.mc_hits.specs.contracts.hands.Hands as Hands
use Rattle.mc_hits.specs.contracts.hits.Hits as Hits
use Rattle.mc_hits.specs.contracts.queues.Queues as Queues

hand_send : IsSend Hand.the_row
hand_send = search (seat.the_send, sendable, crosses) depth 40 fits 50000

-- hands go to a thread
pub hands_send : IsSend Hands.the_row
hands_send = search (hand_send, sendable, crosses) depth 40 fits 50000

hits_sync : IsSync Hits.the_row
hits_sync = search (shared.the_sync, lease.the_sync, sendable, crosses) depth 40 fits 50000

-- queues are shared by their callers
pub queues_sync : IsSync Queues.the_row
queues_sync = search (hits_sync, sendable, crosses) depth 40 fits 50000
