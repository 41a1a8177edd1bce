-- A store may be shared by threads, and a pass may be sent to one: a lemma for each layer, since the search that goes
-- down through all of them ends at a limit.
use mathlib.Core.List.{List, [], ◌∷◌}
use Prim.Native.Nat.{ℕ}
use mir.Syntax.{Sym, Ty}
use denote.Exit.{no}
use denote.RattleType.{RattleType}
use denote.Param.{param, arg}
use denote.Param.Send.{IsSend, IsSync, arg_send, arg_sync, param_send, param_sync, sendable}
use denote.Param.SendFields.{FieldsHave, as_row_send, as_row_sync, declared_send, declared_sync}
use denote.Struct.Field.{row_field}
use denote.Struct.Tuple.{TupleAt, type_at, parts}
use Rattle.std.proofs.Crossing.{crosses, send, sync}
use Rattle.std.proofs.MapsCrossing as maps
use Rattle.atomic_table.proofs.shared.Seat.TheSendSync as seat
use Rattle.atomic_table.proofs.shared.Shared.TheSendSync as shared
use Rattle.atomic_table.proofs.send_lease.SendLease.TheSendSync as lease
use Rattle.bytes.proofs.shared.Bytes.TheSendSync as bytes
use Rattle.mc_hits.proofs.SendLemmas.{hands_send, queues_sync}
use Rattle.mc_item.specs.contracts.value.Value as Value
use Rattle.mc_item.specs.contracts.value.Held as Held
use Rattle.mc_history.specs.contracts.history.History as History
use Rattle.mc_history.specs.declared.history.Shows
use Rattle.mc_item.specs.contracts.item.Item as Item
use Rattle.mc_item.specs.contracts.key.Key as Key
use Rattle.mc_item.specs.contracts.stripe_event.StripeEvent as StripeEvent
use Rattle.mc_segment.specs.contracts.state.ClassState as ClassState
use Rattle.mc_stripe.specs.contracts.state.StripeState as StripeState
use Rattle.mc_board.specs.contracts.board.Board as Board
use Rattle.mc_board.specs.contracts.owner.Owner as Owner
use Rattle.mc_board.specs.contracts.seen.Seen as Seen
use Rattle.mc_store.specs.contracts.store.Store as Store
use Rattle.mc_store.specs.contracts.pass.Pass as Pass
use Rattle.mc_store.specs.declared.named.Named

-- a history, where its events may be
pub history_send : (E S : RattleType) (g : Shows.Ghosts S.Denot E.Denot) → IsSend E → IsSend S → IsSend (History.the_row E S g)
history_send E S g e s = search (sendable, crosses) depth 40 fits 50000

-- what events and items are made of
pub key_send : IsSend Key.the_row
key_send = search (sendable, crosses) depth 40 fits 50000

-- a class, with its history
pub class_send : IsSend ClassState.the_row
class_send = search (history_send, key_send, maps.HashMap-send, sendable, crosses) depth 80 fits 50000

pub held_send : IsSend Held.the_row
held_send = search (bytes.the_send, send, sync, sendable, crosses) depth 40 fits 50000

pub held_sync : IsSync Held.the_row
held_sync = search (bytes.the_sync, send, sync, sendable, crosses) depth 40 fits 50000

pub value_send : IsSend Value.the_row
value_send = search (held_send, held_sync, sendable, crosses) depth 40 fits 50000

pub event_send : IsSend StripeEvent.the_row
event_send = search (value_send, key_send, sendable, crosses) depth 40 fits 50000

pub item_send : IsSend Item.the_row
item_send = search (value_send, sendable, crosses) depth 40 fits 50000

-- a stripe, with its history and its items
pub stripe_send : IsSend StripeState.the_row
stripe_send = search (history_send, event_send, key_send, item_send, maps.HashMap-send, sendable, crosses) depth 80 fits 50000

-- the tokens of the board, and the board itself
pub owner_send : IsSend Owner.the_row
owner_send = search (seat.the_send, sendable, crosses) depth 40 fits 50000

pub seen_send : IsSend Seen.the_row
seen_send = search (seat.the_send, sendable, crosses) depth 40 fits 50000

pub board_sync : IsSync Board.the_row
board_sync = search (shared.the_sync, lease.the_sync, sendable, crosses) depth 40 fits 50000

-- a store is shared by its callers
pub store_sync : (N : RattleType) (g : Named.Ghosts N.Denot) → IsSend N → IsSync N → IsSync (Store.the_row N g)
store_sync N g s y = search (class_send, stripe_send, owner_send, seen_send, board_sync, queues_sync, sendable, crosses) depth 80 fits 50000

-- a caller has a pass
pub pass_send : (N : RattleType) (g : Named.Ghosts N.Denot) → IsSend N → IsSend (Pass.the_row N g)
pass_send N g s = search (owner_send, seen_send, hands_send, sendable, crosses) depth 40 fits 50000

-- H holds of each value that a closure has captured
pub Captured : (RattleType → Type 0) → List RattleType → Type 0
Captured H Ts = FieldsHave H (parts Ts)

pub nothing : (H : RattleType → Type 0) → Captured H []
unfolding Captured
nothing H = tt

pub one_sent : (T : RattleType) (Ts : List RattleType) → IsSend T → Captured IsSend Ts → Captured IsSend (T ∷ Ts)
unfolding Captured
one_sent T Ts s ss = (as_row_send (row_field T) s, ss)

pub one_shared : (T : RattleType) (Ts : List RattleType) → IsSync T → Captured IsSync Ts → Captured IsSync (T ∷ Ts)
unfolding Captured
one_shared T Ts s ss = (as_row_sync (row_field T) s, ss)

-- a closure that a call is given may be sent if each value may that it has captured
pub closure_send : (i : ℕ) (δ : Ty) (ν : Sym) (Ts : List RattleType) → Captured IsSend Ts → IsSend (param i (arg δ no (TupleAt ν Ts)))
unfolding Captured
closure_send i δ ν Ts s = param_send i _ (arg_send δ no (TupleAt ν Ts) (declared_send (type_at ν Ts) s))

-- and shared, if each may be
pub closure_sync : (i : ℕ) (δ : Ty) (ν : Sym) (Ts : List RattleType) → Captured IsSync Ts → IsSync (param i (arg δ no (TupleAt ν Ts)))
unfolding Captured
closure_sync i δ ν Ts s = param_sync i _ (arg_sync δ no (TupleAt ν Ts) (declared_sync (type_at ν Ts) s))
