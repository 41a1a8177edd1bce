use Rattle.std.proofs.Common.{◌≡◌, ◌≤◌, ◌-◌}
use Rattle.mc_history.specs.Pieces.{events_of, room_of, ArePiecesKept}
use Rattle.mc_history.proofs.pieces.Pieces.make_room.Given as goal

abbrev pub invariant-making : goal.invariant-making
invariant-making g l =
    ArePiecesKept l.self × (events_of l.self ≡ events_of l.initial.self) × (room_of l.initial.self ≤ room_of l.self)

abbrev pub decreases-making : goal.decreases-making
decreases-making g l = l.n - room_of l.self
