use Rattle.std.proofs.Common.{drop, length, map}
use Rattle.mc_board.specs.Steps.{owned_of}
use Rattle.mc_board.proofs.owner.Owner.catch_up.Given as goal

-- the events that the history doesn't have yet
abbrev pub ghosts-add : goal.ghosts-add
ghosts-add g a = record { entries = drop (length (owned_of a.place.now.me.0).history) (map g.E.Logged.entry a._named_by.now.items) }

-- the places of these events
abbrev pub ghosts-enter : goal.ghosts-enter
ghosts-enter g a = record {
  span = record {
    turn = a._who.turn;
    lock = (owned_of a.place.now.me.0).lock;
    from = length (owned_of a.place.now.me.0).history;
    until = length a._named_by.now.items;
  };
}
