use Rattle.std.proofs.Common.{◌≡◌, [], take, length}
use Rattle.mc_board.specs.{Looking.looking, Steps.known_of}
use Rattle.mc_board.proofs.figures.gather.Given as goal

abbrev pub invariant-loop-i : goal.invariant-loop-i
invariant-loop-i l =
    (l.place.table_id ≡ l.fn.place.table_id) × (l.place.id ≡ l.fn.place.id) × (length l.values ≡ 8)
    × (l.place.me ≡ (looking (known_of l.fn.place.me.0) (take l.i l.values), []))
