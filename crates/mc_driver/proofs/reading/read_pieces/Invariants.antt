use Rattle.std.proofs.Common.{◌≡◌, length}
use Rattle.std.specs.{List.flat_map, Io.KnownBytes.Consumes}
use Rattle.mc_driver.proofs.reading.read_pieces.Given as goal

-- the room is whole, and the pieces so far were the reader's
abbrev pub invariant-loop : goal.invariant-loop
invariant-loop g l = (length l.room.items ≡ 65536) × Consumes (g.R.Read.remaining l.fn.reader) (g.R.Read.remaining l.reader) (flat_map (λ v. v.items) l.pieces.items)
