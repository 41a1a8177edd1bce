use Rattle.std.proofs.Common.{take}
use Rattle.std.specs.Io.KnownBytes.{Appends}
use Rattle.mc_proto.specs.Gathered.{bytes_of_parts}
use Rattle.mc_driver.proofs.printing.print_pieces.Given as goal

-- the pieces so far are written
abbrev pub invariant-loop-piece : goal.invariant-loop-piece
invariant-loop-piece g l = Appends (g.W.Write.contents l.fn.writer) (g.W.Write.contents l.writer) (bytes_of_parts (take l.piece-index l.fn.pieces))
