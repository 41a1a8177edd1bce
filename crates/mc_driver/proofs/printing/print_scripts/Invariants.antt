use Rattle.std.proofs.Common.{take}
use Rattle.std.specs.{List.flat_map, Io.KnownBytes.Appends}
use Rattle.mc_proto.specs.Gathered.{bytes_of_parts}
use Rattle.mc_driver.proofs.printing.print_scripts.Given as goal

-- the texts of the scripts so far are written
abbrev pub invariant-loop-end : goal.invariant-loop-end
invariant-loop-end g l = Appends (g.W.Write.contents l.fn.writer) (g.W.Write.contents l.writer) (flat_map (λ e. bytes_of_parts e.1.pieces.items) (take l.end-index l.fn.ends))
