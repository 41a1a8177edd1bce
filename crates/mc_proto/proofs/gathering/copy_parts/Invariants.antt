use Rattle.std.proofs.Common.{◌≡◌, ◌++◌, take}
use Rattle.mc_proto.specs.Gathered.{bytes_of_parts}
use Rattle.mc_proto.proofs.gathering.copy_parts.Given as goal

-- the parts so far are copied
abbrev pub invariant-loop-part : goal.invariant-loop-part
invariant-loop-part l = l.bytes.items ≡ l.fn.bytes.items ++ bytes_of_parts (take l.part-index l.parts)
