use Rattle.std.proofs.Common.{◌≡◌, ◌<◌, length, take}
use Rattle.mc_proto.specs.Gathered.{bytes_of_parts}
use Rattle.mc_proto.proofs.gathering.part_at.Given as goal

-- the byte is in one of the parts that are left
abbrev pub invariant-loop-part : goal.invariant-loop-part
invariant-loop-part l = record {
  many : length (bytes_of_parts l.parts.items) ≡ l.before;
  place : l.place < l.before;
  front : take l.place (bytes_of_parts l.parts.items) ≡ take l.place (bytes_of_parts l.fn.parts.items);
}

abbrev pub decreases-loop-part : goal.decreases-loop-part
decreases-loop-part l = length l.parts.items
