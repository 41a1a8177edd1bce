use Rattle.std.proofs.Common.{◌≡◌, ◌++◌, take}
use Rattle.mc_proto.specs.Gathered.{bytes_of_parts}
use Rattle.mc_proto.proofs.sink.write_parts.Given as goal

-- the parts so far are written
abbrev pub invariant-loop-part : goal.invariant-loop-part
invariant-loop-part g l = record {
  written : g.K.Sink.taken l.sink ≡ g.K.Sink.taken l.fn.sink ++ bytes_of_parts (take l.part-index l.parts);
  fine : g.K.Sink.failures l.sink ≡ g.K.Sink.failures l.fn.sink;
}
