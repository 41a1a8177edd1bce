use Rattle.std.proofs.Common.{length}
use Rattle.mc_proto.specs.Lines.{LacksNextBehind}
use Rattle.mc_proto.proofs.lacking.lacks_next.Given as goal

-- what is left lacks it where the bytes do, and the other way round
abbrev pub invariant-loop-rest : goal.invariant-loop-rest
invariant-loop-rest l = record {
  lacks : LacksNextBehind l.behind l.rest → LacksNextBehind l.fn.after l.fn.bytes;
  has : LacksNextBehind l.fn.after l.fn.bytes → LacksNextBehind l.behind l.rest;
}

abbrev pub decreases-loop-rest : goal.decreases-loop-rest
decreases-loop-rest l = length l.rest
