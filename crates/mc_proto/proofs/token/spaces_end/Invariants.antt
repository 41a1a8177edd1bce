use Rattle.std.proofs.Common.{drop, ◌≡◌}
use Rattle.mc_proto.specs.Lines.{tokens}
use Rattle.mc_proto.proofs.token.spaces_end.Given as goal

abbrev pub invariant-loop-i : goal.invariant-loop-i
invariant-loop-i l = tokens (drop l.i l.bytes) ≡ tokens l.bytes
