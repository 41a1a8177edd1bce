use Rattle.std.proofs.Common.{◌++◌, map, take, length, ◌≡◌}
use Rattle.mc_proto.specs.Lines.{tokens}
use Rattle.mc_proto.proofs.token.first_tokens.Given as goal

-- the tokens that stand, and those of what is left, are the line's
abbrev pub invariant-loop-i : goal.invariant-loop-i
invariant-loop-i l = record {
  found : map (λ t. t.now) (take l.i l.few) ++ tokens l.rest ≡ tokens l.line;
  places : length l.few ≡ 8;
}
