use Rattle.std.proofs.Common.{◌++◌, map, ◌≡◌, length}
use Rattle.mc_proto.specs.Lines.{tokens}
use Rattle.mc_proto.proofs.token.more_tokens.Given as goal

abbrev pub invariant-loop-token : goal.invariant-loop-token
invariant-loop-token l = map (λ t. t.now) l.found.items ++ tokens l.rest ≡ map (λ t. t.now) l.first ++ tokens l.line

abbrev pub decreases-loop-token : goal.decreases-loop-token
decreases-loop-token l = length l.rest
