use Rattle.std.proofs.Common.{◌≡◌, ◌++◌, replicate}
use Rattle.mc_item.proofs.counting.push_spaces.Given as goal

-- as many spaces so far as turns
abbrev pub invariant-loop : goal.invariant-loop
invariant-loop l = l.bytes.items ≡ l.fn.bytes.items ++ replicate l.counter 32
