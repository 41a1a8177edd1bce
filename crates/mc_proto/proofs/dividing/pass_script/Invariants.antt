use Rattle.std.proofs.Common.{◌≡◌, ◌++◌, length}
use Rattle.mc_proto.specs.Scripts.{IsWhole}
use Rattle.mc_proto.proofs.dividing.pass_script.Given as goal

-- what was passed is all of a script, or its beginning
abbrev pub invariant-loop-count : goal.invariant-loop-count
invariant-loop-count l = record {
  stays : l.uncut.passed ++ l.uncut.coming ≡ l.fn.uncut.coming;
  whole : IsWhole l.limits l.uncut.passed;
}

abbrev pub decreases-loop-count : goal.decreases-loop-count
decreases-loop-count l = length l.uncut.coming
