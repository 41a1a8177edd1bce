use Rattle.std.proofs.Common.{◌≡◌, ◌++◌, List, [], ℕ, length, map}
use Rattle.std.specs.List.{flat_map}
use Rattle.mc_proto.specs.Scripts.{AreScripts}
use Rattle.mc_proto.proofs.dividing.split_scripts.Given as goal

-- the scripts so far, and those of what comes, are those of the input
abbrev pub invariant-loop-uncut : goal.invariant-loop-uncut
invariant-loop-uncut l = record {
  none : l.uncut.passed ≡ [];
  cut : (ss : List (List ℕ)) → AreScripts l.limits l.uncut.coming ss → AreScripts l.limits (flat_map (λ p. p.items) l.fn.input.items) (map (λ s. flat_map (λ p. p.items) s.items) l.scripts.items ++ ss);
}

abbrev pub decreases-loop-uncut : goal.decreases-loop-uncut
decreases-loop-uncut l = length l.uncut.coming
