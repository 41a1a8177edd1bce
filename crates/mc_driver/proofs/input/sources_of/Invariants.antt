use Rattle.std.proofs.Common.{◌++◌, map}
use Rattle.std.specs.{List.flat_map, Vec.Iter.into_iter_items}
use Rattle.mc_proto.specs.Scripts.{AreScripts}
use Rattle.mc_driver.proofs.input.sources_of.Given as goal

-- the sources so far, and the scripts that are left, are those of the input
abbrev pub invariant-loop-script : goal.invariant-loop-script
invariant-loop-script l = record {
  are : AreScripts l.fn.limits (flat_map (λ v. v.items) l.fn.input.items) (l.sources.items ++ map (λ s. flat_map (λ v. v.items) s.items) (into_iter_items l.script-iterator));
}
