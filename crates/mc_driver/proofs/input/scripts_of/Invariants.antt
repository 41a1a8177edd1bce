use Rattle.std.proofs.Common.{◌≡◌, ◌≤◌, ◌+◌, ◌++◌, [], length, map}
use Rattle.std.specs.{List.All, Vec.Iter.into_iter_items}
use Rattle.mc_driver.proofs.input.scripts_of.Given as goal

-- there is a part for each of the other sources, and those so far have sinks that took nothing
abbrev pub invariant-loop-source : goal.invariant-loop-source
invariant-loop-source g l = record {
  parts : length l.fn.sources.items ≤ l.share.parts + length l.yielded;
  none : l.share.amount ≡ 0;
  sources : map (λ s. s.0) l.scripts.items ++ into_iter_items l.source-iterator ≡ l.fn.sources.items;
  fresh : All (λ s. s.1.pieces.items ≡ []) l.scripts.items;
}
