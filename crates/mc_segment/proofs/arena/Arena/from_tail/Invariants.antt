use Rattle.std.proofs.Common.{◌≡◌, ◌-◌, ◌≤◌, length, None}
use Rattle.mc_rule.specs.Lists.{list_of}
use Rattle.mc_segment.specs.Nodes.{before}
use Rattle.mc_segment.proofs.arena.Arena.from_tail.Given as goal

abbrev pub invariant-loop : goal.invariant-loop
invariant-loop l = (l.at ≡ before None (list_of l.self.lists l.fn.seg) (length (list_of l.self.lists l.fn.seg) - l.counter)) × (l.counter ≤ length (list_of l.self.lists l.fn.seg))
