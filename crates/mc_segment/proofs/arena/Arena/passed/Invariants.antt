use Rattle.std.proofs.Common.{◌≡◌, ◌-◌, length, take, reverse, None}
use Rattle.mc_rule.specs.{Lists.list_of, Segment.numbers_of}
use Rattle.mc_segment.specs.Nodes.{before}
use Rattle.mc_segment.proofs.arena.Arena.passed.Given as goal

abbrev pub invariant-loop-i : goal.invariant-loop-i
invariant-loop-i l =
    (l.next ≡ before None (list_of l.self.lists l.fn.seg) (length (list_of l.self.lists l.fn.seg) - l.i))
    × (length l.numbers ≡ 4)
    × (take l.i l.numbers ≡ take l.i (reverse (numbers_of (list_of l.self.lists l.fn.seg))))
