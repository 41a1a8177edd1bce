use Rattle.std.proofs.Common.{◌≡◌, ◌≤◌, ◌++◌, length, take, drop}
use Rattle.std.specs.{List.flat_map, VecDeque.deque_len}
use Rattle.mc_proto.specs.Uncut.{passing}
use Rattle.mc_proto.proofs.uncut.Uncut.pass.Given as goal

-- what was passed so far, and what is left to pass of what comes
abbrev pub invariant-loop-self : goal.invariant-loop-self
invariant-loop-self l =
    let now = passing (flat_map (λ p. p.items) l.self-inside.done.items) l.self-inside.begin l.self-inside.at l.self-inside.piece.items (flat_map (λ p. p.items) l.self-inside.rest.items) in
    record {
      begins : l.self-inside.begin ≤ l.self-inside.at;
      within : l.self-inside.at ≤ length l.self-inside.piece.items;
      fits : l.left ≤ length now.coming;
      passed : now.passed ++ take l.left now.coming ≡ l.fn.self.passed ++ take l.fn.count l.fn.self.coming;
      coming : drop l.left now.coming ≡ drop l.fn.count l.fn.self.coming;
    }

abbrev pub decreases-loop-self : goal.decreases-loop-self
decreases-loop-self l = deque_len l.self-inside.rest
