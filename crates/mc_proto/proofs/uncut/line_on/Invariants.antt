use Rattle.std.proofs.Common.{◌≡◌, ◌++◌}
use Rattle.std.specs.{List.flat_map, VecDeque.Iter.deque_iter_rest}
use Rattle.mc_proto.proofs.uncut.line_on.Given as goal

-- the line so far, and the pieces that are left
abbrev pub invariant-loop-piece : goal.invariant-loop-piece
invariant-loop-piece l = l.fn.begin ++ flat_map (λ p. p.items) l.fn.pieces.items ≡ l.line.items ++ flat_map (λ p. p.items) (deque_iter_rest l.piece-iterator)
