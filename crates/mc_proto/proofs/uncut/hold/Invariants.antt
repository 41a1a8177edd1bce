use Rattle.std.proofs.Common.{◌≡◌, ◌+◌, length}
use Rattle.std.specs.{List.flat_map, VecDeque.Iter.deque_iter_rest}
use Rattle.mc_proto.proofs.uncut.hold.Given as goal

-- the pieces so far have what is no longer missing
abbrev pub invariant-loop-piece : goal.invariant-loop-piece
invariant-loop-piece l = l.missing + length (flat_map (λ p. p.items) l.fn.pieces.items) ≡ l.fn.count + length (flat_map (λ p. p.items) (deque_iter_rest l.piece-iterator))
