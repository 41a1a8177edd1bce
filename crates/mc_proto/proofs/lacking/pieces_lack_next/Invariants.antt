use Rattle.std.specs.{List.flat_map, VecDeque.Iter.deque_iter_rest}
use Rattle.mc_proto.specs.Lines.{LacksNextBehind}
use Rattle.mc_proto.proofs.lacking.pieces_lack_next.Given as goal

-- the pieces that are left lack it where all do, and the other way round
abbrev pub invariant-loop-piece : goal.invariant-loop-piece
invariant-loop-piece l = record {
  lacks : LacksNextBehind l.behind (flat_map (λ p. p.items) (deque_iter_rest l.piece-iterator)) → LacksNextBehind l.fn.after (flat_map (λ p. p.items) l.fn.pieces.items);
  has : LacksNextBehind l.fn.after (flat_map (λ p. p.items) l.fn.pieces.items) → LacksNextBehind l.behind (flat_map (λ p. p.items) (deque_iter_rest l.piece-iterator));
}
