use Rattle.std.proofs.Common.{◌≡◌, ◌∙◌, ◌<◌, ◌+◌, ◌++◌, length, take, drop, ap, sym, arith}
use Rattle.std.specs.{List.flat_map, VecDeque.Iter.deque_iter_rest}
use Rattle.mc_proto.proofs.UncutLemmas.{line_ends, line_left}
use Rattle.mc_proto.proofs.uncut.line_on.Goals as goal

pub returns-then-end-len : goal.returns-then-end-len
returns-then-end-len c =
    let old = c.loop-piece.line.items in
    let end = c.line_end-end.result in
    let piece : c.as_slice.result.now ≡ c.in-Some.piece.now.items = c.as_slice.ensures.value in
    let short : c.line_end-end.result < length c.as_slice.result.now = omega (arith, c.as_slice.ensures.len) in
    let cut : c.extend_from_slice.new.self.items ≡ c.loop-piece.line.items ++ take (c.line_end-end.result + 1) c.as_slice.result.now =
    c.in_ok-extend_from_slice.ensures.items ∙ ap (λ t. c.loop-piece.line.items ++ t) (c.split_at.ensures.front ∙ ap (take (c.line_end-end.result + 1)) (c.as_slice-then-end-len.ensures.value ∙ sym piece)) in (
      drop (end + 1) c.as_slice.result.now ++ flat_map (λ p. p.items) (deque_iter_rest c.next.new.self),
      line_left (λ p. p.items) c.args.begin.now old c.extend_from_slice.new.self.items c.as_slice.result.now end c.args.pieces.now.items
          (deque_iter_rest c.loop-piece.piece-iterator) (deque_iter_rest c.next.new.self) c.in-Some.piece.now c.loop-piece.invariant c.in-Some.ensures.steps
          piece cut,
      (λ lack _. absurd (line_ends old c.extend_from_slice.new.self.items c.as_slice.result.now end cut short (c.line_end-end.ensures.found short) lack)),
    )
