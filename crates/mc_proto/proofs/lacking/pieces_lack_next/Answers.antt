use Rattle.std.proofs.Common.{◌≡◌, ℕ, List, ap, ◌∙◌, sym, subst}
use Rattle.std.specs.{List.flat_map, VecDeque.Iter.deque_iter_rest}
use Rattle.mc_proto.specs.Lines.{LacksNextBehind, is_after}
use Rattle.mc_proto.proofs.NextDirectiveLemmas.{next_front, next_behind, next_both}
use Rattle.mc_proto.proofs.lacking.pieces_lack_next.Goals as goal

pub returns-then-not-lacks_next-clause-has : goal.returns-then-not-lacks_next-clause-has
returns-then-not-lacks_next-clause-has c = λ lack.
    let at = c.loop-piece in
    let here = subst (LacksNextBehind at.behind) (ap (flat_map (λ p. p.items)) c.in-Some.ensures.steps) (at.invariant.has lack) in
    let yes = c.lacks_next.ensures.has (subst (LacksNextBehind at.behind) (sym c.as_slice.ensures.value) (next_front at.behind c.in-Some.piece.now.items _ here)) in
    let no = c.if-not-lacks_next.true in
    absurd (cc)

pub loop-piece-preserved : goal.loop-piece-preserved
loop-piece-preserved c =
    let at = c.loop-piece in
    let piece : c.as_slice.result.now ≡ c.in-Some.piece.now.items = c.as_slice.ensures.value in
    let after : is_after c.loop-piece.behind c.in-Some.piece.now.items ≡ c.ends_with_percent-behind.result =
    ap (is_after c.loop-piece.behind) (sym c.as_slice-in-loop-piece.ensures.value) ∙ sym c.ends_with_percent-behind.ensures in
    let behind : List ℕ = flat_map (λ p. p.items) (deque_iter_rest c.next.new.self) in
    record {
      lacks = λ lack. at.invariant.lacks (subst (LacksNextBehind at.behind) (sym (ap (flat_map (λ p. p.items)) c.in-Some.ensures.steps))
          (next_both at.behind c.in-Some.piece.now.items behind (subst (LacksNextBehind at.behind) piece (c.lacks_next.ensures.lacks c.if-not-lacks_next.false)) (subst (λ b. LacksNextBehind b behind) (sym after) lack)));
      has = λ lack. subst (λ b. LacksNextBehind b behind) after
          (next_behind at.behind c.in-Some.piece.now.items behind (subst (LacksNextBehind at.behind) (ap (flat_map (λ p. p.items)) c.in-Some.ensures.steps) (at.invariant.has lack)));
    }
