use Rattle.std.proofs.Common.{◌≡◌, ◌∙◌, ◌++◌, ℕ, List, drop, false, ap, sym, subst}
use Rattle.std.specs.List.{flat_map}
use Rattle.mc_proto.specs.Lines.{LacksNext, LacksNextBehind}
use Rattle.mc_proto.proofs.NextDirectiveLemmas.{next_front, next_behind, next_both}
use Rattle.mc_proto.proofs.uncut.Uncut.lacks_next.Goals as goal

-- what comes is the rest of the piece that was reached, and the other pieces
comes : (piece slice here rest coming : List ℕ) (at : ℕ) → drop at piece ++ rest ≡ coming → slice ≡ piece → here ≡ drop at slice → coming ≡ here ++ rest
comes piece slice here rest coming at is same back = sym is ∙ ap (λ t. t ++ rest) (ap (drop at) (sym same) ∙ sym back)

pub returns-then-not-lacks_next-clause-has : goal.returns-then-not-lacks_next-clause-has
returns-then-not-lacks_next-clause-has c = λ lack.
    let u = c.self.inside in
    let rest = flat_map (λ p. p.items) c.self.inside.rest.items in
    let is = comes u.piece.items c.as_slice.result.now c.split_at.result.1.now rest c.args.self.now.coming u.at (ap (λ v. v.coming) c.self.view_is) c.as_slice.ensures.value c.split_at.ensures.back in
    let yes = c.lacks_next.ensures.has (next_front false c.split_at.result.1.now rest (subst LacksNext is lack)) in
    let no = c.if-not-lacks_next.true in
    absurd (cc)

pub returns-clause-lacks : goal.returns-clause-lacks
returns-clause-lacks c = λ yes.
    let u = c.self.inside in
    let rest = flat_map (λ p. p.items) c.self.inside.rest.items in
    let is = comes u.piece.items c.as_slice.result.now c.split_at.result.1.now rest c.args.self.now.coming u.at (ap (λ v. v.coming) c.self.view_is) c.as_slice.ensures.value c.split_at.ensures.back in
    subst LacksNext (sym is) (next_both false c.split_at.result.1.now rest (c.lacks_next.ensures.lacks c.if-not-lacks_next.false)
    (subst (λ b. LacksNextBehind b rest) c.ends_with_percent.ensures (c.pieces_lack_next.ensures.lacks yes)))

pub returns-clause-has : goal.returns-clause-has
returns-clause-has c = λ lack.
    let u = c.self.inside in
    let rest = flat_map (λ p. p.items) c.self.inside.rest.items in
    let is = comes u.piece.items c.as_slice.result.now c.split_at.result.1.now rest c.args.self.now.coming u.at (ap (λ v. v.coming) c.self.view_is) c.as_slice.ensures.value c.split_at.ensures.back in
    c.pieces_lack_next.ensures.has (subst (λ b. LacksNextBehind b rest) (sym c.ends_with_percent.ensures) (next_behind false c.split_at.result.1.now rest (subst LacksNext is lack)))
