use Rattle.std.proofs.Common.{◌≡◌, ◌<◌, ◌∷◌, ℕ, List, [], length, drop, zero, suc, true, refl, subst, sym, ap, ◌∙◌, arith}
use Rattle.mc_proto.specs.Lines.{LacksNextBehind}
use Rattle.mc_proto.proofs.NextDirectiveLemmas.{next_first, next_skip, next_left, next_none}
use Rattle.mc_proto.proofs.lacking.lacks_next.Goals as goal

one_more : (n : ℕ) (xs : List ℕ) → drop 1 (drop n xs) ≡ drop (suc n) xs
one_more zero xs = refl
one_more (suc n) [] = refl
one_more (suc n) (x ∷ xs) = one_more n xs

pub returns-then-is_next-clause-has : goal.returns-then-is_next-clause-has
returns-then-is_next-clause-has c = λ lack.
    let at = c.loop-rest in
    let yes = c.is_next.ensures.yes c.if-is_next.true in
    absurd (next_first at.behind at.rest.now (at.invariant.has lack) yes.0 yes.1)

pub returns-in_default-clause-lacks : goal.returns-in_default-clause-lacks
returns-in_default-clause-lacks c = λ _.
    let at = c.loop-rest in
    at.invariant.lacks (next_none at.behind at.rest.now (λ k l. c.in_default.ensures k (omega arith) l) (c.is_next.ensures.no c.if-is_next.false))

pub loop-rest-preserved : goal.loop-rest-preserved
loop-rest-preserved c =
    let at = c.loop-rest in
    let found = c.in-Some.ensures in
    let high : c.in-Some.at < length c.loop-rest.rest.now = found.0.high in
    let back : c.split_at-in-loop-rest.result.1.now ≡ drop (suc c.in-Some.at) c.loop-rest.rest.now = c.split_at-in-loop-rest.ensures.back
    ∙ ap (drop 1) c.split_at.ensures.back ∙ one_more c.in-Some.at c.loop-rest.rest.now in
    record {
      lacks = λ lack. at.invariant.lacks (next_skip at.behind at.rest.now c.in-Some.at (λ k l. found.0.before k (omega arith) l) high found.1
          (c.is_next.ensures.no c.if-is_next.false) (subst (LacksNextBehind true) back lack));
      has = λ lack. subst (LacksNextBehind true) (sym back) (next_left at.behind at.rest.now c.in-Some.at high found.1 (at.invariant.has lack));
    }
