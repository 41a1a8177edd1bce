use Rattle.std.proofs.Common.{◌≡◌, length, List, slice_get, set, ap, ◌∙◌, subst, below_more, arith}
use Rattle.std.proofs.lemmas.{List.set-get_or, Option.get_or_from_slice_get, Option.slice_get_within}
use Rattle.mc_store.specs.{Finals.IsBehindStripes, Sides.ClassSide, Sides.StripeSide}
use Rattle.mc_store.proofs.comparing.compare_from_classes.Goals as goal

pub loop-i-preserved : goal.loop-i-preserved
loop-i-preserved c =
    let i = c.loop-i.invariant in
    let x = c.index_mut.result.now in
    let items = c.loop-i.classes.items in (
      ap (λ (y : ClassSide). set items c.loop-i.i y) (c.compare_from_class.ensures.same.0 ∙ c.index_mut.ensures.value) ∙ (set-get_or items c.loop-i.i x ∙ i.0),
      c.compare_from_class.ensures.same.1 ∙ i.1,
      below_more _ _ i.2
          (λ s e.
          let is : x ≡ s = c.index_mut.ensures.value ∙ get_or_from_slice_get items c.loop-i.i s x (ap (λ ys. slice_get ys c.loop-i.i) i.0 ∙ e) in
          subst (λ (ys : List StripeSide). IsBehindStripes s.sight ys) i.1 (subst (λ (y : ClassSide). IsBehindStripes y.sight c.loop-i.stripes.items) is c.compare_from_class.ensures.behind)),
    )

pub returns-clause-behind : goal.returns-clause-behind
returns-clause-behind c =
    λ k s e. let within = slice_get_within c.args.classes.now.items k s e in c.loop-i.invariant.2 k (omega (arith, within, ap length c.loop-i.invariant.0)) s e
