use Rattle.std.proofs.Common.{◌≡◌, length, slice_get, set, ap, ◌∙◌, subst, sym, below_more, arith}
use Rattle.std.proofs.lemmas.{List.set-get_or, Option.get_or_from_slice_get, Option.slice_get_within}
use Rattle.mc_store.specs.{Finals.AreClasses, Finals.AreStripes, Finals.FinalView, Passes.PassView}
use Rattle.mc_driver.specs.Called.{IsCompared}
use Rattle.mc_driver.proofs.running.compare_all.Goals as goal

pub loop-i-preserved : goal.loop-i-preserved
loop-i-preserved g c =
    let config = g.N.Named.config in
    let table = g.N.Named.board.table in
    let i = c.loop-i.invariant in
    let x = c.index_mut.result.now in
    let items = c.loop-i.passes.items in (
      c.compare.ensures.same.0 ∙ i.0,
      ap (λ (y : PassView). set items c.loop-i.i y) (c.compare.ensures.same.1 ∙ c.index_mut.ensures.value) ∙ (set-get_or items c.loop-i.i x ∙ i.1),
      below_more _ _ i.2
          (λ p e.
          let is : x ≡ p = c.index_mut.ensures.value ∙ get_or_from_slice_get items c.loop-i.i p x (ap (λ ys. slice_get ys c.loop-i.i) i.1 ∙ e) in
          let stripes = subst (λ (f : FinalView). AreStripes table config f.stripes) (sym i.0) c.requires.stripes in
          let classes = subst (λ (f : FinalView). AreClasses table config f.classes) (sym i.0) c.requires.classes in
          let compared : IsCompared x c.loop-i.ledger =
          record {
            stripes = c.compare.ensures.stripes;
            classes = c.compare.ensures.classes;
            own = c.compare.ensures.own stripes;
            own_in_classes = c.compare.ensures.own_in_classes classes;
            account = c.compare.ensures.account;
          } in
          subst (λ (f : FinalView). IsCompared p f) i.0 (subst (λ (v : PassView). IsCompared v c.loop-i.ledger) is compared)),
    )

pub returns-clause-compared : goal.returns-clause-compared
returns-clause-compared g c =
    λ k p e. let within = slice_get_within c.args.passes.now.items k p e in c.loop-i.invariant.2 k (omega (arith, within, ap length c.loop-i.invariant.1)) p e
