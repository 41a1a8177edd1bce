use Rattle.std.proofs.Common.{◌≡◌, length, slice_get, set, ap, ◌∙◌, subst, below_more, arith}
use Rattle.std.proofs.lemmas.{List.set-get_or, Option.get_or_from_slice_get, Option.slice_get_within}
use Rattle.mc_board.specs.Histories.{HasSeen}
use Rattle.mc_store.specs.{Callers.calls_told, Finals.AreEntered, Locked.caller_place, Passes.CallerView, Sides.ClassSide, Sides.class_told}
use Rattle.mc_store.proofs.comparing.compare_class_calls.Goals as goal

pub loop-i-preserved : goal.loop-i-preserved
loop-i-preserved g c =
    let config = g.N.Named.config in
    let i = c.loop-i.invariant in
    let x = c.index_mut.result.now in
    let items = c.loop-i.classes.items in (
      ap (λ (y : ClassSide). set items c.loop-i.i y) (c.compare_class_call.ensures.same.0 ∙ c.index_mut.ensures.value) ∙ (set-get_or items c.loop-i.i x ∙ i.0),
      c.compare_class_call.ensures.same.1 ∙ i.1,
      below_more _ _ i.2
          (λ s e.
          let is : x ≡ s = c.index_mut.ensures.value ∙ get_or_from_slice_get items c.loop-i.i s x (ap (λ ys. slice_get ys c.loop-i.i) i.0 ∙ e) in
          let before = c.loop-i.caller in
          subst (λ (v : CallerView). HasSeen (calls_told v.calls) s.sight (caller_place config v.number) × AreEntered v s.lock (class_told s.class.history)) i.1
          (subst (λ (y : ClassSide). HasSeen (calls_told before.calls) y.sight (caller_place config before.number) × AreEntered before y.lock (class_told y.class.history)) is
          (c.compare_class_call.ensures.behind, c.compare_class_call.ensures.entered))),
    )

pub returns-clause-behind : goal.returns-clause-behind
returns-clause-behind g c =
    λ k s e. let within = slice_get_within c.args.classes.now.items k s e in (c.loop-i.invariant.2 k (omega (arith, within, ap length c.loop-i.invariant.0)) s e).0

pub returns-clause-entered : goal.returns-clause-entered
returns-clause-entered g c =
    λ k s e. let within = slice_get_within c.args.classes.now.items k s e in (c.loop-i.invariant.2 k (omega (arith, within, ap length c.loop-i.invariant.0)) s e).1
