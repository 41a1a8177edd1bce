use Rattle.std.proofs.Common.{◌≡◌, ap, ◌∙◌, arith, refl, subst, sym}
use Rattle.mc_item.specs.declared.item.ClassNo.{ClassNo}
use Rattle.std.specs.List.{Contains}
use Rattle.mc_hits.specs.Views.{HandsView, hits_at}
use Rattle.mc_segment.specs.ClassState.{ClassView}
use Rattle.mc_pull.proofs.GrowthLemmas.{grows_both, grows_itself}
use Rattle.mc_pull.specs.Rounds.{rounds}
use Rattle.mc_store.specs.{Accounts.IsOfWalk, Accounts.StillCalls, Hits.queue_of, Hits.with_taking, Reached.IsSeenState, Sides.ClassSide, Walking.class_sight}
use Rattle.mc_store.proofs.AccountLemmas.{still_both, still_none}
use Rattle.mc_store.proofs.{ReachedLemmas.side_earlier, ReachedLemmas.side_later, SeenStripeLemmas.on_err_always}
use Rattle.mc_store.proofs.TakenHitLemmas.{hands_more, so_far_cut, so_far_more, so_far_none, with_more}
use Rattle.mc_store.proofs.taking.advance_hits.Goals as goal

pub returns-in_err-advance_under-clause-cut : goal.returns-in_err-advance_under-clause-cut
returns-in_err-advance_under-clause-cut g c =
    let config = g.N.Named.config in
    let turn = c.args.call.turn in
    let first = c.args.class.now in
    let mid = c.hits.class in
    let new = c.advance_under.new.class in
    let at : c.number.result ≡ first.class.number = c.number.ensures ∙ ap (λ (x : ClassSide). x.class.number) c.side.ensures.value in
    on_err_always c.from_residual.result
    (so_far_cut (IsSeenState config.stripes first.sight mid.sight) (IsSeenState config.stripes first.sight new.sight) (side_later config first mid new c.advance_under.ensures.still.sees)
    (rounds first.class turn.who turn.moment config) c.args.hands.now c.hits.hands c.take.new.hands first.class.history mid.class.history new.class.history c.hits.counter c.hits.invariant.4 c.in-Some.hit
    (subst (λ (n : ClassNo). ¬ (Contains (hits_at c.hits.hands.takings (queue_of n)) c.in-Some.hit)) at c.in-Some.ensures.once)
    (subst (λ (n : ClassNo). c.take.new.hands ≡ with_taking c.hits.hands (queue_of n) c.in-Some.hit) at c.in-Some.ensures.taken)
    (omega (arith, c.hits-test.true)) c.in_err-advance_under.ensures.err)

pub hits-init : goal.hits-init
hits-init g c =
    let turn = c.args.call.turn in
    let class = c.args.class.now.class in (
      c.requires.upkeep.tables_are,
      refl,
      c.requires.upkeep.begun,
      grows_itself class,
      so_far_none (IsSeenState g.N.Named.config.stripes c.args.class.now.sight c.args.class.now.sight) (rounds class turn.who turn.moment g.N.Named.config) c.args.hands.now class.history,
      still_none (IsOfWalk g.N.Named.config class.number) turn.who.turn {sight = class_sight g.N.Named.config c.args.class.now} c.args.caller.now,
    )

pub hits-preserved : goal.hits-preserved
hits-preserved g c =
    let config = g.N.Named.config in
    let turn = c.args.call.turn in
    let first = c.args.class.now in
    let mid = c.hits.class in
    let new = c.advance_under.new.class in
    let i = c.hits.invariant in
    let all = rounds first.class turn.who turn.moment config in
    let Later = IsSeenState config.stripes first.sight new.sight in
    let at : c.number.result ≡ first.class.number = c.number.ensures ∙ ap (λ (x : ClassSide). x.class.number) c.side.ensures.value in (
      ap (λ (h : HandsView). h.tables) c.in-Some.ensures.taken ∙ i.0,
      hands_more c.args.hands.now c.hits.hands c.take.new.hands _ i.1 c.in-Some.ensures.taken,
      c.advance_under.ensures.begun,
      grows_both first.class mid.class new.class i.3 c.advance_under.ensures.class,
      so_far_more (IsSeenState config.stripes first.sight mid.sight) Later (side_later config first mid new c.advance_under.ensures.still.sees) all
          c.args.hands.now c.hits.hands c.take.new.hands first.class.history mid.class.history new.class.history c.hits.counter i.4 c.in-Some.hit
          (subst (λ (n : ClassNo). ¬ (Contains (hits_at c.hits.hands.takings (queue_of n)) c.in-Some.hit)) at c.in-Some.ensures.once)
          (subst (λ (n : ClassNo). c.take.new.hands ≡ with_taking c.hits.hands (queue_of n) c.in-Some.hit) at c.in-Some.ensures.taken)
          c.in_ok-advance_under.field-0
          (with_more (IsSeenState config.stripes mid.sight new.sight) Later (side_earlier config first mid new i.5.sees) (rounds mid.class turn.who turn.moment config) all
          (ap (λ (v : ClassView). rounds v turn.who turn.moment config) i.3.same) c.in-Some.hit.number mid.class.history new.class.history c.in_ok-advance_under.field-0
          c.in_ok-advance_under.ensures.advanced),
      still_both (IsOfWalk config c.args.class.now.class.number) turn.who.turn c.args.caller.now c.hits.caller c.advance_under.new.caller i.5
          (subst
          (λ (n : ClassNo). StillCalls (IsOfWalk config n) turn.who.turn (class_sight config c.hits.class) (class_sight config c.advance_under.new.class) c.hits.caller c.advance_under.new.caller)
          (ap (λ (v : ClassView). v.number) i.3.same) c.advance_under.ensures.still),
    )

pub advance_under-requires-clause-caller : goal.advance_under-requires-clause-caller
advance_under-requires-clause-caller g c = c.requires.upkeep.number ∙ sym c.hits.invariant.5.number_is

pub returns-in_err-advance_under-clause-still : goal.returns-in_err-advance_under-clause-still
returns-in_err-advance_under-clause-still g c =
    let config = g.N.Named.config in
    let turn = c.args.call.turn.who.turn in
    let i = c.hits.invariant in
    still_both (IsOfWalk config c.args.class.now.class.number) turn c.args.caller.now c.hits.caller c.advance_under.new.caller i.5
    (subst (λ (n : ClassNo). StillCalls (IsOfWalk config n) turn (class_sight config c.hits.class) (class_sight config c.advance_under.new.class) c.hits.caller c.advance_under.new.caller)
    (ap (λ (v : ClassView). v.number) i.3.same) c.advance_under.ensures.still)

pub returns-in_err-advance_under-clause-same : goal.returns-in_err-advance_under-clause-same
returns-in_err-advance_under-clause-same g c = hands_more c.args.hands.now c.hits.hands c.take.new.hands _ c.hits.invariant.1 c.in-Some.ensures.taken
