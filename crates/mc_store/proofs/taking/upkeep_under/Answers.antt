use Rattle.std.proofs.Common.{ap, inl, subst, sym, ◌∙◌}
use Rattle.mc_item.specs.declared.item.ClassNo.{ClassNo}
use Rattle.mc_segment.specs.ClassState.{ClassView}
use Rattle.mc_pull.specs.Rounds.{rounds}
use Rattle.mc_store.specs.{Calls.IsUpkeepCut, Accounts.IsOfWalk, Accounts.StillCalls, Walking.class_sight}
use Rattle.mc_store.specs.Reached.{IsSeenState}
use Rattle.mc_store.proofs.{AccountLemmas.still_both, ReachedLemmas.side_earlier, ReachedLemmas.side_later}
use Rattle.mc_store.proofs.{ShortHistoryLemmas.match_any, TakenHitLemmas.takes_all, TakenHitLemmas.takes_cut, TakenHitLemmas.upkept_till}
use Rattle.mc_store.proofs.taking.upkeep_under.Goals as goal

pub returns-clause-upkept : goal.returns-clause-upkept
returns-clause-upkept g c =
    let config = g.N.Named.config in
    let old = c.args.class.now in
    let mid = c.advance_hits.new.class in
    let new = c.juggle_under.new.class in
    upkept_till config c.args.call.turn (IsSeenState config.stripes old.sight mid.sight) (IsSeenState config.stripes mid.sight new.sight) (IsSeenState config.stripes old.sight new.sight)
    (side_later config old mid new c.juggle_under.ensures.still.sees) (side_earlier config old mid new c.advance_hits.ensures.still.sees)
    old.class mid.class new.class c.args.hands.now c.advance_hits.new.hands c.advance_hits.ensures.class c.juggle_under.ensures.class c.juggle_under.result
    c.in_ok-advance_hits.ensures.advanced c.juggle_under.ensures.juggle

pub returns-in_err-advance_hits-clause-upkept : goal.returns-in_err-advance_hits-clause-upkept
returns-in_err-advance_hits-clause-upkept g c =
    let turn = c.args.call.turn in
    match_any _ (IsUpkeepCut (IsSeenState g.N.Named.config.stripes c.args.class.now.sight c.advance_hits.new.class.sight) (rounds c.args.class.now.class turn.who turn.moment g.N.Named.config)
    c.args.hands.now c.advance_hits.new.hands c.args.class.now.class.history c.advance_hits.new.class.class.history) c.in_err-advance_hits.field-0.0
    c.from_residual.result c.from_residual.ensures.1 (λ e. inl c.in_err-advance_hits.ensures.cut)

pub returns-clause-taken : goal.returns-clause-taken
returns-clause-taken g c =
    let turn = c.args.call.turn in
    takes_all (IsSeenState g.N.Named.config.stripes c.args.class.now.sight c.advance_hits.new.class.sight) (rounds c.args.class.now.class turn.who turn.moment g.N.Named.config)
    c.args.hands.now c.advance_hits.new.hands c.args.class.now.class.history c.advance_hits.new.class.class.history c.in_ok-advance_hits.ensures.advanced

pub returns-in_err-advance_hits-clause-taken : goal.returns-in_err-advance_hits-clause-taken
returns-in_err-advance_hits-clause-taken g c =
    let turn = c.args.call.turn in
    takes_cut (IsSeenState g.N.Named.config.stripes c.args.class.now.sight c.advance_hits.new.class.sight) (rounds c.args.class.now.class turn.who turn.moment g.N.Named.config)
    c.args.hands.now c.advance_hits.new.hands c.args.class.now.class.history c.advance_hits.new.class.class.history c.in_err-advance_hits.ensures.cut

pub returns-clause-same : goal.returns-clause-same
returns-clause-same g c = c.advance_hits.ensures.same

pub juggle_under-requires-clause-caller : goal.juggle_under-requires-clause-caller
juggle_under-requires-clause-caller g c = c.requires.upkeep.number ∙ sym c.advance_hits.ensures.still.number_is

pub returns-clause-still : goal.returns-clause-still
returns-clause-still g c =
    let config = g.N.Named.config in
    let turn = c.args.call.turn.who.turn in
    still_both (IsOfWalk config c.args.class.now.class.number) turn c.args.caller.now c.advance_hits.new.caller c.juggle_under.new.caller c.advance_hits.ensures.still
    (subst
    (λ (n : ClassNo). StillCalls (IsOfWalk config n) turn (class_sight config c.advance_hits.new.class) (class_sight config c.juggle_under.new.class) c.advance_hits.new.caller c.juggle_under.new.caller)
    (ap (λ (v : ClassView). v.number) c.advance_hits.ensures.class.same) c.juggle_under.ensures.still)
