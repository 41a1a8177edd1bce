use Rattle.std.proofs.Common.{rules, ap, ◌∙◌, subst, sym, false}
use Rattle.mc_item.specs.declared.item.ClassNo.{ClassNo}
use Rattle.mc_segment.specs.ClassState.{ClassView}
use Rattle.mc_store.specs.{Callers.juggling_of, Locked.HasBegunAs, Locked.IsLockedClass, Serving.class_side, Sides.ClassSide}
use Rattle.mc_store.proofs.{CallerLemmas.begun_as_sees, GateLemmas.still_under, OwnEventLemmas.locked_gains, OwnEventLemmas.of_juggling, OwnEventLemmas.suits_own}
use Rattle.mc_store.proofs.OwnCallLemmas.{may_try_whole}
use Rattle.mc_store.proofs.taking.advance_under.Goals as goal

pub advance-requires : goal.advance-requires
advance-requires g c =
    let config = g.N.Named.config in
    let turn = c.args.call.turn in
    let side = c.side.inside in
    let kept = subst (IsLockedClass g.N.Named.board.table config) (sym c.side.view_is) c.class.invariant in
    let begun = subst (λ (x : ClassSide). HasBegunAs config x.sight turn.who turn.moment (juggling_of x.class.number turn.moment)) (sym (c.side.view_is ∙ c.class.view_is)) c.requires.begun in
    record {
      gate = may_try_whole g.N.Named.board.table config _ c.args.caller.now side.owner side.seen side.state (juggling_of side.state.number turn.moment) c.store.invariant.1 kept
          c.side.invariant.0 c.side.invariant.1 begun c.requires.caller;
    }

pub invariant_of-class : goal.invariant_of-class
invariant_of-class g c =
    let table = g.N.Named.board.table in
    let config = g.N.Named.config in
    let turn = c.args.call.turn in
    let made = c.advance in
    let old : ClassSide = class_side c.side.inside.owner c.side.inside.seen c.side.inside.state in
    let new : ClassSide = class_side made.new.self.owner.now made.new.self.seen.now made.new.class in
    let call = juggling_of old.class.number turn.moment in
    let begun = subst (λ (x : ClassSide). HasBegunAs config x.sight turn.who turn.moment (juggling_of x.class.number turn.moment)) (sym (c.side.view_is ∙ c.class.view_is)) c.requires.begun in
    locked_gains table config old new turn.who turn.moment call (subst (IsLockedClass table config) (sym c.side.view_is) c.class.invariant)
    made.ensures.left.served.kept (ap (λ (v : ClassView). v.number) made.ensures.gains.grows.same)
    (begun_as_sees config old.sight new.sight turn.who turn.moment call made.ensures.left.walked.sees begun) made.ensures.left.walked.sees made.ensures.left.walked.gains
    (of_juggling old.class.number made.ensures.left.walked.gains.events turn.moment
    (suits_own false turn.who turn.moment c.side.inside.state made.new.class made.ensures.left.walked.gains made.ensures.gains))

pub returns-clause-begun : goal.returns-clause-begun
returns-clause-begun g c =
    let config = g.N.Named.config in
    let turn = c.args.call.turn in
    let made = c.advance in
    let old : ClassSide = class_side c.side.inside.owner c.side.inside.seen c.side.inside.state in
    let begun = subst (λ (x : ClassSide). HasBegunAs config x.sight turn.who turn.moment (juggling_of x.class.number turn.moment)) (sym (c.side.view_is ∙ c.class.view_is)) c.requires.begun in
    subst (λ (n : ClassNo). HasBegunAs config made.new.self.seen.now.sight turn.who turn.moment (juggling_of n turn.moment)) (sym (ap (λ (v : ClassView). v.number) made.ensures.gains.grows.same))
    (begun_as_sees config old.sight made.new.self.seen.now.sight turn.who turn.moment (juggling_of old.class.number turn.moment) made.ensures.left.walked.sees begun)

pub returns-clause-still : goal.returns-clause-still
returns-clause-still g c =
    let made = c.advance in
    let old : ClassSide = class_side c.side.inside.owner c.side.inside.seen c.side.inside.state in
    let new : ClassSide = class_side made.new.self.owner.now made.new.self.seen.now made.new.class in
    let still =
    still_under g.N.Named.config c.args.call.turn.who.turn old new c.args.class.now c.args.caller.now made.new.self.caller.now (c.side.view_is ∙ c.class.view_is)
    (ap (λ (v : ClassView). v.number) made.ensures.gains.grows.same) made.ensures.still in
    search (rules, still)
