use Rattle.std.proofs.Common.{rules, ◌≡◌, ap, ◌∙◌, subst, sym, false}
use Rattle.std.specs.Prelude.{MatchResult}
use Rattle.mc_item.specs.declared.{config.Config.Config}
use Rattle.mc_segment.specs.ClassState.{ClassView}
use Rattle.mc_board.specs.declared.rule.Sight.{Sight}
use Rattle.mc_pull.specs.Rounds.{rounds}
use Rattle.mc_store.specs.{Callers.juggling_of, Calls.IsJuggleCut, Calls.IsJuggledWith, Reached.IsSeenState, Locked.HasBegunAs, Locked.IsLockedClass, Serving.class_side, Sides.ClassSide}
use Rattle.mc_store.proofs.{CallerLemmas.begun_as_sees, GateLemmas.still_under, OwnEventLemmas.locked_gains, OwnEventLemmas.of_juggling, OwnEventLemmas.suits_own}
use Rattle.mc_store.proofs.OwnCallLemmas.{may_try_whole}
use Rattle.mc_store.proofs.walking.juggle_under.Goals as goal

pub returns-clause-juggle : goal.returns-clause-juggle
returns-clause-juggle g c =
    let of : c.side.inside.state ≡ c.args.class.now.class = ap (λ (x : ClassSide). x.class) (c.side.view_is ∙ c.class.view_is) in
    let with : c.store.inside.config ≡ g.N.Named.config = c.store.invariant.1 in
    let turn = c.args.call.turn in
    let after = c.juggle.new.class.history in
    let seen : c.side.inside.seen.sight ≡ c.args.class.now.sight = ap (λ (x : ClassSide). x.sight) (c.side.view_is ∙ c.class.view_is) in
    let P : ClassView → Config → Sight → Type 0 = λ v config sight.
    let States = IsSeenState g.N.Named.config.stripes sight c.juggle.new.self.seen.now.sight in
    MatchResult c.juggle.result (IsJuggledWith States (rounds v turn.who turn.moment config) v.history after)
    (λ fault. IsJuggleCut States (rounds v turn.who turn.moment config) fault v.history after) in
    subst (P c.args.class.now.class g.N.Named.config) seen
    (subst (λ (v : ClassView). P v g.N.Named.config c.side.inside.seen.sight) of (subst (λ (k : Config). P c.side.inside.state k c.side.inside.seen.sight) with c.juggle.ensures.juggle))

pub juggle-requires : goal.juggle-requires
juggle-requires g c =
    let config = g.N.Named.config in
    let turn = c.args.call.turn in
    let side = c.side.inside in
    let kept = subst (IsLockedClass g.N.Named.board.table config) (sym c.side.view_is) c.class.invariant in
    let begun = subst (λ (x : ClassSide). HasBegunAs config x.sight turn.who turn.moment (juggling_of x.class.number turn.moment)) (sym (c.side.view_is ∙ c.class.view_is)) c.requires.begun in
    record {
      gate = may_try_whole g.N.Named.board.table config _ c.args.caller.now side.owner side.seen side.state (juggling_of side.state.number turn.moment) c.store.invariant.1 kept
          c.side.invariant.0 c.side.invariant.1 begun c.requires.caller;
    }

pub invariant_of-class : goal.invariant_of-class
invariant_of-class g c =
    let table = g.N.Named.board.table in
    let config = g.N.Named.config in
    let turn = c.args.call.turn in
    let made = c.juggle in
    let old : ClassSide = class_side c.side.inside.owner c.side.inside.seen c.side.inside.state in
    let new : ClassSide = class_side made.new.self.owner.now made.new.self.seen.now made.new.class in
    let call = juggling_of old.class.number turn.moment in
    let begun = subst (λ (x : ClassSide). HasBegunAs config x.sight turn.who turn.moment (juggling_of x.class.number turn.moment)) (sym (c.side.view_is ∙ c.class.view_is)) c.requires.begun in
    locked_gains table config old new turn.who turn.moment call (subst (IsLockedClass table config) (sym c.side.view_is) c.class.invariant)
    made.ensures.left.served.kept (ap (λ (v : ClassView). v.number) made.ensures.gains.grows.same)
    (begun_as_sees config old.sight new.sight turn.who turn.moment call made.ensures.left.walked.sees begun) made.ensures.left.walked.sees made.ensures.left.walked.gains
    (of_juggling old.class.number made.ensures.left.walked.gains.events turn.moment
    (suits_own false turn.who turn.moment c.side.inside.state made.new.class made.ensures.left.walked.gains made.ensures.gains))

pub returns-clause-still : goal.returns-clause-still
returns-clause-still g c =
    let made = c.juggle in
    let old : ClassSide = class_side c.side.inside.owner c.side.inside.seen c.side.inside.state in
    let new : ClassSide = class_side made.new.self.owner.now made.new.self.seen.now made.new.class in
    let still =
    still_under g.N.Named.config c.args.call.turn.who.turn old new c.args.class.now c.args.caller.now made.new.self.caller.now (c.side.view_is ∙ c.class.view_is)
    (ap (λ (v : ClassView). v.number) made.ensures.gains.grows.same) made.ensures.still in
    search (rules, still)
