use Rattle.std.proofs.Common.{◌≡◌, ◌++◌, ◌∷◌, [], ap, ◌∙◌, length, refl, subst, sym}
use Rattle.std.specs.Prelude.{OnErr, OnOk}
use Rattle.mc_board.specs.{Histories.Grows, Histories.list_at, Views.OwnerView}
use Rattle.mc_board.proofs.PrefixLemmas.{prefix_self}
use Rattle.mc_segment.specs.{ClassCalls.limited_event, ClassState.ClassView}
use Rattle.mc_pull.specs.Growth as classes
use Rattle.mc_store.specs.{Callers.call_events, Locked.IsLockedClass, Locked.caller_place, Made.IsLimitCalled, Serving.class_side, Sides.ClassSide}
use Rattle.mc_store.proofs.LimitedClassLemmas.{limit_full, limit_made, limit_stays, locked_limited, still_limited}
use Rattle.mc_store.proofs.{LentClassLemmas.class_behind, NotedRefusalLemmas.noted_grows}
use Rattle.mc_store.proofs.OwnCallLemmas.{class_noted_by}
use Rattle.mc_store.proofs.limiting.limit_under.Goals as goal

pub catch_up_class-requires-clause-behind : goal.catch_up_class-requires-clause-behind
catch_up_class-requires-clause-behind g c =
    let made = c.set_chunks-limited in
    let raw = c.side.inside in
    class_behind raw.owner.history raw.state made.new.self c.side.invariant.0
    (noted_grows raw.state made.new.self (limited_event c.args.who c.args.chunks) made.result made.ensures.ok made.ensures.err)

pub catch_up_class-requires-clause-by : goal.catch_up_class-requires-clause-by
catch_up_class-requires-clause-by g c =
    let made = c.set_chunks-limited in
    let raw = c.side.inside in
    class_noted_by raw.state made.new.self (limited_event c.args.who c.args.chunks) raw.owner.history c.side.invariant.0 made.result made.ensures.ok made.ensures.err

pub invariant_of-class : goal.invariant_of-class
invariant_of-class g c =
    let table = g.N.Named.board.table in
    let config = g.N.Named.config in
    let made = c.set_chunks-limited in
    let raw = c.side.inside in
    let owner = c.catch_up_class.new.owner in
    let old : ClassSide = class_side raw.owner raw.seen raw.state in
    let mid : ClassSide = class_side owner raw.seen made.new.self in
    let none : Grows raw.seen.sight raw.seen.sight = record { at = λ lock. prefix_self (list_at raw.seen.sight.seen lock) } in
    let called = subst (λ (x : ClassSide). IsLimitCalled (call_events (list_at x.sight.seen (caller_place config c.args.who.caller))) x.class.number
    (record { who = c.args.who; chunks = c.args.chunks })) (sym (c.side.view_is ∙ c.class.view_is)) c.requires.called in
    locked_limited table config old mid c.args.who c.args.chunks (subst (IsLockedClass table config) (sym c.side.view_is) c.class.invariant)
    (ap (λ (o : OwnerView). o.board) c.catch_up_class.ensures.told) (ap (λ (o : OwnerView). o.lock) c.catch_up_class.ensures.told) none refl c.law.ensures.lawful
    c.requires.caller.1 called made.result made.ensures.ok made.ensures.err

pub returns-clause-made : goal.returns-clause-made
returns-clause-made g c =
    let made = c.set_chunks-limited in
    let event = limited_event c.args.who c.args.chunks in
    let of : c.side.inside.state ≡ c.args.class.now.class = ap (λ (x : ClassSide). x.class) (c.side.view_is ∙ c.class.view_is) in
    subst (λ (v : ClassView). OnOk made.result (made.new.self.history ≡ v.history ++ event ∷ [])) of
    (limit_made c.side.inside.state made.new.self event made.result made.ensures.ok)

pub returns-clause-same : goal.returns-clause-same
returns-clause-same g c =
    let config = g.N.Named.config in
    let made = c.set_chunks-limited in
    let raw = c.side.inside in
    let kept : IsLockedClass g.N.Named.board.table config (class_side raw.owner raw.seen raw.state) = subst (IsLockedClass g.N.Named.board.table config) (sym c.side.view_is) c.class.invariant in
    let of : c.side.inside.state ≡ c.args.class.now.class = ap (λ (x : ClassSide). x.class) (c.side.view_is ∙ c.class.view_is) in
    let grows = noted_grows raw.state made.new.self (limited_event c.args.who c.args.chunks) made.result made.ensures.ok made.ensures.err in (
      subst (λ (v : ClassView). classes.GainsEvents v made.new.self) of grows,
      still_limited config c.args.who.turn (class_side raw.owner raw.seen raw.state) c.args.class.now made.new.self c.args.caller.now c.catch_up_class.new.self (length raw.owner.history)
          (c.side.view_is ∙ c.class.view_is) kept.held.lock_is grows c.catch_up_class.ensures.entered,
    )

pub returns-clause-full : goal.returns-clause-full
returns-clause-full g c = λ is.
    let made = c.set_chunks-limited in
    limit_full c.side.inside.state made.new.self made.result made.ensures.refusal made.ensures.err is

pub returns-clause-stays : goal.returns-clause-stays
returns-clause-stays g c =
    let made = c.set_chunks-limited in
    let of : c.side.inside.state ≡ c.args.class.now.class = ap (λ (x : ClassSide). x.class) (c.side.view_is ∙ c.class.view_is) in
    subst (λ (v : ClassView). OnErr made.result (made.new.self.history ≡ v.history)) of (limit_stays c.side.inside.state made.new.self made.result made.ensures.err)
