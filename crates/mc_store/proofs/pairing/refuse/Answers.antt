use Rattle.std.specs.Prelude.{IfOk, OnOk}
use Rattle.std.proofs.Common.{◌≡◌, ◌≤◌, ◌∙◌, List, ap, arith, length, refl, sym, subst}
use Rattle.mc_item.specs.declared.{event.Event.Event, event.Event.TheVariants.Class}
use Rattle.mc_board.specs.{Histories.Grows, Histories.list_at, Views.OwnerView}
use Rattle.mc_board.proofs.PrefixLemmas.{prefix_self}
use Rattle.mc_segment.specs.{ClassCalls.Makes, ClassCalls.refused_event, ClassState.ClassView}
use Rattle.mc_store.specs.{Accounts.IsClassLock, Accounts.stretch_of, Locked.HasBegunSearch, Locked.IsLockedClass, Locked.IsLockedStripe, Locked.class_lock}
use Rattle.mc_store.specs.{Serving.class_side, Sides.ClassSide, Sides.StripeSide, Sides.stripe_sight}
use Rattle.mc_store.proofs.{AccountLemmas.still_walked, EnteredLemmas.heard_long, EnteredLemmas.heard_more, EnteredLemmas.is_class_lock, EnteredLemmas.lock_apart, LockKeepsLemmas.stripe_sees}
use Rattle.mc_store.proofs.{CallerLemmas.search_sees, OwnEventLemmas.gains_refused, OwnEventLemmas.locked_told, LentClassLemmas.class_behind, NotedRefusalLemmas.noted_grows}
use Rattle.mc_store.proofs.{NotedRefusalLemmas.refused_after, NotedRefusalLemmas.refused_heard, NotedRefusalLemmas.refused_seen, OwnCallLemmas.class_noted_by, ShortHistoryLemmas.if_ok_both, SyncedStepLemmas.map_length}
use Rattle.mc_store.proofs.pairing.refuse.Goals as goal

pub catch_up_class-requires-clause-behind : goal.catch_up_class-requires-clause-behind
catch_up_class-requires-clause-behind g c =
    let raw = c.lent-inside.inside.0.0 in
    class_behind raw.owner.history raw.state c.refuse-place.new.self c.lent-inside.invariant.0
    (noted_grows raw.state c.refuse-place.new.self (refused_event c.args.who) c.refuse-place.result c.refuse-place.ensures.ok c.refuse-place.ensures.err)

pub catch_up_class-requires-clause-by : goal.catch_up_class-requires-clause-by
catch_up_class-requires-clause-by g c =
    let raw = c.lent-inside.inside.0.0 in
    class_noted_by raw.state c.refuse-place.new.self (refused_event c.args.who) raw.owner.history c.lent-inside.invariant.0
    c.refuse-place.result c.refuse-place.ensures.ok c.refuse-place.ensures.err

pub catch_up_class-requires-clause-caller : goal.catch_up_class-requires-clause-caller
catch_up_class-requires-clause-caller g c = c.requires.begun.1

pub invariant_of-lent : goal.invariant_of-lent
invariant_of-lent g c =
    let table = g.N.Named.board.table in
    let config = g.N.Named.config in
    let raw = c.lent-inside.inside.0.0 in
    let owner = c.catch_up_class.new.owner in
    let old : ClassSide = class_side raw.owner raw.seen raw.state in
    let mid : ClassSide = class_side owner raw.seen c.refuse-place.new.self in
    let kept = subst (IsLockedClass table config) (sym (ap (λ i. i.side) c.lent-inside.view_is)) c.lent.invariant in
    let none : Grows raw.seen.sight raw.seen.sight = record { at = λ lock. prefix_self (list_at raw.seen.sight.seen lock) } in
    let held = refused_after table config old mid c.args.who kept.held
    (ap (λ (o : OwnerView). o.board) c.catch_up_class.ensures.told) (ap (λ (o : OwnerView). o.lock) c.catch_up_class.ensures.told) none c.law.ensures.lawful
    c.refuse-place.result c.refuse-place.ensures.ok c.refuse-place.ensures.err in
    let moment = c.requires.begun.0.0 in
    let begun = search_sees config c.own.inside.side.sight c.learn.new.self.sight c.args.who moment c.learn.ensures.learnt
    (subst (λ (x : StripeSide). HasBegunSearch config x.sight c.args.who moment) (sym c.own.view_is) c.requires.begun.0.1) in
    subst (IsLockedClass table config) (sym c.hear.ensures.class)
    (locked_told table config old mid mid c.learn.new.self c.args.who moment kept (record { command = begun.command; begun = begun.begun })
    (gains_refused begun.command begun.needs raw.state c.refuse-place.new.self c.args.who moment c.refuse-place.result c.refuse-place.ensures.ok c.refuse-place.ensures.err)
    (ap (λ (v : ClassView). v.number) (noted_grows raw.state c.refuse-place.new.self (refused_event c.args.who) c.refuse-place.result c.refuse-place.ensures.ok
    c.refuse-place.ensures.err).same) refl refl none held c.learn.ensures.class c.learn.ensures.grows)

pub invariant_of-own : goal.invariant_of-own
invariant_of-own g c =
    let own = c.own.inside.side in
    let heard = c.hear.new.self in
    let told = refused_heard own c.learn.new.stripe heard _ c.learn.ensures.stripe c.hear.ensures.told c.hear.ensures.grows in
    subst (IsLockedStripe g.N.Named.board.table g.N.Named.config) (sym told.0) (stripe_sees g.N.Named.board.table g.N.Named.config own heard.sight told.1 c.own.invariant)

pub returns-clause-refused : goal.returns-clause-refused
returns-clause-refused g c =
    let r = c.refuse-place.result in
    let raw = c.lent-inside.inside.0.0 in
    let event = refused_event c.args.who in
    let was : raw.state ≡ c.args.lent.now.class = ap (λ (x : ClassSide). x.class) (ap (λ i. i.side) c.lent-inside.view_is ∙ c.lent.view_is) in
    let now : c.hear.new.class.class ≡ c.refuse-place.new.self = ap (λ (x : ClassSide). x.class) (c.hear.ensures.class ∙ c.learn.ensures.class) in
    let place = subst (λ (v : ClassView). IfOk r (λ place. place ≡ length v.history)) was c.refuse-place.ensures.place in
    let makes = subst (λ (v : ClassView). OnOk r (Makes v c.hear.new.class.class event)) was (subst (λ (v : ClassView). OnOk r (Makes raw.state v event)) (sym now) c.refuse-place.ensures.ok) in
    if_ok_both r _ _ place makes

pub returns-clause-own : goal.returns-clause-own
returns-clause-own g c =
    let config = g.N.Named.config in
    let raw = c.lent-inside.inside.0.0 in
    let heard = c.hear.new.self in
    let lent_is = ap (λ i. i.side) c.lent-inside.view_is in
    let kept : IsLockedClass g.N.Named.board.table config (class_side raw.owner raw.seen raw.state) = subst (IsLockedClass g.N.Named.board.table config) (sym lent_is) c.lent.invariant in
    let lock = ap (λ (x : ClassSide). x.lock) c.learn.ensures.class ∙ ap (λ (o : OwnerView). o.lock) c.catch_up_class.ensures.told in
    let met = subst (λ (x : StripeSide). (heard ≡ record x { sight = heard.sight }) × Grows x.sight heard.sight) c.own.view_is
    (refused_heard c.own.inside.side c.learn.new.stripe heard _ c.learn.ensures.stripe c.hear.ensures.told c.hear.ensures.grows) in (
      met.0,
      met.1,
      refused_seen config c.args.lent.now.class.number c.learn.new.stripe heard c.learn.new.self c.hear.new.class c.hear.ensures.told c.hear.ensures.class
          (lock ∙ (kept.held.lock_is ∙ ap (λ (x : ClassSide). class_lock config x.class.number) (lent_is ∙ c.lent.view_is))),
    )

pub returns-clause-still : goal.returns-clause-still
returns-clause-still g c =
    let table = g.N.Named.board.table in
    let config = g.N.Named.config in
    let raw = c.lent-inside.inside.0.0 in
    let own = c.own.inside.side in
    let heard = c.hear.new.self in
    let made = c.refuse-place.new.self.history in
    let lent_is = ap (λ i. i.side) c.lent-inside.view_is in
    let kept : IsLockedClass table config (class_side raw.owner raw.seen raw.state) = subst (IsLockedClass table config) (sym lent_is) c.lent.invariant in
    let of = subst (IsClassLock config) (sym kept.held.lock_is) (is_class_lock config raw.state.number kept.held.is) in
    let apart = lock_apart config raw.owner.lock c.learn.new.stripe.lock own.stripe.site.stripe of (ap (λ (x : StripeSide). x.lock) c.learn.ensures.stripe ∙ c.own.invariant.lock_is) c.own.invariant.of in
    let lock = ap (λ (x : ClassSide). x.lock) c.learn.ensures.class ∙ ap (λ (o : OwnerView). o.lock) c.catch_up_class.ensures.told in
    let long = heard_long c.learn.new.stripe heard c.learn.new.self raw.owner.lock made c.hear.ensures.told lock (ap (λ (x : ClassSide). x.class.history) c.learn.ensures.class) apart in
    let told = refused_heard own c.learn.new.stripe heard _ c.learn.ensures.stripe c.hear.ensures.told c.hear.ensures.grows in
    let grows = subst (λ (x : StripeSide). Grows (stripe_sight x) (stripe_sight heard)) c.own.view_is (heard_more own heard told.0 told.1) in
    let was = c.args.lent.now.class in
    let now = c.hear.new.class.class in
    let first : length raw.owner.history ≡ length was.history =
    ap (λ (l : List Event). length l) c.lent-inside.invariant.0 ∙ (map_length Class raw.state.history ∙ ap (λ (x : ClassSide). length x.class.history) (lent_is ∙ c.lent.view_is)) in
    let last : length now.history ≡ length made = ap (λ (x : ClassSide). length x.class.history) (c.hear.ensures.class ∙ c.learn.ensures.class) in
    let low : length was.history ≤ length raw.owner.history = omega (arith, first) in
    let high : length made ≤ length now.history = omega (arith, last) in
    still_walked config was.number (stretch_of was now) c.args.caller.now c.catch_up_class.new.self c.args.who.turn raw.owner.lock (length raw.owner.history) (length made)
    c.catch_up_class.ensures.entered grows long (kept.held.lock_is ∙ ap (λ (x : ClassSide). class_lock config x.class.number) (lent_is ∙ c.lent.view_is)) (low, high)
