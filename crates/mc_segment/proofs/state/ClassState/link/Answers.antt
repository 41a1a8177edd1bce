use Rattle.std.proofs.Common.{◌+◌, ◌∙◌, refl, ap, arith, rules}
use Rattle.mc_item.specs.declared.class_event.ClassEvent.{ClassEvent}
use Rattle.mc_item.specs.declared.class_event.ClassEvent.TheVariants as events
use Rattle.mc_rule.specs.Lists.{Lists, linked, entry}
use Rattle.mc_segment.specs.ClassState.{ClassView, HasPlaces}
use Rattle.mc_segment.proofs.StateLemmas.{keeps, seen_lists, seen_next, seen_fresh, entries_linked-le, not_to_come}
use Rattle.mc_segment.proofs.state.ClassState.link.Goals as goal

pub push-requires-clause-limit : goal.push-requires-clause-limit
push-requires-clause-limit c =
    let v = c.args.self.now in
    let place : HasPlaces v 1 = search rules in
    omega (arith, c.reserve-2.ensures.same, seen_next _ _ _ _ _ _ _ _ _ c.self.invariant c.self.view_is, entries_linked-le v.history, place, c.self.invariant.limit, ap (λ (x : ClassView). x.max_events) c.self.view_is)

pub invariant_of-self-2 : goal.invariant_of-self-2
invariant_of-self-2 c =
    let a = c.args in
    let n = c.next-number.result in
    let s = c.segment_for-seg.result in
    let place : HasPlaces a.self.now 1 = search rules in
    let same = c.reserve-2.ensures.same in
    let seen = seen_lists _ _ _ _ _ _ _ _ _ c.self.invariant c.self.view_is in
    let e : ClassEvent = events.Linked (record { who = a.who; number = n; key = a.key.key; cost = a.cost; seg = s; moment = a.moment }) in
    keeps _ _ _ _ _ _ _ _ _ c.self.invariant c.self.view_is c.push.new.self _ _ e (search rules)
    (c.push.ensures.lists ∙ ap (λ (l : Lists). linked s (entry n a.key.key a.cost a.moment) l) (same.0 ∙ seen))
    (omega (arith, same, c.push.ensures.room)) refl place
    (λ q below. not_to_come n (n + 1) q (omega arith) (omega (arith, same, c.push.ensures.room, c.next-number.ensures, below)))
    (c.requires.free, seen_fresh _ _ _ _ _ _ _ _ _ c.self.invariant c.self.view_is n (omega (arith, same, c.next-number.ensures)))
