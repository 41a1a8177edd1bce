use Rattle.std.proofs.Common.{◌≤◌, ◌∙◌, refl, ap, subst, rules, arith}
use Rattle.mc_item.specs.declared.class_event.ClassEvent.TheVariants as events
use Rattle.mc_rule.specs.Lists.{Lists, moved, segment_of, times_in}
use Rattle.mc_segment.specs.ClassState.{HasPlaces}
use Rattle.mc_segment.proofs.{StateLemmas.keeps, StateLemmas.seen_lists, StateLemmas.not_to_come, ListOfNumberLemmas.segment_is}
use Rattle.mc_segment.proofs.state.ClassState.shift.Goals as goal

pub move_to-requires : goal.move_to-requires
move_to-requires c =
    let e = c.args.shifted in
    let seen = seen_lists _ _ _ _ _ _ _ _ _ c.self.invariant c.self.view_is in
    let once = subst (λ (l : Lists). times_in e.number l ≤ 1) seen (c.law.ensures.once e.number) in
    record { there = ap (segment_of e.number) seen ∙ segment_is _ e.number e.from_seg c.requires.0 once }

pub invariant_of-self-2 : goal.invariant_of-self-2
invariant_of-self-2 c =
    let e = c.args.shifted in
    let now = c.move_to in
    let place : HasPlaces c.args.self.now 1 = search rules in
    keeps _ _ _ _ _ _ _ _ _ c.self.invariant c.self.view_is now.new.self _ _ (events.Shifted e) (search rules)
    (now.ensures.lists ∙ ap (moved e.number e.from_seg e.to_seg e.why e.moment) (seen_lists _ _ _ _ _ _ _ _ _ c.self.invariant c.self.view_is))
    (omega (arith, now.ensures.same)) refl place
    (λ q below. not_to_come e.number c.self.inside.lists.next q now.ensures.inside (omega (arith, now.ensures.same, below)))
    c.requires
