use Rattle.std.proofs.Common.{◌≡◌, ◌<◌, ◌≤◌, ◌==◌, None, ap, ◌∙◌, sym, subst, arith, ℕ}
use Rattle.std.specs.Prelude.{if◌then◌else◌}
use Rattle.mc_rule.specs.Lists.{count_of, found, unlinked}
use Rattle.mc_segment.specs.declared.{ends.Ends.Ends, ends.Heads.Heads}
use Rattle.mc_segment.specs.Slots.{slot, place_newer, place_older}
use Rattle.mc_segment.specs.Arena.{Held, IsArena, ends_of, with_ends, taken_ends, all_bytes}
use Rattle.mc_segment.proofs.{OneListLemmas.named, OneListLemmas.emptied, OneListLemmas.none_slot, SlotLemmas.has_place}
use Rattle.mc_segment.proofs.ArenaLemmas.{slot_below, seen, closed, whole, same_slots, take_arena, taken_sums, number_is, length_is, cost_fits, found_is, unlinked_none, find_here, unlinked_is}
use Rattle.mc_segment.proofs.arena.Arena.take.Goals as goal

kept : (c : goal.After-from_residual) → IsArena (slot c.empty.new.slots) c.self.inside.next c.self.inside.heads c.args.self.now.lists
kept c = same_slots _ _ _ _ (seen c.self.inside.slots _ _ _ c.self.view_is c.self.invariant) (slot c.empty.new.slots) (λ q. c.empty.ensures.slots q
    ∙ none_slot c.args.number q (slot c.self.inside.slots) (sym c.in_err-place.ensures.place))

pub invariant_of-self : goal.invariant_of-self
invariant_of-self c = closed _ _ _ _ (kept c)

none : (c : goal.After-from_residual) → found c.args.number c.args.self.now.lists ≡ None
none c = found_is _ _ _ _ (seen c.self.inside.slots _ _ _ c.self.view_is c.self.invariant) c.args.number ∙ ap named (sym c.in_err-place.ensures.place)

pub returns-in_err-place-clause-entry : goal.returns-in_err-place-clause-entry
returns-in_err-place-clause-entry c = c.from_residual.ensures ∙ sym (none c)

pub returns-in_err-place-clause-lists : goal.returns-in_err-place-clause-lists
returns-in_err-place-clause-lists c = whole _ _ _ _ (kept c) ∙ (unlinked_none _ _ _ _ (seen c.self.inside.slots _ _ _ c.self.view_is c.self.invariant) c.args.number (sym c.in_err-place.ensures.place))

pub returns-in_err-place-clause-gone : goal.returns-in_err-place-clause-gone
returns-in_err-place-clause-gone c = ap (found c.args.number) (whole _ _ _ _ (kept c)) ∙ none c

pub taken-requires : goal.taken-requires
taken-requires c =
    let a = seen c.self.inside.slots _ _ _ c.self.view_is c.self.invariant in
    let is = sym c.in_ok-place.ensures.place in
    subst (λ (x : Ends). (0 < x.count) × (c.in_ok-place.place.node.entry.cost ≤ x.bytes)) (sym c.of-ends.ensures) (length_is _ _ _ _ a c.args.number _ is, cost_fits _ _ _ _ a c.args.number _ is)

relinked : (c : goal.After-set) → (q : ℕ) → slot c.set_newer.new.slots q
    ≡ place_newer c.in_ok-place.place.node.older c.in_ok-place.place.node.newer q
    (place_older c.in_ok-place.place.node.newer c.in_ok-place.place.node.older q (if c.args.number == q then None else slot c.self.inside.slots q))
relinked c = λ q.
    let x = c.in_ok-place.place.node in
    c.set_newer.ensures.slots q ∙ ap (place_newer x.older x.newer q) (c.set_older.ensures.slots q ∙ ap (place_older x.newer x.older q) (c.empty.ensures.slots q))

took : (c : goal.After-set) → IsArena (slot c.set_newer.new.slots) c.self.inside.next c.set.new.self (unlinked c.args.number c.args.self.now.lists)
took c =
    let h = c.self.inside.heads in
    let p = c.in_ok-place.place in
    let x = p.node in
    let a = seen c.self.inside.slots _ _ _ c.self.view_is c.self.invariant in
    let heads : c.set.new.self ≡ with_ends h p.seg (taken_ends (ends_of h p.seg) x.newer x.older x.entry.cost) = c.set.ensures
    ∙ ap (with_ends h p.seg) (c.taken.ensures ∙ ap (λ (y : Ends). taken_ends y x.newer x.older x.entry.cost) c.of-ends.ensures) in
    subst (λ (v : Heads). IsArena (slot c.set_newer.new.slots) c.self.inside.next v (unlinked c.args.number c.args.self.now.lists)) (sym heads)
    (take_arena _ _ h _ a c.args.number p (sym c.in_ok-place.ensures.place) (slot c.set_newer.new.slots) (relinked c))

pub invariant_of-self-2 : goal.invariant_of-self-2
invariant_of-self-2 c = closed _ _ _ _ (took c)

pub returns-clause-entry : goal.returns-clause-entry
returns-clause-entry c = ap named c.in_ok-place.ensures.place ∙ sym (found_is _ _ _ _ (seen c.self.inside.slots _ _ _ c.self.view_is c.self.invariant) c.args.number)

pub returns-clause-lists : goal.returns-clause-lists
returns-clause-lists c = whole _ _ _ _ (took c)

pub returns-clause-gone : goal.returns-clause-gone
returns-clause-gone c =
    ap (found c.args.number) (whole _ _ _ _ (took c)) ∙ (found_is _ _ _ _ (took c) c.args.number ∙ ap named (emptied c.args.number _ _ _ _ (relinked c c.args.number)))

pub returns-clause-taken : goal.returns-clause-taken
returns-clause-taken c =
    let n = c.args.number in
    let a = seen c.self.inside.slots _ _ _ c.self.view_is c.self.invariant in
    let is = sym c.in_ok-place.ensures.place in
    let sums = taken_sums _ _ _ _ a n _ is in
    let same = whole _ _ _ _ (took c) in
    let below = slot_below _ _ _ _ a n _ is in
    let next = ap (λ (v : Held). v.next) c.self.view_is in
    record {
      there = find_here _ _ _ _ a n _ is;
      left = unlinked_is _ _ _ _ a n _ is;
      number_is = number_is _ _ _ _ a n _ is;
      inside = omega (arith, below, next);
      count = omega (arith, sums, ap count_of same);
      bytes = omega (arith, sums, ap all_bytes same);
      may_put = record {
        absent = returns-clause-gone c;
        inside = below;
        count = omega (arith, sums, ap count_of same, a.count);
        cost_fits = omega (arith, sums, ap all_bytes same, a.bytes);
      };
    }

pub returns-clause-slot : goal.returns-clause-slot
returns-clause-slot c =
    let n = c.args.number in
    λ kept. c.set_newer.ensures.shape.slots n ∙ (c.set_older.ensures.shape.slots n ∙ ((c.empty.ensures.shape kept).slots n ∙ has_place c.self.inside.slots n _ (sym c.in_ok-place.ensures.place)))
