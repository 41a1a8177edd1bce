use Rattle.std.proofs.Common.{◌≡◌, ◌==◌, None, Some, Option, ap, ◌∙◌, sym, subst, arith}
use Rattle.std.specs.Prelude.{if◌then◌else◌}
use Rattle.mc_rule.specs.Lists.{count_of, linked}
use Rattle.mc_segment.specs.declared.{arena.Listed.Listed, ends.Ends.Ends, ends.Heads.Heads}
use Rattle.mc_segment.specs.{Nodes.node, Slots.slot, Slots.place_newer, Arena.Held, Arena.IsArena, Arena.ends_of, Arena.with_ends, Arena.pushed_ends}
use Rattle.mc_segment.proofs.{OneListLemmas.linked_count, ArenaLemmas.seen, ArenaLemmas.closed, ArenaLemmas.whole, ArenaLemmas.put_arena}
use Rattle.mc_segment.proofs.arena.Arena.put.Goals as goal

put_is : (c : goal.After-set) → IsArena (slot c.fill.new.slots) c.self.inside.next c.set.new.self (linked c.args.seg c.args.entry c.args.self.now.lists)
put_is c =
    let xs = c.self.inside.slots in
    let h = c.self.inside.heads in
    let s = c.args.seg in
    let e = c.args.entry in
    let ends : c.of-ends.result ≡ ends_of h s = c.of-ends.ensures in
    let next : c.self.inside.next ≡ c.args.self.now.next = ap (λ (v : Held). v.next) c.self.view_is in
    let heads : c.set.new.self ≡ with_ends h s (pushed_ends (ends_of h s) e.number e.cost) = c.set.ensures ∙ ap (with_ends h s) (c.pushed.ensures ∙ ap (λ (x : Ends). pushed_ends x e.number e.cost) ends) in
    subst (λ (v : Heads). IsArena (slot c.fill.new.slots) c.self.inside.next v (linked s e c.args.self.now.lists)) (sym heads)
    (put_arena _ _ h _ (seen c.self.inside.slots _ _ _ c.self.view_is c.self.invariant) (slot c.fill.new.slots) s e c.requires.may.absent
    (omega (arith, c.requires.may.inside, next))
    (omega (arith, c.requires.may.count, next))
    (omega (arith, c.requires.may.cost_fits, next))
    (λ q. c.fill.ensures.slots q
    ∙ (ap (λ (o : Option Listed). if e.number == q then Some (record { seg = s; node = node e None c.of-ends.result.newest }) else o) (c.set_newer.ensures.slots q)
    ∙ ap (λ (x : Ends). if e.number == q then Some (record { seg = s; node = node e None x.newest }) else place_newer x.newest (Some e.number) q (slot xs q)) ends)))

pub invariant_of-self : goal.invariant_of-self
invariant_of-self c = closed _ _ _ _ (put_is c)

pub returns-clause-lists : goal.returns-clause-lists
returns-clause-lists c = whole _ _ _ _ (put_is c)

pub returns-clause-count : goal.returns-clause-count
returns-clause-count c = ap count_of (whole _ _ _ _ (put_is c)) ∙ linked_count c.args.self.now.lists c.args.seg c.args.entry
