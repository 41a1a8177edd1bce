use Rattle.std.proofs.Common.{ap, ◌∙◌, arith, refl}
use Rattle.mc_rule.specs.Lists.{count_of, found}
use Rattle.mc_segment.specs.{Arena.Held, Arena.IsArena, Arena.all_bytes, Slots.slot}
use Rattle.mc_segment.proofs.ArenaLemmas.{seen, closed, whole, below, same_slots, grown}
use Rattle.mc_segment.proofs.arena.Arena.grow.Goals as goal

kept : (c : goal.After-self-1) → IsArena (slot c.self.inside.slots) c.self.inside.next c.self.inside.heads c.args.self.now.lists
kept c = same_slots _ _ _ _ (seen c.self.inside.slots _ _ _ c.self.view_is c.self.invariant) (slot c.self.inside.slots) (λ q. refl)

pub invariant_of-self : goal.invariant_of-self
invariant_of-self c =
    let next = ap (λ (v : Held). v.next) c.self.view_is in
    closed _ _ _ _ (grown _ _ _ _ (kept c) (omega (arith, c.requires.limit, next)))

pub returns-clause-same : goal.returns-clause-same
returns-clause-same c = whole _ _ _ _ (kept c)

pub returns-clause-fresh : goal.returns-clause-fresh
returns-clause-fresh c =
    let next = ap (λ (v : Held). v.next) c.self.view_is in
    ap (found c.args.self.now.next) (whole _ _ _ _ (kept c)) ∙ below _ _ _ _ (kept c) c.args.self.now.next (omega (arith, next))

pub returns-clause-sums : goal.returns-clause-sums
returns-clause-sums c =
    let same = whole _ _ _ _ (kept c) in
    let next = ap (λ (v : Held). v.next) c.self.view_is in
    (omega (arith, (kept c).count, next, ap count_of same), omega (arith, (kept c).bytes, next, ap all_bytes same))
