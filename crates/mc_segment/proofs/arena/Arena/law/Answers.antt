use Rattle.std.proofs.Common.{ap, arith}
use Rattle.mc_segment.specs.Arena.{Held}
use Rattle.mc_segment.proofs.ArenaLemmas.{seen, once, below}
use Rattle.mc_segment.proofs.arena.Arena.law.Goals as goal

pub returns-clause-once : goal.returns-clause-once
returns-clause-once c = once _ _ _ _ (seen c.self.inside.slots _ _ _ c.self.view_is c.self.invariant)

pub returns-clause-below : goal.returns-clause-below
returns-clause-below c = λ q h.
    below _ _ _ _ (seen c.self.inside.slots _ _ _ c.self.view_is c.self.invariant) q (omega (arith, h, ap (λ (v : Held). v.next) c.self.view_is))

pub returns-clause-sums : goal.returns-clause-sums
returns-clause-sums c =
    let a = seen c.self.inside.slots _ _ _ c.self.view_is c.self.invariant in
    let next = ap (λ (v : Held). v.next) c.self.view_is in
    (omega (arith, a.count, next), omega (arith, a.bytes, next))
