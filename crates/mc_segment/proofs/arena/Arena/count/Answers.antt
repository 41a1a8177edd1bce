use Rattle.std.proofs.Common.{arith}
use Rattle.mc_item.specs.declared.lists.Seg.TheVariants.{Hot, Warm, Cold, Temp}
use Rattle.mc_segment.proofs.ArenaLemmas.{seen}
use Rattle.mc_segment.proofs.arena.Arena.count.Goals as goal

pub overflow_add-result : goal.overflow_add-result
overflow_add-result c =
    let a = seen c.self.inside.slots _ _ _ c.self.view_is c.self.invariant in
    omega (arith, a.count, a.limit, (a.parts Hot).count_is, (a.parts Warm).count_is)

pub overflow_add-result-2 : goal.overflow_add-result-2
overflow_add-result-2 c =
    let a = seen c.self.inside.slots _ _ _ c.self.view_is c.self.invariant in
    omega (arith, a.count, a.limit, (a.parts Hot).count_is, (a.parts Warm).count_is, (a.parts Cold).count_is)

pub overflow_add-result-3 : goal.overflow_add-result-3
overflow_add-result-3 c =
    let a = seen c.self.inside.slots _ _ _ c.self.view_is c.self.invariant in
    omega (arith, a.count, a.limit, (a.parts Hot).count_is, (a.parts Warm).count_is, (a.parts Cold).count_is, (a.parts Temp).count_is)

pub returns : goal.returns
returns c =
    let a = seen c.self.inside.slots _ _ _ c.self.view_is c.self.invariant in
    omega (arith, (a.parts Hot).count_is, (a.parts Warm).count_is, (a.parts Cold).count_is, (a.parts Temp).count_is)
