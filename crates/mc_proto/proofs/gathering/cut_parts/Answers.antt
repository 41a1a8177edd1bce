use Rattle.mc_proto.specs.Gathered.{bytes_of_parts}
use Rattle.mc_proto.proofs.GatheringLemmas.{cut_shared}
use Rattle.mc_proto.proofs.gathering.cut_parts.Goals as goal

pub returns-in-Shared-clause-items : goal.returns-in-Shared-clause-items
returns-in-Shared-clause-items c =
    let p = c.part_at-part in
    cut_shared p.new.parts.items c.push_reserved.new.self.items c.clear.new.self.items c.in-Shared.value (bytes_of_parts c.args.parts.now.items) p.result.1 c.args.count c.in-Shared.field-1
    c.push_reserved.ensures.items c.clear.ensures.items p.ensures.before p.ensures.behind (rw c.in-Shared.is at p.ensures.within) (rw c.in-Shared.is at p.ensures.front)
