use Rattle.std.proofs.Common.{ap}
use Rattle.mc_proto.specs.Gathered.{Gathered, bytes_of_parts}
use Rattle.mc_proto.proofs.GatheringLemmas.{ends_again}
use Rattle.mc_proto.proofs.gathering.ReplyText.push_long.Goals as goal

pub returns-in-Err-clause-err : goal.returns-in-Err-clause-err
returns-in-Err-clause-err c =
    ends_again (bytes_of_parts c.self.inside.parts.items) c.self.inside.last.items _ c.push_value_line.new.out.items c.args.self.now.items c.share.new.self.items c.truncate.new.self.items c.len-start.result
    c.truncate.ensures.items c.len-start.ensures c.in-Err.ensures.err c.in_ok-push_value_line.ensures.ok (ap (λ (g : Gathered). g.items) c.self.view_is)
