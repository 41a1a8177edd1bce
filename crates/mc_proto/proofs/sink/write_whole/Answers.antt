use Rattle.std.proofs.Common.{rules, sym}
use Rattle.mc_proto.specs.Gathered.{bytes_of_parts}
use Rattle.mc_proto.proofs.GatheringLemmas.{begins_behind}
use Rattle.mc_proto.proofs.sink.write_whole.Goals as goal

pub returns-in_err-write_reply-clause-err : goal.returns-in_err-write_reply-clause-err
returns-in_err-write_reply-clause-err g c =
    let begun = begins_behind (g.K.Sink.taken c.args.sink.now) (g.K.Sink.taken c.write_parts.new.sink) (g.K.Sink.taken c.write_reply.new.sink)
    (bytes_of_parts c.lying.result.0.now) c.lying.result.1.now c.args.text.now.items
    c.in_ok-write_parts.ensures.ok c.in_err-write_reply.ensures.err.1 (sym c.lying.ensures) in
    search rules
