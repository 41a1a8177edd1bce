use Rattle.std.proofs.Common.{rules, ◌++◌, ◌+◌, take, drop, ap, sym}
use Rattle.std.specs.Prelude.{List, ℕ}
use Rattle.mc_proto.specs.Gathered.{bytes_of_parts, part_bytes}
use Rattle.mc_proto.proofs.GatheringLemmas.{among, begins_before, begins_behind}
use Rattle.mc_proto.proofs.sink.write_parts.Goals as goal

pub returns-in_err-write_reply-clause-err : goal.returns-in_err-write_reply-clause-err
returns-in_err-write_reply-clause-err g c =
    let begun = begins_behind (g.K.Sink.taken c.args.sink.now) (g.K.Sink.taken c.loop-part.sink) (g.K.Sink.taken c.write_reply.new.sink) (bytes_of_parts (take c.loop-part.part-index c.args.parts.now)) c.bytes.result.now
    (bytes_of_parts (take c.loop-part.part-index c.args.parts.now) ++ part_bytes c.part-item.result) c.loop-part.invariant.written
    c.in_err-write_reply.ensures.err.1 (ap (λ (t : List ℕ). bytes_of_parts (take c.loop-part.part-index c.args.parts.now) ++ t) (sym c.bytes.ensures)) in
    let whole = begins_before (g.K.Sink.taken c.args.sink.now) (g.K.Sink.taken c.write_reply.new.sink)
    (bytes_of_parts (take c.loop-part.part-index c.args.parts.now) ++ part_bytes c.part-item.result)
    (bytes_of_parts (drop (c.loop-part.part-index + 1) c.args.parts.now)) (bytes_of_parts c.args.parts.now)
    begun (among c.args.parts.now c.loop-part.part-index c.part-item.result c.loop-part-test.true (sym c.part-item.is)) in
    search rules
