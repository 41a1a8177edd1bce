use Rattle.std.proofs.Common.{◌∙◌, take, arith, ap, List, ℕ}
use Rattle.mc_proto.specs.Gathered.{bytes_of_parts}
use Rattle.mc_proto.proofs.TextLemmas.{taken_back}
use Rattle.mc_proto.proofs.gathering.copy_parts.Goals as goal

pub returns-in-Err-clause-err : goal.returns-in-Err-clause-err
returns-in-Err-clause-err c =
    let as_before = c.in-Err.ensures.items ∙ c.loop-part.invariant in
    c.truncate.ensures.items ∙ ap (λ (t : List ℕ). take c.len-before.result t) as_before
    ∙ taken_back c.len-before.result c.args.bytes.now.items (bytes_of_parts (take c.loop-part.part-index c.args.parts.now)) (omega arith)
