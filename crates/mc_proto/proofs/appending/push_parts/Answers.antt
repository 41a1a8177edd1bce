use Rattle.std.proofs.Common.{◌∙◌, take, arith, ap, List, ℕ}
use Rattle.std.specs.List.{flat_map}
use Rattle.mc_proto.proofs.TextLemmas.{taken_back}
use Rattle.mc_proto.proofs.appending.push_parts.Goals as goal

pub returns-in-Err-clause-err : goal.returns-in-Err-clause-err
returns-in-Err-clause-err c =
    let as_before = c.in-Err.ensures.items ∙ c.loop-part.invariant in
    c.truncate.ensures.items ∙ ap (λ (t : List ℕ). take c.len-before.result t) as_before
    ∙ taken_back c.len-before.result c.args.out.now.items (flat_map (λ part. part.now) (take c.loop-part.part-index c.args.parts.now)) (omega arith)
