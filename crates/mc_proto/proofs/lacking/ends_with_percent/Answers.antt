use Rattle.std.proofs.Common.{◌<◌, length, arith, sym}
use Rattle.std.proofs.lemmas.Bool.{eqb-false}
use Rattle.mc_proto.proofs.NextDirectiveLemmas.{after_is}
use Rattle.mc_proto.proofs.lacking.ends_with_percent.Goals as goal

pub returns : goal.returns
returns c =
    let some : 0 < length c.args.bytes.now = omega (arith, eqb-false (length c.args.bytes.now) 0 (sym c.if-is_empty.ensures)) in
    sym (after_is c.args.after c.args.bytes.now some)
