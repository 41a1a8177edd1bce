use Rattle.std.proofs.Common.{subst}
use Rattle.mc_proto.specs.Scripts.{LineAsks}
use Rattle.mc_proto.proofs.DividingLemmas.{none_ahead}
use Rattle.mc_proto.proofs.dividing.asked_ahead.Goals as goal

pub returns : goal.returns
returns c =
    let line = c.in_ok-line.ensures in
    none_ahead c.args.limits c.args.uncut.now.coming c.in_ok-line.line.items c.in_ok-first-2.field-0 line.0 line.1 line.2
    (subst (λ t. LineAsks c.args.limits t c.in_ok-first-2.field-0) c.as_slice.ensures.value c.in_ok-first-2.ensures) c.in-None.is
