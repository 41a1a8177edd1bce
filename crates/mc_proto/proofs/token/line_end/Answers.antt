use Rattle.std.proofs.Common.{◌<◌, length, arith}
use Rattle.mc_proto.proofs.TokenLemmas.{lacks_up_to}
use Rattle.mc_proto.proofs.token.line_end.Goals as goal

pub returns-in-Some-clause-before : goal.returns-in-Some-clause-before
returns-in-Some-clause-before c =
    let e = c.in-Some.ensures in
    let high : c.in-Some.i < length c.args.bytes.now = e.0.high in
    lacks_up_to 10 c.args.bytes.now c.in-Some.i (omega arith) (λ i l. e.0.before i (omega arith) l)

pub returns-in-None-clause-before : goal.returns-in-None-clause-before
returns-in-None-clause-before c = lacks_up_to 10 c.args.bytes.now (length c.args.bytes.now) (omega arith) (λ i l. c.in-None.ensures i (omega arith) l)
