use Rattle.std.proofs.Common.{append-nil, arith}
use Rattle.std.specs.Prelude.{decimal}
use Rattle.std.proofs.lemmas.Fmt.{decimal_digit}
use Rattle.mc_proto.proofs.text.push_value_line.Goals as goal

pub returns-then-len-lt1000-clause-ok : goal.returns-then-len-lt1000-clause-ok
returns-then-len-lt1000-clause-ok c =
    rw (c.if-not-with_cas.true, c.if-flags-eq0.true, decimal_digit 0 (omega arith), append-nil (decimal c.args.len)) c.push_short_line.ensures.ok
