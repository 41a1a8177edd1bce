use Rattle.std.proofs.lemmas.Fmt.{decimal_digit}
use Rattle.mc_proto.proofs.TextLemmas.{decimal_of_three, decimal_of_two}
use Rattle.mc_proto.proofs.text.push_short_line.Goals as goal

pub returns-then-len-lt10-clause-ok : goal.returns-then-len-lt10-clause-ok
returns-then-len-lt10-clause-ok c = rw (decimal_digit c.args.len c.if-len-lt10.true) c.push_text.ensures.ok

pub returns-then-len-lt100-clause-ok : goal.returns-then-len-lt100-clause-ok
returns-then-len-lt100-clause-ok c = rw (decimal_of_two c.args.len c.if-len-lt10.false c.if-len-lt100.true) c.push_text-then-len-lt100.ensures.ok

pub returns-clause-ok : goal.returns-clause-ok
returns-clause-ok c = rw (decimal_of_three c.args.len c.if-len-lt100.false c.requires.short) c.push_text-2.ensures.ok
