use Rattle.mc_proto.proofs.verb.line_from_next.Goals as goal

pub returns-then-eq-clause-fine : goal.returns-then-eq-clause-fine
returns-then-eq-clause-fine c = c.lone_line.ensures.fine c.args.limits

pub returns-then-eq-2-clause-fine : goal.returns-then-eq-2-clause-fine
returns-then-eq-2-clause-fine c = c.lone_line-then-eq-2.ensures.fine c.args.limits
