use Rattle.mc_proto.proofs.verb.line_from_at.Goals as goal

pub returns-then-eq-clause-fine : goal.returns-then-eq-clause-fine
returns-then-eq-clause-fine c = c.at_line.ensures.fine c.args.limits
