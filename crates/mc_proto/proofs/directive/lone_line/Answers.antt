use Rattle.mc_proto.proofs.directive.lone_line.Goals as goal

pub returns-then-is_empty-clause-fine : goal.returns-then-is_empty-clause-fine
returns-then-is_empty-clause-fine c = λ limits. (c.requires.stays, c.requires.moderate limits)
