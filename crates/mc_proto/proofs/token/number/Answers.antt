use Rattle.std.proofs.Common.{length, ◌∙◌}
use Rattle.mc_proto.proofs.TokenLemmas.{few_digits, bound_within}
use Rattle.mc_proto.proofs.token.number.Goals as goal

pub returns-clause-value : goal.returns-clause-value
returns-clause-value c = c.number_of.ensures.value ∙ few_digits c.args.token.now c.if-token-gt18.false

pub returns-clause-bound : goal.returns-clause-bound
returns-clause-bound c = bound_within c.number_of.result (length c.args.token.now) 18 c.number_of.ensures.bound c.if-token-gt18.false
