use Rattle.mc_proto.proofs.LineLemmas.{tokens_make_line, line_has_tokens}
use Rattle.mc_proto.proofs.laws.a_line_is_its_tokens.Goals as goal

pub returns-clause-made : goal.returns-clause-made
returns-clause-made c = tokens_make_line

pub returns-clause-one : goal.returns-clause-one
returns-clause-one c = line_has_tokens
