use Rattle.mc_pull.proofs.WalkRuleLemmas.{looks_few, looks_next, looks_stop, looks_end}
use Rattle.mc_pull.proofs.from_tail.walks_go_from_the_tail.Goals as goal

pub returns : goal.returns
returns c = record { few = looks_few; next = looks_next; stops = looks_stop; ends = looks_end }
