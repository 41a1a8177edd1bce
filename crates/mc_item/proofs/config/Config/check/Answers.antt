use Rattle.std.proofs.Common.{sym, ◌∙◌}
use Rattle.mc_item.proofs.ConfigLemmas.{bounded}
use Rattle.mc_item.proofs.config.Config.check.Goals as goal

pub returns-in-None-clause-bounded : goal.returns-in-None-clause-bounded
returns-in-None-clause-bounded c = bounded c.args.self (sym c.fault.ensures ∙ c.in-None.is)
