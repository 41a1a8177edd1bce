use Rattle.mc_item.proofs.ConfigLemmas.{bounded}
use Rattle.mc_driver.proofs.conversing.converse.Goals as goal

pub limits_for-requires : goal.limits_for-requires
limits_for-requires g c = bounded c.args.plan.config c.requires.sound
