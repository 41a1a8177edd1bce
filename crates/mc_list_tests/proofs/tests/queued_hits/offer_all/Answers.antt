use Rattle.std.proofs.Common.{refl, sym, subst, arith}
use Rattle.mc_hits.specs.Rule.{AreBefore}
use Rattle.mc_hits.proofs.BeforeLemmas.{none_before}
use Rattle.mc_list_tests.proofs.tests.queued_hits.offer_all.Goals as goal

pub loop-turn-init : goal.loop-turn-init
loop-turn-init g c =
    (subst (AreBefore 0) (sym c.requires.untouched) (none_before c.args.hands.now.tables 0), refl, omega arith)
