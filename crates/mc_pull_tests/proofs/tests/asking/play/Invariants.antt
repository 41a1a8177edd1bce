use Rattle.mc_pull_tests.specs.Met.{AreMet}
use Rattle.mc_pull_tests.proofs.tests.asking.play.Given as goal

-- the histories agree
abbrev pub invariant-loop-rows : goal.invariant-loop-rows
invariant-loop-rows g l = AreMet l.pair.config l.pair.stripe l.pair.first l.pair.second
