use Rattle.mc_pull_tests.specs.Met.{AreMet}
use Rattle.mc_pull_tests.proofs.tests.asking.play_rows.Given as goal

-- the histories agree
abbrev pub invariant-loop-place : goal.invariant-loop-place
invariant-loop-place g l = AreMet l.pair.config l.pair.stripe l.pair.first l.pair.second
