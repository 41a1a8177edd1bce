use Rattle.std.specs.Prelude.{◌≡◌}
use Rattle.mc_store_tests.proofs.tests.opening.compare_all.Given as goal

-- the closed store stays as it is
abbrev pub invariant-loop-pass : goal.invariant-loop-pass
invariant-loop-pass g l = l.ledger ≡ l.fn.ledger
