use Rattle.std.specs.Prelude.{◌≡◌}
use Rattle.mc_store_tests.proofs.tests.sharing.compare_works.Given as goal

-- the closed store stays as it is
abbrev pub invariant-loop-work : goal.invariant-loop-work
invariant-loop-work g l = l.ledger ≡ l.fn.ledger
