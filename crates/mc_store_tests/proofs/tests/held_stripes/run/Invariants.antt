use Rattle.mc_store_tests.proofs.tests.held_stripes.run.Given as goal

abbrev pub ghosts-run_on : goal.ghosts-run_on
ghosts-run_on g a = record { board = a.parts.tokens.board; config = a.parts.config; queues = a.parts.tokens.queues }
