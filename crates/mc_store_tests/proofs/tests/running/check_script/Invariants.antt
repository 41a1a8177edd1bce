use Rattle.mc_store_tests.proofs.tests.running.check_script.Given as goal

abbrev pub ghosts-check_store : goal.ghosts-check_store
ghosts-check_store g a = record { board = a.parts.tokens.board; config = a.parts.config; queues = a.parts.tokens.queues }
