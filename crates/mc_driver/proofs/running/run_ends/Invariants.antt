use Rattle.mc_driver.proofs.running.run_ends.Given as goal

abbrev pub ghosts-run_named : goal.ghosts-run_named
ghosts-run_named g a = record { board = a.tokens.board; config = a.config; queues = a.tokens.queues }
