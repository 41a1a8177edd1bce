use Rattle.mc_bench.proofs.long.time_long.Given as goal

abbrev pub ghosts-run : goal.ghosts-run
ghosts-run g a = record { board = a.parts.tokens.board; config = a.parts.config; queues = a.parts.tokens.queues }
