use Rattle.mc_store_tests.proofs.tests.many_hits.a_full_queue_drops_hits.Given as goal

abbrev pub ghosts-overfill : goal.ghosts-overfill
ghosts-overfill g a = record { board = a.parts.tokens.board; config = a.parts.config; queues = a.parts.tokens.queues }
