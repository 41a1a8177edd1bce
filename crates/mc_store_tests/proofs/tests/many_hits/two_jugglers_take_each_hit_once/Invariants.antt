use Rattle.mc_store_tests.proofs.tests.many_hits.two_jugglers_take_each_hit_once.Given as goal

abbrev pub ghosts-take_at_once : goal.ghosts-take_at_once
ghosts-take_at_once g a = record { board = a.parts.tokens.board; config = a.parts.config; queues = a.parts.tokens.queues }
