use Rattle.mc_store_tests.proofs.tests.own_locks.another_stripe_answers_while_one_is_held.Given as goal

abbrev pub ghosts-ask_under_a_lock : goal.ghosts-ask_under_a_lock
ghosts-ask_under_a_lock g a = record { board = a.parts.tokens.board; config = a.parts.config; queues = a.parts.tokens.queues }
