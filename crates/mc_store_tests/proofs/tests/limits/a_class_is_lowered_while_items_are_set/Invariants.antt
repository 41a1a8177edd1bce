use Rattle.mc_store_tests.proofs.tests.limits.a_class_is_lowered_while_items_are_set.Given as goal

abbrev pub ghosts-limit_at_once : goal.ghosts-limit_at_once
ghosts-limit_at_once g a = record { board = a.parts.tokens.board; config = a.parts.config; queues = a.parts.tokens.queues }
