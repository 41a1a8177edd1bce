use Rattle.mc_refusals.proofs.stores.open.Given as goal

abbrev pub ghosts-open_named : goal.ghosts-open_named
ghosts-open_named a = record { board = a.parts.tokens.board; config = a.parts.config; queues = a.parts.tokens.queues }
