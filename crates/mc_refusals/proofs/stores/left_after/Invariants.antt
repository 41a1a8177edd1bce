use Rattle.mc_refusals.proofs.stores.left_after.Given as goal

abbrev pub ghosts-with_parts : goal.ghosts-with_parts
ghosts-with_parts g a = record { board = a.parts.tokens.board; config = a.parts.config; queues = a.parts.tokens.queues }
