use Rattle.mc_examples.proofs.sharing.show.Given as goal

abbrev pub ghosts-shared : goal.ghosts-shared
ghosts-shared g a = record { board = a.parts.tokens.board; config = a.parts.config; queues = a.parts.tokens.queues }
