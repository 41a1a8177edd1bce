use Rattle.mc_store_tests.proofs.tests.sharing.share.Given as goal

abbrev pub ghosts-share_store : goal.ghosts-share_store
ghosts-share_store g a = record { board = a.parts.tokens.board; config = a.parts.config; queues = a.parts.tokens.queues }
