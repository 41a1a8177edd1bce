use Rattle.mc_driver.proofs.program.run_words.Given as goal

-- the ledger of the sink's failures is the new one
abbrev pub ghosts-run_input : goal.ghosts-run_input
ghosts-run_input g a = record { name = a.blank.name; parts = a.blank.parts }
