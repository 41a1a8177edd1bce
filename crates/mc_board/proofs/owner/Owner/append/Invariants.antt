use Rattle.std.proofs.Common.{[], ◌∷◌}
use Rattle.mc_board.proofs.owner.Owner.append.Given as goal

abbrev pub ghosts-add : goal.ghosts-add
ghosts-add g a = record { entries = g.E.Logged.entry a._named_by.now ∷ [] }
