use Rattle.std.proofs.Common.{◌∙◌, sym, ap, length}
use Rattle.mc_board.specs.Figures.{figures_of}
use Rattle.mc_board.proofs.FigureLemmas.{figures_of-nil}
use Rattle.mc_board.proofs.owner.Owner.at.Goals as goal

pub invariant_of-result : goal.invariant_of-result
invariant_of-result c =
    (c.requires.owner, ap length c.requires.empty, sym figures_of-nil ∙ ap figures_of (sym c.requires.empty), c.requires.word.0, c.requires.word.1)
