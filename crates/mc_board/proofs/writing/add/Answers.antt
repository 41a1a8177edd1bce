use Rattle.std.proofs.Common.{◌<◌, ◌∙◌, sym, ap, subst}
use Rattle.mc_board.specs.Steps.{owned_of}
use Rattle.mc_board.proofs.{FigureLemmas.figures_of-plain, WriteKeeps.adds_as}
use Rattle.mc_board.proofs.writing.add.Goals as goal

pub fetch_add-requires : goal.fetch_add-requires
fetch_add-requires g c =
    let table = sym (ap (λ b. b.table) c.board.view_is) in
    let same = figures_of-plain (owned_of c.args.place.now.me.0).history g.N.NamesEvents.entries c.requires.plain in (
      c.requires.board ∙ table,
      subst (λ t. c.args.word < t.words) table c.requires.word,
      adds_as _ _ _ _ c.args.count _ g.N.NamesEvents.entries c.requires.owner c.requires.count.0 c.requires.count.1 c.requires.count.2 same c.requires.shown,
    )
