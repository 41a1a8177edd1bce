use Rattle.std.proofs.Common.{◌<◌, ◌∙◌, sym, ap, subst}
use Rattle.mc_board.proofs.WriteKeeps.{ends_as}
use Rattle.mc_board.proofs.writing.end.Goals as goal

pub fetch_add-requires : goal.fetch_add-requires
fetch_add-requires g c =
    let table = sym (ap (λ b. b.table) c.board.view_is) in (
      c.requires.board ∙ table,
      subst (λ t. c.args.word < t.words) table c.requires.word,
      ends_as _ _ _ _ c.args.count _ g.N.NamesEvents.entries c.requires.owner c.requires.count.0 c.requires.count.1 c.requires.room c.requires.shown,
    )
