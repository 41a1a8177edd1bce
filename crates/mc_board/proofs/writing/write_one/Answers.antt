use Rattle.std.proofs.Common.{◌<◌, ◌∙◌, sym, ap, subst}
use Rattle.mc_board.proofs.WriteKeeps.{writes_as}
use Rattle.mc_board.proofs.writing.write_one.Goals as goal

pub store-requires : goal.store-requires
store-requires c =
    let table = sym (ap (λ b. b.table) c.board.view_is) in (
      c.requires.board ∙ table,
      subst (λ t. c.args.word < t.words) table c.requires.word,
      writes_as _ _ _ _ _ _ _ _ c.requires.owner c.requires.place.0 c.requires.place.1,
    )
