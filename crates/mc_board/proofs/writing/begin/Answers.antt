use Rattle.std.proofs.Common.{◌<◌, ◌∙◌, sym, ap, subst}
use Rattle.mc_board.proofs.WriteKeeps.{begins_as}
use Rattle.mc_board.proofs.writing.begin.Goals as goal

pub fetch_add-requires : goal.fetch_add-requires
fetch_add-requires c =
    let table = sym (ap (λ b. b.table) c.board.view_is) in (
      c.requires.board ∙ table,
      subst (λ t. c.args.word < t.words) table c.requires.word,
      begins_as _ _ _ _ _ c.requires.owner c.requires.room,
    )
