use Rattle.std.proofs.Common.{◌∙◌, sym, ap}
use Rattle.mc_board.specs.Steps.{entered_copy}
use Rattle.mc_board.proofs.{RuleLemmas.words_some, ShareKeeps.enters_as, ShareKeeps.shows_account_as}
use Rattle.mc_board.proofs.writing.enter.Goals as goal

pub split_seat-copy-requires : goal.split_seat-copy-requires
split_seat-copy-requires g c = (
  c.requires.board.1 ∙ sym (ap (λ b. b.table) c.board.view_is),
  words_some _ _ c.board.invariant.1,
  enters_as _ _ _ g.N.NamesSpan.span _ (ap (λ m. m.0) c.requires.caller),
)

pub join_seat-requires : goal.join_seat-requires
join_seat-requires g c =
    let table = sym (ap (λ b. b.table) c.board.view_is) in (
      c.requires.board.0 ∙ table,
      c.split_seat-copy.ensures.3 ∙ (c.requires.board.1 ∙ table),
      ap (λ m. m.1) c.split_seat-copy.ensures.4,
      words_some _ _ c.board.invariant.1,
      shows_account_as _ _ _ _ _ _ _ (ap (λ m. m.0) c.requires.owner)
          (ap (λ m. m.0) c.split_seat-copy.ensures.4 ∙ (λ i. entered_copy g.N.NamesSpan.span ((c.requires.caller i).0))),
    )
