use Rattle.std.proofs.Common.{◌∙◌, sym, ap}
use Rattle.mc_board.proofs.{RuleLemmas.words_some, ShareKeeps.copies_as}
use Rattle.mc_board.proofs.seen.Seen.copy.Goals as goal

pub split_seat-requires : goal.split_seat-requires
split_seat-requires c = (
  ap (λ s. s.board) c.self.view_is ∙ (c.requires ∙ sym (ap (λ b. b.table) c.board.view_is)),
  words_some _ _ c.board.invariant.1,
  copies_as _ _ _ _ (ap (λ m. m.0) c.self.invariant),
)
