use Rattle.std.proofs.Common.{rules, ap, arith}
use Rattle.mc_board.proofs.ShareKeeps.{begins_as, opens_as}
use Rattle.mc_board.proofs.board.Board.open.Goals as goal

pub of_words-requires : goal.of_words-requires
of_words-requires c = begins_as _ _ (search rules)

pub split_seat-requires : goal.split_seat-requires
split_seat-requires c = (
  c.in_ok-table.ensures.2,
  omega (arith, c.in_ok-table.ensures.0, c.as_slice.ensures.len, c.in_ok-zeros.ensures.len, c.in_ok-words.ensures),
  opens_as _ _ _ _ (ap (λ m. m.0) c.in_ok-table.ensures.4),
)
