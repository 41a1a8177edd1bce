use Rattle.std.proofs.Common.{◌∙◌, sym, ap}
use Rattle.mc_board.specs.Steps.{no_view}
use Rattle.mc_board.proofs.{RuleLemmas.words_some, ClashLemmas.clashes_as, ClashLemmas.never_as}
use Rattle.mc_board.proofs.owner.Owner.clash.Goals as goal

pub join_seat-requires : goal.join_seat-requires
join_seat-requires c =
    let table = sym (ap (λ b. b.table) c.board.view_is) in (
      ap (λ o. o.board) c.self.view_is ∙ (c.requires.board.0 ∙ table),
      ap (λ o. o.board) c.other.view_is ∙ (c.requires.board.1 ∙ table),
      ap (λ m. m.1) c.other.invariant.0.owner,
      words_some _ _ c.board.invariant.1,
      clashes_as _ _ _ _ _ _ (ap (λ m. m.0) c.self.invariant.0.owner) (ap (λ m. m.0) c.other.invariant.0.owner)
          (ap (λ o. o.lock) c.self.view_is ∙ (c.requires.same ∙ sym (ap (λ o. o.lock) c.other.view_is))),
    )

pub load-requires : goal.load-requires
load-requires c = (
  c.join_seat.ensures.0 ∙ (ap (λ o. o.board) c.self.view_is ∙ (c.requires.board.0 ∙ sym (ap (λ b. b.table) c.board.view_is))),
  words_some _ _ c.board.invariant.1,
  never_as _ _ _ _ _ (c.join_seat.ensures.2 ∙ (λ i. (no_view, (c.self.invariant.0.owner i).1))),
)
