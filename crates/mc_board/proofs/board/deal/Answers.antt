use Rattle.std.proofs.Common.{◌<◌, ◌∙◌, sym, ap, subst}
use Rattle.mc_board.specs.declared.rule.Counts.{Counts}
use Rattle.mc_board.specs.Views.{locks_of}
use Rattle.mc_board.proofs.{RuleLemmas.words_some, ShareKeeps.deals_as}
use Rattle.mc_board.proofs.board.deal.Goals as goal

pub split_seat-place-requires : goal.split_seat-place-requires
split_seat-place-requires c =
    let counts = sym (c.board.invariant.0 ∙ ap (λ b. b.counts) c.board.view_is) in
    let below = subst (λ (k : Counts). c.loop-lock.lock < locks_of k) (sym c.board.invariant.0) c.loop-lock-test.true in (
      c.loop-lock.invariant.0 ∙ sym (ap (λ b. b.table) c.board.view_is),
      words_some _ _ c.board.invariant.1,
      deals_as _ _ _ _ (ap (λ m. m.0) c.loop-lock.invariant.1) counts below,
    )
