use Rattle.std.proofs.Common.{◌≡◌, ◌∙◌, sym, ap, subst, rules}
use Rattle.mc_board.specs.Histories.{with_seen, Grows, HasSeen}
use Rattle.mc_board.proofs.{RuleLemmas.words_some, SeenLemmas.Grows-with_seen, ShareKeeps.tells_as}
use Rattle.mc_board.proofs.owner.Owner.tell.Goals as goal

pub split_seat-requires : goal.split_seat-requires
split_seat-requires c = (
  c.hear.ensures.place.0 ∙ (ap (λ o. o.board) c.self.view_is ∙ (c.requires.board.0 ∙ sym (ap (λ b. b.table) c.board.view_is))),
  words_some _ _ c.board.invariant.1,
  tells_as _ _ _ _ (ap (λ m. m.0) c.hear.ensures.told),
)

pub returns-clause-grows : goal.returns-clause-grows
returns-clause-grows c =
    let self = c.args.self.now in
    let whole : c.at.result.sight ≡ with_seen c.args.seen.now.sight self.lock self.history = search rules in
    let grown : HasSeen self.history c.args.seen.now.sight self.lock = search rules in
    subst (Grows c.args.seen.now.sight) (sym whole) (Grows-with_seen c.args.seen.now.sight self.lock self.history grown)
