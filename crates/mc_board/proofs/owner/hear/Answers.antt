use Rattle.std.proofs.Common.{◌≡◌, [], ◌<◌, ◌∙◌, sym, ap, subst}
use Rattle.atomic_table.specs.Table.{Me}
use Rattle.mc_board.specs.declared.rule.View.{View}
use Rattle.mc_board.specs.declared.rule.View.TheVariants as views
use Rattle.mc_board.specs.Steps.{owned_of, owned_told, hearing, IsOwnerAhead}
use Rattle.mc_board.proofs.{RuleLemmas.words_some, ShareKeeps.owner_hears_as, CompareKeeps.compares_as}
use Rattle.mc_board.proofs.owner.hear.Goals as goal

pub join_seat-requires : goal.join_seat-requires
join_seat-requires c =
    let table = sym (ap (λ b. b.table) c.board.view_is) in (
      c.requires.board.0 ∙ table,
      c.copy-copy.ensures.copy.0 ∙ table,
      ap (λ m. m.1) c.copy-copy.ensures.copy.1,
      words_some _ _ c.board.invariant.1,
      owner_hears_as _ _ _ _ _ _ _ (ap (λ m. m.0) c.requires.owner) (ap (λ m. m.0) c.copy-copy.ensures.copy.1),
    )

-- the owner after the join
heard : (c : goal.After-load) → c.join_seat.new.seat.me ≡ (views.Owner (owned_told (owned_of c.args.place.now.me.0) c.args.seen.now.sight), [])
heard c = c.join_seat.ensures.2 ∙ (λ i. (hearing ((c.requires.owner i).0) ((c.copy-copy.ensures.copy.1 i).0), (c.requires.owner i).1))

pub load-requires : goal.load-requires
load-requires c =
    let table = sym (ap (λ b. b.table) c.board.view_is) in (
      c.join_seat.ensures.0 ∙ (c.requires.board.0 ∙ table),
      subst (λ t. c.args.word < t.words) table c.requires.word,
      compares_as _ _ _ _ _ _ (c.join_seat.ensures.2 ∙ (λ i. (hearing ((c.requires.owner i).0) ((c.copy-copy.ensures.copy.1 i).0), (c.requires.owner i).1))),
    )

pub returns-clause-told : goal.returns-clause-told
returns-clause-told c = c.load.ensures.2.0 ∙ heard c

pub returns-clause-ahead : goal.returns-clause-ahead
returns-clause-ahead c = (subst (λ (m : Me Unit View). IsOwnerAhead m.0) (heard c) c.load.ensures.2.1).0

pub returns-clause-account : goal.returns-clause-account
returns-clause-account c = (subst (λ (m : Me Unit View). IsOwnerAhead m.0) (heard c) c.load.ensures.2.1).1
