use Rattle.std.proofs.Common.{◌≡◌, [], ◌∙◌, sym, ap, subst}
use Rattle.atomic_table.specs.Table.{Me}
use Rattle.mc_board.specs.declared.rule.View.{View}
use Rattle.mc_board.specs.declared.rule.View.TheVariants as views
use Rattle.mc_board.specs.Steps.{known_of, known_told, hearing, IsInLine}
use Rattle.mc_board.proofs.{RuleLemmas.words_some, ShareKeeps.seen_hears_as, CompareKeeps.meets_as}
use Rattle.mc_board.proofs.seen.line_up.Goals as goal

pub join_seat-requires : goal.join_seat-requires
join_seat-requires c =
    let table = sym (ap (λ b. b.table) c.board.view_is) in (
      c.requires.board.0 ∙ table,
      c.requires.board.1 ∙ table,
      ap (λ m. m.1) c.requires.copy,
      words_some _ _ c.board.invariant.1,
      seen_hears_as _ _ _ _ _ _ _ (ap (λ m. m.0) c.requires.token) (ap (λ m. m.0) c.requires.copy),
    )

pub load-requires : goal.load-requires
load-requires c = (
  c.join_seat.ensures.0 ∙ (c.requires.board.0 ∙ sym (ap (λ b. b.table) c.board.view_is)),
  words_some _ _ c.board.invariant.1,
  meets_as _ _ _ _ _ _ (c.join_seat.ensures.2 ∙ (λ i. (hearing ((c.requires.token i).0) ((c.requires.copy i).0), (c.requires.token i).1))),
)

-- the token after the join
heard : (c : goal.After-load) → c.join_seat.new.seat.me ≡ (views.Seen (known_told (known_of c.args.place.now.me.0) (known_of c.args.copy.me.0).sight), [])
heard c = c.join_seat.ensures.2 ∙ (λ i. (hearing ((c.requires.token i).0) ((c.requires.copy i).0), (c.requires.token i).1))

pub returns-clause-told : goal.returns-clause-told
returns-clause-told c = c.load.ensures.2.0 ∙ heard c

pub returns-clause-in_line : goal.returns-clause-in_line
returns-clause-in_line c = subst (λ (m : Me Unit View). IsInLine m.0) (heard c) c.load.ensures.2.1
