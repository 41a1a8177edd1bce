use Rattle.std.proofs.Common.{◌≡◌, [], ◌∙◌, sym, ap, subst}
use Rattle.atomic_table.specs.Table.{Me}
use Rattle.mc_board.specs.declared.rule.View.{View}
use Rattle.mc_board.specs.declared.rule.View.TheVariants as views
use Rattle.mc_board.specs.{Histories.Grows, Steps.known_of, Steps.known_told, Steps.hearing, Learning.known_learned, Learning.learned_of, Learning.IsLearned}
use Rattle.mc_board.proofs.{RuleLemmas.words_some, ShareKeeps.seen_hears_as, LearnKeeps.learns_as}
use Rattle.mc_board.proofs.seen.take_in.Goals as goal

pub join_seat-requires : goal.join_seat-requires
join_seat-requires c =
    let table = sym (ap (λ b. b.table) c.board.view_is) in (
      c.requires.board.0 ∙ table,
      c.requires.board.1 ∙ table,
      ap (λ m. m.1) c.requires.copy,
      words_some _ _ c.board.invariant.1,
      seen_hears_as _ _ _ _ _ _ _ (ap (λ m. m.0) c.requires.token) (ap (λ m. m.0) c.requires.copy),
    )

pub load-requires : goal.load-requires
load-requires c = (
  c.join_seat.ensures.0 ∙ (c.requires.board.0 ∙ sym (ap (λ b. b.table) c.board.view_is)),
  words_some _ _ c.board.invariant.1,
  learns_as _ _ _ _ _ _ (c.join_seat.ensures.2 ∙ (λ i. (hearing ((c.requires.token i).0) ((c.requires.copy i).0), (c.requires.token i).1))),
)

-- the token after the join
heard : (c : goal.After-load) → c.join_seat.new.seat.me ≡ (views.Seen (known_told (known_of c.args.place.now.me.0) (known_of c.args.copy.me.0).sight), [])
heard c = c.join_seat.ensures.2 ∙ (λ i. (hearing ((c.requires.token i).0) ((c.requires.copy i).0), (c.requires.token i).1))

-- the token after the load
learned : (c : goal.After-load) → c.load.new.seat.me ≡ (views.Seen (known_learned (known_told (known_of c.args.place.now.me.0) (known_of c.args.copy.me.0).sight)), [])
learned c = c.load.ensures.2.0 ∙ ap (λ (m : Me Unit View). (learned_of m.0, m.1)) (heard c)

pub returns-clause-learned : goal.returns-clause-learned
returns-clause-learned c = learned c

pub returns-clause-mine : goal.returns-clause-mine
returns-clause-mine c =
    subst (λ (m : Me Unit View). Grows (known_of c.args.place.now.me.0).sight (known_of m.0).sight) (sym (learned c)) (subst (λ (m : Me Unit View). IsLearned m.0) (heard c) c.load.ensures.2.1).0

pub returns-clause-theirs : goal.returns-clause-theirs
returns-clause-theirs c =
    subst (λ (m : Me Unit View). Grows (known_of c.args.copy.me.0).sight (known_of m.0).sight) (sym (learned c)) (subst (λ (m : Me Unit View). IsLearned m.0) (heard c) c.load.ensures.2.1).1
