use Rattle.std.proofs.Common.{◌≡◌, ◌<◌, ◌∙◌, sym, ap, subst}
use Rattle.mc_board.specs.declared.rule.Counts.{Counts}
use Rattle.mc_board.specs.{Looking.reading_of, Views.first_word}
use Rattle.mc_board.proofs.LookKeeps.{checks_as}
use Rattle.mc_board.proofs.figures.check_look.Goals as goal

pub load-requires : goal.load-requires
load-requires c =
    let table = sym (ap (λ b. b.table) c.board.view_is) in
    let counts = sym (c.board.invariant.0 ∙ ap (λ b. b.counts) c.board.view_is) in
    let there = subst (λ (k : Counts). c.args.word ≡ first_word k (reading_of c.args.place.now.me.0).lock) counts c.requires.word.0 in (
      c.requires.board ∙ table,
      subst (λ t. c.args.word < t.words) table c.requires.word.1,
      checks_as _ _ _ _ _ _ _ c.requires.token c.requires.reading there c.requires.whole.0 c.requires.whole.1,
    )
