use Rattle.std.proofs.Common.{◌≡◌, ◌+◌, ◌<◌, ◌∙◌, refl, sym, ap, subst, arith}
use Rattle.std.proofs.lemmas.List.{length-take-le}
use Rattle.mc_board.specs.declared.rule.Counts.{Counts}
use Rattle.mc_board.specs.{Looking.reading_of, Views.first_word}
use Rattle.mc_board.proofs.LookKeeps.{reads_as}
use Rattle.mc_board.proofs.figures.gather.Goals as goal

pub load-requires : goal.load-requires
load-requires c =
    let i = c.loop-i.invariant in
    let table = sym (ap (λ b. b.table) c.board.view_is) in
    let counts = sym (c.board.invariant.0 ∙ ap (λ b. b.counts) c.board.view_is) in
    let there = subst (λ (k : Counts). c.args.word ≡ first_word k (reading_of c.args.place.now.me.0).lock) counts c.requires.word in
    let len = length-take-le c.loop-i.i c.loop-i.values (omega (arith, i.2)) in (
      i.0 ∙ (c.requires.board ∙ table),
      subst (λ t. c.args.word + (c.loop-i.i + 1) < t.words) table (omega (arith, c.requires.within.0)),
      reads_as _ _ _ _ _ _ _ i.3 refl (omega (arith, there, len)) (omega (arith, len)),
    )
