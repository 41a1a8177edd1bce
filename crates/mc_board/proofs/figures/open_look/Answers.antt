use Rattle.std.proofs.Common.{◌≡◌, ◌<◌, ◌/◌, ℕ, ◌∙◌, sym, ap, subst}
use Rattle.mc_board.specs.declared.rule.Counts.{Counts}
use Rattle.mc_board.specs.{Looking.opened_in, Looking.IsAsLong, Views.locks_of, Views.first_word}
use Rattle.mc_board.proofs.LookKeeps.{lock_of-first_word, opens_look_as}
use Rattle.mc_board.proofs.figures.open_look.Goals as goal

pub load-requires : goal.load-requires
load-requires c =
    let table = sym (ap (λ b. b.table) c.board.view_is) in
    let counts = sym (c.board.invariant.0 ∙ ap (λ b. b.counts) c.board.view_is) in
    let there = subst (λ (k : Counts). c.args.word ≡ first_word k c.args.lock) counts c.requires.word.0 in
    let below = subst (λ (k : Counts). c.args.lock < locks_of k) counts c.requires.lock in (
      c.requires.board ∙ table,
      subst (λ t. c.args.word < t.words) table c.requires.word.1,
      opens_look_as _ _ _ _ _ _ _ c.requires.token there below,
    )

pub returns-clause-opened : goal.returns-clause-opened
returns-clause-opened c =
    c.load.ensures.2.0 ∙ (λ i. (opened_in (lock_of-first_word c.args.board.now.counts c.args.lock c.args.word c.requires.word.0 i) c.load.result c.args.place.now.me.0, c.args.place.now.me.1))
    ∙ ap (λ m. (opened_in c.args.lock c.load.result c.args.place.now.me.0, m.1)) c.requires.token

pub returns-clause-later : goal.returns-clause-later
returns-clause-later c =
    subst (λ (lock : ℕ). IsAsLong lock (c.load.result / 2) c.args.place.now.me.0) (lock_of-first_word c.args.board.now.counts c.args.lock c.args.word c.requires.word.0) c.load.ensures.2.1
