use Rattle.std.proofs.Common.{◌≡◌, ◌∙◌, ◌∷◌, [], Some, false, ap, subst, sym}
use Rattle.std.specs.Option.{option_copied}
use Rattle.std.proofs.lemmas.List.{append-nil}
use Rattle.mc_rule.specs.Lists.{find, lists_of}
use Rattle.mc_pull.specs.declared.judge.Judge.TheVariants.{Hit}
use Rattle.mc_pull.specs.{Advance.IsAdvance, Advance.is_to_warm_if, Looks.answer_by, Question.question, Rounds.rounds}
use Rattle.mc_pull.proofs.{AdvanceLemmas.advanced, AdvanceLemmas.unasked, ChunkEventLemmas.gains_itself, ChunkEventLemmas.gains_judged, ChunkEventLemmas.gains_room}
use Rattle.mc_pull.proofs.ReachedLemmas.{judged_of}
use Rattle.mc_pull.proofs.advancing.advance.Goals as goal

pub returns-in_default-clause-advanced : goal.returns-in_default-clause-advanced
returns-in_default-clause-advanced g c =
    let turn = c.args.context.turn in (
      [],
      sym (append-nil (g.G.Gate.answers c.args.gate.now)),
      unasked c.args.class.now turn.who c.args.number turn.moment c.args.context.config.now (ap option_copied (sym c.in_default.is) ∙ c.cold_entry.ensures.entry),
    )

pub returns-clause-advanced : goal.returns-clause-advanced
returns-clause-advanced g c =
    let turn = c.args.context.turn in
    let config = c.args.context.config.now in
    let class = c.args.class.now in
    let new = c.look_at.new.class in
    let e = c.in-Some.entry.now in
    let is : find c.args.number (lists_of class.history).cold ≡ Some e = sym c.cold_entry.ensures.entry ∙ ap option_copied c.in-Some.is in
    let answer = c.in_ok-done.ensures.answer in
    let answers = answer_by c.stripe_of-stripe.result answer.judged ∷ [] in (
      answers,
      answer.answers,
      subst (IsAdvance (rounds class turn.who turn.moment config) c.args.number class.history answers new.history) (sym (c.is_to_warm.ensures ∙ ap is_to_warm_if answer.made_is))
          (advanced class turn.who c.args.number turn.moment config new e c.stripe_of-stripe.result answer.judged is c.stripe_of-stripe.ensures answer.class
          (judged_of (g.G.Gate.reaches c.args.gate.now c.look_at.new.gate) _ _ _ _ _ answer.reached)),
    )

pub returns-in_default-clause-gains : goal.returns-in_default-clause-gains
returns-in_default-clause-gains g c = gains_itself false c.args.class.now

pub returns-in_err-done-clause-gains : goal.returns-in_err-done-clause-gains
returns-in_err-done-clause-gains g c = gains_room false c.args.class.now c.look_at.new.class c.in_err-done.ensures.err.0

pub returns-clause-gains : goal.returns-clause-gains
returns-clause-gains g c =
    gains_judged c.args.class.now (question c.args.context.turn.who c.args.number Hit c.args.context.turn.moment)
    c.args.context.config.now c.stripe_of-stripe.result c.in_ok-done.ensures.answer.judged c.look_at.new.class
    (judged_of (g.G.Gate.reaches c.args.gate.now c.look_at.new.gate) _ _ _ _ _ c.in_ok-done.ensures.answer.reached) c.in_ok-done.ensures.answer.class
