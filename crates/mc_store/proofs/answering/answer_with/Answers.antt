use Rattle.std.proofs.Common.{◌∙◌, ap, sym}
use Rattle.std.specs.Prelude.{Some}
use Rattle.mc_item.specs.declared.item.ClassNo.{ClassNo}
use Rattle.mc_stripe.specs.declared.wanting.Classes.{Classes}
use Rattle.mc_store.specs.Sides.{ClassSide}
use Rattle.mc_store.proofs.NeededClassLemmas.{home_apart, home_class, other_if}
use Rattle.mc_store.proofs.answering.answer_with.Goals as goal

pub lock_both-guard-requires-clause-home : goal.lock_both-guard-requires-clause-home
lock_both-guard-requires-clause-home g c =
    home_class g.N.Named.config c.args.own.now.stripe c.law.ensures.made_with c.args.task.command.now c.args.task.turn.moment c.in-Some.class (ap (λ (w : Classes). w.home) (sym c.requires.wanted.1) ∙ c.in-Some.is)

pub lock_both-guard-requires-clause-other : goal.lock_both-guard-requires-clause-other
lock_both-guard-requires-clause-other g c =
    other_if g.N.Named.board.table g.N.Named.config c.args.own.now c.law.ensures c.args.task.command.now c.args.task.turn.moment c.args.wanted.other (ap (λ (w : Classes). w.other) (sym c.requires.wanted.1))

pub lock_class-guard-requires : goal.lock_class-guard-requires
lock_class-guard-requires g c =
    rw c.in-Some-other.is at (other_if g.N.Named.board.table g.N.Named.config c.args.own.now c.law.ensures c.args.task.command.now c.args.task.turn.moment
    c.args.wanted.other (ap (λ (w : Classes). w.other) (sym c.requires.wanted.1)))

pub answer_at_home-requires-clause-apart : goal.answer_at_home-requires-clause-apart
answer_at_home-requires-clause-apart g c = λ same.
    home_apart c.args.own.now.stripe c.args.task.command.now c.args.task.turn.moment c.args.wanted c.in-Some.class c.requires.wanted.1 c.in-Some.is
    (sym c.lock_both-guard.ensures.other ∙ (same ∙ ap (λ (n : ClassNo). Some n) (ap (λ (x : ClassSide). x.class.number) c.deref_mut-home.ensures.value ∙ c.lock_both-guard.ensures.home)))
