use Rattle.std.proofs.Common.{subst, sym, List, ℕ}
use Rattle.mc_item.specs.declared.lists.Seg.TheVariants.{Cold}
use Rattle.mc_rule.specs.{Lawful.IsIn, Lists.lists_of, Lists.IsFull, Segment.IsNearTail}
use Rattle.mc_segment.specs.ClassState.{ClassView}
use Rattle.mc_stripe.specs.StripeState.{cache_now}
use Rattle.mc_pull.specs.{Question.question_of, Settled.passed_of}
use Rattle.mc_pull.proofs.OutcomeLemmas.{taken_may}
use Rattle.mc_pull.proofs.settling.settle_taken.Goals as goal

pub evict-requires-clause-lawful : goal.evict-requires-clause-lawful
evict-requires-clause-lawful c =
    let v = c.args.class.now in
    let may = taken_may v (cache_now c.args.stripe.now) (question_of c.args.ask.now) c.requires.asked.judge c.requires.done in
    let P : ClassView → List ℕ → Type 0 = λ x passed. IsIn Cold c.args.ask.now.number (lists_of x.history) × IsFull x.chunks x.history × IsNearTail c.args.ask.now.number (lists_of x.history).cold passed in
    subst (λ (passed : List ℕ). P c.prepare.new.class passed) (sym c.passed_of.ensures)
    (subst (λ (x : ClassView). P x (passed_of c.args.ask.now.judge.now)) (sym c.prepare.ensures.class) may)
