use Rattle.std.proofs.Common.{◌≡◌, subst, sym, ap, ◌∙◌, List, ℕ}
use Rattle.mc_item.specs.declared.{class_event.Why.Why, lists.Seg.TheVariants.Cold}
use Rattle.mc_rule.specs.{Lists.lists_of, Segment.Rule}
use Rattle.mc_segment.specs.ClassCalls.{shifted_event, MayCome}
use Rattle.mc_stripe.specs.StripeState.{cache_now}
use Rattle.mc_pull.specs.declared.judge.Judge.{Judge}
use Rattle.mc_pull.specs.declared.judge.Done.TheVariants as done
use Rattle.mc_pull.specs.{Outcome.cold_why, Judgement.done_of, Question.question, Question.MayJudgeBy}
use Rattle.mc_pull.proofs.OutcomeLemmas.{cold_may}
use Rattle.mc_pull.proofs.settling.settle_cold.Goals as goal

pub shift-requires : goal.shift-requires
shift-requires c =
    let v = c.args.class.now in
    let ask = c.args.ask.now in
    let cache = cache_now c.args.stripe.now in
    let judge = c.requires.judge in
    let may = subst (λ (j : Judge). MayJudgeBy v ask.who ask.number ask.moment j) judge c.requires.asked.judge in
    let made = subst (λ (j : Judge). done_of v cache (question ask.who ask.number j ask.moment) ≡ done.ToCold) judge c.requires.done in
    let seg = c.law.ensures.lists c.args.seg ask.number may.listed in
    let at = c.len-at.result in
    let P : Why → List ℕ → Type 0 = λ why passed. MayCome v (shifted_event ask.who ask.number Cold why ask.moment passed at c.args.seg) in
    let why_is = c.cold_why-why.ensures ∙ ap (λ (r : Rule). cold_why r (lists_of v.history) c.args.seg c.args.mode) (sym c.requires.asked.class.rule) in
    let move = cold_may v ask.who ask.number ask.moment c.args.passed.now at cache c.args.seg c.args.mode seg may made in
    subst (λ (why : Why). P why c.of.result) (sym why_is)
    (subst (λ (passed : List ℕ). P (cold_why v.rule (lists_of v.history) c.args.seg c.args.mode) passed) (sym (c.of.ensures ∙ c.as_slice.ensures.value)) move)
