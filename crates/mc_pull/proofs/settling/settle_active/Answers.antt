use Rattle.std.proofs.Common.{◌≡◌, ◌∙◌, List, ℕ, ap, length, refl, subst, sym}
use Rattle.std.specs.Prelude.{IsSomeAnd}
use Rattle.mc_item.specs.declared.{answer.Site.Site, class_event.Why.Why, lists.Seg.TheVariants.Warm}
use Rattle.mc_item.specs.declared.stripe_event.StripeEvent.{StripeEvent}
use Rattle.mc_item.specs.{Cache.Cache, Stripe.cache_of}
use Rattle.mc_rule.specs.Lists.{lists_of, segment_of}
use Rattle.mc_segment.specs.ClassCalls.{MayCome, shifted_event}
use Rattle.mc_segment.specs.ClassState.{ClassView}
use Rattle.mc_stripe.specs.StripeState.{cache_now}
use Rattle.mc_pull.specs.{Judgement.done_of, Question.question_of}
use Rattle.mc_pull.specs.Settled.{passed_of, warm_why}
use Rattle.mc_pull.proofs.WarmLemmas.{AreLists, IsActive, keyed, may_come, warm_moved, warm_settled}
use Rattle.mc_pull.proofs.settling.settle_active.Goals as goal

pub shift-requires-clause-lawful : goal.shift-requires-clause-lawful
shift-requires-clause-lawful c =
    let v = c.args.class.now in
    let q = question_of c.args.ask.now in
    let made = done_of v (cache_now c.args.stripe.now) q in
    let at = c.len-at.result in
    let lists : AreLists v = subst AreLists c.prepare.ensures.class c.law.ensures.lists in
    let moved = (warm_moved v q made c.requires.done at lists (cache_now c.args.stripe.now) c.requires.asked.judge refl).1 in
    let P : ClassView → Why → List ℕ → Type 0 = λ x why passed. IsSomeAnd (segment_of q.number (lists_of x.history)) (λ from_seg. MayCome x (shifted_event q.who q.number Warm why q.moment passed at from_seg)) in
    let may : P v (warm_why q.judge) (passed_of q.judge) = may_come v q made c.requires.done at (segment_of q.number (lists_of v.history)) q.judge moved in
    subst (λ (passed : List ℕ). P c.prepare.new.class c.warm_why.result passed) (sym c.passed_of.ensures)
    (subst (λ (why : Why). P c.prepare.new.class why (passed_of q.judge)) (sym c.warm_why.ensures)
    (subst (λ (x : ClassView). P x (warm_why q.judge) (passed_of q.judge)) (sym c.prepare.ensures.class) may))

pub cool-requires-clause-active : goal.cool-requires-clause-active
cool-requires-clause-active c =
    let v = c.args.class.now in
    let q = question_of c.args.ask.now in
    let s = c.args.stripe.now in
    let made = done_of v (cache_now s) q in
    let lists : AreLists v = subst AreLists c.prepare.ensures.class c.law.ensures.lists in
    let active = (warm_moved v q made c.requires.done 0 lists (cache_now s) c.requires.asked.judge refl).0 in
    let same : cache_now c.prepare.new.stripe ≡ cache_now s = ap (λ (t : Site). cache_of t c.prepare.new.stripe.history) c.prepare.ensures.site.site
    ∙ ap (λ (h : List StripeEvent). cache_of s.site h) c.prepare.ensures.history in
    subst (λ (x : Cache). IsActive (x.items c.in_ok-key.key)) (sym same) (keyed _ c.in_ok-key.key (λ k. IsActive ((cache_now s).items k)) c.in_ok-key.ensures.key active)

pub returns-clause-settled : goal.returns-clause-settled
returns-clause-settled c =
    let v = c.args.class.now in
    let q = question_of c.args.ask.now in
    let made = done_of v (cache_now c.args.stripe.now) q in
    let at = c.len-at.result in
    let lists : AreLists v = subst AreLists c.prepare.ensures.class c.law.ensures.lists in
    let moved = (warm_moved v q made c.requires.done at lists (cache_now c.args.stripe.now) c.requires.asked.judge refl).1 in
    let place : at ≡ length c.args.stripe.now.history = c.len-at.ensures ∙ (ap length c.history.ensures.value ∙ ap length c.prepare.ensures.history) in
    warm_settled v q made c.requires.done at c.prepare.new.class c.shift.new.class c.args.stripe.now c.prepare.new.stripe c.cool.new.stripe c.warm_why.result c.passed_of.result c.in_ok-key.key
    c.prepare.ensures.class c.prepare.ensures.history place c.warm_why.ensures c.passed_of.ensures c.in_ok-key.ensures.key c.shift.ensures.event c.cool.ensures.event moved
