use Rattle.std.proofs.Common.{ℕ, rules, ◌≡◌, ◌<◌, ◌≤◌, ◌^◌, ◌++◌, ◌∙◌, ap, sym, arith, List, None, length, subst, get_or, length-append}
use Rattle.std.proofs.lemmas.Grind.{common_steps}
use Rattle.mc_item.specs.Measure.{class_of, cost_of}
use Rattle.mc_stripe.proofs.JoinLemmas.{class_of-large}
use Rattle.mc_stripe.proofs.joining.cost_of_both.Goals as goal

pub returns-in_default-clause-none : goal.returns-in_default-clause-none
returns-in_default-clause-none c =
    let cost = cost_of c.args.key.now (c.args.value.now ++ c.args.block.now) in
    let small : (k : ℕ) → get_or c.as_slice-sizes.result.now k 0 < 2 ^ 64 = search rules in
    let keys = ap (length {A = ℕ}) c.bytes.ensures.value in
    let values = ap (length {A = ℕ}) c.bytes-2.ensures in
    let blocks = ap (length {A = ℕ}) c.bytes-3.ensures in
    let large : 2 ^ 64 ≤ cost = omega (arith, length-append c.args.value.now c.args.block.now, c.in_default.ensures) in
    subst (λ (sizes : List ℕ). class_of sizes cost ≡ None) c.as_slice-sizes.ensures.value (class_of-large c.as_slice-sizes.result.now cost (2 ^ 64) small large)

pub returns-in-None-clause-none : goal.returns-in-None-clause-none
returns-in-None-clause-none c =
    let cost_is : c.in-Some.cost ≡ cost_of c.args.key.now (c.args.value.now ++ c.args.block.now) = grind (arith, common_steps) in
    sym (c.in-None.ensures.value ∙ ap (λ (sizes : List ℕ). class_of sizes c.in-Some.cost) c.as_slice-sizes.ensures.value ∙ ap (class_of c.args.site.now.sizes) cost_is)

pub returns-in-Some-least_class-clause-class : goal.returns-in-Some-least_class-clause-class
returns-in-Some-least_class-clause-class c =
    let cost_is : c.in-Some.cost ≡ cost_of c.args.key.now (c.args.value.now ++ c.args.block.now) = grind (arith, common_steps) in
    sym (c.in-Some-least_class.ensures.value ∙ ap (λ (sizes : List ℕ). class_of sizes c.in-Some.cost) c.as_slice-sizes.ensures.value ∙ ap (class_of c.args.site.now.sizes) cost_is)
