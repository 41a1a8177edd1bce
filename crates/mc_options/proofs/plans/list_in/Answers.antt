use Rattle.std.proofs.Common.{arith, rules, tests, eqb, sym, length, ◌∙◌}
use Rattle.std.proofs.lemmas.{List.length_push, Iterator.Splits.YieldsList-from_slice_split}
use Rattle.std.proofs.lemmas.Iterator.Consumers.{YieldsList-at, YieldsList-turn, YieldsList-end}
use Rattle.std.specs.List.{slice_split}
use Rattle.mc_options.proofs.WordLemmas.{part_read, part_refused, parts_read}
use Rattle.mc_options.proofs.plans.list_in.Goals as goal

pub loop-digits-preserved : goal.loop-digits-preserved
loop-digits-preserved c =
    let turn = YieldsList-turn (YieldsList-at c.into_iter-digits-iterator.ensures.into_iter_gives
    (YieldsList-from_slice_split _ (λ b. eqb b 44) c.args.text.now c.split-digits-items.ensures.rest c.split-digits-items.ensures.done
    c.split-digits-items.ensures.closure (λ x r q k. search (rules, tests)))) c.loop-digits.yielded _ c.loop-digits.yielded_by _ _ c.in-Some.digits
    c.in-Some.is c.next.ensures.steps in
    part_read c.loop-digits.numbers.items c.push.new.self.items (slice_split (λ b. eqb b 44) c.args.text.now) (length c.loop-digits.yielded) _
    c.in-Some.digits.now c.in-Some-number_of.number turn.0 turn.1 (sym c.number_of.ensures.value
    ∙ c.in-Some-number_of.is) c.in_ok-push-in-Some-number_of.ensures.items (length_push c.loop-digits.yielded c.in-Some.digits) c.loop-digits.invariant

pub returns-in-None-number_of : goal.returns-in-None-number_of
returns-in-None-number_of c =
    let turn = YieldsList-turn (YieldsList-at c.into_iter-digits-iterator.ensures.into_iter_gives
    (YieldsList-from_slice_split _ (λ b. eqb b 44) c.args.text.now c.split-digits-items.ensures.rest c.split-digits-items.ensures.done
    c.split-digits-items.ensures.closure (λ x r q k. search (rules, tests)))) c.loop-digits.yielded _ c.loop-digits.yielded_by _ _ c.in-Some.digits
    c.in-Some.is c.next.ensures.steps in
    part_refused c.loop-digits.numbers.items c.args.text.now (length c.loop-digits.yielded) c.in-Some.digits.now turn (sym c.number_of.ensures.value ∙ c.in-None-number_of.is) c.loop-digits.invariant

pub returns : goal.returns
returns c =
    let end = YieldsList-end (YieldsList-at c.into_iter-digits-iterator.ensures.into_iter_gives
    (YieldsList-from_slice_split _ (λ b. eqb b 44) c.args.text.now c.split-digits-items.ensures.rest c.split-digits-items.ensures.done
    c.split-digits-items.ensures.closure (λ x r q k. search (rules, tests)))) c.loop-digits.yielded _ c.loop-digits.yielded_by _ _ c.in-None.is
    c.next.ensures.steps in
    parts_read c.loop-digits.numbers.items c.args.text.now (length c.loop-digits.yielded) (omega (arith, end.1)) c.loop-digits.invariant
