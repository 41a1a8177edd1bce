use Rattle.std.proofs.Common.{◌≡◌, ◌∙◌, sym, ap, ℕ, ◌+◌, List, set, get_or, arith, add-one}
use Rattle.mc_item.proofs.CountsLemmas.{summed, get_or-summed, summed-next, summed-all, pair_fits}
use Rattle.mc_item.proofs.counts.add_minutes.Goals as goal

pub overflow_add-minutes : goal.overflow_add-minutes
overflow_add-minutes c =
    let here : get_or c.loop-i.minutes c.loop-i.i 0 ≡ get_or c.args.minutes.now c.loop-i.i 0 =
    ap (λ (t : List ℕ). get_or t c.loop-i.i 0) c.loop-i.invariant ∙ get_or-summed c.loop-i.i c.args.minutes.now c.args.others.now 0 in
    let fits = pair_fits c.loop-i.i c.args.minutes.now c.args.others.now 0 0 c.requires.fit (omega arith) (omega arith) in
    omega arith

pub loop-i-preserved : goal.loop-i-preserved
loop-i-preserved c =
    let here : get_or c.loop-i.minutes c.loop-i.i 0 ≡ get_or c.args.minutes.now c.loop-i.i 0 =
    ap (λ (t : List ℕ). get_or t c.loop-i.i 0) c.loop-i.invariant ∙ get_or-summed c.loop-i.i c.args.minutes.now c.args.others.now 0 in
    let next = summed-next c.loop-i.i c.args.minutes.now c.args.others.now 0 0 (omega arith) (omega arith) in
    ap (λ (n : ℕ). set c.loop-i.minutes c.loop-i.i (n + get_or c.args.others.now c.loop-i.i 0)) here
    ∙ ap (λ (t : List ℕ). set t c.loop-i.i (get_or c.args.minutes.now c.loop-i.i 0 + get_or c.args.others.now c.loop-i.i 0)) c.loop-i.invariant
    ∙ next ∙ ap (λ (n : ℕ). summed n c.args.minutes.now c.args.others.now) (sym (add-one c.loop-i.i))

pub returns : goal.returns
returns c = c.loop-i.invariant ∙ summed-all c.loop-i.i c.args.minutes.now c.args.others.now (omega arith) (omega arith)
