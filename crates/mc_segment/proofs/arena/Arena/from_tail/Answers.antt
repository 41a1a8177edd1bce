use Rattle.std.proofs.Common.{◌≡◌, ◌-◌, ap, ◌∙◌, sym, None, length, arith}
use Rattle.std.specs.List.{slice_get}
use Rattle.mc_rule.specs.Lists.{list_of}
use Rattle.mc_segment.specs.declared.ends.Ends.{Ends}
use Rattle.mc_segment.specs.{Nodes.before, Arena.part, Arena.code}
use Rattle.mc_segment.proofs.TailLemmas.{before_last, not_yet, missing, next_is, entry_is, node_here}
use Rattle.mc_segment.proofs.{OneListLemmas.mine, ArenaLemmas.seen}
use Rattle.mc_segment.proofs.arena.Arena.from_tail.Goals as goal

pub loop-init : goal.loop-init
loop-init c =
    let es = list_of c.args.self.now.lists c.args.seg in
    let p = (seen c.self.inside.slots _ _ _ c.self.view_is c.self.invariant).parts c.args.seg in
    let zero : length es ≡ length es - 0 = omega arith in
    (ap (λ (x : Ends). x.oldest) c.of-at.ensures ∙ (p.oldest_is ∙ (sym (before_last None es) ∙ ap (before None es) zero)), omega arith)

pub returns-in_err-number-clause-inside : goal.returns-in_err-number-clause-inside
returns-in_err-number-clause-inside c = λ h.
    let p = (seen c.self.inside.slots _ _ _ c.self.view_is c.self.invariant).parts c.args.seg in
    absurd (not_yet _ _ _ _ _ _ c.loop.counter 0 c.loop.at p c.loop.invariant.0 c.loop.invariant.1 c.in_err-number.was (omega arith))

pub returns-in_err-place-clause-inside : goal.returns-in_err-place-clause-inside
returns-in_err-place-clause-inside c = λ h.
    let p = (seen c.self.inside.slots _ _ _ c.self.view_is c.self.invariant).parts c.args.seg in
    absurd (missing _ _ _ _ _ _ c.loop.counter c.in_ok-number.number c.loop.at p c.loop.invariant.0 c.loop.invariant.1 c.in_ok-number.was (ap (part (code c.args.seg)) (sym c.in_err-place.ensures)))

pub loop-preserved : goal.loop-preserved
loop-preserved c =
    let p = (seen c.self.inside.slots _ _ _ c.self.view_is c.self.invariant).parts c.args.seg in
    let here = node_here _ _ _ _ _ _ c.loop.counter c.in_ok-number.number c.loop.at p c.loop.invariant.0 c.loop.invariant.1 c.in_ok-number.was in
    next_is _ _ _ _ _ _ c.loop.counter c.in_ok-number.number c.loop.at p c.loop.invariant.0 c.loop.invariant.1 _ c.in_ok-number.was (mine (code c.args.seg) _ _ _ here (sym c.in_ok-place.ensures))

pub returns-in_err-number-2-clause-inside : goal.returns-in_err-number-2-clause-inside
returns-in_err-number-2-clause-inside c = λ h.
    let p = (seen c.self.inside.slots _ _ _ c.self.view_is c.self.invariant).parts c.args.seg in
    absurd (not_yet _ _ _ _ _ _ c.loop.counter 0 c.loop.at p c.loop.invariant.0 c.loop.invariant.1 c.in_err-number-2.was (omega arith))

pub returns-in_err-place-2-clause-inside : goal.returns-in_err-place-2-clause-inside
returns-in_err-place-2-clause-inside c = λ h.
    let p = (seen c.self.inside.slots _ _ _ c.self.view_is c.self.invariant).parts c.args.seg in
    absurd (missing _ _ _ _ _ _ c.loop.counter c.in_ok-number-2.number c.loop.at p c.loop.invariant.0 c.loop.invariant.1 c.in_ok-number-2.was (ap (part (code c.args.seg)) (sym c.in_err-place-2.ensures)))

pub returns-clause-inside : goal.returns-clause-inside
returns-clause-inside c = λ h.
    let es = list_of c.args.self.now.lists c.args.seg in
    let p = (seen c.self.inside.slots _ _ _ c.self.view_is c.self.invariant).parts c.args.seg in
    let same : c.loop.counter ≡ c.args.j = omega arith in
    let here = node_here _ _ _ _ _ _ c.loop.counter c.in_ok-number-2.number c.loop.at p c.loop.invariant.0 c.loop.invariant.1 c.in_ok-number-2.was in
    entry_is _ _ _ _ _ _ c.loop.counter c.in_ok-number-2.number c.loop.at p c.loop.invariant.0 c.loop.invariant.1 _ c.in_ok-number-2.was
    (mine (code c.args.seg) _ _ _ here (sym c.in_ok-place-2.ensures)) ∙ ap (λ j. slice_get es (length es - 1 - j)) same
