use Rattle.std.proofs.Common.{◌+◌, ap, ◌∙◌, sym, Some}
use Rattle.std.specs.Option.{option_copied}
use Rattle.mc_segment.specs.declared.arena.Node.{Node}
use Rattle.mc_segment.specs.{Slots.slot, Arena.part, Arena.code, Arena.nodes_of}
use Rattle.mc_segment.proofs.{ChainLemmas.some_none, OneListLemmas.named, OneListLemmas.mine, ArenaLemmas.seen, ArenaLemmas.found_is}
use Rattle.mc_segment.proofs.TailLemmas.{not_missing, none_newer, newer_stands, tail_node, some_same}
use Rattle.mc_segment.proofs.arena.Arena.next_newer.Goals as goal

pub returns-in_err-place_at-clause-newer : goal.returns-in_err-place_at-clause-newer
returns-in_err-place_at-clause-newer c = λ s j e there same.
    let a = seen c.self.inside.slots _ _ _ c.self.view_is c.self.invariant in
    absurd (not_missing _ _ _ _ _ _ (a.parts s) j e there (ap (nodes_of (slot c.self.inside.slots) (code s)) same ∙ ap (part (code s)) (sym c.in_err-place_at.ensures)))

pub returns-in_err-newer-clause-newer : goal.returns-in_err-newer-clause-newer
returns-in_err-newer-clause-newer c = λ s j e there same.
    let p = (seen c.self.inside.slots _ _ _ c.self.view_is c.self.invariant).parts s in
    let is = ap (slot c.self.inside.slots) same ∙ sym c.in_ok-place_at.ensures in
    ap option_copied c.from_residual-in_err-newer.ensures
    ∙ none_newer _ _ _ _ _ _ p j e there _ (mine (code s) _ _ _ (tail_node _ _ _ _ _ _ p j e there).1 is) c.in_err-newer.was

pub returns-in_err-place_at-2-clause-newer : goal.returns-in_err-place_at-2-clause-newer
returns-in_err-place_at-2-clause-newer c = λ s j e there same.
    let p = (seen c.self.inside.slots _ _ _ c.self.view_is c.self.invariant).parts s in
    let is = ap (slot c.self.inside.slots) same ∙ sym c.in_ok-place_at.ensures in
    let later = newer_stands _ _ _ _ _ _ p j e there _ _ (mine (code s) _ _ _ (tail_node _ _ _ _ _ _ p j e there).1 is) c.in_ok-newer.was in
    absurd (not_missing _ _ _ _ _ _ p (j + 1) later.0 later.2 (ap (nodes_of (slot c.self.inside.slots) (code s)) (sym later.1) ∙ ap (part (code s)) (sym c.in_err-place_at-2.ensures)))

pub returns-clause-newer : goal.returns-clause-newer
returns-clause-newer c = λ s j e there same.
    let p = (seen c.self.inside.slots _ _ _ c.self.view_is c.self.invariant).parts s in
    let is = ap (slot c.self.inside.slots) same ∙ sym c.in_ok-place_at.ensures in
    let later = newer_stands _ _ _ _ _ _ p j e there _ _ (mine (code s) _ _ _ (tail_node _ _ _ _ _ _ p j e there).1 is) c.in_ok-newer.was in
    let node = tail_node _ _ _ _ _ _ p (j + 1) later.0 later.2 in
    let here = mine (code s) _ _ _ node.1 (ap (slot c.self.inside.slots) (sym later.1) ∙ sym c.in_ok-place_at-2.ensures) in
    ap (λ (x : Node). Some x.entry) (some_same _ _ (sym here ∙ node.1)) ∙ sym later.2

pub returns-clause-absent : goal.returns-clause-absent
returns-clause-absent c = λ none.
    let a = seen c.self.inside.slots _ _ _ c.self.view_is c.self.invariant in
    absurd (some_none (sym none ∙ (found_is _ _ _ _ a c.args.number ∙ ap named (sym c.in_ok-place_at.ensures))))
