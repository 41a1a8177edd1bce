use Rattle.std.proofs.Common.{ap, ◌∙◌, sym}
use Rattle.std.specs.Option.{option_map}
use Rattle.mc_item.specs.declared.{lists.Entry.Entry, lists.Seg.Seg}
use Rattle.mc_segment.proofs.{OneListLemmas.named, ArenaLemmas.seen, ArenaLemmas.found_is}
use Rattle.mc_segment.proofs.arena.Arena.segment_of.Goals as goal

pub returns-in_err-place_at : goal.returns-in_err-place_at
returns-in_err-place_at c =
    let a = seen c.self.inside.slots _ _ _ c.self.view_is c.self.invariant in
    c.from_residual.ensures ∙ ap (option_map (λ (p : Seg × Entry). p.0)) (ap named c.in_err-place_at.ensures ∙ sym (found_is _ _ _ _ a c.args.number))

pub returns : goal.returns
returns c =
    let a = seen c.self.inside.slots _ _ _ c.self.view_is c.self.invariant in
    ap (option_map (λ (p : Seg × Entry). p.0)) (ap named c.in_ok-place_at.ensures ∙ sym (found_is _ _ _ _ a c.args.number))
