use Rattle.std.proofs.Common.{◌≡◌, ◌-◌, ◌*◌, ◌/◌, ◌%◌, None, Some, sym, ap, ◌∙◌, arith}
use Rattle.std.specs.Prelude.{slice_get, Vec}
use Rattle.std.specs.declared.alloc.Global.{Global}
use Rattle.std.proofs.Math.Nat.{div-add-mod}
use Rattle.mc_history.proofs.PieceLemmas.{get_in_full, get_behind, length_of_full, past_from_none}
use Rattle.mc_history.proofs.pieces.Pieces.get.Goals as goal

pub returns-in-Some : goal.returns-in-Some
returns-in-Some g c =
    let piece = c.args.place / 4096 in
    let rest = c.args.place % 4096 in
    let there : slice_get c.args.self.now.full.items piece ≡ Some c.in-Some.piece.now = sym (c.in-Some.ensures ∙ ap (λ ps. slice_get ps piece) c.as_slice.ensures.value) in
    c.item_at-in-Some.ensures ∙ (ap (λ es. slice_get es rest) c.as_slice-in-Some.ensures.value
    ∙ sym (get_in_full (λ (p : Vec _ Global). p.items) 4096 _ _ _ piece rest c.args.place c.requires.kept.sound.full there (omega arith) (sym (div-add-mod c.args.place 4096))))

pub returns-in-None : goal.returns-in-None
returns-in-None g c =
    let full = length_of_full (λ (p : Vec _ Global). p.items) 4096 c.args.self.now.full.items c.requires.kept.sound.full in
    let none : None ≡ slice_get c.args.self.now.full.items (c.args.place / 4096) = c.in-None.ensures ∙ ap (λ ps. slice_get ps (c.args.place / 4096)) c.as_slice.ensures.value in
    let past = past_from_none c.args.self.now.full.items (c.args.place / 4096) none in
    let rest = c.args.place - 4096 * c.len.result in
    c.item_at-in-None.ensures ∙ (ap (λ es. slice_get es rest) c.as_slice-in-None.ensures.value
    ∙ sym (get_behind _ _ c.args.place rest (omega (arith, full, past, c.len.ensures, c.args.self.now.full.ok))))
