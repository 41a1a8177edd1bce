use Rattle.std.proofs.Common.{◌≡◌, ◌++◌, ◌∷◌, [], ◌∙◌, List, length, ap, sym, rules, arith}
use Rattle.std.specs.Prelude.{slice_get}
use Rattle.mc_item.specs.declared.class_event.ClassEvent.{ClassEvent}
use Rattle.mc_segment.specs.ClassState.{HasPlaces}
use Rattle.mc_segment.proofs.StateLemmas.{keeps, seen_lists, last_is}
use Rattle.mc_segment.proofs.state.ClassState.note.Goals as goal

more : (c : goal.After-push_whole) → c.push_whole.new.history.items ≡ c.self.inside.history.items ++ c.args.event ∷ []
more c = search rules

pub invariant_of-self-2 : goal.invariant_of-self-2
invariant_of-self-2 c =
    let place : HasPlaces c.args.self.now 1 = search rules in
    keeps _ _ _ _ _ _ _ _ _ c.self.invariant c.self.view_is c.self.inside.lists _ _ c.args.event (more c)
    (seen_lists _ _ _ _ _ _ _ _ _ c.self.invariant c.self.view_is ∙ sym c.requires.stays.lists)
    (omega (arith, c.requires.stays.links)) (sym (c.requires.stays.limits _)) place (λ q below. c.requires.stays.names q) c.requires.lawful

pub returns-clause-noted : goal.returns-clause-noted
returns-clause-noted c =
    let es = c.self.inside.history.items in
    let at : c.len-place.result ≡ length es = search (rules, arith) in
    ap (λ (now : List ClassEvent). slice_get now c.len-place.result) (more c)
    ∙ (ap (slice_get (es ++ c.args.event ∷ [])) at ∙ last_is es c.args.event)
