use Rattle.std.proofs.Common.{◌∙◌, ◌++◌, ap}
use Rattle.std.proofs.lemmas.Grind.{flat_map-append}
use Rattle.std.specs.List.{flat_map}
use Rattle.mc_proto.proofs.UncutLemmas.{all_bytes, flat_push}
use Rattle.mc_proto.proofs.uncut.Uncut.take_all.Goals as goal

pub returns : goal.returns
returns c =
    let u = c.self.inside in
    ap (flat_map (λ p. p.items)) c.in_ok-append.ensures.items ∙ flat_map-append (λ p. p.items) c.push_back.new.self.items u.rest.items
    ∙ ap (λ t. t ++ flat_map (λ p. p.items) c.self.inside.rest.items) (flat_push (λ p. p.items) u.done.items c.push_back.new.self.items c.in_ok-piece_from.field-0 c.in_ok-push_back.ensures.items)
    ∙ all_bytes (flat_map (λ p. p.items) u.done.items) u.piece.items c.in_ok-piece_from.field-0.items (flat_map (λ p. p.items) u.rest.items) u.begin u.at c.self.invariant.0 c.self.invariant.1 c.in_ok-piece_from.ensures
    ∙ ap (λ v. v.passed ++ v.coming) c.self.view_is
