use Rattle.std.proofs.Common.{◌≡◌, ◌+◌, ◌∷◌, ◌++◌, [], ap, length, length-append, arith}
use Rattle.std.specs.Prelude.{Vec, vec_capacity}
use Rattle.std.specs.{List.flat_map, declared.alloc.Global.Global}
use Rattle.std.proofs.lemmas.List.Elements.{All-same, All-push}
use Rattle.mc_history.specs.Pieces.{IsFullPiece, IsAhead, ArePiecesSound}
use Rattle.mc_history.proofs.PieceLemmas.{length_of_full, one_more_fits}
use Rattle.mc_history.proofs.pieces.Pieces.make_piece.Goals as goal

pub turn_if_full-requires : goal.turn_if_full-requires
turn_if_full-requires g c =
    let old = c.args.self.now in
    let made = c.in_ok-with_capacity.field-0 in
    let events = length-append (flat_map (λ (p : Vec _ Global). p.items) old.full.items) old.last.items in
    let full = length_of_full (λ (p : Vec _ Global). p.items) 4096 old.full.items c.requires.kept.sound.full in
    let same = ap length c.reserve.ensures.items in
    let grown : c.push_reserved.new.self.items ≡ old.ahead.items ++ made ∷ [] = cc in
    let longer = ap length grown in
    let more = length-append old.ahead.items (made ∷ []) in
    let fits = one_more_fits (vec_capacity old.last) (length old.full.items + length old.ahead.items) c.requires.kept.sound.last (omega (arith, full, events, c.requires.few, old.last.ok)) in
    let sound : ArePiecesSound (record { last = old.last; full = c.reserve.new.self; ahead = c.push_reserved.new.self }) = record {
      full = All-same IsFullPiece _ _ c.reserve.ensures.items c.requires.kept.sound.full;
      last = c.requires.kept.sound.last;
      ahead = All-same IsAhead _ _ grown (All-push IsAhead _ _ c.requires.kept.sound.ahead (record { none = ap length c.in_ok-with_capacity.ensures.items; places = c.in_ok-with_capacity.ensures.exact }));
      behind = omega (arith, same, longer, more, c.in_ok-reserve.ensures.ok, c.reserve.new.self.ok, c.len.ensures, old.ahead.ok);
      places = omega (arith, same, longer, more, fits);
    } in
    record { sound = sound }
