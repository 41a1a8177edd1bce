use Rattle.std.proofs.Common.{◌≡◌, ◌++◌, ◌∙◌, sym, ap, take, List, ℕ, take-append-drop}
use Rattle.mc_proto.proofs.TakingLemmas.{part_more}
use Rattle.mc_proto.proofs.reader.read_piece.Goals as goal

pub loop-alloc-preserved : goal.loop-alloc-preserved
loop-alloc-preserved g c =
    let at = c.loop-alloc in
    let next = c.in_ok-taken in
    let rest = g.P.Piece.unread c.loop-alloc.rest in
    let cut : rest ≡ take c.in_ok-taken.taken rest ++ g.P.Piece.unread c.pass.new.self =
    sym (take-append-drop c.in_ok-taken.taken rest) ∙ ap (λ (t : List ℕ). take c.in_ok-taken.taken rest ++ t) (sym c.pass.ensures) in
    record {
      sound = next.ensures.sound;
      moderate = next.ensures.moderate at.invariant.moderate;
      read = part_more _ _ _ _ _ _ _ _ at.invariant.read.0 _ (take c.in_ok-taken.taken rest) _ _ _ at.invariant.read.1 cut at.invariant.read.2 next.ensures.reads;
    }
