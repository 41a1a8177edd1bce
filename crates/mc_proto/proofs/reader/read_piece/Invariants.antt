use Rattle.std.proofs.Common.{◌≡◌, ◌++◌, List, ℕ, length, All}
use Rattle.mc_proto.specs.{Grammar.IsModerate, Reader.After, Reader.IsSoundReader}
use Rattle.mc_proto.specs.declared.request.Request.{Request}
use Rattle.mc_proto.proofs.reader.read_piece.Given as goal

-- what came of the piece before `rest` has been read
abbrev pub invariant-loop-alloc : goal.invariant-loop-alloc
invariant-loop-alloc g l = record {
  sound : IsSoundReader l.state l.line.items;
  moderate : All (IsModerate l.limits) l.requests.items;
  read : (front : List ℕ) × (g.P.Piece.unread l.fn.piece ≡ front ++ g.P.Piece.unread l.rest)
      × ((stream : List ℕ) (requests : List Request) → After l.limits l.fn.state l.fn.line.items stream requests
      → After l.limits l.state l.line.items (stream ++ front) (requests ++ l.requests.items));
}

abbrev pub decreases-loop-alloc : goal.decreases-loop-alloc
decreases-loop-alloc g l = length (g.P.Piece.unread l.rest)
