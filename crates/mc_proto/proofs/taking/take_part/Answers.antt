use Rattle.std.proofs.Common.{◌++◌, length, take}
use Rattle.mc_proto.proofs.TakingLemmas.{stays_closed}
use Rattle.mc_proto.proofs.taking.take_part.Goals as goal

pub returns-in-Closed-clause-reads : goal.returns-in-Closed-clause-reads
returns-in-Closed-clause-reads g c = λ stream before a.
    rw c.bytes.ensures
    (stays_closed c.args.limits c.args.state.now c.args.line.now.items c.args.line.now.items stream
    (take (length (g.P.Piece.unread c.args.piece.now)) (g.P.Piece.unread c.args.piece.now)) (before ++ c.args.requests.now.items) c.in-Closed.is a)

pub returns-in-Block-replace-clause-moderate : goal.returns-in-Block-replace-clause-moderate
returns-in-Block-replace-clause-moderate g c = c.take_block.ensures.moderate c.args.limits

pub returns-in-Skip-replace-clause-moderate : goal.returns-in-Skip-replace-clause-moderate
returns-in-Skip-replace-clause-moderate g c = c.take_skipped.ensures.moderate c.args.limits
