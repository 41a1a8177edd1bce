use Rattle.std.proofs.Common.{◌≡◌}
use Rattle.mc_proto.specs.declared.state.State.TheVariants.{Closed}
use Rattle.mc_proto.proofs.TakingLemmas.{seen_closed, closed_reads}
use Rattle.mc_proto.proofs.reader.Reader.read.Goals as goal

pub returns-in-Closed-clause-reads : goal.returns-in-Closed-clause-reads
returns-in-Closed-clause-reads g c = λ stream requests a.
    let r = c.self.inside in
    let shut : c.args.self.now.state ≡ Closed = seen_closed c.args.self.now r.limits r.state r.line.items c.self.view_is c.in-Closed.is in
    closed_reads c.args.self.now stream (g.P.Piece.unread c.args.piece) requests c.new.result.items shut c.new.ensures.items a
