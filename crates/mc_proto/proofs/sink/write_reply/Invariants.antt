use Rattle.std.proofs.Common.{◌≡◌, ◌++◌, List, ℕ, length}
use Rattle.mc_proto.proofs.sink.write_reply.Given as goal

abbrev pub invariant-loop-rest : goal.invariant-loop-rest
invariant-loop-rest g l = record {
  written : (front : List ℕ) × (l.text ≡ front ++ l.rest) × (g.K.Sink.taken l.sink ≡ g.K.Sink.taken l.fn.sink ++ front);
  fine : g.K.Sink.failures l.sink ≡ g.K.Sink.failures l.fn.sink;
}

abbrev pub decreases-loop-rest : goal.decreases-loop-rest
decreases-loop-rest g l = length l.rest
