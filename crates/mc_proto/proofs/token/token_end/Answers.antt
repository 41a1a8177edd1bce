use Rattle.mc_proto.proofs.TokenLemmas.{lacks_more}
use Rattle.mc_proto.proofs.token.token_end.Goals as goal

pub loop-i-preserved : goal.loop-i-preserved
loop-i-preserved c = lacks_more 32 c.args.bytes.now c.loop-i.i c.loop-i-test.true c.loop-i.invariant c.if-b-eq32.false
