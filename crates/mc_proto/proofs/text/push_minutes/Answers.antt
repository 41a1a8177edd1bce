use Rattle.std.proofs.Common.{arith, refl}
use Rattle.mc_proto.proofs.TextLemmas.{minutes_more}
use Rattle.mc_proto.proofs.text.push_minutes.Goals as goal

pub loop-i-preserved : goal.loop-i-preserved
loop-i-preserved c =
    minutes_more c.args.out.now.items c.loop-i.out.items c.push_minute.new.out.items c.args.minutes.now c.loop-i.i _ c.loop-i.invariant (omega arith) refl c.in_ok-push_minute.ensures.ok
