use Rattle.std.proofs.Common.{◌≡◌, ◌++◌, take}
use Rattle.mc_proto.specs.Text.{minutes_text}
use Rattle.mc_proto.proofs.text.push_minutes.Given as goal

abbrev pub invariant-loop-i : goal.invariant-loop-i
invariant-loop-i l = l.out.items ≡ l.fn.out.items ++ minutes_text 0 (take l.i l.minutes)
