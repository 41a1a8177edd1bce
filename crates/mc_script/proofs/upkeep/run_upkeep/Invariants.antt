use Rattle.std.proofs.Common.{◌≡◌, take}
use Rattle.mc_script.specs.Calls.{IsSameCaller}
use Rattle.mc_script.proofs.UpkeepLemmas.{HasKept}
use Rattle.mc_script.proofs.upkeep.run_upkeep.Given as goal

-- the work at the moments so far was done
abbrev pub invariant-loop-i : goal.invariant-loop-i
invariant-loop-i g l = record {
  may : (g.C.Calls.view l.calls).may_call;
  same : IsSameCaller (g.C.Calls.view l.fn.calls) (g.C.Calls.view l.calls);
  kept : HasKept l.limits l.keeper (take l.i l.moments) (g.C.Calls.view l.calls);
  idle : l.i ≡ 0 → l.calls ≡ l.fn.calls;
}
