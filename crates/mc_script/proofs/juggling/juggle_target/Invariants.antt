use Rattle.std.proofs.Common.{◌≤◌, ◌*◌}
use Rattle.mc_proto.specs.Answers.{moves_of}
use Rattle.mc_script.specs.{Calls.IsSameCaller, Calls.SumsUp, Exchanges.Juggles, Script.classes_from}
use Rattle.mc_script.proofs.juggling.juggle_target.Given as goal

-- the classes so far were juggled, and no sum is large
abbrev pub invariant-loop-i : goal.invariant-loop-i
invariant-loop-i g l = record {
  may : (g.C.Calls.view l.calls).may_call;
  same : IsSameCaller (g.C.Calls.view l.fn.calls) (g.C.Calls.view l.calls);
  reclaimed : l.sums.reclaimed ≤ l.i * 4294967295;
  moved : l.sums.moved ≤ l.i * 4294967295;
  juggled : SumsUp Juggles moves_of (classes_from l.first l.i) l.sums l.moment (g.C.Calls.view l.fn.calls) (g.C.Calls.view l.calls);
}
