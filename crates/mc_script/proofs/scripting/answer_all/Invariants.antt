use Rattle.std.proofs.Common.{◌≡◌, List, ℕ}
use Rattle.mc_script.specs.{Calls.IsSameCaller, Calls.MayAnswer, Progress.AsksNothing, Progress.HasAnswered, Run.NoneEnds, Script.Answered}
use Rattle.mc_script.proofs.ProgressLemmas.{Went}
use Rattle.mc_script.proofs.scripting.answer_all.Given as goal

-- the requests so far were answered, behind those before
abbrev pub invariant-loop-request : goal.invariant-loop-request
invariant-loop-request g l = record {
  ready : MayAnswer l.limits l.state.moment (g.C.Calls.view l.calls);
  same : IsSameCaller (g.C.Calls.view l.fn.calls) (g.C.Calls.view l.calls);
  writes : g.E.Ends.writes l.ends ≡ g.E.Ends.writes l.fn.ends;
  asks_nothing : AsksNothing g.E.Ends.gave g.E.Ends.reads g.E.Ends.over l.fn.ends l.ends;
  own : NoneEnds l.yielded;
  went : (before : List Answered) (start : List ℕ)
      → HasAnswered l.limits before start (g.E.Ends.taken l.fn.ends) l.fn.state.text.items (g.C.Calls.view l.fn.calls) l.fn.state.moment
      → Went l.limits l.yielded before start (g.E.Ends.taken l.ends) l.state.text.items (g.C.Calls.view l.calls) l.state.moment;
}
