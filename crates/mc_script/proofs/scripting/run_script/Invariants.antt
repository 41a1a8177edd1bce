use Rattle.std.proofs.Common.{◌≡◌, List, ℕ, []}
use Rattle.mc_script.specs.{Calls.IsSameCaller, Calls.MayAnswer}
use Rattle.mc_script.proofs.ScriptRunLemmas.{IsOnWay}
use Rattle.mc_script.proofs.scripting.run_script.Given as goal

-- between two pieces all texts are out
abbrev pub invariant-loop : goal.invariant-loop
invariant-loop g l = record {
  ready : MayAnswer l.fn.limits l.state.moment (g.C.Calls.view l.calls);
  same : IsSameCaller (g.C.Calls.view l.fn.calls) (g.C.Calls.view l.calls);
  reads : g.E.Ends.reads l.ends ≡ g.E.Ends.reads l.fn.ends;
  writes : g.E.Ends.writes l.ends ≡ g.E.Ends.writes l.fn.ends;
  over : g.E.Ends.over l.ends ≡ g.E.Ends.over l.fn.ends;
  limits : l.reader.limits ≡ l.fn.limits;
  none : l.state.text.items ≡ [];
  came : List ℕ;
  since : g.E.Ends.gave l.fn.ends l.ends came;
  way : IsOnWay l.fn.limits l.reader.state l.reader.unread came (g.E.Ends.taken l.fn.ends) (g.E.Ends.taken l.ends) l.state.text.items
      (g.C.Calls.view l.calls) l.state.moment;
}
