use Rattle.mc_script.specs.Calls.{Begins, IsSameCaller}
use Rattle.mc_script.proofs.KeyLemmas.{HasKeys}
use Rattle.mc_script.proofs.answering.answer_reading.Given as goal

-- the keys so far were answered
abbrev pub invariant-loop-key : goal.invariant-loop-key
invariant-loop-key g l = record {
  may : (g.C.Calls.view l.calls).may_call;
  same : IsSameCaller (g.C.Calls.view l.fn.calls) (g.C.Calls.view l.calls);
  front : Begins l.fn.text.items l.text.items;
  keys : HasKeys l.yielded l.reading.exptime l.reading.with_cas l.moment (g.C.Calls.view l.fn.calls) (g.C.Calls.view l.calls) l.fn.text.items l.text.items;
}
