use Rattle.std.proofs.Common.{Result, Ok, ℕ}
use Rattle.mc_item.specs.declared.fault.Fault.{Fault}
use Rattle.mc_store.proofs.CallerLemmas.{told_answer}
use Rattle.mc_store.proofs.pairing.note_if.Goals as goal

pub returns-then-done-clause-told : goal.returns-then-done-clause-told
returns-then-done-clause-told g c = λ yes.
    let done : Result ℕ Fault = Ok c.args.place in
    told_answer g.N.Named.config c.args.caller.now c.note.new.self c.args.seen.now c.note.new.seen c.note.ensures.told done
