use Rattle.std.proofs.Common.{inl}
use Rattle.mc_script.proofs.ScriptPieceLemmas.{piece_torn, piece_breaks, piece_goes_on, piece_ended, piece_memory, piece_full}
use Rattle.mc_script.proofs.ScriptRunLemmas.{asks_both}
use Rattle.mc_script.proofs.scripting.answer_piece.Goals as goal

pub returns-in-Output-clause-leaves : goal.returns-in-Output-clause-leaves
returns-in-Output-clause-leaves g c = λ came left start done come has. piece_torn come left (rw c.in-Output.is at (c.answer_all-progress.ensures.goes done start has))

pub returns-in-Err-clause-leaves : goal.returns-in-Err-clause-leaves
returns-in-Err-clause-leaves g c = λ came left start done come has.
    piece_breaks come left c.answer_all-progress.result (c.answer_all-progress.ensures.goes done start has) c.in_default.not-Output c.in-Err.ensures.err.1

pub returns-in-More-clause-leaves : goal.returns-in-More-clause-leaves
returns-in-More-clause-leaves g c = λ came left start done come has.
    piece_goes_on (rw c.in-More.is at (c.answer_all-progress.ensures.goes done start has)) c.in-Ok.ensures.ok.0 c.in-Ok.ensures.ok.1

pub returns-in-Ended-clause-leaves : goal.returns-in-Ended-clause-leaves
returns-in-Ended-clause-leaves g c = λ came left start done come has.
    piece_ended come left (rw c.in-Ended.is at (c.answer_all-progress.ensures.goes done start has)) c.in-Ok.ensures.ok.0

pub returns-in-Memory-clause-leaves : goal.returns-in-Memory-clause-leaves
returns-in-Memory-clause-leaves g c = λ came left start done come has.
    inl (piece_memory come left (rw c.in-Memory.is at (c.answer_all-progress.ensures.goes done start has)) c.in-Ok.ensures.ok.0)

pub returns-in-Full-clause-leaves : goal.returns-in-Full-clause-leaves
returns-in-Full-clause-leaves g c = λ came left start done come has.
    piece_full come left (rw c.in-Full.is at (c.answer_all-progress.ensures.goes done start has)) c.in-Ok.ensures.ok.0

pub returns-in-Err-clause-asks_nothing : goal.returns-in-Err-clause-asks_nothing
returns-in-Err-clause-asks_nothing g c = asks_both g.met.E.Ends.goes_on c.answer_all-progress.ensures.asks_nothing c.print_text.ensures.asks_nothing

pub returns-in-More-clause-asks_nothing : goal.returns-in-More-clause-asks_nothing
returns-in-More-clause-asks_nothing g c = asks_both g.met.E.Ends.goes_on c.answer_all-progress.ensures.asks_nothing c.print_text.ensures.asks_nothing

pub returns-in-Ended-clause-asks_nothing : goal.returns-in-Ended-clause-asks_nothing
returns-in-Ended-clause-asks_nothing g c = asks_both g.met.E.Ends.goes_on c.answer_all-progress.ensures.asks_nothing c.print_text.ensures.asks_nothing

pub returns-in-Memory-clause-asks_nothing : goal.returns-in-Memory-clause-asks_nothing
returns-in-Memory-clause-asks_nothing g c = asks_both g.met.E.Ends.goes_on c.answer_all-progress.ensures.asks_nothing c.print_text.ensures.asks_nothing

pub returns-in-Full-clause-asks_nothing : goal.returns-in-Full-clause-asks_nothing
returns-in-Full-clause-asks_nothing g c = asks_both g.met.E.Ends.goes_on c.answer_all-progress.ensures.asks_nothing c.print_text.ensures.asks_nothing
