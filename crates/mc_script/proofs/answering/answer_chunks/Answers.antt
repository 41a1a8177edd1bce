use Rattle.std.proofs.Common.{rules, ◌∷◌, []}
use Rattle.mc_item.specs.declared.fault.Fault.TheVariants as faults
use Rattle.mc_proto.specs.Answers.{Limited}
use Rattle.mc_proto.specs.declared.request.Request.TheVariants as requests
use Rattle.mc_script.specs.Calls.{Fails}
use Rattle.mc_script.proofs.MadeCallLemmas.{breaks_end, breaks_first}
use Rattle.mc_script.proofs.answering.answer_chunks.Goals as goal

pub returns-in_err-limit-clause-err : goal.returns-in_err-limit-clause-err
returns-in_err-limit-clause-err g c = λ limits moment.
    let failed : Fails c.in_err-limit.field-0.0 limits (requests.Chunks c.args.class c.args.chunks) moment (g.C.Calls.view c.args.calls.now) (g.C.Calls.view c.limit.new.self) =
    breaks_first (c.in_err-limit.ensures.err moment) in
    search rules

pub returns-in_err-push_chunks-clause-err : goal.returns-in_err-push_chunks-clause-err
returns-in_err-push_chunks-clause-err g c = λ limits moment.
    let failed : Fails faults.NoMemory limits (requests.Chunks c.args.class c.args.chunks) moment (g.C.Calls.view c.args.calls.now) (g.C.Calls.view c.limit.new.self) =
    breaks_end (c.in_ok-limit.ensures.ok moment) in
    search rules

pub returns-clause-ok : goal.returns-clause-ok
returns-clause-ok g c = λ limits moment. record { answers = Limited ∷ []; texts = c.in_ok-push_chunks.ensures.ok; makes = c.in_ok-limit.ensures.ok moment }
