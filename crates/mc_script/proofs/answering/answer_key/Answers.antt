use Rattle.std.proofs.Common.{rules, [], ◌∷◌, subst}
use Rattle.mc_item.specs.declared.command.Command.{Command}
use Rattle.mc_item.specs.declared.fault.Fault.TheVariants as faults
use Rattle.mc_script.specs.{Calls.Breaks, Calls.FailsKey, Exchanges.Asks}
use Rattle.mc_script.proofs.MadeCallLemmas.{breaks_end, breaks_first, breaks_none}
use Rattle.mc_script.proofs.answering.answer_key.Goals as goal

pub returns-in_err-push_value_head-clause-err : goal.returns-in_err-push_value_head-clause-err
returns-in_err-push_value_head-clause-err g c =
    let now = g.C.Calls.view c.args.calls.now in
    let failed : FailsKey faults.NoMemory c.args.key c.args.reading.exptime c.args.moment now now = breaks_none now in
    search rules

pub returns-in_err-reply-clause-err : goal.returns-in_err-reply-clause-err
returns-in_err-reply-clause-err g c =
    let now = g.C.Calls.view c.args.calls.now in
    let later = g.C.Calls.view c.command.new.self in
    let failed : FailsKey c.in_err-reply.field-0.0 c.args.key c.args.reading.exptime c.args.moment now later =
    subst (λ (asked : Command). Breaks c.in_err-reply.field-0.0 (Asks asked ∷ []) c.args.moment now later) c.command_for.ensures
    (breaks_first {calls = []} c.in_err-reply.ensures.err) in
    search rules

pub returns-in_err-push_value_tail-in-Value-clause-err : goal.returns-in_err-push_value_tail-in-Value-clause-err
returns-in_err-push_value_tail-in-Value-clause-err g c =
    let now = g.C.Calls.view c.args.calls.now in
    let later = g.C.Calls.view c.command.new.self in
    let failed : FailsKey faults.NoMemory c.args.key c.args.reading.exptime c.args.moment now later =
    subst (λ (asked : Command). Breaks faults.NoMemory (Asks asked ∷ []) c.args.moment now later) c.command_for.ensures (breaks_end c.in_ok-reply.ensures.ok) in
    search rules
