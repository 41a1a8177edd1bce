use Rattle.std.proofs.Common.{rules}
use Rattle.mc_item.specs.declared.fault.Fault.TheVariants as faults
use Rattle.mc_proto.specs.declared.request.Request.TheVariants as requests
use Rattle.mc_script.specs.Calls.{Fails}
use Rattle.mc_script.proofs.MadeCallLemmas.{breaks_end, breaks_first}
use Rattle.mc_script.proofs.answering.answer_one.Goals as goal

pub returns-in_err-reply-clause-err : goal.returns-in_err-reply-clause-err
returns-in_err-reply-clause-err g c = λ limits.
    let failed : Fails c.in_err-reply.field-0.0 limits (requests.One c.args.command c.args.quiet) c.args.moment (g.C.Calls.view c.args.calls.now) (g.C.Calls.view c.command.new.self) =
    breaks_first c.in_err-reply.ensures.err in
    search rules

pub returns-in_err-push_unless-clause-err : goal.returns-in_err-push_unless-clause-err
returns-in_err-push_unless-clause-err g c = λ limits.
    let failed : Fails faults.NoMemory limits (requests.One c.args.command c.args.quiet) c.args.moment (g.C.Calls.view c.args.calls.now) (g.C.Calls.view c.command.new.self) =
    breaks_end c.in_ok-reply.ensures.ok in
    search rules
