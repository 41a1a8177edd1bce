use Rattle.std.proofs.Common.{subst, sym, rules}
use Rattle.std.proofs.lemmas.Result.{IfErr-weaker}
use Rattle.mc_item.specs.declared.fault.Fault.{Fault}
use Rattle.mc_script.specs.Calls.{Fails}
use Rattle.mc_script.proofs.MadeCallLemmas.{breaks_none}
use Rattle.mc_script.proofs.answering.answer_whole.Goals as goal

pub returns-in-Get-clause-err : goal.returns-in-Get-clause-err
returns-in-Get-clause-err g c = rw c.in-Get.is (c.answer_reading.ensures.err c.args.limits)

pub returns-in-Gat-clause-ok : goal.returns-in-Gat-clause-ok
returns-in-Gat-clause-ok g c = let by = c.answer_reading-in-Gat.ensures.ok c.args.limits in rw c.in-Gat.is (search (rules, by))

pub returns-in-Gat-clause-err : goal.returns-in-Gat-clause-err
returns-in-Gat-clause-err g c = let by = c.answer_reading-in-Gat.ensures.err c.args.limits in rw c.in-Gat.is (search (rules, by))

pub returns-in-One-clause-err : goal.returns-in-One-clause-err
returns-in-One-clause-err g c = rw c.in-One.is (c.answer_one.ensures.err c.args.limits)

pub returns-in-Bad-clause-err : goal.returns-in-Bad-clause-err
returns-in-Bad-clause-err g c =
    let now = g.C.Calls.view c.args.calls.now in
    IfErr-weaker c.refuse.result _ _ (λ e is. subst (λ (f : Fault). Fails f c.args.limits c.args.request c.args.moment.now now now) (sym is.0) (breaks_none now)) c.refuse.ensures.err

pub returns-in-Chunks-clause-err : goal.returns-in-Chunks-clause-err
returns-in-Chunks-clause-err g c = rw c.in-Chunks.is (c.answer_chunks.ensures.err c.args.limits c.args.moment.now)
