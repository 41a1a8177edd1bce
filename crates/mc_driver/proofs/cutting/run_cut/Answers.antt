use Rattle.std.proofs.Common.{ap, false, subst}
use Rattle.std.specs.List.{flat_map}
use Rattle.mc_proto.specs.{Gathered.bytes_of_parts, Scripts.AreScripts}
use Rattle.mc_driver.specs.Input.{IsRunOf}
use Rattle.mc_driver.proofs.CutInputLemmas.{run_of}
use Rattle.mc_driver.proofs.cutting.run_cut.Goals as goal

pub returns-clause-ok : goal.returns-clause-ok
returns-clause-ok g c =
    let run = c.in_ok-run.ensures in
    let input = flat_map (λ v. v.items) c.args.input.items in
    let printed = flat_map (λ end. bytes_of_parts end.1.pieces.items) c.in_ok-run.run'.ends.items in
    subst (λ moments. IsRunOf false c.args.plan.config moments input printed c.in_ok-run.run'.outcomes.items c.in_ok-run.run'.ledger) c.as_slice.ensures
    (run_of (λ k. bytes_of_parts k.pieces.items) (λ k. k.share.amount) c.args.plan.config c.as_slice.result.now input c.in_ok-sources.sources.items
    c.in_ok-scripts.scripts.items c.in_ok-run.run'.ends.items c.in_ok-run.run'.outcomes.items c.in_ok-run.run'.ledger c.in_ok-scripts.ensures.sources
    (λ k d below. ap bytes_of_parts (c.in_ok-scripts.ensures.fresh k d below))
    (subst (λ limits. AreScripts limits input c.in_ok-sources.sources.items) c.limits_for.ensures c.in_ok-sources.ensures)
    run.accepted run.done)
