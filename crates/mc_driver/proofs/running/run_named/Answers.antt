use Rattle.std.proofs.Common.{◌≡◌, ◌∙◌, List, ap, arith, length, map, slice_get, slice_index_or, sym, subst}
use Rattle.std.proofs.lemmas.List.{length-map}
use Rattle.mc_hits.specs.Views.{tables_of}
use Rattle.mc_store.specs.{Finals.AreClasses, Finals.AreStripes, Finals.FinalView, Passes.ArePasses, Passes.PassView}
use Rattle.mc_driver.specs.{Jobs.HasWorked, Jobs.MayRunAll, Jobs.ends_in, Left.IsRunDone, Run.limits_of}
use Rattle.mc_driver.proofs.{JobLemmas.all_start, JobLemmas.jobs_may, RunLeavesLemmas.store_left, RunLemmas.run_left, RunLemmas.written_back}
use Rattle.mc_driver.proofs.running.run_named.Goals as goal

pub run_jobs-requires-clause-first : goal.run_jobs-requires-clause-first
run_jobs-requires-clause-first g c = λ lifetimes met.
    all_start (λ job. job.calls.pass) g.N.Named.config g.N.Named.queues c.as_mut_slice.result.now c.in-Ok.passes.items g.N.Named.config.callers
    (ap (λ js. map (λ job. job.calls.pass) js) c.as_mut_slice.ensures.value ∙ c.jobs_for-jobs.ensures.passes) c.in-Ok.ensures.passes c.requires.fit.bounded.some_stripes

pub run_jobs-requires-clause-asks : goal.run_jobs-requires-clause-asks
run_jobs-requires-clause-asks g c = λ lifetimes met.
    jobs_may g.E.Ends.gave g.E.Ends.taken g.E.Ends.reads g.E.Ends.writes g.E.Ends.over g.E.Ends.may_ask c.limits_for-limits.result (λ job. job.work)
    c.as_mut_slice.result.now c.args.scripts.items (ap (λ js. map (λ job. job.work) js) c.as_mut_slice.ensures.value ∙ c.jobs_for-jobs.ensures.works)
    (subst (λ l. MayRunAll g.E.Ends.gave g.E.Ends.taken g.E.Ends.reads g.E.Ends.writes g.E.Ends.over g.E.Ends.may_ask l c.args.scripts.items)
    (sym (c.limits_for-limits.ensures ∙ ap limits_of c.requires.named.1)) c.requires.asks)

pub end_all-requires-clause-room : goal.end_all-requires-clause-room
end_all-requires-clause-room g c =
    let many = c.run_jobs.ensures.many ∙ ap length c.as_mut_slice.ensures.value in
    let back = written_back c.jobs_for-jobs.result.items c.run_jobs.new.jobs c.jobs_for-jobs.result.len c.jobs_for-jobs.result.ok.0 many in
    let shown = ap length c.jobs_for-jobs.ensures.passes in
    let mapped = length-map c.jobs_for-jobs.result.items (λ job. job.calls.pass) in (
      omega (arith, ap length back, many, shown, mapped, c.len-2.ensures, c.in-Ok.passes.ok.0, c.in-Ok-with_room.ensures.room.0),
      omega (arith, ap length back, many, shown, mapped, c.len-2.ensures, c.in-Ok.passes.ok.0, c.in-Ok-with_room.ensures.room.1),
      omega (arith, ap length back, many, shown, mapped, c.len-2.ensures, c.in-Ok.passes.ok.0, c.in-Ok-with_room.ensures.room.2),
    )

pub returns : goal.returns
returns g c =
    let config = g.N.Named.config in
    let final = c.close-ledger.result in
    let done = c.run_jobs.new.jobs in
    let all : AreStripes final.board config final.stripes = subst (λ t. AreStripes t config final.stripes) (sym c.close-ledger.ensures.board) c.close-ledger.ensures.stripes in
    let all_classes : AreClasses final.board config final.classes = subst (λ t. AreClasses t config final.classes) (sym c.close-ledger.ensures.board) c.close-ledger.ensures.classes in
    let many = c.run_jobs.ensures.many ∙ ap length c.as_mut_slice.ensures.value in
    let back = written_back c.jobs_for-jobs.result.items done c.jobs_for-jobs.result.len c.jobs_for-jobs.result.ok.0 many in
    let limits : c.limits_for-limits.result ≡ limits_of config = c.limits_for-limits.ensures ∙ ap limits_of c.requires.named.1 in
    let begun = c.as_mut_slice.result.now in
    let passes = subst (ArePasses (tables_of g.N.Named.queues) config.callers) (sym (ap (λ js. map (λ job. job.calls.pass) js) c.as_mut_slice.ensures.value ∙ c.jobs_for-jobs.ensures.passes)) c.in-Ok.ensures.passes in
    let passes_are = c.end_all.ensures.passes ∙ ap (λ js. map (λ job. job.calls.pass) js) back in
    let left = run_left g.E.Ends.gave g.E.Ends.ended g.E.Ends.taken g.E.Ends.reads g.E.Ends.writes config g.N.Named.queues c.args.upkeep.now (λ job. job.calls.pass) (λ job. job.work) (λ job. job.outcome)
    begun done c.args.scripts.items final all all_classes c.run_jobs.ensures.many passes (ap (λ js. map (λ job. job.work) js) c.as_mut_slice.ensures.value ∙ c.jobs_for-jobs.ensures.works)
    (λ i d below.
    subst (λ l. HasWorked g.E.Ends.gave g.E.Ends.ended g.E.Ends.taken g.E.Ends.reads g.E.Ends.writes config l c.args.upkeep.now
    (slice_index_or begun i d).calls.pass (slice_index_or done i d).calls.pass (slice_index_or done i d).outcome (slice_index_or begun i d).work
    (slice_index_or done i d).work)
    limits (c.run_jobs.ensures.each i d below))
    (λ k p found. c.compare_all.ensures.compared k p (ap (λ (ps : List PassView). slice_get ps k) passes_are ∙ found)) c.requires.callers
    (store_left config final all all_classes c.close-ledger.ensures.sound c.close-ledger.ensures.entries) in
    record {
      ok = subst (λ es. IsRunDone g.E.Ends.gave g.E.Ends.ended g.E.Ends.taken g.E.Ends.reads g.E.Ends.writes config c.args.upkeep.now c.args.scripts.items es
          c.end_all.new.self.outcomes.items c.compare_all.new.ledger)
          (sym (c.end_all.ensures.ends ∙ ap (λ js. ends_in (map (λ job. job.work) js)) back))
          (subst (λ os. IsRunDone g.E.Ends.gave g.E.Ends.ended g.E.Ends.taken g.E.Ends.reads g.E.Ends.writes config c.args.upkeep.now c.args.scripts.items
          (ends_in (map (λ job. job.work) done)) os c.compare_all.new.ledger)
          (sym (c.end_all.ensures.outcomes ∙ ap (λ js. map (λ job. job.outcome) js) back))
          (subst (λ (f : FinalView). IsRunDone g.E.Ends.gave g.E.Ends.ended g.E.Ends.taken g.E.Ends.reads g.E.Ends.writes config c.args.upkeep.now c.args.scripts.items
          (ends_in (map (λ job. job.work) done)) (map (λ job. job.outcome) done) f)
          (sym c.compare_all.ensures.same) left));
      err = tt;
    }
