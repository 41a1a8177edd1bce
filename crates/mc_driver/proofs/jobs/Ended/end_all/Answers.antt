use Rattle.std.proofs.Common.{◌∙◌, ◌++◌, ◌∷◌, [], ap, arith, length, length-append, map, sym}
use Rattle.std.specs.Vec.Iter.{into_iter_items}
use Rattle.std.proofs.lemmas.List.{length-map, map-append}
use Rattle.mc_script.proofs.IterLemmas.{all_taken, split_at}
use Rattle.mc_driver.specs.Jobs.{ends_in}
use Rattle.mc_driver.proofs.JobLemmas.{ends_in-append, fewer, one_end, shown_more}
use Rattle.mc_driver.proofs.jobs.Ended.end_all.Goals as goal

pub end_one-requires : goal.end_one-requires
end_one-requires g c =
    let split = split_at c.args.jobs.items c.loop-job.yielded c.in-Some.job c.into_iter-job-iterator.result c.loop-job.job-iterator c.next.new.self
    c.into_iter-job-iterator.ensures.into_iter_gives.0 c.loop-job.yielded_by c.in-Some.ensures.steps.0 in
    let short = fewer c.args.jobs.items c.loop-job.yielded (into_iter_items c.next.new.self) c.in-Some.job split in
    let before = c.loop-job.invariant in
    record {
      room = (
        omega (arith, short, c.loop-job.self.passes.ok.0, ap length before.passes, length-map c.loop-job.yielded (λ job. job.calls.pass), before.passes_room, c.requires.room.0),
        omega (arith, short, c.loop-job.self.outcomes.ok.0, ap length before.outcomes, length-map c.loop-job.yielded (λ job. job.outcome), before.outcomes_room, c.requires.room.1),
        omega (arith, short, c.loop-job.self.ends.ok.0, before.few, before.ends_room, c.requires.room.2),
      );
    }

pub loop-job-preserved : goal.loop-job-preserved
loop-job-preserved g c =
    let before = c.loop-job.invariant in
    record {
      passes = shown_more (λ job. job.calls.pass) c.loop-job.yielded c.in-Some.job c.loop-job.self.passes.items c.end_one.new.self.passes.items c.end_one.ensures.passes before.passes;
      outcomes = shown_more (λ job. job.outcome) c.loop-job.yielded c.in-Some.job c.loop-job.self.outcomes.items c.end_one.new.self.outcomes.items c.end_one.ensures.outcomes before.outcomes;
      ends = c.end_one.ensures.ends ∙ ap (λ es. es ++ ends_in (c.in-Some.job.work ∷ [])) before.ends
          ∙ sym (ends_in-append (map (λ job. job.work) c.loop-job.yielded) (c.in-Some.job.work ∷ []))
          ∙ ap ends_in (sym (map-append (λ job. job.work) c.loop-job.yielded (c.in-Some.job ∷ [])));
      passes_room = c.end_one.ensures.room.0 ∙ before.passes_room;
      outcomes_room = c.end_one.ensures.room.1 ∙ before.outcomes_room;
      ends_room = c.end_one.ensures.room.2 ∙ before.ends_room;
      few = omega (
        arith,
        before.few,
        ap length c.end_one.ensures.ends,
        length-append c.loop-job.self.ends.items (ends_in (c.in-Some.job.work ∷ [])),
        one_end c.in-Some.job.work,
        length-append c.loop-job.yielded (c.in-Some.job ∷ []),
      );
    }

pub returns-clause-passes : goal.returns-clause-passes
returns-clause-passes g c =
    let all = all_taken c.args.jobs.items c.into_iter-job-iterator.result c.loop-job.yielded c.loop-job.job-iterator
    c.into_iter-job-iterator.ensures.into_iter_gives.0 (c.into_iter-job-iterator.ensures.into_iter_gives.1
    ∙ c.args.jobs.ok.0) c.loop-job.yielded_by c.in-None.ensures.steps.0 in
    c.loop-job.invariant.passes ∙ ap (λ js. map (λ job. job.calls.pass) js) (sym all)

pub returns-clause-outcomes : goal.returns-clause-outcomes
returns-clause-outcomes g c =
    let all = all_taken c.args.jobs.items c.into_iter-job-iterator.result c.loop-job.yielded c.loop-job.job-iterator
    c.into_iter-job-iterator.ensures.into_iter_gives.0 (c.into_iter-job-iterator.ensures.into_iter_gives.1
    ∙ c.args.jobs.ok.0) c.loop-job.yielded_by c.in-None.ensures.steps.0 in
    c.loop-job.invariant.outcomes ∙ ap (λ js. map (λ job. job.outcome) js) (sym all)
