use Rattle.std.proofs.Common.{◌∙◌, ◌++◌, ◌∷◌, [], ap, arith, length, map, sym}
use Rattle.std.specs.Vec.Iter.{into_iter_items}
use Rattle.std.proofs.lemmas.List.{length-map}
use Rattle.mc_script.proofs.IterLemmas.{all_taken, split_at}
use Rattle.mc_script.specs.declared.upkeep.Keeper.TheVariants.{Crawler, Maintainer}
use Rattle.mc_driver.specs.declared.jobs.Work.TheVariants.{Script, Upkeep}
use Rattle.mc_driver.proofs.JobLemmas.{both_taken, fewer, two_left, two_more}
use Rattle.mc_driver.proofs.jobs.jobs_for.Goals as goal

pub push_reserved-requires : goal.push_reserved-requires
push_reserved-requires g c =
    let split = split_at c.args.scripts.items c.loop-ends.yielded c.in-Some.ends c.into_iter-ends-iterator.result c.loop-ends.ends-iterator c.next.new.self
    c.into_iter-ends-iterator.ensures.into_iter_gives.0 c.loop-ends.yielded_by c.in-Some.ensures.steps.0 in
    let short = fewer c.args.scripts.items c.loop-ends.yielded (into_iter_items c.next.new.self) c.in-Some.ends split in
    omega (
      arith,
      short,
      c.loop-ends.jobs.ok.0,
      ap length c.loop-ends.invariant.works,
      length-map c.loop-ends.jobs.items (λ job. job.work),
      length-map c.loop-ends.yielded Script,
      c.loop-ends.invariant.room,
      c.requires.many,
    )

pub push_reserved-requires-2 : goal.push_reserved-requires-2
push_reserved-requires-2 g c =
    let all = all_taken c.args.scripts.items c.into_iter-ends-iterator.result c.loop-ends.yielded c.loop-ends.ends-iterator
    c.into_iter-ends-iterator.ensures.into_iter_gives.0 (c.into_iter-ends-iterator.ensures.into_iter_gives.1
    ∙ c.args.scripts.ok.0) c.loop-ends.yielded_by c.in-None.ensures.steps.0 in
    omega (
      arith,
      ap length all,
      c.loop-ends.jobs.ok.0,
      ap length c.loop-ends.invariant.works,
      length-map c.loop-ends.jobs.items (λ job. job.work),
      length-map c.loop-ends.yielded Script,
      c.loop-ends.invariant.room,
      c.requires.many,
    )

pub push_reserved-requires-3 : goal.push_reserved-requires-3
push_reserved-requires-3 g c =
    let all = all_taken c.args.scripts.items c.into_iter-ends-iterator.result c.loop-ends.yielded c.loop-ends.ends-iterator
    c.into_iter-ends-iterator.ensures.into_iter_gives.0 (c.into_iter-ends-iterator.ensures.into_iter_gives.1
    ∙ c.args.scripts.ok.0) c.loop-ends.yielded_by c.in-None.ensures.steps.0 in
    omega (
      arith,
      ap length all,
      c.loop-ends.jobs.ok.0,
      ap length c.loop-ends.invariant.works,
      length-map c.loop-ends.jobs.items (λ job. job.work),
      length-map c.loop-ends.yielded Script,
      c.loop-ends.invariant.room,
      c.requires.many,
      c.push_reserved-2.ensures.len,
      c.push_reserved-2.ensures.capacity,
    )

pub remove-second-requires : goal.remove-second-requires
remove-second-requires g c =
    let all = all_taken c.args.scripts.items c.into_iter-ends-iterator.result c.loop-ends.yielded c.loop-ends.ends-iterator
    c.into_iter-ends-iterator.ensures.into_iter_gives.0 (c.into_iter-ends-iterator.ensures.into_iter_gives.1
    ∙ c.args.scripts.ok.0) c.loop-ends.yielded_by c.in-None.ensures.steps.0 in
    let two = two_left (λ job. job.calls.pass) (λ job. job.work) Script c.loop-ends.jobs.items c.loop-ends.passes.items c.args.passes.items
    c.args.scripts.items c.loop-ends.yielded c.loop-ends.invariant.passes c.loop-ends.invariant.works c.requires.many all in
    omega (arith, two, c.loop-ends.passes.ok.0, c.remove-first.ensures.len)

pub returns-clause-passes : goal.returns-clause-passes
returns-clause-passes g c =
    let all = all_taken c.args.scripts.items c.into_iter-ends-iterator.result c.loop-ends.yielded c.loop-ends.ends-iterator
    c.into_iter-ends-iterator.ensures.into_iter_gives.0 (c.into_iter-ends-iterator.ensures.into_iter_gives.1
    ∙ c.args.scripts.ok.0) c.loop-ends.yielded_by c.in-None.ensures.steps.0 in
    let two = two_left (λ job. job.calls.pass) (λ job. job.work) Script c.loop-ends.jobs.items c.loop-ends.passes.items c.args.passes.items
    c.args.scripts.items c.loop-ends.yielded c.loop-ends.invariant.passes c.loop-ends.invariant.works c.requires.many all in
    let both = both_taken c.loop-ends.passes.items c.remove-first.new.self.items c.remove-first.result c.remove-second.result two c.remove-first.ensures.value
    c.remove-first.ensures.by_index.2 c.remove-second.ensures.value in
    two_more (λ job. job.calls.pass) c.loop-ends.jobs.items c.push_reserved-2.new.self.items c.push_reserved-3.new.self.items c.job_of-2.result c.job_of-3.result c.remove-first.result c.remove-second.result
    c.push_reserved-2.ensures.items c.push_reserved-3.ensures.items c.job_of-2.ensures.pass c.job_of-3.ensures.pass
    ∙ ap (λ ps. map (λ job. job.calls.pass) c.loop-ends.jobs.items ++ ps) (sym both) ∙ c.loop-ends.invariant.passes

pub returns-clause-works : goal.returns-clause-works
returns-clause-works g c =
    let all = all_taken c.args.scripts.items c.into_iter-ends-iterator.result c.loop-ends.yielded c.loop-ends.ends-iterator
    c.into_iter-ends-iterator.ensures.into_iter_gives.0 (c.into_iter-ends-iterator.ensures.into_iter_gives.1
    ∙ c.args.scripts.ok.0) c.loop-ends.yielded_by c.in-None.ensures.steps.0 in
    two_more (λ job. job.work) c.loop-ends.jobs.items c.push_reserved-2.new.self.items c.push_reserved-3.new.self.items c.job_of-2.result c.job_of-3.result (Upkeep Maintainer) (Upkeep Crawler)
    c.push_reserved-2.ensures.items c.push_reserved-3.ensures.items c.job_of-2.ensures.work c.job_of-3.ensures.work
    ∙ ap (λ ws. ws ++ Upkeep Maintainer ∷ Upkeep Crawler ∷ []) (c.loop-ends.invariant.works ∙ ap (map Script) (sym all))
