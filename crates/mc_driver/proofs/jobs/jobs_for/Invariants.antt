use Rattle.std.proofs.Common.{◌≡◌, ◌≤◌, ◌++◌, length, map}
use Rattle.std.specs.Prelude.{vec_capacity}
use Rattle.mc_driver.specs.declared.jobs.Work.TheVariants.{Script}
use Rattle.mc_driver.proofs.jobs.jobs_for.Given as goal

-- the scripts so far have the first passes
abbrev pub invariant-loop-ends : goal.invariant-loop-ends
invariant-loop-ends g l = record {
  passes : map (λ job. job.calls.pass) l.jobs.items ++ l.passes.items ≡ l.fn.passes.items;
  works : map (λ job. job.work) l.jobs.items ≡ map Script l.yielded;
  room : length l.fn.passes.items ≤ vec_capacity l.jobs;
}
