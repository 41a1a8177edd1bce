use Rattle.std.proofs.Common.{◌≡◌, ◌≤◌, length, map, vec_capacity}
use Rattle.mc_driver.specs.Jobs.{ends_in}
use Rattle.mc_driver.proofs.jobs.Ended.end_all.Given as goal

-- the jobs so far are ended, and there is room for the others
abbrev pub invariant-loop-job : goal.invariant-loop-job
invariant-loop-job g l = record {
  passes : l.self.passes.items ≡ map (λ job. job.calls.pass) l.yielded;
  outcomes : l.self.outcomes.items ≡ map (λ job. job.outcome) l.yielded;
  ends : l.self.ends.items ≡ ends_in (map (λ job. job.work) l.yielded);
  passes_room : vec_capacity l.self.passes ≡ vec_capacity l.fn.self.passes;
  outcomes_room : vec_capacity l.self.outcomes ≡ vec_capacity l.fn.self.outcomes;
  ends_room : vec_capacity l.self.ends ≡ vec_capacity l.fn.self.ends;
  few : length l.self.ends.items ≤ length l.yielded;
}
