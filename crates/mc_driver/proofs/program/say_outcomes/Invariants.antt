use Rattle.std.proofs.Common.{◌≡◌, ◌<◌, ℕ, slice_index_or}
use Rattle.std.specs.Io.KnownBytes.{Keeps}
use Rattle.mc_script.specs.declared.{outcome.Outcome.Outcome, outcome.Outcome.TheVariants.Done}
use Rattle.mc_driver.proofs.program.say_outcomes.Given as goal

-- those so far are done, and no error was written
abbrev pub invariant-loop-outcome : goal.invariant-loop-outcome
invariant-loop-outcome g l = ((k : ℕ) → k < l.outcome-index → (d : Outcome) → slice_index_or l.fn.outcomes k d ≡ Done)
    × Keeps (g.E.Write.contents l.fn.errors) (g.E.Write.contents l.errors)
