-- The work of a run's callers, and what holds after it (own).
use Rattle.std.specs.Prelude.{ℕ, ◌≡◌, ◌<◌, List, [], ◌∷◌, ◌++◌, None, length, map, slice_index_or}
use Rattle.mc_item.specs.declared.config.Config.{Config}
use Rattle.mc_proto.specs.declared.request.Limits.{Limits}
use Rattle.mc_script.specs.{Calls.Notes, Run.AreCounted, Run.HasLeft, Run.MayRunFrom, Upkeep.KeepsUp, Upkeep.work_of}
use Rattle.mc_script.specs.declared.{outcome.Outcome.Outcome, upkeep.Keeper.TheVariants.Maintainer, upkeep.Keeper.TheVariants.Crawler}
use Rattle.mc_store.specs.Passes.{PassView}
use Rattle.mc_driver.specs.Caller.{AreNoted, MayCall}
use Rattle.mc_driver.specs.declared.{jobs.Work.Work, jobs.Work.TheVariants.Script, jobs.Work.TheVariants.Upkeep}

module _ {E : Type 0} where
  -- all work of a run: its scripts in order, then the maintainer's upkeep, then the crawler's
  abbrev pub works_of : List E → List (Work E)
  works_of scripts = map Script scripts ++ Upkeep Maintainer ∷ Upkeep Crawler ∷ []

  -- the ends of the scripts among these works, in order
  abbrev pub ends_in : List (Work E) → List E
  ends_in [] = []
  ends_in (Script ends ∷ works) = ends ∷ ends_in works
  ends_in (Upkeep keeper ∷ works) = ends_in works

  module _ (gave : E → E → List ℕ → Type 0) (at_end : E → Type 0) (taken : E → List ℕ) (reads writes : E → ℕ) where
    -- what holds after work with this outcome: a script's bytes, calls and failures, or the calls of upkeep at these moments
    abbrev pub Works : Limits → List ℕ → Notes → ℕ → Outcome → Work E → Work E → Type 0
    Works limits moments notes caller outcome (Script ends) (Script left) =
        HasLeft gave at_end taken outcome limits ends left notes caller × AreCounted outcome (reads ends) (reads left) (writes ends) (writes left)
    Works limits moments notes caller outcome (Upkeep keeper) (Upkeep left) =
        (left ≡ keeper) × KeepsUp outcome limits (work_of keeper moments) notes caller
    Works limits moments notes caller outcome (Script ends) (Upkeep left) = ⊥
    Works limits moments notes caller outcome (Upkeep keeper) (Script left) = ⊥

  module _ (gave : E → E → List ℕ → Type 0) (taken : E → List ℕ) (reads writes over : E → ℕ) (may_ask : E → Type 0) where
    -- work may be done: if it is a script, it may run from its ends
    abbrev pub MayRun : Limits → Work E → Type 0
    MayRun limits (Script ends) = MayRunFrom gave taken reads writes over may_ask limits ends
    MayRun limits (Upkeep keeper) = Unit {0}

    -- each of these scripts may run from its ends
    abbrev pub MayRunAll : Limits → List E → Type 0
    MayRunAll limits scripts = (i : ℕ) (d : E) → i < length scripts → MayRunFrom gave taken reads writes over may_ask limits (slice_index_or scripts i d)

-- the pass of a caller that has made no call and may make its first
pub record IsAtStart (config : Config) (pass : PassView) : Type 0 where
  pub may : MayCall config pass
  pub first : pass.turn ≡ 0
  pub none : AreNoted config pass [] None

module _ {E : Type 0} (gave : E → E → List ℕ → Type 0) (at_end : E → Type 0) (taken : E → List ℕ) (reads writes : E → ℕ) where
  -- a caller has worked, with this outcome: what holds of its work and of its pass, before and after
  pub record HasWorked (config : Config) (limits : Limits) (moments : List ℕ) (pass pass' : PassView) (outcome : Outcome) (work work' : Work E) : Type 0 where
    pub works : Works gave at_end taken reads writes limits moments (AreNoted config pass') pass.caller outcome work work'
    pub caller : pass'.caller ≡ pass.caller
