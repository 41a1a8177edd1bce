-- What holds after a run, of each of its callers and of the store (own).
use Rattle.std.specs.Prelude.{ℕ, ◌≡◌, ◌<◌, ◌+◌, List, [], length, slice_index_or}
use Rattle.mc_item.specs.declared.config.Config.{Config}
use Rattle.mc_script.specs.{Run.AreCounted, Run.HasLeft, Upkeep.KeepsUp, Upkeep.work_of}
use Rattle.mc_script.specs.declared.{outcome.Outcome.Outcome, upkeep.Keeper.Keeper, upkeep.Keeper.TheVariants.Maintainer, upkeep.Keeper.TheVariants.Crawler}
use Rattle.mc_script.specs.declared.outcome.Outcome.TheVariants as outcomes
use Rattle.mc_store.specs.Finals.{FinalView}
use Rattle.mc_driver.specs.{Called.AreByCallers, Called.AreItsCalls, Called.AreWholeTurns, Stand.Histories}
use Rattle.mc_driver.specs.Run.{IsStore, callers_at_work, histories_left, limits_of}

-- what holds after upkeep at these moments with this outcome: the histories have its calls in turn, and nothing else of its caller
abbrev pub IsKeptUp : Keeper → Config → List ℕ → ℕ → Outcome → Histories → Type 0
IsKeptUp keeper config moments caller outcome histories =
    KeepsUp outcome (limits_of config) (work_of keeper moments) (AreItsCalls config caller histories) caller

-- the maintainer's and the crawler's outcomes, after those of this many scripts, are `Done`
pub record AreKeepersDone (scripts : ℕ) (ended : List Outcome) : Type 0 where
  pub maintainer : (outcome : Outcome) → slice_index_or ended scripts outcome ≡ outcomes.Done
  pub crawler : (outcome : Outcome) → slice_index_or ended (scripts + 1) outcome ≡ outcomes.Done

module _ {E : Type 0} (gave : E → E → List ℕ → Type 0) (at_end : E → Type 0) (taken : E → List ℕ) (reads writes : E → ℕ) where
  -- what holds after the script of this caller, by its outcome: its bytes, the texts that were taken, its calls in the histories, and its
  -- failures. Each call comes after all that the script had seen by then, and the caller has no other event.
  pub record IsScriptLeft (config : Config) (histories : Histories) (caller : ℕ) (ends left : E) (outcome : Outcome) : Type 0 where
    pub leaves : HasLeft gave at_end taken outcome (limits_of config) ends left (AreItsCalls config caller histories) caller
    pub counted : AreCounted outcome (reads ends) (reads left) (writes ends) (writes left)

  -- what holds after a run of scripts, with upkeep at these moments, on a store of this configuration. Maintainer and crawler made
  -- the calls at these moments, or by their outcomes a beginning of them, in turn, and no others. Without moments both are done.
  -- If a caller is done, each of its events has its call, at the same moment. Nobody else made an event, and the store is sound.
  pub record IsRunDone (config : Config) (moments : List ℕ) (scripts ends : List E) (ended : List Outcome) (final : FinalView) : Type 0 where
    pub each : (i : ℕ) (d : E) (outcome : Outcome) → i < length scripts
        → IsScriptLeft config (histories_left final) i (slice_index_or scripts i d) (slice_index_or ends i d) (slice_index_or ended i outcome)
    pub maintained : (outcome : Outcome) → IsKeptUp Maintainer config moments (length scripts) (slice_index_or ended (length scripts) outcome)
        (histories_left final)
    pub crawled : (outcome : Outcome) → IsKeptUp Crawler config moments (length scripts + 1) (slice_index_or ended (length scripts + 1) outcome)
        (histories_left final)
    pub idle : moments ≡ [] → AreKeepersDone (length scripts) ended
    pub whole : (i : ℕ) (outcome : Outcome) → i < length scripts + 2 → slice_index_or ended i outcome ≡ outcomes.Done
        → AreWholeTurns config i (histories_left final)
    pub by : AreByCallers config (callers_at_work (length scripts) moments) (histories_left final)
    pub many : length ended ≡ length scripts + 2
    pub pairs : length ends ≡ length scripts
    pub store : IsStore config final
