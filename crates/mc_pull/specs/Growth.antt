-- What every walk keeps, whatever its gate answers.
use Rattle.std.specs.Prelude.{◌≡◌, ◌≢◌, ◌++◌, ◌⊎◌, List, Bool, true, false}
use Rattle.std.specs.List.{All}
use Rattle.mc_item.specs.declared.{class_event.ClassEvent.ClassEvent, class_event.Why.TheVariants.Active, class_event.Why.TheVariants.Forced}
use Rattle.mc_item.specs.declared.class_event.ClassEvent.TheVariants as events
use Rattle.mc_segment.specs.ClassState.{ClassView}
use Rattle.mc_pull.specs.declared.{judge.Mode.Mode, judge.Mode.TheVariants.Plain, judge.Mode.TheVariants.Evict, judge.Mode.TheVariants.Force}

-- the class's history has only grown, at its end, and nothing else but its room has changed
pub record GainsEvents (old new : ClassView) : Type 0 where
  pub same : new ≡ record old { history = new.history; room = new.room }
  pub events : List ClassEvent
  pub history_is : new.history ≡ old.history ++ events

-- upkeep may make this event: it surveys the class, reclaims an entry, or moves one that it doesn't force to COLD
abbrev pub SuitsUpkeep : ClassEvent → Type 0
SuitsUpkeep (events.Surveyed e) = Unit {0}
SuitsUpkeep (events.Reclaimed e) = Unit {0}
SuitsUpkeep (events.Shifted e) = e.why ≢ Forced
SuitsUpkeep (events.Linked e) = ⊥
SuitsUpkeep (events.Unlinked e) = ⊥
SuitsUpkeep (events.Evicted e) = ⊥
SuitsUpkeep (events.Refused e) = ⊥
SuitsUpkeep (events.Limited e) = ⊥

-- a search for a chunk may make this event: it reclaims or evicts an entry, or moves one that is active or that it forces to COLD
abbrev pub SuitsSearch : ClassEvent → Type 0
SuitsSearch (events.Reclaimed e) = Unit {0}
SuitsSearch (events.Evicted e) = Unit {0}
SuitsSearch (events.Shifted e) = (e.why ≡ Active) ⊎ (e.why ≡ Forced)
SuitsSearch (events.Linked e) = ⊥
SuitsSearch (events.Unlinked e) = ⊥
SuitsSearch (events.Surveyed e) = ⊥
SuitsSearch (events.Refused e) = ⊥
SuitsSearch (events.Limited e) = ⊥

-- a walk may make this event, by whether it looks for a chunk
abbrev pub SuitsWalk : Bool → ClassEvent → Type 0
SuitsWalk true = SuitsSearch
SuitsWalk false = SuitsUpkeep

-- whether a walk of this mode looks for a chunk
abbrev pub looks_for_chunk : Mode → Bool
looks_for_chunk (Plain survey) = false
looks_for_chunk Evict = true
looks_for_chunk Force = true

-- the class's history has only grown, as in `GainsEvents`, by events of walks that look for a chunk, or of upkeep
pub record GainsFor (looks : Bool) (old new : ClassView) : Type 0 where
  pub grows : GainsEvents old new
  pub each : All (SuitsWalk looks) grows.events

-- what was kept from any earlier gate and history to the old ones is kept up to the new ones
abbrev pub KeepsSince : {S : Type 0} → (S → List ClassEvent → S → List ClassEvent → Type 0) → S → List ClassEvent → S → List ClassEvent → Type 0
KeepsSince {S} keeps gate history gate_new history_new =
    (first : S) (begun : List ClassEvent) → keeps first begun gate history → keeps first begun gate_new history_new
