-- The steps of an owner on its lock's words: what each does to the views, and what it ensures (own).
use Rattle.std.specs.Prelude.{◌≡◌, ℕ, ◌+◌, ◌-◌, List, [], ◌++◌, slice_set}
use Rattle.atomic_table.specs.Table.{Me, Step}
use Rattle.mc_item.specs.declared.event.Event.{Event}
use Rattle.mc_board.specs.declared.{rule.Owned.Owned, rule.Stage.Stage, rule.View.View}
use Rattle.mc_board.specs.declared.rule.Stage.TheVariants as stages
use Rattle.mc_board.specs.declared.rule.View.TheVariants as views
use Rattle.mc_board.specs.{Figures.figures_of, Steps.owned_of}

-- the seat is the owner of a lock with this first word, in this stage
pub record IsOwnerAt (first : ℕ) (now : Stage) (me : Me Unit View) : Type 0 where
  pub owner : me ≡ (views.Owner (owned_of me.0), [])
  pub word : (owned_of me.0).word ≡ first
  pub stage : (owned_of me.0).stage ≡ now

-- what an owner knows after these events
abbrev pub owned_with : Owned → List Event → Owned
owned_with owned entries = record owned { history = owned.history ++ entries }

-- what an owner knows in this stage
abbrev pub owned_in : Owned → Stage → Owned
owned_in owned stage = record owned { stage = stage }

-- add: the owner's history gains the events at its end
abbrev pub added_to : List Event → View → View
added_to entries (views.Owner owned) = views.Owner (owned_with owned entries)
added_to entries v = v

-- what an addition ensures: the owner's history has gained the events at its end
abbrev pub Added : List Event → Step Unit → Me Unit View → ℕ → Me Unit View → Type 0
Added entries step me found after = after ≡ (added_to entries me.0, me.1)

-- begin: the owner writes, and the eight further words have the history's figures so far
abbrev pub begun : View → View
begun (views.Owner owned) = views.Owner (owned_in owned (stages.Writing (figures_of owned.history)))
begun v = v

-- what a begin ensures: the owner is writing, and has changed no figure
abbrev pub Begun : Step Unit → Me Unit View → ℕ → Me Unit View → Type 0
Begun step me found after = after ≡ (begun me.0, me.1)

-- what stands in the eight further words, or nothing if no owner is writing
abbrev pub values_in : Stage → List ℕ
values_in (stages.Writing values) = values
values_in stages.Still = []

-- the stage after one of the eight further words has changed to this number
abbrev pub stage_after : ℕ → ℕ → Stage → Stage
stage_after place figure (stages.Writing values) = stages.Writing (slice_set values place figure)
stage_after place figure stages.Still = stages.Still

-- write: the owner changes the figure in a word of the table
abbrev pub written_in : ℕ → ℕ → View → View
written_in word figure (views.Owner owned) = views.Owner (owned_in owned (stage_after (word - (owned.word + 1)) figure owned.stage))
written_in word figure v = v

-- what a write ensures: the owner has changed the figure in this word
abbrev pub Wrote : Step Unit → Me Unit View → ℕ → Me Unit View → Type 0
Wrote step me found after = after ≡ (written_in step.word step.first me.0, me.1)

-- end: the owner's history gains the events at its end, and it writes no longer
abbrev pub ended_with : List Event → View → View
ended_with entries (views.Owner owned) = views.Owner (owned_in (owned_with owned entries) stages.Still)
ended_with entries v = v

-- what an end ensures: the owner's history has gained the events at its end, and it writes no longer
abbrev pub Ended : List Event → Step Unit → Me Unit View → ℕ → Me Unit View → Type 0
Ended entries step me found after = after ≡ (ended_with entries me.0, me.1)
