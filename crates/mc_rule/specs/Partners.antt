-- What makes a partner the only one: which events link a number and take it out, and that no two moves clear the same mark.
use Rattle.std.specs.Prelude.{ℕ, ◌≡◌, List}
use Rattle.mc_item.specs.declared.{class_event.ClassEvent.ClassEvent, class_event.Shifted.Shifted}
use Rattle.mc_item.specs.declared.class_event.ClassEvent.TheVariants as entries
use Rattle.mc_rule.specs.{Pairs.ClearsMark, Places.Stands}

-- an event of a class links the entry of this number
abbrev pub Links : ℕ → ClassEvent → Type 0
Links n (entries.Linked e) = e.number ≡ n
Links n (entries.Unlinked e) = ⊥
Links n (entries.Shifted e) = ⊥
Links n (entries.Evicted e) = ⊥
Links n (entries.Reclaimed e) = ⊥
Links n (entries.Surveyed e) = ⊥
Links n (entries.Refused e) = ⊥
Links n (entries.Limited e) = ⊥

-- an event of a class takes the entry of this number out of the lists
abbrev pub TakesOut : ℕ → ClassEvent → Type 0
TakesOut n (entries.Linked e) = ⊥
TakesOut n (entries.Unlinked e) = e.number ≡ n
TakesOut n (entries.Shifted e) = ⊥
TakesOut n (entries.Evicted e) = e.number ≡ n
TakesOut n (entries.Reclaimed e) = e.number ≡ n
TakesOut n (entries.Surveyed e) = ⊥
TakesOut n (entries.Refused e) = ⊥
TakesOut n (entries.Limited e) = ⊥

-- a move clears a mark that another one among the earlier events has cleared: for the same entry, at the same place of the stripe
pub record ClearsAgain (behind : List ClassEvent) (e : Shifted) : Type 0 where
  pub clears : ClearsMark e.why
  pub earlier : List ClassEvent
  pub other : Shifted
  pub stands : Stands behind earlier (entries.Shifted other)
  pub other_clears : ClearsMark other.why
  pub number : other.number ≡ e.number
  pub at : other.at ≡ e.at

-- an event of a class clears no mark that an earlier event has cleared
abbrev pub ClearsOnce : List ClassEvent → ClassEvent → Type 0
ClearsOnce behind (entries.Linked e) = Unit {0}
ClearsOnce behind (entries.Unlinked e) = Unit {0}
ClearsOnce behind (entries.Shifted e) = ClearsAgain behind e → ⊥
ClearsOnce behind (entries.Evicted e) = Unit {0}
ClearsOnce behind (entries.Reclaimed e) = Unit {0}
ClearsOnce behind (entries.Surveyed e) = Unit {0}
ClearsOnce behind (entries.Refused e) = Unit {0}
ClearsOnce behind (entries.Limited e) = Unit {0}
