-- The growing histories: what a token has seen and noted of each lock's history (own).
-- A lock's history is a list of events, oldest first, that only grows at its end. Locks are numbered from 0.
use Rattle.std.specs.Prelude.{◌≡◌, ℕ, zero, suc, ◌≤◌, List, [], ◌∷◌, length, take, slice_index_or, ◌⊎◌}
use Rattle.std.specs.List.{All}
use mathlib.Core.List.{IsPrefix}
use Rattle.mc_item.specs.declared.event.Event.{Event}
use Rattle.mc_board.specs.declared.{rule.Note.Note, rule.Sight.Sight}
use Rattle.mc_board.specs.Figures.{figures_of}

-- the list of a lock, which is empty if none was written
abbrev pub list_at : List (List Event) → ℕ → List Event
list_at lists lock = slice_index_or lists lock []

-- the number of a lock, which is 0 if none was written
abbrev pub number_at : List ℕ → ℕ → ℕ
number_at numbers lock = slice_index_or numbers lock 0

-- the lists with this one for the lock, and the others as they were
abbrev pub with_list_at : List (List Event) → ℕ → List Event → List (List Event)
with_list_at [] zero list = list ∷ []
with_list_at [] (suc lock) list = [] ∷ with_list_at [] lock list
with_list_at (x ∷ xs) zero list = list ∷ xs
with_list_at (x ∷ xs) (suc lock) list = x ∷ with_list_at xs lock list

-- the numbers with this one for the lock, and the others as they were
abbrev pub with_number : List ℕ → ℕ → ℕ → List ℕ
with_number [] zero number = number ∷ []
with_number [] (suc lock) number = 0 ∷ with_number [] lock number
with_number (x ∷ xs) zero number = number ∷ xs
with_number (x ∷ xs) (suc lock) number = x ∷ with_number xs lock number

-- nothing seen, nothing noted
abbrev pub blind : Sight
blind = record { seen = []; noted = []; figures = [] }

-- the sight with this list as what was seen of the lock
abbrev pub with_seen : Sight → ℕ → List Event → Sight
with_seen sight lock list = record sight { seen = with_list_at sight.seen lock list }

-- the sight with this number as what was noted of the lock
abbrev pub with_noted : Sight → ℕ → ℕ → Sight
with_noted sight lock number = record sight { noted = with_number sight.noted lock number }

-- the sight with one more note of figures
abbrev pub with_figures : Sight → Note → Sight
with_figures sight note = record sight { figures = note ∷ sight.figures }

-- the list that was seen of a lock is a beginning of its history
abbrev pub HasSeen : List Event → Sight → ℕ → Type 0
HasSeen history sight lock = IsPrefix (list_at sight.seen lock) history

-- the number that was noted of a lock is at most the length of its history
abbrev pub HasNoted : List Event → Sight → ℕ → Type 0
HasNoted history sight lock = number_at sight.noted lock ≤ length history

-- the note has the figures of a history's first events, as many as it says
pub record IsNoteOf (history : List Event) (note : Note) : Type 0 where
  pub events : note.events ≤ length history
  pub values : note.values ≡ figures_of (take note.events history)

-- the figures that were noted of a lock are those of beginnings of its history
abbrev pub HasFigures : List Event → Sight → ℕ → Type 0
HasFigures history sight lock = All (λ (note : Note). note.lock ≡ lock → IsNoteOf history note) sight.figures

-- a lock's history is ahead of what a sight has of the lock
pub record IsAhead (history : List Event) (sight : Sight) (lock : ℕ) : Type 0 where
  pub seen : HasSeen history sight lock
  pub noted : HasNoted history sight lock
  pub figures : HasFigures history sight lock

-- a sight is behind the histories: each seen list is a beginning of its history, each noted number is at most its length, and
-- each note has the figures of a beginning
pub record IsBehind (histories : ℕ → List Event) (sight : Sight) : Type 0 where
  pub seen : (lock : ℕ) → HasSeen (histories lock) sight lock
  pub noted : (lock : ℕ) → HasNoted (histories lock) sight lock
  pub figures : All (λ (note : Note). IsNoteOf (histories note.lock) note) sight.figures

-- the same numbers and the same figures are noted
pub record NotesStay (old new : Sight) : Type 0 where
  pub noted : new.noted ≡ old.noted
  pub figures : new.figures ≡ old.figures

-- for each lock, one of the two seen lists is a beginning of the other
pub record AreInLine (a b : Sight) : Type 0 where
  pub at : (lock : ℕ) → IsPrefix (list_at a.seen lock) (list_at b.seen lock) ⊎ IsPrefix (list_at b.seen lock) (list_at a.seen lock)

-- what was seen has only grown: for each lock, the old list is a beginning of the new one
pub record Grows (old new : Sight) : Type 0 where
  pub at : (lock : ℕ) → IsPrefix (list_at old.seen lock) (list_at new.seen lock)
