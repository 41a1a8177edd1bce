-- What a contract sees of a board, an owner and a token (own).
use Rattle.std.specs.Prelude.{◌≡◌, ℕ, ◌+◌, ◌-◌, ◌*◌, ◌/◌, ◌<◌, List, [], length, Some, slice_get}
use Rattle.atomic_table.specs.Seated.{TableId}
use Rattle.mc_item.specs.declared.event.Event.{Event}
use Rattle.mc_board.specs.declared.{rule.Counts.Counts, rule.Sight.Sight, rule.Span.Span}

-- a board: which table it is, and how many locks of each kind it has
pub record BoardView : Type 0 where
  pub table : TableId
  pub counts : Counts

-- an owner: the board's table, the lock, the lock's whole history, the lock of the first caller's history, and if the lock is a
-- caller's, the events that the caller made on other locks, the oldest first
pub record OwnerView : Type 0 where
  pub board : TableId
  pub lock : ℕ
  pub history : List Event
  pub first : ℕ
  pub made : List Span

-- a token: the board's table, and what it has seen and noted, figures too
pub record SeenView : Type 0 where
  pub board : TableId
  pub sight : Sight

-- the number of locks, which are numbered stripes first, then classes, then callers
abbrev pub locks_of : Counts → ℕ
locks_of counts = counts.stripes + counts.classes + counts.callers

-- the words of one lock, of which nine are used: two cache lines, so that no two locks share one
abbrev pub line_words : ℕ
line_words = 16

-- the index of a lock's first word; word 0 belongs to no lock, and is read by steps that need no length
abbrev pub first_word : Counts → ℕ → ℕ
first_word counts lock = (lock + 1) * line_words

-- the lock with this first word
abbrev pub lock_of : ℕ → ℕ
lock_of word = word / line_words - 1

-- the number of words: those of each lock, after as many that belong to no lock
abbrev pub words_of : Counts → ℕ
words_of counts = (locks_of counts + 1) * line_words

-- the owner of a lock at the start: the history is empty, and nothing was made
abbrev pub new_owner : TableId → ℕ → ℕ → OwnerView
new_owner board first lock = record { board = board; lock = lock; history = []; first = first; made = [] }

-- there is a new owner for each of these locks, in their order
abbrev pub AreOwners : TableId → ℕ → ℕ → List OwnerView → Type 0
AreOwners board first locks owners =
    (length owners ≡ locks) × ((lock : ℕ) → lock < locks → slice_get owners lock ≡ Some (new_owner board first lock))
