-- The rule of the board, which holds between any two steps of any threads (own).
use Rattle.std.specs.Prelude.{◌≡◌, ℕ, ◌+◌, ◌*◌, ◌≤◌, ◌<◌, List, [], length, slice_index}
use mathlib.Core.Option.{Option, none, some}
use lib.ListN.{get_elem?}
use Rattle.mc_item.specs.declared.event.Event.{Event}
use Rattle.mc_board.specs.declared.{rule.Counts.Counts, rule.Known.Known, rule.Look.Look, rule.Owned.Owned, rule.Reading.Reading}
use Rattle.mc_board.specs.declared.{rule.Span.Span, rule.Stage.Stage, rule.View.View}
use Rattle.mc_board.specs.declared.rule.Look.TheVariants as looks
use Rattle.mc_board.specs.declared.rule.Stage.TheVariants as stages
use Rattle.mc_board.specs.declared.rule.View.TheVariants as views
use Rattle.mc_board.specs.{Accounts.IsAccount, Accounts.IsCopy, Accounts.first_caller, Figures.figures_of, Histories.IsBehind}
use Rattle.mc_board.specs.Views.{locks_of, first_word, words_of}

-- the board between two steps: the counts, the words, and for each lock its history, whether its owner is writing, the seat of
-- its one owner, if given out, and what the caller with its history there made on other locks
pub record Ledger : Type 0 where
  pub counts : Counts
  pub words : List ℕ
  pub history : ℕ → List Event
  pub stage : ℕ → Stage
  pub owner : ℕ → Option ℕ
  pub made : ℕ → List Span

-- 1 while an owner is writing, otherwise 0
abbrev pub turn : Stage → ℕ
turn stages.Still = 0
turn (stages.Writing values) = 1

-- what a lock's eight further words have: its history's figures, or what its owner has made of them so far
abbrev pub values_of : Stage → List Event → List ℕ
values_of stages.Still history = figures_of history
values_of (stages.Writing values) history = values

-- a lock's nine words, from its first word on: twice the length of its history, and 1 more while its owner is writing; then eight
-- figures
pub record IsWritten (words : List ℕ) (first : ℕ) (history : List Event) (stage : Stage) : Type 0 where
  pub count : slice_index words first ≡ 2 * length history + turn stage
  pub eight : length (values_of stage history) ≡ 8
  pub rest : (j : ℕ) → j < 8 → slice_index words (first + (j + 1)) ≡ slice_index (values_of stage history) j

-- what the first word of a lock has
abbrev pub first_of : Ledger → ℕ → ℕ
first_of ledger lock = slice_index ledger.words (first_word ledger.counts lock)

-- a reading holds: as long as its lock's first word is still the even number that was found first, what was read are figures of
-- the lock's history
pub record IsReading (ledger : Ledger) (reading : Reading) : Type 0 where
  pub lock : reading.lock < locks_of ledger.counts
  pub later : reading.at ≤ first_of ledger reading.lock
  pub same : reading.at ≡ first_of ledger reading.lock → reading.at ≡ 2 * length (ledger.history reading.lock) → (j : ℕ) → j < length reading.got
      → slice_index reading.got j ≡ slice_index (figures_of (ledger.history reading.lock)) j

-- what a token is reading holds
abbrev pub Reads : Ledger → Look → Type 0
Reads ledger looks.Away = Unit {0}
Reads ledger (looks.Reading reading) = IsReading ledger reading

-- the root hasn't given out this lock: it has no owner and no event, nothing is written, and nothing was made
pub record IsFree (ledger : Ledger) (lock : ℕ) : Type 0 where
  pub owner : ledger.owner lock ≡ none
  pub history : ledger.history lock ≡ []
  pub stage : ledger.stage lock ≡ stages.Still
  pub made : ledger.made lock ≡ []

-- the seat is the one owner of a lock, and knows its word, whole history, stage and account; what it was shown last is behind the
-- histories, and a copy of an account
pub record IsOwner (ledger : Ledger) (seat : ℕ) (owned : Owned) : Type 0 where
  pub owner : ledger.owner owned.lock ≡ some seat
  pub lock : owned.lock < locks_of ledger.counts
  pub word : owned.word ≡ first_word ledger.counts owned.lock
  pub history : owned.history ≡ ledger.history owned.lock
  pub stage : owned.stage ≡ ledger.stage owned.lock
  pub told : IsBehind ledger.history owned.told
  pub first : owned.first ≡ first_caller ledger.counts
  pub made : owned.made ≡ ledger.made owned.lock
  pub shown : IsCopy (first_caller ledger.counts) ledger.made owned.shown

-- what a token has seen and noted, and what it was shown last, is behind the histories, and what it is reading holds
pub record IsToken (ledger : Ledger) (known : Known) : Type 0 where
  pub sight : IsBehind ledger.history known.sight
  pub told : IsBehind ledger.history known.told
  pub look : Reads ledger known.look

-- what is true of a seat by its view, if it isn't spent: the root is seat 0, knows the counts, and hasn't given out the locks from
-- `given` on
abbrev pub Knows : Ledger → ℕ → View → Type 0
Knows ledger seat (views.Root root) =
    (seat ≡ 0) × (root.counts ≡ ledger.counts) × ((lock : ℕ) → root.given ≤ lock → IsFree ledger lock)
Knows ledger seat (views.Owner owned) = IsOwner ledger seat owned
Knows ledger seat (views.Seen known) = IsToken ledger known
Knows ledger seat (views.Account account) = IsCopy (first_caller ledger.counts) ledger.made account
Knows ledger seat views.Spent = Unit {0}

-- the rule: each lock has one history, whose length and figures are in the lock's nine words; its one owner knows all of it, and
-- each token has seen a beginning of it and has noted figures of beginnings; each caller's account has all that the caller made
pub record IsGrowing (counts : Counts) (words : List ℕ) (seats : List View) : Type 0 where
  pub history : ℕ → List Event
  pub stage : ℕ → Stage
  pub owner : ℕ → Option ℕ
  pub made : ℕ → List Span
  pub wide : length words ≡ words_of counts
  pub written : (lock : ℕ) → lock < locks_of counts → IsWritten words (first_word counts lock) (history lock) (stage lock)
  pub accounts : (lock : ℕ) → IsAccount (first_caller counts) lock (made lock) history
  pub known : (seat : ℕ) (v : View) → get_elem? seats seat ≡ some v
      → Knows (record { counts = counts; words = words; history = history; stage = stage; owner = owner; made = made }) seat v
