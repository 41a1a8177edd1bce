-- A walk in a user's words: which entry each look is at, and where the walk ends.
use Rattle.std.specs.Prelude.{ℕ, ◌≡◌, ◌++◌, ◌⊎◌, List, [], ◌∷◌, Bool, true, false, Option, Some, None, length, reverse}
use Rattle.std.specs.List.{filter}
use Rattle.mc_item.specs.declared.{class_event.ClassEvent.ClassEvent, lists.Entry.Entry}
use Rattle.mc_item.specs.Measure.{stripe_of}
use Rattle.mc_rule.specs.{Lists.HasFree, Lists.IsFull, Lists.lists_of, Lists.list_of, Segment.numbers_of}
use Rattle.mc_pull.specs.declared.{judge.Done.Done, judge.Judge.TheVariants.Walk, looking.Answer.Answer, looking.Judged.Judged}
use Rattle.mc_pull.specs.declared.judge.Done.TheVariants as done
use Rattle.mc_pull.specs.{Growth.looks_for_chunk, Looks.IsJudgedIf, Looks.done_in, Looks.events_if, Pulled.is_end_if, Question.Question, Question.question}
use Rattle.mc_pull.specs.Walk.{Pull, class_at, run, start_of}

-- the class's history after these first answers of a walk
abbrev pub history_after : Pull → List Answer → List ClassEvent
history_after p before = (run p (start_of p) before).history

-- how many entries the walk's list had at its start
abbrev pub entries_at_start : Pull → ℕ
entries_at_start p = length (list_of (lists_of p.class.history) p.seg)

-- the stripe had no item of the entry's key, or one with another chunk
abbrev pub is_stranger : Done → Bool
is_stranger done.Reclaimed = false
is_stranger done.ToWarm = false
is_stranger done.WithinWarm = false
is_stranger done.ToCold = false
is_stranger done.Evicted = false
is_stranger done.Stayed = false
is_stranger (done.Alive expiry) = false
is_stranger done.Stranger = true

-- an entry was passed: its stripe was not reached, or had not its item
abbrev pub is_passed : Option Judged → Bool
is_passed None = true
is_passed (Some j) = is_stranger j.done

-- what a walk asks about an entry when it has passed these
abbrev pub question_past : Pull → List Entry → Entry → Question
question_past p passed e = question p.who e.number (Walk p.seg p.mode (numbers_of passed)) p.moment

-- a look is at the entry next to those that were passed, from the list's tail: its key's stripe is asked for, the class gains just
-- the events by which it was judged, and if a chunk is looked for, the class was full
pub record IsNextLook (p : Pull) (before : List Answer) (a : Answer) : Type 0 where
  pub passed : List Entry
  pub entry : Entry
  pub rest : List Entry
  pub at : reverse (list_of (lists_of (history_after p before)) p.seg) ≡ passed ++ entry ∷ rest
  pub as_many : length passed ≡ length (filter (λ x. is_passed x.judged) before)
  pub asks : a.stripe ≡ stripe_of entry.key p.config.stripes
  pub judged : IsJudgedIf p.config a.stripe (class_at p.class (history_after p before)) (question_past p passed entry) a.judged
  pub makes : history_after p (before ++ a ∷ [])
      ≡ history_after p before ++ events_if (class_at p.class (history_after p before)) (question_past p passed entry) a.judged
  pub full : looks_for_chunk p.mode ≡ true → IsFull p.class.chunks (history_after p before)

-- the last of these answers ends a walk
pub record IsEndedBy (xs : List Answer) : Type 0 where
  pub before : List Answer
  pub last : Answer
  pub is : xs ≡ before ++ last ∷ []
  pub ends : is_end_if (done_in last.judged) ≡ true

-- a walk that looks for a chunk has one
abbrev pub HasChunk : Pull → List ClassEvent → Type 0
HasChunk p history = (looks_for_chunk p.mode ≡ true) × HasFree p.class.chunks history

-- why a walk ends: by its last answer, after five looks, after as many as its list had entries, or as it looks for a chunk and has one
abbrev pub HasEnded : Pull → List Answer → List ClassEvent → Type 0
HasEnded p xs history = IsEndedBy xs ⊎ ((length xs ≡ 5) ⊎ ((length xs ≡ entries_at_start p) ⊎ HasChunk p history))
