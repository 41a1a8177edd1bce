-- What rounds and juggling leave when a fault ends them: whole steps, and a beginning of the next.
use Rattle.std.specs.Prelude.{ℕ, ◌≡◌, ◌<◌, ◌++◌, ◌⊎◌, List, [], Bool, true, false}
use Rattle.mc_item.specs.declared.{class_event.ClassEvent.ClassEvent, fault.Fault.Fault, lists.Seg.Seg}
use Rattle.mc_item.specs.declared.lists.Seg.TheVariants.{Hot, Warm, Cold, Temp}
use Rattle.mc_segment.specs.declared.surveying.Survey.{Survey}
use Rattle.mc_segment.specs.ClassState.{MayRefuse}
use Rattle.mc_pull.specs.declared.{judge.Mode.Mode, judge.Mode.TheVariants.Plain, judge.Mode.TheVariants.Evict, judge.Mode.TheVariants.Force}
use Rattle.mc_pull.specs.declared.{looking.Answer.Answer, pulled.Pulled.Pulled}
use Rattle.mc_pull.specs.{Pulled.none_pulled, Pulled.did_something, Walk.pull, Walk.class_at, Walk.IsBrokenWalk}
use Rattle.mc_pull.specs.Rounds.{Rounds, Walks, Repeats, is_free, IsRoomRound}
use Rattle.mc_pull.specs.Juggle.{Juggling, JuggleStep, juggling, Adds, PullsWarm, IsJuggleRound, JugglesTemp, survey_at, history_surveyed}

-- ---- steps
-- a whole step by the first of these answers, and then, by the last, one that a fault ended
pub record IsBrokenAfter {S T : Type 0} (Step : S → List Answer → T → Type 0) (Broken : T → List Answer → List ClassEvent → Type 0) (before : S)
    (xs : List Answer) (after : List ClassEvent) : Type 0 where
  pub first : List Answer
  pub last : List Answer
  pub between : T
  pub whole : Step before first between
  pub broken : Broken between last after
  pub answers : xs ≡ first ++ last

-- fewer than so many whole steps, and then one that a fault ended
abbrev pub BreaksSteps : {S : Type 0} → (S → List Answer → S → Type 0) → (S → List Answer → List ClassEvent → Type 0) → ℕ → S → List Answer
    → List ClassEvent → Type 0
BreaksSteps Step Broken most before xs after = (times : ℕ) × (times < most) × IsBrokenAfter (Repeats Step times) Broken before xs after

-- ---- walks
-- a walk along a list that a fault ended: from one history, by these answers, to another history
abbrev pub BreaksWalk : Rounds → Seg → Mode → List ClassEvent → List Answer → List ClassEvent → Type 0
BreaksWalk r s mode before xs after = IsBrokenWalk (pull (class_at r.class before) s mode r.who r.moment r.config) xs after

-- a whole walk that did nothing
abbrev pub WalksInVain : Rounds → Seg → Mode → List ClassEvent → List Answer → List ClassEvent → Type 0
WalksInVain r s mode before xs after = (pulled : Pulled) × Walks r s mode before xs after pulled × (did_something pulled ≡ false)

-- ---- making room
-- a round that a fault ended, in a full class: COLD's walk broke off, or it did nothing and HOT's broke off
abbrev pub BreaksRoomRound : Rounds → List ClassEvent → List Answer → List ClassEvent → Type 0
BreaksRoomRound r before xs after = (is_free r.class before ≡ false)
    × (BreaksWalk r Cold Evict before xs after ⊎ IsBrokenAfter (WalksInVain r Cold Evict) (BreaksWalk r Hot Force) before xs after)

-- a search for a chunk that a fault ended: fewer than ten whole rounds, and then one that a fault ended
abbrev pub BreaksRoom : Rounds → List ClassEvent → List Answer → List ClassEvent → Type 0
BreaksRoom r = BreaksSteps (IsRoomRound r) (BreaksRoomRound r) 10

-- ---- juggling
-- HOT was pulled, and WARM if that did nothing
pub record IsHotAndWarm (r : Rounds) (survey : Survey) (before : List ClassEvent) (xs : List Answer) (after : List ClassEvent) : Type 0 where
  pub hot : List Answer
  pub warm : List Answer
  pub after_hot : List ClassEvent
  pub of_hot : Pulled
  pub of_warm : Pulled
  pub hot_is : Walks r Hot (Plain survey) before hot after_hot of_hot
  pub warm_is : PullsWarm r survey (did_something of_hot) after_hot warm after of_warm
  pub answers : xs ≡ hot ++ warm

-- a round that a fault ended: HOT's walk broke off, or it did nothing and WARM's broke off, or COLD's broke off after both
abbrev pub BreaksRound : Rounds → Survey → List ClassEvent → List Answer → List ClassEvent → Type 0
BreaksRound r survey before xs after = BreaksWalk r Hot (Plain survey) before xs after
    ⊎ (IsBrokenAfter (WalksInVain r Hot (Plain survey)) (BreaksWalk r Warm (Plain survey)) before xs after
    ⊎ IsBrokenAfter (IsHotAndWarm r survey) (BreaksWalk r Cold (Plain survey)) before xs after)

-- fewer than 500 steps, each of which did something, and then one that a fault ended
abbrev pub BreaksJuggled : JuggleStep → (List ClassEvent → List Answer → List ClassEvent → Type 0) → Juggling → List Answer → List ClassEvent → Type 0
BreaksJuggled Step Broken = BreaksSteps (Adds Step true) (λ a. Broken a.history) 500

-- a survey that was refused by this fault: `HistoryFull` if the history has no place for it, else `NoMemory`; nothing changed
pub record IsSurveyRefused (r : Rounds) (before : List ClassEvent) (fault : Fault) (xs : List Answer) (after : List ClassEvent) : Type 0 where
  pub answers : xs ≡ []
  pub history_is : after ≡ before
  pub fault_is : MayRefuse (class_at r.class before) 1 fault

-- TEMP's part that a fault ended: its survey was refused, or a walk by it broke off, by one of these faults of the gate
abbrev pub BreaksTemp : Rounds → (Fault → Type 0) → Fault → Bool → List ClassEvent → List Answer → List ClassEvent → Type 0
BreaksTemp r Faults fault false before xs after = ⊥
BreaksTemp r Faults fault true before xs after = IsSurveyRefused r before fault xs after
    ⊎ (Faults fault × BreaksJuggled (Walks r Temp (Plain (survey_at r before))) (BreaksWalk r Temp (Plain (survey_at r before)))
    (juggling (history_surveyed r before) none_pulled) xs after)

-- the other part that a fault ended: its survey was refused, or a round by it broke off, by one of these faults of the gate
abbrev pub BreaksRounds : Rounds → (Fault → Type 0) → Fault → Juggling → List Answer → List ClassEvent → Type 0
BreaksRounds r Faults fault a xs after = IsSurveyRefused r a.history fault xs after
    ⊎ (Faults fault × BreaksJuggled (IsJuggleRound r (survey_at r a.history)) (BreaksRound r (survey_at r a.history))
    (juggling (history_surveyed r a.history) a.pulled) xs after)

-- juggling that a fault ended: TEMP's part broke off, or it was whole and the rounds broke off
abbrev pub BreaksJuggle : Rounds → (Fault → Type 0) → Fault → List ClassEvent → List Answer → List ClassEvent → Type 0
BreaksJuggle r Faults fault before xs after = BreaksTemp r Faults fault r.class.rule.temp before xs after
    ⊎ IsBrokenAfter (JugglesTemp r r.class.rule.temp) (BreaksRounds r Faults fault) before xs after
