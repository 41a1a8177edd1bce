-- How a class's lists are juggled: rounds of walks by a survey.
use Rattle.std.specs.Prelude.{ℕ, ◌≡◌, ◌<◌, ◌++◌, ◌⊎◌, List, [], ◌∷◌, Bool, true, false}
use Rattle.mc_item.specs.declared.{class_event.ClassEvent.ClassEvent, class_event.Surveyed.Surveyed, config.Config.Config, counts.Moves.Moves, item.Who.Who}
use Rattle.mc_item.specs.declared.class_event.ClassEvent.TheVariants as events
use Rattle.mc_item.specs.declared.lists.Seg.TheVariants.{Hot, Warm, Cold, Temp}
use Rattle.mc_segment.specs.declared.surveying.Survey.{Survey}
use Rattle.mc_segment.specs.{ClassCalls.survey_of, ClassCalls.surveyed_event, ClassState.ClassView, ClassState.with_room}
use Rattle.mc_pull.specs.declared.{judge.Mode.TheVariants.Plain, looking.Answer.Answer, pulled.Pulled.Pulled}
use Rattle.mc_pull.specs.{Pulled.none_pulled, Pulled.did_something, Pulled.plus, Rounds.Rounds, Rounds.Walks, Rounds.Repeats, Settled.class_with, Walk.class_at}
use Rattle.mc_pull.specs.{Walker.Walker}

-- what was kept for a walker is still kept after a survey by the walker's own call
abbrev pub KeepsSurveys : {S : Type 0} → (Walker → S → List ClassEvent → S → List ClassEvent → Type 0) → Walker → Type 0
KeepsSurveys {S} keeps w =
    (first : S) (begun : List ClassEvent) (gate : S) (history : List ClassEvent) (survey : Surveyed) → survey.who ≡ w.who → survey.moment ≡ w.moment
    → keeps w first begun gate history → keeps w first begun gate (history ++ events.Surveyed survey ∷ [])

-- a gate that serves a class for a call still serves it for that call after a survey of it by the call, and with any room
pub record OutlastsSurveys {S : Type 0} (serves : S → Config → Who → ClassView → Type 0) : Type 0 where
  pub survey : (gate : S) (config : Config) (c : ClassView) (who : Who) (moment room : ℕ) → serves gate config who c
      → serves gate config who (class_with c (surveyed_event c who moment ∷ []) room)
  pub room : (gate : S) (config : Config) (c : ClassView) (who : Who) (room : ℕ) → serves gate config who c → serves gate config who (with_room c room)

-- the survey of a class with this history
abbrev pub survey_at : Rounds → List ClassEvent → Survey
survey_at r history = survey_of (class_at r.class history) r.moment

-- the history after that survey
abbrev pub history_surveyed : Rounds → List ClassEvent → List ClassEvent
history_surveyed r history = history ++ surveyed_event (class_at r.class history) r.who r.moment ∷ []

-- WARM is pulled only if HOT gave nothing
abbrev pub PullsWarm : Rounds → Survey → Bool → List ClassEvent → List Answer → List ClassEvent → Pulled → Type 0
PullsWarm r survey true before xs after pulled = (xs ≡ []) × (after ≡ before) × (pulled ≡ none_pulled)
PullsWarm r survey false before xs after pulled = Walks r Warm (Plain survey) before xs after pulled

-- a round by a survey: HOT is pulled, WARM if that did nothing, and COLD in each round; their counts are added up
pub record IsJuggleRound (r : Rounds) (survey : Survey) (before : List ClassEvent) (xs : List Answer) (after : List ClassEvent) (sum : Pulled) : Type 0 where
  pub hot : List Answer
  pub warm : List Answer
  pub cold : List Answer
  pub after_hot : List ClassEvent
  pub after_warm : List ClassEvent
  pub of_hot : Pulled
  pub of_warm : Pulled
  pub of_cold : Pulled
  pub hot_is : Walks r Hot (Plain survey) before hot after_hot of_hot
  pub warm_is : PullsWarm r survey (did_something of_hot) after_hot warm after_warm of_warm
  pub cold_is : Walks r Cold (Plain survey) after_warm cold after of_cold
  pub sum_is : sum ≡ plus (plus of_hot of_warm) of_cold
  pub answers : xs ≡ (hot ++ warm) ++ cold

-- the state of juggling: the class's history, and the counts so far
pub record Juggling : Type 0 where
  pub history : List ClassEvent
  pub pulled : Pulled

-- the state with these parts
abbrev pub juggling : List ClassEvent → Pulled → Juggling
juggling history pulled = record { history = history; pulled = pulled }

-- a step of juggling: from one history, by these answers, to another history, with these counts
abbrev pub JuggleStep : Type 1
JuggleStep = List ClassEvent → List Answer → List ClassEvent → Pulled → Type 0

-- a step that did something or not, as `did` says, and whose counts are added to those so far
pub record Adds (Step : JuggleStep) (did : Bool) (a : Juggling) (xs : List Answer) (b : Juggling) : Type 0 where
  pub sum : Pulled
  pub made : Step a.history xs b.history sum
  pub did_is : did_something sum ≡ did
  pub count : b.pulled ≡ plus a.pulled sum

-- how the steps end: after 500, or with one that did nothing
abbrev pub EndsSteps : JuggleStep → ℕ → Juggling → List Answer → Juggling → Type 0
EndsSteps Step times a xs b = ((times ≡ 500) × (xs ≡ []) × (b ≡ a)) ⊎ ((times < 500) × Adds Step false a xs b)

-- at most 500 steps, which end with the first that does nothing
pub record IsJuggled (Step : JuggleStep) (a : Juggling) (xs : List Answer) (b : Juggling) : Type 0 where
  pub times : ℕ
  pub between : Juggling
  pub most : List Answer
  pub last : List Answer
  pub each : Repeats (Adds Step true) times a most between
  pub end : EndsSteps Step times between last b
  pub answers : xs ≡ most ++ last

-- TEMP's part of juggling: if TEMP is in use, a survey and at most 500 walks, else nothing
abbrev pub JugglesTemp : Rounds → Bool → List ClassEvent → List Answer → Juggling → Type 0
JugglesTemp r false before xs b = (xs ≡ []) × (b ≡ juggling before none_pulled)
JugglesTemp r true before xs b = IsJuggled (Walks r Temp (Plain (survey_at r before))) (juggling (history_surveyed r before) none_pulled) xs b

-- the other part: a survey and at most 500 rounds, whose counts are added to those so far
abbrev pub JugglesRounds : Rounds → Juggling → List Answer → Juggling → Type 0
JugglesRounds r a xs b = IsJuggled (IsJuggleRound r (survey_at r a.history)) (juggling (history_surveyed r a.history) a.pulled) xs b

-- juggling: TEMP's part, then the rounds, with the sums of what all walks reclaimed and moved
pub record IsJuggle (r : Rounds) (before : List ClassEvent) (xs : List Answer) (after : List ClassEvent) (moves : Moves) : Type 0 where
  pub temp : List Answer
  pub rest : List Answer
  pub between : Juggling
  pub sum : Pulled
  pub temp_is : JugglesTemp r r.class.rule.temp before temp between
  pub rest_is : JugglesRounds r between rest (juggling after sum)
  pub moves_is : moves ≡ record { reclaimed = sum.reclaimed; moved = sum.moved }
  pub answers : xs ≡ temp ++ rest
