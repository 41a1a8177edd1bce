-- What a hit of an item makes of its class: the entry moves from COLD to WARM's head, or nothing happens.
use Rattle.std.specs.Prelude.{ℕ, ◌≡◌, ◌++◌, List, [], ◌∷◌, Bool, true, false, Option, Some, None}
use Rattle.mc_item.specs.Measure.{stripe_of}
use Rattle.mc_item.specs.declared.{class_event.ClassEvent.ClassEvent, config.Config.Config, lists.Entry.Entry}
use Rattle.mc_rule.specs.Lists.{find, lists_of}
use Rattle.mc_segment.specs.ClassState.{ClassView}
use Rattle.mc_pull.specs.declared.{judge.Done.Done, looking.Answer.Answer, looking.Judged.Judged}
use Rattle.mc_pull.specs.declared.judge.Done.TheVariants as done
use Rattle.mc_pull.specs.declared.judge.Judge.TheVariants.{Hit}
use Rattle.mc_pull.specs.{Looks.IsJudgedIf, Looks.answer_by, Looks.done_in, Looks.events_if, Question.Question, Question.question, Rounds.Rounds, Walk.class_at}

-- whether this was a move to WARM
abbrev pub is_to_warm : Done → Bool
is_to_warm done.ToWarm = true
is_to_warm done.Reclaimed = false
is_to_warm done.WithinWarm = false
is_to_warm done.ToCold = false
is_to_warm done.Evicted = false
is_to_warm done.Stayed = false
is_to_warm (done.Alive expiry) = false
is_to_warm done.Stranger = false

-- whether a look was a move to WARM: not if the stripe wasn't reached
abbrev pub is_to_warm_if : Option Done → Bool
is_to_warm_if None = false
is_to_warm_if (Some made) = is_to_warm made

-- one look at an entry of COLD: its key's stripe was tried once. If it was reached, what was done is what the rule of hits makes
-- of the entry by a state of the stripe. The class has gained just the events of that, and the result is whether it moved to WARM
pub record IsHit (config : Config) (c : ClassView) (q : Question) (e : Entry) (xs : List Answer) (after : List ClassEvent) (moved : Bool) : Type 0 where
  pub judged : Option Judged
  pub answers : xs ≡ answer_by (stripe_of e.key config.stripes) judged ∷ []
  pub told : IsJudgedIf config (stripe_of e.key config.stripes) c q judged
  pub history_is : after ≡ c.history ++ events_if c q judged
  pub moved_is : moved ≡ is_to_warm_if (done_in judged)

-- no stripe was tried, and nothing changed
pub record IsUnasked (c : ClassView) (xs : List Answer) (after : List ClassEvent) (moved : Bool) : Type 0 where
  pub answers : xs ≡ []
  pub history_is : after ≡ c.history
  pub moved_is : moved ≡ false

-- the entry was looked at, if it is in COLD
abbrev pub IsAdvanceOf : Config → ClassView → Question → List Answer → List ClassEvent → Bool → Option Entry → Type 0
IsAdvanceOf config c q xs after moved None = IsUnasked c xs after moved
IsAdvanceOf config c q xs after moved (Some e) = IsHit config c q e xs after moved

-- a hit of the entry with this number: from one history, by these answers, to another history, and whether the entry moved
abbrev pub IsAdvance : Rounds → ℕ → List ClassEvent → List Answer → List ClassEvent → Bool → Type 0
IsAdvance r number before xs after moved =
    IsAdvanceOf r.config (class_at r.class before) (question r.who number Hit r.moment) xs after moved (find number (lists_of before).cold)
