-- A stripe as a look found it, by what was seen of the stripes before and after (own).
use Rattle.std.specs.Prelude.{◌≡◌, ◌<◌, ◌++◌, ℕ, List, [], ◌∷◌, IfSome}
use mathlib.Core.List.{IsPrefix}
use Rattle.mc_item.specs.declared.stripe_event.StripeEvent.{StripeEvent}
use Rattle.mc_board.specs.Histories.{list_at}
use Rattle.mc_board.specs.declared.rule.Sight.{Sight}
use Rattle.mc_evidence.specs.Seen.{stripes_seen}
use Rattle.mc_stripe.specs.StripeState.{Stripe}
use Rattle.mc_pull.specs.Looks.{judged_by}
use Rattle.mc_pull.specs.declared.looking.Answer.{Answer}

-- what was seen of each stripe's history, by the stripe's number
abbrev pub seen_stripes : Sight → ℕ → List StripeEvent
seen_stripes sight = stripes_seen (list_at sight.seen)

-- one of so many stripes was in this state after all that `older` has of its history, and `newer` has that state's history
pub record IsStateBetween (stripes : ℕ) (older newer : ℕ → List StripeEvent) (s : Stripe) : Type 0 where
  pub of : s.site.stripe < stripes
  pub after : IsPrefix (older s.site.stripe) s.history
  pub before : IsPrefix s.history (newer s.site.stripe)

-- the same, by what was seen of all locks before and after
abbrev pub IsSeenState : ℕ → (before after : Sight) → Stripe → Type 0
IsSeenState stripes before after = IsStateBetween stripes (seen_stripes before) (seen_stripes after)

-- each of these answers for which a stripe was reached judged by a state of which `States` holds
abbrev pub AreJudgedBy : (Stripe → Type 0) → List Answer → Type 0
AreJudgedBy States [] = Unit {0}
AreJudgedBy States (a ∷ answers) = IfSome a.judged (λ j. States (judged_by j)) × AreJudgedBy States answers

-- a gate gained answers, each of which judged by a state that its stripe had after all that was seen of it before
pub record GainsAnswers (stripes : ℕ) (before after : Sight) (old new : List Answer) : Type 0 where
  pub answers : List Answer
  pub answers_are : new ≡ old ++ answers
  pub states : AreJudgedBy (IsSeenState stripes before after) answers
