-- What a walker leaves if its gate has one stripe at hand (own).
use Rattle.std.specs.Prelude.{◌≡◌, ◌≢◌, ◌++◌, ◌∷◌, [], ℕ, List, IsSomeAnd}
use Rattle.mc_item.specs.{Measure.stripe_of, Stripe.IsAlive}
use Rattle.mc_item.specs.declared.{class_event.ClassEvent.ClassEvent, item.Who.Who}
use Rattle.mc_item.specs.declared.class_event.ClassEvent.TheVariants as events
use Rattle.mc_rule.specs.Lists.{found, lists_of}
use Rattle.mc_segment.specs.ClassState.{ClassView}
use Rattle.mc_stripe.specs.StripeState.{Stripe, cache_now}
use Rattle.mc_pull.specs.declared.judge.Done.TheVariants as done
use Rattle.mc_pull.specs.declared.{looking.Answer.Answer, looking.Judged.Judged}
use Rattle.mc_pull.specs.{Judgement.done_of, Question.Question, Tried.AreHad, Walker.Walker}

-- what was done with an entry follows from the items of this stripe, which has the entry's item
pub record IsKnown (c : ClassView) (s : Stripe) (q : Question) (j : Judged) : Type 0 where
  pub done_is : j.done ≡ done_of c (cache_now s) q
  pub known : j.done ≢ done.Stranger

-- a walker walks for this call, at this moment
abbrev pub IsOfCall : Walker → Who → ℕ → Type 0
IsOfCall w who moment = (w.who ≡ who) × (w.moment ≡ moment)

-- if a class's event reclaims an entry, the entry had another key
abbrev pub IsOfOther : List ℕ → List ClassEvent → ClassEvent → Type 0
IsOfOther key before (events.Reclaimed e) = IsSomeAnd (found e.number (lists_of before)) (λ there. there.1.key ≢ key)
IsOfOther key before (events.Evicted e) = Unit {0}
IsOfOther key before (events.Shifted e) = Unit {0}
IsOfOther key before (events.Linked e) = Unit {0}
IsOfOther key before (events.Unlinked e) = Unit {0}
IsOfOther key before (events.Surveyed e) = Unit {0}
IsOfOther key before (events.Refused e) = Unit {0}
IsOfOther key before (events.Limited e) = Unit {0}

-- each entry that these events reclaim, after this history, had another key
abbrev pub AreOfOthers : List ℕ → List ClassEvent → List ClassEvent → Type 0
AreOfOthers key before [] = Unit {0}
AreOfOthers key before (e ∷ es) = IsOfOther key before e × AreOfOthers key (before ++ e ∷ []) es

-- a walker whose gate has a stripe at hand gained answers and events: each time it asked for the stripe, the stripe answered and
-- had the entry's item, and it reclaimed no entry with a key of the stripe whose item isn't dead
pub record HasLooked (stripes : ℕ) (w : Walker) (s : Stripe) (xs xs_new : List Answer) (history history_new : List ClassEvent) : Type 0 where
  pub answers : List Answer
  pub answers_are : xs_new ≡ xs ++ answers
  pub had : AreHad (record { 0 = s.site.stripe }) answers
  pub events : List ClassEvent
  pub history_is : history_new ≡ history ++ events
  pub others : (key : List ℕ) → stripe_of key stripes ≡ record { 0 = s.site.stripe } → IsAlive ((cache_now s).items key) w.moment
      → AreOfOthers key history events
