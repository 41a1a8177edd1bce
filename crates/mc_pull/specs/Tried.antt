-- When a call that found no chunk has tried for one (own).
use Rattle.std.specs.Prelude.{◌≡◌, ◌≢◌, ◌<◌, ◌++◌, ℕ, List, [], ◌∷◌, Some, IsSomeAnd}
use Rattle.mc_item.specs.Measure.{stripe_of}
use Rattle.mc_item.specs.declared.{class_event.ClassEvent.ClassEvent, item.StripeNo.StripeNo, item.Who.Who, lists.Entry.Entry, lists.Seg.Seg}
use Rattle.mc_item.specs.declared.{lists.Seg.TheVariants.Hot, lists.Seg.TheVariants.Cold}
use Rattle.mc_item.specs.declared.class_event.ClassEvent.TheVariants as events
use Rattle.mc_rule.specs.Lists.{from_tail, lists_of, list_of}
use Rattle.mc_pull.specs.declared.judge.Done.TheVariants as done
use Rattle.mc_pull.specs.declared.looking.Answer.{Answer}

-- an event by which a call tried for a chunk: it evicted, moved or reclaimed an entry
abbrev pub IsTry : Who → ClassEvent → Type 0
IsTry who (events.Evicted e) = e.who ≡ who
IsTry who (events.Shifted e) = e.who ≡ who
IsTry who (events.Reclaimed e) = e.who ≡ who
IsTry who (events.Linked e) = ⊥
IsTry who (events.Unlinked e) = ⊥
IsTry who (events.Surveyed e) = ⊥
IsTry who (events.Refused e) = ⊥
IsTry who (events.Limited e) = ⊥

-- each of these events is a try of this call
abbrev pub AreTries : Who → List ClassEvent → Type 0
AreTries who [] = Unit {0}
AreTries who (e ∷ es) = IsTry who e × AreTries who es

-- the answers of a gate that has one stripe at hand: each time it was asked for, it was reached and had the entry's item
abbrev pub AreHad : StripeNo → List Answer → Type 0
AreHad number [] = Unit {0}
AreHad number (a ∷ xs) = (a.stripe ≡ number → IsSomeAnd a.judged (λ j. j.done ≢ done.Stranger)) × AreHad number xs

-- none of the five entries nearest to a list's tail has a key of stripe `number`, of `stripes` stripes
abbrev pub IsNoneNear : ℕ → StripeNo → Seg → List ClassEvent → Type 0
IsNoneNear stripes number seg history =
    (place : ℕ) (e : Entry) → place < 5 → from_tail (list_of (lists_of history) seg) place ≡ Some e → stripe_of e.key stripes ≢ number

-- a call tried for a chunk: it evicted, moved or reclaimed entries, or none near the tails of COLD and HOT has a key of the
-- stripe
pub record IsTried (stripes : ℕ) (number : StripeNo) (who : Who) (before after : List ClassEvent) : Type 0 where
  pub tries : List ClassEvent
  pub history_is : after ≡ before ++ tries
  pub each : AreTries who tries
  pub none : tries ≡ [] → IsNoneNear stripes number Cold after × IsNoneNear stripes number Hot after
