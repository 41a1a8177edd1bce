-- What a lock keeps true of its own history, by what it has seen of the other histories.
use Rattle.std.specs.Prelude.{ℕ, ◌<◌, ◌≡◌, ◌++◌, ◌∷◌, [], List}
use mathlib.Core.List.{IsPrefix}
use Rattle.mc_item.specs.Stripe.{IsLegal}
use Rattle.mc_item.specs.declared.{class_event.ClassEvent.ClassEvent, item.ClassNo.ClassNo, stripe_event.StripeEvent.StripeEvent}
use Rattle.mc_rule.specs.{Cited.IsSuited, Evidence.IsBacked, Evidence.HasTrace, Lawful.IsLawfulHistoryByLists, Partners.ClearsOnce, Places.Each}
use Rattle.mc_evidence.specs.Setting.{IsClass, Setting, site_in}

-- the invariant of a stripe's lock: its history is legal, and its events have their partners in what it has seen of each class
pub record StripeKeeps (setting : Setting) (s : ℕ) (own : List StripeEvent) (seen : ClassNo → List ClassEvent) : Type 0 where
  pub legal : IsLegal (site_in setting s) own
  pub told : (class : ClassNo) → IsClass setting class → Each (HasTrace (site_in setting s) setting.rule class (seen class)) own

-- the invariant of a class's lock: its history is lawful by its own lists and clears no mark twice. What the lock has seen of
-- each stripe has the partners of its events and the items that they cite
pub record ClassKeeps (setting : Setting) (class : ClassNo) (own : List ClassEvent) (seen : ℕ → List StripeEvent) : Type 0 where
  pub lawful : IsLawfulHistoryByLists (setting.chunks class) setting.rule own
  pub once : Each ClearsOnce own
  pub backed : (s : ℕ) → s < setting.stripes → Each (IsBacked (site_in setting s) setting.rule class (seen s)) own
  pub suited : (s : ℕ) → s < setting.stripes → Each (IsSuited (site_in setting s) class (seen s)) own

-- of each history at least as much is seen as before
abbrev pub SeesMore : {K E : Type 0} → (K → List E) → (K → List E) → Type 0
SeesMore {K = K} seen more = (k : K) → IsPrefix (seen k) (more k)

-- a store's stripe and class are lent together: both locks' invariants hold, and each has seen a beginning of the other's history
pub record AreLentTogether (setting : Setting) (s : ℕ) (class : ClassNo) (stripe : List StripeEvent) (history : List ClassEvent) (seen : ClassNo
    → List ClassEvent) (seen_of : ℕ → List StripeEvent) : Type 0 where
  pub of : s < setting.stripes
  pub is : IsClass setting class
  pub stripe_keeps : StripeKeeps setting s stripe seen
  pub class_keeps : ClassKeeps setting class history seen_of
  pub saw : IsPrefix (seen class) history
  pub saw_of : IsPrefix (seen_of s) stripe

-- the invariants of a stripe's and a class's lock hold, and each lock then sees at least as much of the other histories
pub record AreHeld (setting : Setting) (s : ℕ) (class : ClassNo) (stripe : List StripeEvent) (history : List ClassEvent) (seen more : ClassNo
    → List ClassEvent) (seen_of more_of : ℕ → List StripeEvent) : Type 0 where
  pub stripe_keeps : StripeKeeps setting s stripe seen
  pub class_keeps : ClassKeeps setting class history seen_of
  pub grows : SeesMore seen more
  pub grows_of : SeesMore seen_of more_of

-- after an event of each, the invariants of both locks hold, if each lock has seen the other's whole history
abbrev pub KeepBoth : Setting → ℕ → ClassNo → List StripeEvent → List ClassEvent → StripeEvent → ClassEvent → (ClassNo → List ClassEvent)
    → (ℕ → List StripeEvent) → Type 0
KeepBoth setting s class stripe history e x more more_of =
    more class ≡ history ++ x ∷ [] → more_of s ≡ stripe ++ e ∷ []
    → StripeKeeps setting s (stripe ++ e ∷ []) more × ClassKeeps setting class (history ++ x ∷ []) more_of

-- each of two locks has seen a beginning of the other's history: the stripe's lock of the class's, the class's of the stripe's
pub record HaveSeen (seen history : List ClassEvent) (seen_of own : List StripeEvent) : Type 0 where
  pub class : IsPrefix seen history
  pub stripe : IsPrefix seen_of own
