-- The example's histories are legal and lawful, and agree.
use Rattle.std.proofs.Common.{◌≡◌, ◌≢◌, ℕ, [], ◌∷◌, refl, ap, arith}
use Rattle.std.specs.Prelude.{Some}
use Rattle.mc_item.specs.Stripe.{IsLegal}
use Rattle.mc_item.specs.declared.class_event.ClassEvent.TheVariants as entries
use Rattle.mc_item.specs.declared.item.Link.{Link}
use Rattle.mc_item.specs.declared.stripe_event.StripeEvent.TheVariants as items
use Rattle.mc_rule.proofs.TestLemmas.{none_some, some_same}
use Rattle.mc_rule.specs.{Agreement.Agree, Lawful.IsLawfulHistoryByLists, Pairs.link_to}
use Rattle.mc_evidence.proofs.AgreementLemmas.{agree_begins, agree_evicted, agree_links, agree_moved}
use Rattle.mc_evidence.specs.Example.{class_story, entry_of_set, first_class, forced, set_of, small_rule, small_site, stripe_story, turn}

-- the three sets, with the eviction for the third
pub story_agrees : Agree small_site small_rule first_class stripe_story class_story
story_agrees =
    let none = agree_begins small_site small_rule first_class in
    let one = agree_links small_site small_rule first_class [] [] none (set_of 97 0) (entry_of_set 97 0) record {
      who = refl;
      room = refl;
      key = refl;
      moment =
          refl;
      item = (refl, refl);
    } (λ n goes. none_some goes.had) in
    let two_ = agree_links small_site small_rule first_class (items.Did (set_of 97 0) ∷ []) (entries.Linked (entry_of_set 97 0) ∷ []) one (set_of 98 1)
    (entry_of_set 98 1) record { who = refl; room = refl; key = refl; moment = refl; item = (refl, refl) } (λ n goes. none_some goes.had) in
    let moved = agree_moved small_site small_rule first_class (items.Did (set_of 97 0) ∷ items.Did (set_of 98 1) ∷ [])
    (entries.Linked (entry_of_set 97 0) ∷ entries.Linked (entry_of_set 98 1) ∷ []) two_ (97 ∷ []) forced (λ h. h) refl record {
      item = refl;
      entry =
          record { seg = _; entry = _; there = refl; key_is = refl };
    } (refl, refl) in
    let gone = agree_evicted small_site small_rule first_class (items.Did (set_of 97 0) ∷ items.Did (set_of 98 1) ∷ [])
    (entries.Linked (entry_of_set 97 0) ∷ entries.Linked (entry_of_set 98 1) ∷ entries.Shifted forced ∷ []) moved (turn 2) (97 ∷ []) [] 0
    record { item = refl; entry = record { seg = _; entry = _; there = refl; key_is = refl } } in
    agree_links small_site small_rule first_class _ _ gone (set_of 99 2) (entry_of_set 99 2) record { who = refl; room = refl; key = refl; moment = refl; item = (refl, refl) } (λ n goes. none_some goes.had)

-- the stripe's history is legal
pub story_legal : IsLegal small_site stripe_story
story_legal = (
  record { stripe = refl; alive = tt; fits = (refl, tt); reply = refl },
  (
    record { stripe = refl; alive = tt; fits = (refl, (λ h. other 0 1 h (λ k. cc), tt)); reply = refl },
    (
      refl,
      (
        record { stripe = refl; alive = tt; fits = (refl, (λ h. other 0 2 h (λ k. cc), (λ h. other 1 2 h (λ k. cc), (λ h. none_some h, tt)))); reply = refl },
        tt,
      ),
    ),
  ),
)
  where
    other : (m n : ℕ) → Some (link_to first_class m) ≡ Some (link_to first_class n) → (m ≢ n) → ⊥
    other m n h apart = apart (ap (λ (l : Link). l.number) (some_same (link_to first_class m) (link_to first_class n) h))

-- the class's history is lawful, as far as the lists tell
pub story_lawful : IsLawfulHistoryByLists 2 small_rule class_story
story_lawful = (
  (omega arith, refl),
  (
    (omega arith, refl),
    (
      (refl, (refl, refl, record { behind_it = refl; few = omega arith }, omega arith)),
      (
        (refl, omega arith, record { behind_it = refl; few = omega arith }),
        (
          (omega arith, refl),
          tt,
        ),
      ),
    ),
  ),
)
