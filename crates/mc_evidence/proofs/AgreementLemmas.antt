-- Each outcome of a judgement and each command keeps a stripe's and a class's whole histories in agreement.
use Rattle.std.proofs.Common.{◌≡◌, ℕ, List, [], ◌∷◌, ◌++◌, true, refl, sym, subst, length}
use Rattle.std.specs.Prelude.{IsSomeAnd}
use Rattle.mc_item.specs.{Command.key_of, Item.is_dead, Stripe.IsDead}
use Rattle.mc_item.specs.declared.{answer.Site.Site, class_event.ClassEvent.ClassEvent, class_event.Limited.Limited, class_event.Linked.Linked}
use Rattle.mc_item.specs.declared.{class_event.Refused.Refused, class_event.Shifted.Shifted, class_event.Surveyed.Surveyed, class_event.Unlinked.Unlinked, item.ClassNo.ClassNo}
use Rattle.mc_item.specs.declared.{item.Who.Who, stripe_event.Did.Did, stripe_event.StripeEvent.StripeEvent}
use Rattle.mc_item.specs.declared.class_event.ClassEvent.TheVariants as entries
use Rattle.mc_item.specs.declared.stripe_event.StripeEvent.TheVariants as items
use Rattle.mc_rule.proofs.EventPlaceLemmas.{each_push, none_stands}
use Rattle.mc_rule.specs.{Agreement.Agree, Belonging.Belong, Belonging.IsEntryOf, Cited.IsCitedIn, Cited.IsSuited, Evidence.AreEvidence}
use Rattle.mc_rule.specs.{Lawful.IsLawfulHistoryByLists, Lawful.SuitsMove, Partners.ClearsOnce, Segment.Rule}
use Rattle.mc_rule.specs.Pairs.{ClearsMark, IsKeyOf, IsLinking, IsUnlinking, item_after, link_to}
use Rattle.mc_evidence.proofs.{CitedItemLemmas.all_suited_later, CitedItemLemmas.move_suits, LentStepLemmas.cites_now, EvidenceGrowthLemmas.class_push, OnlyPartnerLemmas.move_is_only}
use Rattle.mc_evidence.proofs.{CitedMarkLemmas.with_link, BeganLemmas.stays}
use Rattle.mc_evidence.proofs.StepLemmas.{command_keeps, cooling_keeps, eviction_keeps, key_found, linking_keeps, reclaiming_keeps, replacing_keeps, unlinking_keeps}
use Rattle.mc_evidence.specs.Made.{IsGivenNone, IsRefusedThere, LetsNoneGo, cooled_as, evicted_as, lost_at, lost_to, reclaimed_as}

-- histories without events agree
pub agree_begins : (site : Site) (rule : Rule) (class : ClassNo) → Agree site rule class [] []
agree_begins site rule class = record {
  evidence = record { told = λ before e s. absurd (none_stands before e s); backed = λ before e s. absurd (none_stands before e s) };
  suited = λ before e s. absurd (none_stands before e s);
  once = λ before e s. absurd (none_stands before e s);
}

module _ (site : Site) (rule : Rule) (class : ClassNo) (stripe : List StripeEvent) (history : List ClassEvent) (agree : Agree site rule class stripe history) where
  -- an event of each
  agree_pair : (e : StripeEvent) (x : ClassEvent) → AreEvidence site rule class (stripe ++ e ∷ []) (history ++ x ∷ []) → IsSuited site class (stripe ++ e ∷ []) history x → ClearsOnce history x
      → Agree site rule class (stripe ++ e ∷ []) (history ++ x ∷ [])
  agree_pair e x both suits only = record {
    evidence = both;
    suited = each_push (IsSuited site class (stripe ++ e ∷ [])) history x (all_suited_later site class stripe (e ∷ []) history agree.suited) suits;
    once = each_push ClearsOnce history x agree.once only;
  }

  -- an eviction with its loss
  pub agree_evicted : (who : Who) (key passed : List ℕ) (number : ℕ) → Belong site class stripe history key number
      → Agree site rule class (stripe ++ lost_to class who key (length history) ∷ []) (history ++ evicted_as who number passed (length stripe) ∷ [])
  agree_evicted who key passed number one = agree_pair _ _ (eviction_keeps site rule class stripe history agree.evidence who key passed number one) tt tt

  -- a reclaimed entry with its loss
  pub agree_reclaimed : (who : Who) (key : List ℕ) (number moment : ℕ) → Belong site class stripe history key number → IsDead (item_after site stripe key) moment
      → Agree site rule class (stripe ++ lost_at who key moment ∷ []) (history ++ reclaimed_as who number moment (length stripe) ∷ [])
  agree_reclaimed who key number moment one dead =
      agree_pair (lost_at who key moment) (reclaimed_as who number moment (length stripe)) (reclaiming_keeps site rule class stripe history agree.evidence who key number moment one)
      (λ g x at of. subst (IsCitedIn site class (stripe ++ lost_at who key moment ∷ []) number (length stripe) (λ item. is_dead item moment ≡ true)) (key_found number history key g x one.entry at)
      (cites_now site class stripe (stripe ++ lost_at who key moment ∷ []) (lost_at who key moment) number key (λ item. is_dead item moment ≡ true) refl
      (with_link (item_after site stripe key) (link_to class number) (λ item. is_dead item moment ≡ true) one.item dead))) tt

  -- an active entry's move, or a hit's, with its cooling
  pub agree_cooled : (chunks : ℕ) → IsLawfulHistoryByLists chunks rule history → (key : List ℕ) (e : Shifted) → ClearsMark e.why → e.at ≡ length stripe → Belong site class stripe history key e.number
      → IsSomeAnd (item_after site stripe key) (SuitsMove e.why e.moment) → IsKeyOf site key
      → Agree site rule class (stripe ++ cooled_as e.who key ∷ []) (history ++ entries.Shifted e ∷ [])
  agree_cooled chunks lawful key e active at one suits of =
      agree_pair (cooled_as e.who key) (entries.Shifted e) (cooling_keeps site rule class stripe history agree.evidence key e one active at)
      (λ g x there of_x. subst (IsCitedIn site class (stripe ++ cooled_as e.who key ∷ []) e.number e.at (SuitsMove e.why e.moment)) (key_found e.number history key g x one.entry there)
      (subst (λ (p : ℕ). IsCitedIn site class (stripe ++ cooled_as e.who key ∷ []) e.number p (SuitsMove e.why e.moment) key) (sym at)
      (cites_now site class stripe (stripe ++ cooled_as e.who key ∷ []) (cooled_as e.who key) e.number key (SuitsMove e.why e.moment) refl
      (with_link (item_after site stripe key) (link_to class e.number) (SuitsMove e.why e.moment) one.item suits))))
      (move_is_only chunks rule site class stripe history key e agree.evidence.backed lawful one.entry of at)

  -- a move that clears no mark
  pub agree_moved : (key : List ℕ) (e : Shifted) → (ClearsMark e.why → ⊥) → e.at ≡ length stripe → Belong site class stripe history key e.number
      → IsSomeAnd (item_after site stripe key) (SuitsMove e.why e.moment) → Agree site rule class stripe (history ++ entries.Shifted e ∷ [])
  agree_moved key e passive at one suits = record {
    evidence = class_push site rule class stripe history agree.evidence (entries.Shifted e) (λ why. absurd (passive why));
    suited = each_push (IsSuited site class stripe) history (entries.Shifted e) agree.suited
        (move_suits site class stripe history key e one.entry at (with_link (item_after site stripe key) (link_to class e.number) (SuitsMove e.why e.moment) one.item suits));
    once = each_push ClearsOnce history (entries.Shifted e) agree.once (λ again. passive again.clears);
  }

  -- a command with a new entry, with one that goes, with both, with neither
  pub agree_links : (did : Did) (e : Linked) → IsLinking site rule class stripe did e → LetsNoneGo site class stripe did → Agree site rule class (stripe ++ items.Did did ∷ []) (history ++ entries.Linked e ∷ [])
  agree_links did e is stays = agree_pair (items.Did did) (entries.Linked e) (linking_keeps site rule class stripe history agree.evidence did e is stays) tt tt

  pub agree_unlinks : (did : Did) (x : Unlinked) → IsUnlinking site class stripe did x → IsEntryOf history x.number (key_of did.command) → IsGivenNone class did → IsRefusedThere class did history
      → Agree site rule class (stripe ++ items.Did did ∷ []) (history ++ entries.Unlinked x ∷ [])
  agree_unlinks did x is entry none refused = agree_pair (items.Did did) (entries.Unlinked x) (unlinking_keeps site rule class stripe history agree.evidence did x is entry none refused) tt tt

  pub agree_replaces : (did : Did) (e : Linked) (x : Unlinked) → IsLinking site rule class stripe did e → IsUnlinking site class stripe did x → IsEntryOf (history ++ entries.Linked e ∷ []) x.number (key_of did.command)
      → Agree site rule class (stripe ++ items.Did did ∷ []) ((history ++ entries.Linked e ∷ []) ++ entries.Unlinked x ∷ [])
  agree_replaces did e x is goes entry = record {
    evidence = replacing_keeps site rule class stripe history agree.evidence did e x is goes entry;
    suited = each_push (IsSuited site class (stripe ++ items.Did did ∷ [])) (history ++ entries.Linked e ∷ []) (entries.Unlinked x)
        (each_push (IsSuited site class (stripe ++ items.Did did ∷ [])) history (entries.Linked e) (all_suited_later site class stripe (items.Did did ∷ []) history agree.suited) tt) tt;
    once = each_push ClearsOnce (history ++ entries.Linked e ∷ []) (entries.Unlinked x) (each_push ClearsOnce history (entries.Linked e) agree.once tt) tt;
  }

  pub agree_neither : (did : Did) → IsGivenNone class did → LetsNoneGo site class stripe did → IsRefusedThere class did history → Agree site rule class (stripe ++ items.Did did ∷ []) history
  agree_neither did none stays refused = record {
    evidence = command_keeps site rule class stripe history agree.evidence did none stays refused;
    suited = all_suited_later site class stripe (items.Did did ∷ []) history agree.suited;
    once = agree.once;
  }

  -- a survey, a refusal or a new limit
  pub agree_surveyed : (e : Surveyed) → Agree site rule class stripe (history ++ entries.Surveyed e ∷ [])
  agree_surveyed e = record {
    evidence = class_push site rule class stripe history agree.evidence (entries.Surveyed e) tt;
    suited = each_push (IsSuited site class stripe) history (entries.Surveyed e) agree.suited tt;
    once = each_push ClearsOnce history (entries.Surveyed e) agree.once tt;
  }

  pub agree_refused : (e : Refused) → Agree site rule class stripe (history ++ entries.Refused e ∷ [])
  agree_refused e = record {
    evidence = class_push site rule class stripe history agree.evidence (entries.Refused e) tt;
    suited = each_push (IsSuited site class stripe) history (entries.Refused e) agree.suited tt;
    once = each_push ClearsOnce history (entries.Refused e) agree.once tt;
  }

  pub agree_limited : (e : Limited) → Agree site rule class stripe (history ++ entries.Limited e ∷ [])
  agree_limited e = record {
    evidence = class_push site rule class stripe history agree.evidence (entries.Limited e) tt;
    suited = each_push (IsSuited site class stripe) history (entries.Limited e) agree.suited tt;
    once = each_push ClearsOnce history (entries.Limited e) agree.once tt;
  }
