-- Each pair of events that one call makes keeps evidence, where each side is told the other's whole history.
use Rattle.std.proofs.Common.{◌≡◌, ℕ, List, [], ◌∷◌, ◌++◌, refl, sym, ap, ◌∙◌, inl, inr, length}
use Rattle.std.specs.Prelude.{Some}
use Rattle.mc_item.specs.Command.{key_of}
use Rattle.mc_item.specs.declared.{answer.Site.Site, class_event.ClassEvent.ClassEvent, class_event.Linked.Linked}
use Rattle.mc_item.specs.declared.{class_event.Shifted.Shifted, class_event.Unlinked.Unlinked, item.ClassNo.ClassNo, item.Link.Link, item.Who.Who}
use Rattle.mc_item.specs.declared.{lists.Entry.Entry, lists.Seg.Seg, stripe_event.Did.Did, stripe_event.StripeEvent.StripeEvent}
use Rattle.mc_item.specs.declared.class_event.ClassEvent.TheVariants as entries
use Rattle.mc_item.specs.declared.reply.Room.TheVariants as rooms
use Rattle.mc_item.specs.declared.stripe_event.StripeEvent.TheVariants as items
use Rattle.mc_rule.proofs.{EventPlaceLemmas.last_stands, EventPlaceLemmas.still_stands, TestLemmas.some_same}
use Rattle.mc_rule.specs.{Belonging.Belong, Belonging.IsEntryOf, Evidence.AreEvidence, Evidence.IsBacked, Lists.found, Lists.lists_of, Segment.Rule}
use Rattle.mc_rule.specs.Pairs.{ClearsMark, IsLinking, IsUnlinking}
use Rattle.mc_evidence.proofs.EvidenceGrowthLemmas.{class_push, pair_push, still_has, stripe_push, triple_push}
use Rattle.mc_evidence.proofs.BeganLemmas.{stays}
use Rattle.mc_evidence.specs.Made.{IsAlone, IsGivenNone, IsRefusedThere, LetsNoneGo, cooled_as, evicted_as, lost_at, lost_to, reclaimed_as}

-- the key of an entry that is found is that of the one that was found
pub key_found : (n : ℕ) (behind : List ClassEvent) (key : List ℕ) (s : Seg) (x : Entry) → IsEntryOf behind n key → found n (lists_of behind) ≡ Some (s, x) → key ≡ x.key
key_found n behind key s x entry at =
    let both : (entry.seg, entry.entry) ≡ (s, x) = some_same _ _ (sym entry.there ∙ at) in
    sym entry.key_is ∙ ap (λ (p : Seg × Entry). p.1.key) both

module _ (site : Site) (rule : Rule) (class : ClassNo) (stripe : List StripeEvent) (history : List ClassEvent) (both : AreEvidence site rule class stripe history) where
  -- an eviction with its loss
  pub eviction_keeps : (who : Who) (key passed : List ℕ) (number : ℕ) → Belong site class stripe history key number
      → AreEvidence site rule class (stripe ++ lost_to class who key (length history) ∷ []) (history ++ evicted_as who number passed (length stripe) ∷ [])
  eviction_keeps who key passed number one =
      pair_push site rule class stripe history both (lost_to class who key (length history)) (evicted_as who number passed (length stripe))
      (λ m other. (history, _, last_stands history _, record { who = refl; item = one.item; cause = refl; at = refl }))
      (λ s x at of. (stripe, _, last_stands stripe _, (key_found number history key s x one.entry at, record { who = refl; item = one.item; cause = refl; at = refl })))

  -- a reclaimed entry with its loss
  pub reclaiming_keeps : (who : Who) (key : List ℕ) (number moment : ℕ) → Belong site class stripe history key number
      → AreEvidence site rule class (stripe ++ lost_at who key moment ∷ []) (history ++ reclaimed_as who number moment (length stripe) ∷ [])
  reclaiming_keeps who key number moment one =
      pair_push site rule class stripe history both (lost_at who key moment) (reclaimed_as who number moment (length stripe))
      (λ m other. (history, _, last_stands history _, record { who = refl; item = one.item; cause = refl; at = refl }))
      (λ s x at of. (stripe, _, last_stands stripe _, (key_found number history key s x one.entry at, record { who = refl; item = one.item; cause = refl; at = refl })))

  -- a hit's or an active entry's move with its cooling
  pub cooling_keeps : (key : List ℕ) (e : Shifted) → Belong site class stripe history key e.number → ClearsMark e.why → e.at ≡ length stripe
      → AreEvidence site rule class (stripe ++ cooled_as e.who key ∷ []) (history ++ entries.Shifted e ∷ [])
  cooling_keeps key e one active at =
      pair_push site rule class stripe history both (cooled_as e.who key) (entries.Shifted e)
      (λ m other. (history, _, last_stands history _, record { who = refl; item = one.item; why = active; at = at }))
      (λ why s x there of. (stripe, _, last_stands stripe _, (key_found e.number history key s x one.entry there, record { who = refl; item = one.item; why = active; at = at })))

  alone_backed : (x : ClassEvent) → IsAlone site history x → IsBacked site rule class stripe history x
  alone_backed (entries.Linked e) away = λ of. absurd (away of)
  alone_backed (entries.Unlinked e) away = λ s x at of. absurd (away s x at of)
  alone_backed (entries.Shifted e) away = λ why s x at of. elim away [ inl passive ↦ absurd (passive why) | inr apart ↦ absurd (apart s x at of) ]
  alone_backed (entries.Evicted e) away = λ s x at of. absurd (away s x at of)
  alone_backed (entries.Reclaimed e) away = λ s x at of. absurd (away s x at of)
  alone_backed (entries.Surveyed e) away = tt
  alone_backed (entries.Refused e) away = tt
  alone_backed (entries.Limited e) away = tt

  -- an event of the class that needs nothing of the stripe
  pub alone_keeps : (x : ClassEvent) → IsAlone site history x → AreEvidence site rule class stripe (history ++ x ∷ [])
  alone_keeps x away = class_push site rule class stripe history both x (alone_backed x away)

  module _ (did : Did) where
    -- a command that gives and takes nothing of the class
    pub command_keeps : IsGivenNone class did → LetsNoneGo site class stripe did → IsRefusedThere class did history → AreEvidence site rule class (stripe ++ items.Did did ∷ []) history
    command_keeps none stays refused =
        stripe_push site rule class stripe history both (items.Did did) record { linked = λ n room. absurd (none n room); unlinked = λ n goes. absurd (stays n goes); refused = refused }

    -- a command with a new entry
    pub linking_keeps : (e : Linked) → IsLinking site rule class stripe did e → LetsNoneGo site class stripe did → AreEvidence site rule class (stripe ++ items.Did did ∷ []) (history ++ entries.Linked e ∷ [])
    linking_keeps e is stays =
        pair_push site rule class stripe history both (items.Did did) (entries.Linked e)
        record {
          linked = λ n room. (history, e, last_stands history (entries.Linked e), is);
          unlinked = λ n goes. absurd (stays n goes);
          refused = λ place room. absurd (chunk_or_refused _ _ _ (sym is.room ∙ room));
        }
        (λ of. (stripe, did, last_stands stripe (items.Did did), is))
      where
        chunk_or_refused : (link : Link) (class : ClassNo) (place : ℕ) → rooms.At link ≡ rooms.Refused class place → ⊥
        chunk_or_refused link class place h = cc

    -- a command that removes an item, or replaces it by one of another class
    pub unlinking_keeps : (x : Unlinked) → IsUnlinking site class stripe did x → IsEntryOf history x.number (key_of did.command) → IsGivenNone class did → IsRefusedThere class did history
        → AreEvidence site rule class (stripe ++ items.Did did ∷ []) (history ++ entries.Unlinked x ∷ [])
    unlinking_keeps x is entry none refused =
        pair_push site rule class stripe history both (items.Did did) (entries.Unlinked x)
        record {
          linked = λ n room. absurd (none n room);
          unlinked = λ n goes. (history, x, last_stands history (entries.Unlinked x), is);
          refused = λ place room. still_has entries.Refused history (entries.Unlinked x ∷ []) _ (refused place room);
        }
        (λ s y at of. (stripe, did, last_stands stripe (items.Did did), (key_found x.number history (key_of did.command) s y entry at, is)))

    -- a command that replaces an item by one of the same class: its new entry, then its old one
    pub replacing_keeps : (e : Linked) (x : Unlinked) → IsLinking site rule class stripe did e → IsUnlinking site class stripe did x → IsEntryOf (history ++ entries.Linked e ∷ []) x.number (key_of did.command)
        → AreEvidence site rule class (stripe ++ items.Did did ∷ []) ((history ++ entries.Linked e ∷ []) ++ entries.Unlinked x ∷ [])
    replacing_keeps e x is goes entry =
        triple_push site rule class stripe history both (items.Did did) (entries.Linked e) (entries.Unlinked x)
        record {
          linked = λ n room. (history, e, still_stands (history ++ entries.Linked e ∷ []) (entries.Unlinked x ∷ []) history (entries.Linked e) (last_stands history (entries.Linked e)), is);
          unlinked = λ n lets. (history ++ entries.Linked e ∷ [], x, last_stands (history ++ entries.Linked e ∷ []) (entries.Unlinked x), goes);
          refused = λ place room. absurd (chunk_or_refused _ _ _ (sym is.room ∙ room));
        }
        (λ of. (stripe, did, last_stands stripe (items.Did did), is))
        (λ s y at of. (stripe, did, last_stands stripe (items.Did did), (key_found x.number (history ++ entries.Linked e ∷ []) (key_of did.command) s y entry at, goes)))
      where
        chunk_or_refused : (link : Link) (class : ClassNo) (place : ℕ) → rooms.At link ≡ rooms.Refused class place → ⊥
        chunk_or_refused link class place h = cc
