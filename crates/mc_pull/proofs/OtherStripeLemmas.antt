-- A class's part of a call is nothing to the other stripes: its entries have the command's key.
use Rattle.std.proofs.Common.{◌≡◌, ◌≢◌, ◌≤◌, ◌==◌, ◌&&◌, ℕ, List, [], ◌∷◌, ◌++◌, Bool, true, false, refl, sym, ap, ◌∙◌, subst, append_assoc, append-nil, arith}
use Rattle.std.specs.Prelude.{Option, Some, None, if◌then◌else◌, nat_eq}
use Rattle.std.specs.{Cmp.Lexicographic.bytes_decides, Cmp.Lexicographic.pointwise, Option.option_map}
use Rattle.std.proofs.lemmas.Bool.{false≢true}
use Rattle.mc_item.specs.Command.{key_of}
use Rattle.mc_item.specs.declared.{answer.Site.Site, class_event.ClassEvent.ClassEvent, class_event.Linked.Linked, item.Expiry.Expiry, item.Link.Link}
use Rattle.mc_item.specs.declared.{lists.Entry.Entry, lists.Seg.Seg}
use Rattle.mc_item.specs.declared.class_event.ClassEvent.TheVariants as entries
use Rattle.mc_rule.specs.{Lists.found, Lists.entries_linked, Lists.lists_of, Pairs.IsKeyOf, Segment.segment_for}
use Rattle.mc_rule.proofs.{HistoryLemmas.lists_of-push, ListLemmas.other_stays, TestLemmas.none_some, TestLemmas.not_equal, TestLemmas.some_same}
use Rattle.mc_evidence.specs.Made.{IsOfOthers}
use Rattle.mc_segment.specs.{ClassCalls.linked_event, ClassCalls.unlinked_event, ClassState.ClassView, Entries.entry_of}
use Rattle.mc_stripe.specs.declared.fate.Fate.{Fate}
use Rattle.mc_stripe.specs.declared.fate.Fate.TheVariants as fates
use Rattle.mc_stripe.specs.StripeState.{Stripe}
use Rattle.mc_pull.specs.declared.parts.Part.{Part}
use Rattle.mc_pull.specs.declared.parts.Part.TheVariants as parts
use Rattle.mc_pull.specs.Parts.{gone_part, is_for, is_here, new_part, entry_number, part_events, part_for}
use Rattle.mc_pull.specs.{Perform.Call, Perform.MayAnswer, Perform.fate_for, Performed.events_in}
use Rattle.mc_pull.proofs.OtherSightLemmas.{IsElsewhere, of_one_stripe}

-- no entry has a number that isn't linked yet
abbrev pub IsNumbered : ClassView → Type 0
IsNumbered v = (q : ℕ) → entries_linked v.history ≤ q → found q (lists_of v.history) ≡ None

both_true : (a b : Bool) → (a && b) ≡ true → (a ≡ true) × (b ≡ true)
both_true true b h = (refl, h)
both_true false b h = cc

-- the entry of a number that is found for a key has it
for_key : (v : ClassView) (key : List ℕ) (o : Option Link) (m : ℕ) → entry_number v key o ≡ Some m → is_for key (entry_of m (lists_of v.history)) ≡ true
for_key v key None m is = absurd (none_some is)
for_key v key (Some link) m is = by (link.class.0 == v.number.0) (is_for key (entry_of link.number (lists_of v.history))) refl is
  where
    by : (a b : Bool) → is_for key (entry_of link.number (lists_of v.history)) ≡ b → (if a && b then Some link.number else None) ≡ Some m → is_for key (entry_of m (lists_of v.history)) ≡ true
    by true true has is = subst (λ (n : ℕ). is_for key (entry_of n (lists_of v.history)) ≡ true) (some_same _ _ is) has
    by true false has is = absurd (none_some is)
    by false b has is = absurd (none_some is)

module _ (s : Stripe) (c : Call) (may : MayAnswer s c) (v : ClassView) (numbered : IsNumbered v) (other : Site) (same : other.stripes ≡ s.site.stripes) (apart : other.stripe ≢ s.site.stripe) where
  abbrev key : List ℕ
  key = key_of c.command

  away : IsKeyOf other key → ⊥
  away = of_one_stripe s.site other same apart key may.stripe

  -- a number of the class is of an entry with the key, and was linked before
  record IsOfKey (m : ℕ) : Type 0 where
    pub far : IsOfOthers other v.history m
    pub fresh : entries_linked v.history ≢ m

  of_key : (m : ℕ) → is_for key (entry_of m (lists_of v.history)) ≡ true → IsOfKey m
  of_key m has = record {
    far = λ seg x there of.
        let is : pointwise nat_eq x.key key ≡ true = sym (ap (λ (o : Option (Seg × Entry)). is_for key (option_map (λ (p : Seg × Entry). p.1) o)) there) ∙ has in
        away (subst (IsKeyOf other) ((bytes_decides x.key key).0 is) of);
    fresh = λ is.
        let none : found m (lists_of v.history) ≡ None = numbered m (omega (arith, is)) in
        false≢true (sym (ap (λ (o : Option (Seg × Entry)). is_for key (option_map (λ (p : Seg × Entry). p.1) o)) none) ∙ has);
  }

  -- it is so once a new entry has come
  still_far : (m : ℕ) (e : Linked) → e.number ≡ entries_linked v.history → IsOfKey m → IsOfOthers other (v.history ++ entries.Linked e ∷ []) m
  still_far m e number one = λ seg x there of.
      let stays = ap (found m) (lists_of-push v.history (entries.Linked e)) ∙ other_stays m (lists_of v.history) (entries.Linked e) (not_equal e.number m (λ is. one.fresh (sym number ∙ is))) in
      one.far seg x (sym stays ∙ there) of

  module _ (P : List ClassEvent → Type 0) (now : P v.history) (push : (h : List ClassEvent) (x : ClassEvent) → P h → IsElsewhere other h x → P (h ++ x ∷ [])) where
    -- what holds before a part's events holds behind them
    abbrev Holds : Part → Type 0
    Holds part = P (v.history ++ part_events v c.who c.moment part)

    nothing : Holds parts.Nothing
    nothing = subst P (sym (append-nil v.history)) now

    new_far : (cost : ℕ) (expiry : Expiry) (here : Bool) (o : Option ℕ) → ((m : ℕ) → o ≡ Some m → IsOfKey m) → Holds (new_part key cost expiry here o)
    new_far cost expiry true None one = push v.history (linked_event v c.who key cost c.moment expiry) now away
    new_far cost expiry true (Some m) one =
        let linked : Linked = record { who = c.who; number = entries_linked v.history; key = key; cost = cost; seg = segment_for v.rule c.moment expiry; moment = c.moment } in
        subst P (append_assoc v.history (entries.Linked linked ∷ []) (unlinked_event c.who m ∷ []))
        (push (v.history ++ entries.Linked linked ∷ []) (unlinked_event c.who m) (push v.history (entries.Linked linked) now away) (still_far m linked refl (one m refl)))
    new_far cost expiry false None one = nothing
    new_far cost expiry false (Some m) one = push v.history (unlinked_event c.who m) now (one m refl).far

    gone_far : (o : Option ℕ) → ((m : ℕ) → o ≡ Some m → IsOfKey m) → Holds (gone_part o)
    gone_far None one = nothing
    gone_far (Some m) one = push v.history (unlinked_event c.who m) now (one m refl).far

    fate_far : (fate : Fate) → Holds (part_for v key c.room fate)
    fate_far fates.Untouched = nothing
    fate_far (fates.Renewed cost expiry old) = new_far cost expiry (is_here v c.room) (entry_number v key old) (λ m is. of_key m (for_key v key old m is))
    fate_far (fates.Goes link) = gone_far (entry_number v key (Some link)) (λ m is. of_key m (for_key v key (Some link) m is))
    fate_far (fates.Woken link) = nothing

  -- a class's part of a call is nothing to another stripe
  pub part_far : (P : List ClassEvent → Type 0) → P v.history → ((h : List ClassEvent) (x : ClassEvent) → P h → IsElsewhere other h x → P (h ++ x ∷ [])) → P (v.history ++ events_in s c v)
  part_far P now push = fate_far P now push (fate_for s c)
