-- That a partner is the only one.
use Rattle.std.proofs.Common.{◌≡◌, ◌≢◌, ℕ, List, Option, Some, None, refl, sym, ap, ◌∙◌, subst, inl, inr, length, arith, true, false}
use Rattle.std.specs.Prelude.{IsSome}
use Rattle.std.proofs.lemmas.Bool.{false≢true}
use Rattle.mc_item.specs.declared.{answer.Site.Site, class_event.ClassEvent.ClassEvent, class_event.Shifted.Shifted, item.ClassNo.ClassNo, lists.Entry.Entry}
use Rattle.mc_item.specs.declared.{lists.Seg.Seg, stripe_event.StripeEvent.StripeEvent}
use Rattle.mc_item.specs.declared.class_event.ClassEvent.TheVariants as entries
use Rattle.mc_item.specs.declared.stripe_event.StripeEvent.TheVariants as items
use Rattle.mc_rule.proofs.{HistoryLemmas.lawful_at, HistoryLemmas.lawful_before, HistoryLemmas.stands_named, ListLemmas.found_there, OnceLemmas.numbered}
use Rattle.mc_rule.proofs.{EventPlaceLemmas.in_order, EventPlaceLemmas.place_below, EventPlaceLemmas.stood_before, TestLemmas.itself, TestLemmas.none_some}
use Rattle.mc_rule.specs.{Belonging.IsEntryOf, Evidence.IsBacked, Lawful.IsLawfulByLists, Lawful.IsLawfulHistoryByLists, Lawful.is_named, Lawful.names}
use Rattle.mc_rule.specs.{Lists.find, Lists.found, Lists.list_of, Lists.lists_of, Pairs.IsKeyOf, Partners.ClearsOnce, Partners.Links, Partners.TakesOut}
use Rattle.mc_rule.specs.{Places.Each, Places.Stands, Segment.Rule}
use Rattle.mc_evidence.proofs.EntryLifeLemmas.{IsLinkOf, in_cold, kept, kept_by, kept_left, linked_once, listed_by, rise_at, was_linked, which_kept}
use Rattle.mc_evidence.proofs.BeganLemmas.{turned_after}

links_names : (n : ℕ) (e : ClassEvent) → Links n e → names n e ≡ true
links_names n (entries.Linked e) is = ap (λ m. names n (entries.Linked (record e { number = m }))) is ∙ itself n
links_names n (entries.Unlinked e) is = absurd is
links_names n (entries.Shifted e) is = absurd is
links_names n (entries.Evicted e) is = absurd is
links_names n (entries.Reclaimed e) is = absurd is
links_names n (entries.Surveyed e) is = absurd is
links_names n (entries.Refused e) is = absurd is
links_names n (entries.Limited e) is = absurd is

module _ (chunks : ℕ) (rule : Rule) where
  link_is_new : (n : ℕ) (h : List ClassEvent) (e : ClassEvent) → IsLawfulByLists chunks rule h e → Links n e → is_named n h ≡ false
  link_is_new n h (entries.Linked e) may is = subst (λ m. is_named m h ≡ false) is may.1
  link_is_new n h (entries.Unlinked e) may is = absurd is
  link_is_new n h (entries.Shifted e) may is = absurd is
  link_is_new n h (entries.Evicted e) may is = absurd is
  link_is_new n h (entries.Reclaimed e) may is = absurd is
  link_is_new n h (entries.Surveyed e) may is = absurd is
  link_is_new n h (entries.Refused e) may is = absurd is
  link_is_new n h (entries.Limited e) may is = absurd is

  -- a number is linked at one place
  pub links_once : (n : ℕ) (h b1 b2 : List ClassEvent) (e1 e2 : ClassEvent) → IsLawfulHistoryByLists chunks rule h → Stands h b1 e1 → Stands h b2 e2 → Links n e1 → Links n e2 → (b1 ≡ b2) × (e1 ≡ e2)
  links_once n h b1 b2 e1 e2 lawful s1 s2 is1 is2 =
      elim (in_order h b1 b2 e1 e2 s1 s2) [
        | inl r ↦ absurd (false≢true (sym (link_is_new n b2 e2 (lawful_at chunks rule h b2 e2 lawful s2) is2) ∙ stands_named n b2 b1 e1 r (links_names n e1 is1)))
        | inr u ↦ elim u [
          | inl now ↦ now
          | inr r ↦ absurd (false≢true (sym (link_is_new n b1 e1 (lawful_at chunks rule h b1 e1 lawful s1) is1) ∙ stands_named n b1 b2 e2 r (links_names n e2 is2)))
        ]
      ]

  -- what is taken out is listed
  out_listed : (n : ℕ) (h : List ClassEvent) (e : ClassEvent) → IsLawfulHistoryByLists chunks rule h → IsLawfulByLists chunks rule h e → TakesOut n e → (s : Seg) × (x : Entry) × (found n (lists_of h) ≡ Some (s, x))
  out_listed n h (entries.Linked e) lawful may is = absurd is
  out_listed n h (entries.Unlinked e) lawful may is = listed_by n (lists_of h) (found n (lists_of h)) refl (subst (λ m. IsSome (found m (lists_of h))) is may)
  out_listed n h (entries.Shifted e) lawful may is = absurd is
  out_listed n h (entries.Evicted e) lawful may is = in_cold n (lists_of h) (find n (lists_of h).cold) refl (subst (λ m. IsSome (find m (lists_of h).cold)) is may.0) ((numbered chunks rule h lawful).once n)
  out_listed n h (entries.Reclaimed e) lawful may is = listed_by n (lists_of h) (found n (lists_of h)) refl (subst (λ m. IsSome (found m (lists_of h))) is may)
  out_listed n h (entries.Surveyed e) lawful may is = absurd is
  out_listed n h (entries.Refused e) lawful may is = absurd is
  out_listed n h (entries.Limited e) lawful may is = absurd is

  link_of_names : (n : ℕ) (key : List ℕ) (cost : ℕ) (e : ClassEvent) → IsLinkOf n key cost e → Links n e
  link_of_names n key cost (entries.Linked e) is = is.0
  link_of_names n key cost (entries.Unlinked e) is = is
  link_of_names n key cost (entries.Shifted e) is = is
  link_of_names n key cost (entries.Evicted e) is = is
  link_of_names n key cost (entries.Reclaimed e) is = is
  link_of_names n key cost (entries.Surveyed e) is = is
  link_of_names n key cost (entries.Refused e) is = is
  link_of_names n key cost (entries.Limited e) is = is

  not_out_twice : (n : ℕ) (h b1 b2 : List ClassEvent) (e1 e2 : ClassEvent) → IsLawfulHistoryByLists chunks rule h → Stands h b2 e2 → Stands b2 b1 e1 → TakesOut n e1 → TakesOut n e2 → ⊥
  not_out_twice n h b1 b2 e1 e2 lawful s2 s1 is1 is2 =
      let lawful2 = lawful_before chunks rule h b2 e2 lawful s2 in
      let lawful1 = lawful_before chunks rule b2 b1 e1 lawful2 s1 in
      let then = out_listed n b2 e2 lawful2 (lawful_at chunks rule h b2 e2 lawful s2) is2 in
      let first = out_listed n b1 e1 lawful1 (lawful_at chunks rule b2 b1 e1 lawful2 s1) is1 in
      let key = then.1.key in
      let cost = then.1.cost in
      let gone = kept_left chunks rule n b1 e1 (numbered chunks rule b1 lawful1) is1 in
      let again = turned_after (λ (g : List ClassEvent). kept n g ≢ Some (key, cost)) (λ (g : List ClassEvent). kept n g ≡ Some (key, cost)) (which_kept chunks rule n key cost) (λ g was is. was is) b2 b1 e1 s1
      (λ k. none_some (sym gone ∙ k)) (kept_by n b2 then.0 then.1 then.2) in
      let t = again.0 in
      let second = link_of_names n key cost t.e (rise_at chunks rule n key cost b2 lawful2 t) in
      let old = was_linked chunks rule n first.1.key first.1.cost b1 lawful1 (kept_by n b1 first.0 first.1 first.2) in
      let named = stands_named n t.before old.0 old.1 (stood_before t.before old.0 b1 old.1 e1 again.1 old.2) (links_names n old.1 (link_of_names n first.1.key first.1.cost old.1 old.3)) in
      false≢true (sym (link_is_new n t.before t.e (lawful_at chunks rule b2 t.before t.e lawful2 t.stands) second) ∙ named)

  -- a number is taken out at one place
  pub out_once : (n : ℕ) (h b1 b2 : List ClassEvent) (e1 e2 : ClassEvent) → IsLawfulHistoryByLists chunks rule h → Stands h b1 e1 → Stands h b2 e2 → TakesOut n e1 → TakesOut n e2 → (b1 ≡ b2) × (e1 ≡ e2)
  out_once n h b1 b2 e1 e2 lawful s1 s2 is1 is2 =
      elim (in_order h b1 b2 e1 e2 s1 s2) [
        | inl r ↦ absurd (not_out_twice n h b1 b2 e1 e2 lawful s2 r is1 is2)
        | inr u ↦ elim u [ inl now ↦ now | inr r ↦ absurd (not_out_twice n h b2 b1 e2 e1 lawful s1 r is2 is1) ]
      ]

  -- a number's entry has one key at all times
  one_key : (n : ℕ) (h b1 : List ClassEvent) (e1 : ClassEvent) (s t : Seg) (x y : Entry) → IsLawfulHistoryByLists chunks rule h → Stands h b1 e1
      → found n (lists_of b1) ≡ Some (s, x) → found n (lists_of h) ≡ Some (t, y) → x.key ≡ y.key
  one_key n h b1 e1 s t x y lawful at there now =
      let first = was_linked chunks rule n x.key x.cost b1 (lawful_before chunks rule h b1 e1 lawful at) (kept_by n b1 s x there) in
      let second = was_linked chunks rule n y.key y.cost h lawful (kept_by n h t y now) in
      (linked_once chunks rule n h first.0 second.0 x.key y.key x.cost y.cost first.1 second.1 lawful (stood_before h first.0 b1 first.1 e1 at first.2) second.2 first.3 second.3).0

  -- a move of an entry is lawful where it is in the list that it comes from
  shifted_listed : (h : List ClassEvent) (e : Shifted) → IsLawfulHistoryByLists chunks rule h → IsLawfulByLists chunks rule h (entries.Shifted e) → (s : Seg) × (x : Entry) × (found e.number (lists_of h) ≡ Some (s, x))
  shifted_listed h e lawful may = by (find e.number (list_of (lists_of h) e.from_seg)) refl may.0
    where
      by : (o : Option Entry) → find e.number (list_of (lists_of h) e.from_seg) ≡ o → IsSome o → (s : Seg) × (x : Entry) × (found e.number (lists_of h) ≡ Some (s, x))
      by None is some = absurd (cc)
      by (Some x) is some = (e.from_seg, x, found_there e.number (lists_of h) e.from_seg x is ((numbered chunks rule h lawful).once e.number))

  -- a move that cites all of its stripe's events clears no mark again
  pub move_is_only : (site : Site) (class : ClassNo) (stripe : List StripeEvent) (history : List ClassEvent) (key : List ℕ) (e : Shifted) → Each (IsBacked site rule class stripe) history
      → IsLawfulHistoryByLists chunks rule history → IsEntryOf history e.number key → IsKeyOf site key → e.at ≡ length stripe → ClearsOnce history (entries.Shifted e)
  move_is_only site class stripe history key e backed lawful entry of at again =
      let x = again.other in
      let may = lawful_at chunks rule history again.earlier (entries.Shifted x) lawful again.stands in
      let there = shifted_listed again.earlier x (lawful_before chunks rule history again.earlier (entries.Shifted x) lawful again.stands) may in
      let same_key : there.1.key ≡ key =
      one_key x.number history again.earlier (entries.Shifted x) there.0 entry.seg there.1 entry.entry lawful again.stands there.2 (ap (λ m. found m (lists_of history)) again.number ∙ entry.there) ∙ entry.key_is in
      let partner = backed again.earlier (entries.Shifted x) again.stands again.other_clears there.0 there.1 there.2 (subst (IsKeyOf site) (sym same_key) of) in
      let place : x.at ≡ length partner.0 = partner.3.1.at in
      let below = place_below stripe partner.0 (items.Cooled partner.1) partner.2 in
      let same : x.at ≡ length stripe = again.at ∙ at in
      absurd (omega arith)
