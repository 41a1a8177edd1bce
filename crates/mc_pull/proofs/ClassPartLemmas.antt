-- A class's part of a call keeps its history and the stripe's in agreement.
use Rattle.std.proofs.Common.{◌≡◌, ◌≢◌, ◌==◌, ◌&&◌, ℕ, List, [], ◌∷◌, ◌++◌, Bool, true, false, not, refl, sym, ap, ◌∙◌, subst, inl, inr, append_assoc, append-nil}
use Rattle.std.specs.Prelude.{Option, Some, None, IsSomeAnd, if◌then◌else◌, slice_get}
use Rattle.std.proofs.lemmas.Bool.Decides.{eqb_tells}
use Rattle.mc_item.specs.{Cache.changed, Cache.counted, Cache.marked, Cache.touched, Item.link_of_item, Measure.cost_of, Stripe.IsLegal}
use Rattle.mc_item.specs.declared.{answer.Change.Change, class_event.ClassEvent.ClassEvent, class_event.Linked.Linked}
use Rattle.mc_item.specs.declared.{class_event.Unlinked.Unlinked, item.ClassNo.ClassNo, item.Item.Item, item.Link.Link}
use Rattle.mc_item.specs.declared.reply.Room.{Room}
use Rattle.mc_item.specs.declared.answer.Change.TheVariants as changes
use Rattle.mc_item.specs.declared.class_event.ClassEvent.TheVariants as entries
use Rattle.mc_item.specs.declared.reply.Room.TheVariants as rooms
use Rattle.mc_rule.specs.{Agreement.Agree, Lawful.IsLawfulHistoryByLists, Lists.entries_linked}
use Rattle.mc_rule.specs.{Pairs.IsLinking, Pairs.IsUnlinking, Pairs.link_to}
use Rattle.mc_rule.proofs.TestLemmas.{none_some, some_same}
use Rattle.mc_evidence.specs.Made.{IsGivenNone, IsRefusedThere, LetsNoneGo, linked_for}
use Rattle.mc_evidence.proofs.AgreementLemmas.{agree_links, agree_neither, agree_replaces, agree_unlinks}
use Rattle.mc_evidence.proofs.{RoomLemmas.new_entry, RowLemmas.IsNoChunk}
use Rattle.mc_segment.specs.ClassState.{ClassView}
use Rattle.mc_stripe.specs.declared.fate.Fate.TheVariants as fates
use Rattle.mc_stripe.specs.{Plan.fate_of, Plan.gone_fate, Plan.hit_fate, StripeState.Stripe}
use Rattle.mc_pull.specs.declared.parts.Part.{Part}
use Rattle.mc_pull.specs.declared.parts.Part.TheVariants as parts
use Rattle.mc_pull.specs.{Agreeing.HasRefusal, Performed.events_in}
use Rattle.mc_pull.specs.Parts.{gone_part, is_here, new_part, entry_number, part_events, part_for}
use Rattle.mc_pull.specs.Perform.{Call, MayAnswer, IsRoomOf, answer_to, item_before}
use Rattle.mc_pull.proofs.CallItemLemmas.{KeepsLink, after_is, entry, entry_stays, finds, kept_link, did, given_none, goes, key, may_do, not_held, noted, placed, refused_there, spared_if_apart, spared_if_kept}
use Rattle.mc_pull.proofs.NewVersionLemmas.{IsPlaced}

module _ (s : Stripe) (c : Call) (legal : IsLegal s.site s.history) (may : MayAnswer s c) where
  module _ (v : ClassView) (lawful : IsLawfulHistoryByLists v.chunks v.rule v.history) (agree : Agree s.site v.rule v.number s.history v.history) where
    -- ---- the parts
    module _ (named : IsRoomOf c.who c.room v) where
      -- the histories agree once the events of a part have come
      abbrev Made : Part → Type 0
      Made part = Agree s.site v.rule v.number (noted s c) (v.history ++ part_events v c.who c.moment part)

      -- the part by a change of the item
      abbrev part_by : Change → Part
      part_by change = part_for v (key s c) c.room (fate_of (key s c) (item_before s c) change)

      module _ (change : Change) (change_is : (answer_to s c).change ≡ change) where
        none_comes : part_by change ≡ parts.Nothing → IsGivenNone v.number (did s c) → LetsNoneGo s.site v.number s.history (did s c) → IsRefusedThere v.number (did s c) v.history → Made (part_by change)
        none_comes is none spared refused =
            subst Made (sym is)
            (subst (λ (h : List ClassEvent). Agree s.site v.rule v.number (noted s c) h) (sym (append-nil v.history)) (agree_neither s.site v.rule v.number s.history v.history agree (did s c) none spared refused))

        unlinking : (m : ℕ) → link_of_item (item_before s c) ≡ Some (link_to v.number m) → link_of_item (changed (item_before s c) change) ≢ Some (link_to v.number m)
            → IsUnlinking s.site v.number s.history (did s c) (record { who = c.who; number = m })
        unlinking m had gone = record {
          who = refl;
          goes = goes s c legal may v.number v.history m had (λ is. gone (sym (ap (λ (x : Change). link_of_item (changed (item_before s c) x)) change_is) ∙ is));
        }

        one_goes : (m : ℕ) → part_by change ≡ parts.Unlinks m → link_of_item (item_before s c) ≡ Some (link_to v.number m) → link_of_item (changed (item_before s c) change) ≢ Some (link_to v.number m)
            → IsGivenNone v.number (did s c) → IsRefusedThere v.number (did s c) v.history → Made (part_by change)
        one_goes m is had gone none refused =
            subst Made (sym is) (agree_unlinks s.site v.rule v.number s.history v.history agree (did s c) (record { who = c.who; number = m })
            (unlinking m had gone) (entry s c legal may v lawful agree m had) none refused)

        kept : link_of_item (changed (item_before s c) change) ≡ link_of_item (item_before s c) → KeepsLink s c
        kept same = ap (λ (x : Change). link_of_item (changed (item_before s c) x)) change_is ∙ same

      refusal_of : (room : Room) → IsRoomOf c.who room v → HasRefusal c.who room v.number v.history
      refusal_of (rooms.At link) is = λ place here. absurd (cc here)
      refusal_of rooms.Keep is = λ place here. absurd (cc here)
      refusal_of (rooms.Refused class at) is = λ place here.
          let both : rooms.Refused class at ≡ rooms.Refused v.number place = here in
          let class_is : class ≡ v.number = cc in
          let at_is : at ≡ place = cc in
          subst (λ (n : ℕ). slice_get v.history n ≡ Some (entries.Refused (record { who = c.who }))) at_is (is class_is)

      refused : IsRefusedThere v.number (did s c) v.history
      refused = refused_there s c legal may v.number v.history (refusal_of c.room named)

      -- ---- a change that makes no new version
      stays_by : (change : Change) → (answer_to s c).change ≡ change → IsNoChunk c.room → part_by change ≡ parts.Nothing
          → link_of_item (changed (item_before s c) change) ≡ link_of_item (item_before s c) → Made (part_by change)
      stays_by change change_is none is same = none_comes change change_is is (given_none s c legal may v.number v.history none) (spared_if_kept s c legal may v.number v.history (kept change change_is same)) refused

      gone_is : (o : Option Item) → part_for v (key s c) c.room (gone_fate o) ≡ gone_part (entry_number v (key s c) (link_of_item o))
      gone_is None = refl
      gone_is (Some item) = refl

      goes_by : (answer_to s c).change ≡ changes.Goes → IsNoChunk c.room → Made (part_by changes.Goes)
      goes_by change_is none =
          elim (finds s c legal may v lawful agree) [
            | inl has ↦ one_goes changes.Goes change_is has.0 (gone_is (item_before s c) ∙ ap gone_part has.2) has.1 (λ is. none_some is) (given_none s c legal may v.number v.history none) refused
            | inr lacks ↦ none_comes changes.Goes change_is (gone_is (item_before s c)
                ∙ ap gone_part lacks.1) (given_none s c legal may v.number v.history none) (spared_if_apart s c legal may v.number v.history lacks.0) refused
          ]

      -- a hit has no part
      woken_none : (b : Bool) (link : Link) → part_for v (key s c) c.room (if b then fates.Woken link else fates.Untouched) ≡ parts.Nothing
      woken_none true link = refl
      woken_none false link = refl

      hit_none : (active : Bool) (o : Option Item) → part_for v (key s c) c.room (hit_fate active o) ≡ parts.Nothing
      hit_none active None = refl
      hit_none active (Some item) = woken_none (active && not item.marks.active) item.link

      -- ---- a new version
      module _ (item : Item) (change_is : (answer_to s c).change ≡ changes.Renewed item) (room : c.room ≡ rooms.At item.link) where
        -- its link isn't that of the old item
        replaced : (m : ℕ) → link_of_item (item_before s c) ≡ Some (link_to v.number m) → Some item.link ≢ Some (link_to v.number m)
        replaced m had is = not_held s c legal may (link_to v.number m) (room ∙ ap rooms.At (some_same _ _ is)) had

        -- the part, where the new link is of the class or isn't, and the old one's number is found or isn't
        renewed_is : (here : Bool) (o : Option ℕ) → is_here v c.room ≡ here → entry_number v (key s c) (link_of_item (item_before s c)) ≡ o
            → part_by (changes.Renewed item) ≡ new_part (key s c) (cost_of (key s c) item.value) item.expiry here o
        renewed_is here o here_is old_is =
            ap (λ (b : Bool). new_part (key s c) (cost_of (key s c) item.value) item.expiry b (entry_number v (key s c) (link_of_item (item_before s c)))) here_is
            ∙ ap (new_part (key s c) (cost_of (key s c) item.value) item.expiry here) old_is

        module _ (here_is : is_here v c.room ≡ true) (class_is : item.link.class ≡ v.number) where
          abbrev linked : Linked
          linked = linked_for v.rule (entries_linked v.history) (did s c) item

          link_is : item.link ≡ link_to v.number (entries_linked v.history)
          link_is = ap (λ (n : ClassNo). link_to n item.link.number) class_is ∙ ap (link_to v.number) (subst (λ (r : Room). IsRoomOf c.who r v) room named class_is)

          linking : IsLinking s.site v.rule v.number s.history (did s c) linked
          linking = subst (λ (o : Option Item). IsSomeAnd o (λ i. IsLinking s.site v.rule v.number s.history (did s c) (linked_for v.rule (entries_linked v.history) (did s c) i)))
              (after_is s c legal may ∙ ap (changed (item_before s c)) change_is)
              (new_entry s.site v.rule v.number (entries_linked v.history) s.history (did s c) (may_do s c legal may) (room ∙ ap rooms.At link_is))

          comes : Made (part_by (changes.Renewed item))
          comes =
              elim (finds s c legal may v lawful agree) [
                | inl has ↦
                    let m = has.0 in
                    let gone : Unlinked = record { who = c.who; number = m } in
                    let apart : entries_linked v.history ≢ m = λ is. replaced m has.1 (ap (λ (l : Link). Some l) (link_is ∙ ap (link_to v.number) is)) in
                    let both = agree_replaces s.site v.rule v.number s.history v.history agree (did s c) linked gone linking (unlinking (changes.Renewed item) change_is m has.1 (replaced m has.1))
                    (entry_stays s c legal may v lawful agree m linked apart (entry s c legal may v lawful agree m has.1)) in
                    subst Made (sym (renewed_is true (Some m) here_is has.2))
                    (subst (λ (h : List ClassEvent). Agree s.site v.rule v.number (noted s c) h) (append_assoc v.history (entries.Linked linked ∷ []) (entries.Unlinked gone ∷ [])) both)
                | inr lacks ↦
                    subst Made (sym (renewed_is true None here_is lacks.1))
                    (agree_links s.site v.rule v.number s.history v.history agree (did s c) linked linking (spared_if_apart s c legal may v.number v.history lacks.0))
              ]

        elsewhere : is_here v c.room ≡ false → item.link.class ≢ v.number → Made (part_by (changes.Renewed item))
        elsewhere here_is apart =
            let none : IsGivenNone v.number (did s c) = λ n is. apart (at_class item.link n (sym room ∙ is)) in
            elim (finds s c legal may v lawful agree) [
              | inl has ↦ one_goes (changes.Renewed item) change_is has.0 (renewed_is false (Some has.0) here_is has.2) has.1 (replaced has.0 has.1) none refused
              | inr lacks ↦ none_comes (changes.Renewed item) change_is (renewed_is false None here_is lacks.1) none (spared_if_apart s c legal may v.number v.history lacks.0) refused
            ]
          where
            at_class : (link : Link) (n : ℕ) → rooms.At link ≡ rooms.At (link_to v.number n) → link.class ≡ v.number
            at_class link n is = let same : link ≡ link_to v.number n = cc in ap (λ (l : Link). l.class) same

        renews : Made (part_by (changes.Renewed item))
        renews =
            let here : is_here v c.room ≡ (item.link.class.0 == v.number.0) = ap (is_here v) room in
            elim (eqb_tells item.link.class.0 v.number.0) [
              | inl p ↦ comes (here ∙ p.0) (ap (λ (n : ℕ). record { 0 = n }) p.1)
              | inr p ↦ elsewhere (here ∙ p.0) (λ is. p.1 (ap (λ (n : ClassNo). n.0) is))
            ]

      by_change : (change : Change) → (answer_to s c).change ≡ change → IsPlaced c.room change → Made (part_by change)
      by_change changes.Stays is at = stays_by changes.Stays is at refl refl
      by_change changes.Goes is at = goes_by is at
      by_change (changes.Hit marks) is at = stays_by (changes.Hit marks) is at (hit_none marks.active (item_before s c)) (kept_link (item_before s c) (marked marks) (λ i. refl))
      by_change (changes.Touched expiry marks) is at = stays_by (changes.Touched expiry marks) is at (hit_none marks.active (item_before s c)) (kept_link (item_before s c) (touched expiry marks) (λ i. refl))
      by_change (changes.Counted value cas) is at = stays_by (changes.Counted value cas) is at refl (kept_link (item_before s c) (counted value cas) (λ i. refl))
      by_change (changes.Renewed item) is at = renews item is at

      -- a class's part keeps it in agreement
      pub part_agrees : Agree s.site v.rule v.number (noted s c) (v.history ++ events_in s c v)
      part_agrees = by_change (answer_to s c).change refl (placed s c legal may)
