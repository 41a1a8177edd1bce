-- What an event finds in the other history, part by part.
use Rattle.std.proofs.Common.{◌≡◌, ℕ, List, [], ◌∷◌, ◌++◌, refl, sym, ap, ◌∙◌, subst, length}
use Rattle.std.specs.Prelude.{Option, Some, None, IsSomeAnd}
use Rattle.mc_item.specs.{Command.key_of, Item.link_of_item, Measure.cost_of}
use Rattle.mc_item.specs.declared.{answer.Site.Site, class_event.ClassEvent.ClassEvent, class_event.Evicted.Evicted, class_event.Linked.Linked}
use Rattle.mc_item.specs.declared.{class_event.Reclaimed.Reclaimed, class_event.Shifted.Shifted, class_event.Unlinked.Unlinked, item.ClassNo.ClassNo}
use Rattle.mc_item.specs.declared.{item.Item.Item, item.Who.Who, lists.Entry.Entry, lists.Seg.Seg, stripe_event.Cause.Cause}
use Rattle.mc_item.specs.declared.{stripe_event.Cause.TheVariants.Expired, stripe_event.Cause.TheVariants.Taken, stripe_event.Cooled.Cooled}
use Rattle.mc_item.specs.declared.{stripe_event.Did.Did, stripe_event.Lost.Lost, stripe_event.StripeEvent.StripeEvent}
use Rattle.mc_item.specs.declared.class_event.ClassEvent.TheVariants as entries
use Rattle.mc_item.specs.declared.reply.Room.TheVariants as rooms
use Rattle.mc_item.specs.declared.stripe_event.StripeEvent.TheVariants as items
use Rattle.mc_rule.specs.{Evidence.AreEvidence, Evidence.HasLossTrace, Lists.found, Lists.lists_of, Places.Has, Places.Stands, Segment.Rule, Segment.segment_for}
use Rattle.mc_rule.specs.Pairs.{ClearsMark, IsEviction, IsKeyOf, IsLinking, IsReclaiming, LetsGo, item_after, link_to}
use Rattle.mc_evidence.proofs.HeldItemLemmas.{same_link, same_some}
use Rattle.mc_evidence.specs.Finding.{ClearsAt, Occurs, StandsAt, StandsFor, TakesAway}
use Rattle.mc_evidence.specs.Made.{cooled_as, evicted_as, linked_for, lost_at, lost_to, reclaimed_as}

-- one event of a class names one place, and one moment
same_place : (class : ClassNo) (p q : ℕ) → Taken class p ≡ Taken class q → p ≡ q
same_place class p q h = cc

same_moment : (m n : ℕ) → Expired m ≡ Expired n → m ≡ n
same_moment m n h = cc

refused_place : (class : ClassNo) (p q : ℕ) → rooms.Refused class p ≡ rooms.Refused class q → p ≡ q
refused_place class p q h = cc

-- an event with these parts
abbrev linked_with : Who → ℕ → List ℕ → ℕ → Seg → ℕ → Linked
linked_with who number key cost seg moment = record { who = who; number = number; key = key; cost = cost; seg = seg; moment = moment }

abbrev lost_with : Who → List ℕ → Cause → StripeEvent
lost_with who key cause = items.Lost (record { who = who; key = key; cause = cause })

-- a command's new entry, part by part
linked_is : (site : Site) (rule : Rule) (class : ClassNo) (before : List StripeEvent) (did : Did) (e : Linked) (n : ℕ) → IsLinking site rule class before did e → e.number ≡ n
    → (item : Item) → e.cost ≡ cost_of (key_of did.command) item.value → e.seg ≡ segment_for rule did.moment item.expiry → e ≡ linked_for rule n did item
linked_is site rule class before did e n pair number item cost seg =
    ap (λ (w : Who). linked_with w e.number e.key e.cost e.seg e.moment) pair.who
    ∙ (ap (λ (m : ℕ). linked_with did.who m e.key e.cost e.seg e.moment) number
    ∙ (ap (λ (k : List ℕ). linked_with did.who n k e.cost e.seg e.moment) pair.key
    ∙ (ap (λ (c : ℕ). linked_with did.who n (key_of did.command) c e.seg e.moment) cost
    ∙ (ap (λ (s : Seg). linked_with did.who n (key_of did.command) (cost_of (key_of did.command) item.value) s e.moment) seg
    ∙ ap (λ (m : ℕ). linked_with did.who n (key_of did.command) (cost_of (key_of did.command) item.value) (segment_for rule did.moment item.expiry) m) pair.moment))))

-- what holds of an item with two facts holds where it follows from them
follows : (o : Option Item) (P Q R : Item → Type 0) → IsSomeAnd o (λ item. P item × Q item) → ((item : Item) → P item → Q item → R item) → IsSomeAnd o R
follows None P Q R both how = absurd both
follows (Some item) P Q R both how = how item both.0 both.1

module _ (site : Site) (rule : Rule) (class : ClassNo) (stripe : List StripeEvent) (history : List ClassEvent) (both : AreEvidence site rule class stripe history) where
  -- ---- what a stripe's event finds

  pub finds_linked : (before : List StripeEvent) (did : Did) (number : ℕ) → Stands stripe before (items.Did did) → did.room ≡ rooms.At (link_to class number)
      → IsSomeAnd (item_after site (before ++ items.Did did ∷ []) (key_of did.command)) (λ item. Occurs history (entries.Linked (linked_for rule number did item)))
  finds_linked before did number stands room =
      let partner = (both.told before (items.Did did) stands).linked number room in
      let e = partner.1 in
      let same = same_link class e.number number (sym partner.3.room ∙ room) in
      follows (item_after site (before ++ items.Did did ∷ []) (key_of did.command)) _ _ _ partner.3.item
      (λ item cost seg. (partner.0, subst (λ (x : Linked). Stands history partner.0 (entries.Linked x)) (linked_is site rule class before did e number partner.3 same item cost seg) partner.2))

  pub finds_unlinked : (before : List StripeEvent) (did : Did) (number : ℕ) → Stands stripe before (items.Did did) → LetsGo site before did (link_to class number)
      → Occurs history (entries.Unlinked (record { who = did.who; number = number }))
  finds_unlinked before did number stands goes =
      let partner = (both.told before (items.Did did) stands).unlinked number goes in
      let e = partner.1 in
      let same = same_some class e.number number (sym partner.3.goes.had ∙ goes.had) in
      let is : e ≡ record { who = did.who; number = number } =
      ap (λ (w : Who). unlinked_with w e.number) partner.3.who ∙ ap (λ (m : ℕ). unlinked_with did.who m) same in
      (partner.0, subst (λ (x : Unlinked). Stands history partner.0 (entries.Unlinked x)) is partner.2)
    where
      unlinked_with : Who → ℕ → Unlinked
      unlinked_with who number = record { who = who; number = number }

  pub finds_taken : (before : List StripeEvent) (lost : Lost) (number place : ℕ) → Stands stripe before (items.Lost lost) → lost.cause ≡ Taken class place
      → link_of_item (item_after site before lost.key) ≡ Some (link_to class number) → (passed : List ℕ) × StandsAt history place (evicted_as lost.who number passed (length before))
  finds_taken before lost number place stands cause link =
      let partner = subst (HasLossTrace site class history before lost) cause (both.told before (items.Lost lost) stands number link) in
      let e : Evicted = partner.1 in
      let pair : IsEviction site class before lost partner.0 e = partner.3 in
      let same = same_some class e.number number (sym pair.item ∙ link) in
      let is : evicted_as e.who e.number e.passed e.at ≡ evicted_as lost.who number e.passed (length before) =
      ap (λ (w : Who). evicted_as w e.number e.passed e.at) pair.who
      ∙ (ap (λ (m : ℕ). evicted_as lost.who m e.passed e.at) same ∙ ap (λ (a : ℕ). evicted_as lost.who number e.passed a) pair.at) in
      (e.passed, record { before = partner.0; stands = subst (Stands history partner.0) is partner.2; place_is = same_place class (length partner.0) place (sym pair.cause ∙ cause) })

  pub finds_expired : (before : List StripeEvent) (lost : Lost) (number moment : ℕ) → Stands stripe before (items.Lost lost) → lost.cause ≡ Expired moment
      → link_of_item (item_after site before lost.key) ≡ Some (link_to class number) → Occurs history (reclaimed_as lost.who number moment (length before))
  finds_expired before lost number moment stands cause link =
      let partner = subst (HasLossTrace site class history before lost) cause (both.told before (items.Lost lost) stands number link) in
      let e : Reclaimed = partner.1 in
      let pair : IsReclaiming site class before lost e = partner.3 in
      let same = same_some class e.number number (sym pair.item ∙ link) in
      let when = same_moment e.moment moment (sym pair.cause ∙ cause) in
      let is : reclaimed_as e.who e.number e.moment e.at ≡ reclaimed_as lost.who number moment (length before) =
      ap (λ (w : Who). reclaimed_as w e.number e.moment e.at) pair.who
      ∙ (ap (λ (n : ℕ). reclaimed_as lost.who n e.moment e.at) same
      ∙ (ap (λ (m : ℕ). reclaimed_as lost.who number m e.at) when ∙ ap (λ (a : ℕ). reclaimed_as lost.who number moment a) pair.at)) in
      (partner.0, subst (Stands history partner.0) is partner.2)

  pub finds_cooled : (before : List StripeEvent) (cooled : Cooled) (number : ℕ) → Stands stripe before (items.Cooled cooled)
      → link_of_item (item_after site before cooled.key) ≡ Some (link_to class number) → Has entries.Shifted history (λ behind e. ClearsAt cooled.who number (length before) e)
  finds_cooled before cooled number stands link =
      let partner = both.told before (items.Cooled cooled) stands number link in
      let pair = partner.3 in
      (partner.0, partner.1, partner.2, record { who_is = pair.who; number_is = same_some class partner.1.number number (sym pair.item ∙ link); why = pair.why; place_is = pair.at })

  pub finds_refused : (before : List StripeEvent) (did : Did) (place : ℕ) → Stands stripe before (items.Did did) → did.room ≡ rooms.Refused class place
      → StandsAt history place (entries.Refused (record { who = did.who }))
  finds_refused before did place stands room =
      let partner = (both.told before (items.Did did) stands).refused place room in
      record {
        before = partner.0;
        stands = subst (λ (w : Who). Stands history partner.0 (entries.Refused (record { who = w }))) partner.3.who partner.2;
        place_is = refused_place class (length partner.0) place (sym partner.3.room ∙ room);
      }

  -- ---- what a class's event finds

  pub linked_finds : (behind : List ClassEvent) (e : Linked) → Stands history behind (entries.Linked e) → IsKeyOf site e.key
      → Has items.Did stripe (λ before did. (did.room ≡ rooms.At (link_to class e.number))
      × IsSomeAnd (item_after site (before ++ items.Did did ∷ []) (key_of did.command)) (λ item. e ≡ linked_for rule e.number did item))
  linked_finds behind e stands of =
      let partner = both.backed behind (entries.Linked e) stands of in
      let did = partner.1 in
      let there = follows (item_after site (partner.0 ++ items.Did did ∷ []) (key_of did.command)) _ _ (λ item. e ≡ linked_for rule e.number did item) partner.3.item
      (λ item cost seg. linked_is site rule class partner.0 did e e.number partner.3 refl item cost seg) in
      (partner.0, did, partner.2, (partner.3.room, there))

  pub unlinked_finds : (behind : List ClassEvent) (e : Unlinked) (seg : Seg) (entry : Entry) → Stands history behind (entries.Unlinked e) → found e.number (lists_of behind) ≡ Some (seg, entry) → IsKeyOf site entry.key
      → Has items.Did stripe (λ before did. TakesAway site class before entry.key e did)
  unlinked_finds behind e seg entry stands there of =
      let partner = both.backed behind (entries.Unlinked e) stands seg entry there of in
      (partner.0, partner.1, partner.2, record { who = sym partner.3.1.who; key_is = partner.3.0; goes = partner.3.1.goes })

  pub evicted_finds : (behind : List ClassEvent) (e : Evicted) (seg : Seg) (entry : Entry) → Stands history behind (entries.Evicted e) → found e.number (lists_of behind) ≡ Some (seg, entry) → IsKeyOf site entry.key
      → StandsFor site class stripe e.at entry.key e.number (lost_to class e.who entry.key (length behind))
  evicted_finds behind e seg entry stands there of =
      let partner = both.backed behind (entries.Evicted e) stands seg entry there of in
      let lost = partner.1 in
      let pair = partner.3.1 in
      let is : lost_with lost.who lost.key lost.cause ≡ lost_to class e.who entry.key (length behind) =
      ap (λ (w : Who). lost_with w lost.key lost.cause) (sym pair.who)
      ∙ (ap (λ (k : List ℕ). lost_with e.who k lost.cause) partner.3.0 ∙ ap (λ (c : Cause). lost_with e.who entry.key c) pair.cause) in
      record {
        before = partner.0;
        stands = subst (Stands stripe partner.0) is partner.2;
        place_is = sym pair.at;
        link = subst (λ (k : List ℕ). link_of_item (item_after site partner.0 k) ≡ Some (link_to class e.number)) partner.3.0 pair.item;
      }

  pub reclaimed_finds : (behind : List ClassEvent) (e : Reclaimed) (seg : Seg) (entry : Entry) → Stands history behind (entries.Reclaimed e) → found e.number (lists_of behind) ≡ Some (seg, entry) → IsKeyOf site entry.key
      → StandsFor site class stripe e.at entry.key e.number (lost_at e.who entry.key e.moment)
  reclaimed_finds behind e seg entry stands there of =
      let partner = both.backed behind (entries.Reclaimed e) stands seg entry there of in
      let lost = partner.1 in
      let pair = partner.3.1 in
      let is : lost_with lost.who lost.key lost.cause ≡ lost_at e.who entry.key e.moment =
      ap (λ (w : Who). lost_with w lost.key lost.cause) (sym pair.who)
      ∙ (ap (λ (k : List ℕ). lost_with e.who k lost.cause) partner.3.0 ∙ ap (λ (c : Cause). lost_with e.who entry.key c) pair.cause) in
      record {
        before = partner.0;
        stands = subst (Stands stripe partner.0) is partner.2;
        place_is = sym pair.at;
        link = subst (λ (k : List ℕ). link_of_item (item_after site partner.0 k) ≡ Some (link_to class e.number)) partner.3.0 pair.item;
      }

  pub shifted_finds : (behind : List ClassEvent) (e : Shifted) (seg : Seg) (entry : Entry) → Stands history behind (entries.Shifted e) → ClearsMark e.why
      → found e.number (lists_of behind) ≡ Some (seg, entry) → IsKeyOf site entry.key
      → StandsFor site class stripe e.at entry.key e.number (cooled_as e.who entry.key)
  shifted_finds behind e seg entry stands clears there of =
      let partner = both.backed behind (entries.Shifted e) stands clears seg entry there of in
      let cooled = partner.1 in
      let pair = partner.3.1 in
      let is : cooled_as cooled.who cooled.key ≡ cooled_as e.who entry.key =
      ap (λ (w : Who). cooled_as w cooled.key) (sym pair.who) ∙ ap (λ (k : List ℕ). cooled_as e.who k) partner.3.0 in
      record {
        before = partner.0;
        stands = subst (Stands stripe partner.0) is partner.2;
        place_is = sym pair.at;
        link = subst (λ (k : List ℕ). link_of_item (item_after site partner.0 k) ≡ Some (link_to class e.number)) partner.3.0 pair.item;
      }
