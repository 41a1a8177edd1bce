-- A partner is the only one: two events of a history that are partners of one event of the other are one.
use Rattle.std.proofs.Common.{◌≡◌, ℕ, List, [], ◌∷◌, ◌++◌, refl, sym, ap, ◌∙◌, subst, length, inl, inr}
use Rattle.std.specs.Prelude.{Some}
use Rattle.mc_item.specs.{Command.key_of, Stripe.IsLegal}
use Rattle.mc_item.specs.declared.{answer.Site.Site, class_event.ClassEvent.ClassEvent, class_event.Evicted.Evicted, class_event.Linked.Linked}
use Rattle.mc_item.specs.declared.{class_event.Reclaimed.Reclaimed, class_event.Refused.Refused, class_event.Shifted.Shifted, class_event.Unlinked.Unlinked}
use Rattle.mc_item.specs.declared.{item.ClassNo.ClassNo, item.Link.Link, stripe_event.Cooled.Cooled, stripe_event.Did.Did, stripe_event.Lost.Lost}
use Rattle.mc_item.specs.declared.{stripe_event.StripeEvent.StripeEvent}
use Rattle.mc_item.specs.declared.class_event.ClassEvent.TheVariants as entries
use Rattle.mc_item.specs.declared.reply.Room.TheVariants as rooms
use Rattle.mc_item.specs.declared.stripe_event.StripeEvent.TheVariants as items
use Rattle.mc_rule.proofs.{HistoryLemmas.legal_at, HistoryLemmas.legal_before, TestLemmas.none_some, TestLemmas.some_same}
use Rattle.mc_rule.proofs.EventPlaceLemmas.{in_order, one_stands, stood_before}
use Rattle.mc_rule.specs.{Lawful.IsLawfulHistoryByLists, Partners.ClearsOnce, Places.Each, Places.Stands, Segment.Rule}
use Rattle.mc_rule.specs.Pairs.{IsCooling, IsEviction, IsLinking, IsReclaiming, IsRefusal, IsUnlinking, LetsGo, item_after, link_to}
use Rattle.mc_evidence.proofs.HeldItemLemmas.{held_link, link_held, same_link, same_some}
use Rattle.mc_evidence.proofs.LinkLifeLemmas.{Held, IsGiftOf, NotHeld, gift_named, held_apart, held_once, holds, link_new, was_given, which_held}
use Rattle.mc_evidence.proofs.{OnlyPartnerLemmas.links_once, OnlyPartnerLemmas.out_once, BeganLemmas.lasts}

refused_place : (class : ClassNo) (p q : ℕ) → rooms.Refused class p ≡ rooms.Refused class q → p ≡ q
refused_place class p q h = cc

-- ---- of one event of a stripe

module _ (site : Site) (rule : Rule) (class : ClassNo) (before : List StripeEvent) (history first second : List ClassEvent) where
  module _ (chunks : ℕ) (lawful : IsLawfulHistoryByLists chunks rule history) where
    pub one_linked : (did : Did) (e x : Linked) → Stands history first (entries.Linked e) → Stands history second (entries.Linked x)
        → IsLinking site rule class before did e → IsLinking site rule class before did x → first ≡ second
    one_linked did e x s t p q =
        (links_once chunks rule e.number history first second (entries.Linked e) (entries.Linked x) lawful s t refl (same_link class x.number e.number (sym q.room ∙ p.room))).0

    pub one_unlinked : (did : Did) (e x : Unlinked) → Stands history first (entries.Unlinked e) → Stands history second (entries.Unlinked x)
        → IsUnlinking site class before did e → IsUnlinking site class before did x → first ≡ second
    one_unlinked did e x s t p q =
        (out_once chunks rule e.number history first second (entries.Unlinked e) (entries.Unlinked x) lawful s t refl (same_some class x.number e.number (sym q.goes.had ∙ p.goes.had))).0

    pub one_evicted : (lost : Lost) (e x : Evicted) → Stands history first (entries.Evicted e) → Stands history second (entries.Evicted x)
        → IsEviction site class before lost first e → IsEviction site class before lost second x → first ≡ second
    one_evicted lost e x s t p q =
        (out_once chunks rule e.number history first second (entries.Evicted e) (entries.Evicted x) lawful s t refl (same_some class x.number e.number (sym q.item ∙ p.item))).0

    pub one_reclaimed : (lost : Lost) (e x : Reclaimed) → Stands history first (entries.Reclaimed e) → Stands history second (entries.Reclaimed x)
        → IsReclaiming site class before lost e → IsReclaiming site class before lost x → first ≡ second
    one_reclaimed lost e x s t p q =
        (out_once chunks rule e.number history first second (entries.Reclaimed e) (entries.Reclaimed x) lawful s t refl (same_some class x.number e.number (sym q.item ∙ p.item))).0

module _ (site : Site) (class : ClassNo) (before : List StripeEvent) (history first second : List ClassEvent) where
  pub one_shifted : Each ClearsOnce history → (cooled : Cooled) (e x : Shifted) → Stands history first (entries.Shifted e) → Stands history second (entries.Shifted x)
      → IsCooling site class before cooled e → IsCooling site class before cooled x → first ≡ second
  one_shifted once cooled e x s t p q =
      let number = same_some class e.number x.number (sym p.item ∙ q.item) in
      elim (in_order history first second (entries.Shifted e) (entries.Shifted x) s t) [
        | inl r ↦ absurd (once second (entries.Shifted x) t record { clears = q.why; earlier = first; other = e; stands = r; other_clears = p.why; number = number; at = p.at ∙ sym q.at })
        | inr u ↦ elim u [
          | inl now ↦ now.0
          | inr r ↦ absurd (once first (entries.Shifted e) s record { clears = p.why; earlier = second; other = x; stands = r; other_clears = q.why; number = sym number; at = q.at ∙ sym p.at })
        ]
      ]

module _ (class : ClassNo) (history first second : List ClassEvent) where
  pub one_refused : (did : Did) (e x : Refused) → Stands history first (entries.Refused e) → Stands history second (entries.Refused x)
      → IsRefusal class did first e → IsRefusal class did second x → first ≡ second
  one_refused did e x s t p q =
      (one_stands history first second (entries.Refused e) (entries.Refused x) s t (refused_place class (length first) (length second) (sym p.room ∙ q.room))).0

-- ---- of one event of a class

module _ (site : Site) (stripe : List StripeEvent) (legal : IsLegal site stripe) where
  -- a link that was given before isn't given again
  not_again : (first second : List StripeEvent) (did other : Did) (link : Link) → Stands stripe second (items.Did other) → Stands second first (items.Did did) → did.room ≡ rooms.At link → other.room ≡ rooms.At link → ⊥
  not_again first second did other link t r room room_too =
      gift_named (key_of did.command) link second first (items.Did did) r (refl, room) (link_new site second other link (legal_at site stripe second (items.Did other) legal t) room_too)

  -- a link is given once
  given_once : (first second : List StripeEvent) (did other : Did) (link : Link) → Stands stripe first (items.Did did) → Stands stripe second (items.Did other) → did.room ≡ rooms.At link → other.room ≡ rooms.At link
      → (first ≡ second) × (items.Did did ≡ items.Did other)
  given_once first second did other link s t room room_too =
      elim (in_order stripe first second (items.Did did) (items.Did other) s t) [
        | inl r ↦ absurd (not_again first second did other link t r room room_too)
        | inr u ↦ elim u [ inl now ↦ now | inr r ↦ absurd (not_again second first other did link s r room_too room) ]
      ]

  pub one_giver : (rule : Rule) (class : ClassNo) (first second : List StripeEvent) (did other : Did) (e : Linked) → Stands stripe first (items.Did did) → Stands stripe second (items.Did other)
      → IsLinking site rule class first did e → IsLinking site rule class second other e → first ≡ second
  one_giver rule class first second did other e s t p q = (given_once first second did other (link_to class e.number) s t p.room q.room).0

  -- what an item holds of a link it holds from the one event that gave it
  one_holder : (link : Link) (b1 b2 : List StripeEvent) (e1 e2 : StripeEvent) (k1 k2 : List ℕ) (c1 c2 : ℕ) → Stands stripe b1 e1 → Stands stripe b2 e2
      → holds site k1 b1 ≡ Some (link, c1) → holds site k2 b2 ≡ Some (link, c2)
      → (k1 ≡ k2) × (c1 ≡ c2)
  one_holder link b1 b2 e1 e2 k1 k2 c1 c2 s1 s2 h1 h2 =
      let g1 = was_given site k1 link c1 b1 (legal_before site stripe b1 e1 legal s1) h1 in
      let g2 = was_given site k2 link c2 b2 (legal_before site stripe b2 e2 legal s2) h2 in
      by g1.0 g2.0 g1.1 g2.1 (stood_before stripe g1.0 b1 g1.1 e1 s1 g1.2) (stood_before stripe g2.0 b2 g2.1 e2 s2 g2.2) g1.3 g2.3 g1.4 g2.4
    where
      by : (a b : List StripeEvent) (x y : StripeEvent) → Stands stripe a x → Stands stripe b y → IsGiftOf k1 link x → IsGiftOf k2 link y
          → holds site k1 (a ++ x ∷ []) ≡ Some (link, c1) → holds site k2 (b ++ y ∷ []) ≡ Some (link, c2) → (k1 ≡ k2) × (c1 ≡ c2)
      by a b (items.Did did) (items.Did other) s t p q h i =
          let one = given_once a b did other link s t p.1 q.1 in
          let key : k1 ≡ k2 = sym p.0 ∙ (ap (λ (d : StripeEvent). named_key d) one.1 ∙ q.0) in
          let here : holds site k2 (a ++ items.Did did ∷ []) ≡ Some (link, c1) = subst (λ (k : List ℕ). holds site k (a ++ items.Did did ∷ []) ≡ Some (link, c1)) key h in
          let there : holds site k2 (a ++ items.Did did ∷ []) ≡ Some (link, c2) =
          ap (λ (t : List StripeEvent). holds site k2 (t ++ items.Did did ∷ [])) one.0 ∙ (ap (λ (d : StripeEvent). holds site k2 (b ++ d ∷ [])) one.1 ∙ i) in
          (key, ap (λ (p : Link × ℕ). p.1) (some_same (link, c1) (link, c2) (sym here ∙ there)))
        where
          named_key : StripeEvent → List ℕ
          named_key (items.Did d) = key_of d.command
          named_key (items.Lost d) = d.key
          named_key (items.Cooled d) = d.key
      by a b (items.Did did) (items.Lost lost) s t p q h i = absurd q
      by a b (items.Did did) (items.Cooled cooled) s t p q h i = absurd q
      by a b (items.Lost lost) y s t p q h i = absurd p
      by a b (items.Cooled cooled) y s t p q h i = absurd p

  -- a link that a command took away isn't taken away again
  not_taken_again : (first second : List StripeEvent) (did other : Did) (link : Link) → Stands stripe first (items.Did did) → Stands stripe second (items.Did other) → Stands second first (items.Did did)
      → LetsGo site first did link → LetsGo site second other link → ⊥
  not_taken_again first second did other link s t r goes again =
      let key = key_of did.command in
      let old = link_held key (item_after site first key) link goes.had in
      let new = link_held (key_of other.command) (item_after site second (key_of other.command)) link again.had in
      let one = one_holder link first second (items.Did did) (items.Did other) key (key_of other.command) old.0 new.0 s t old.1 new.1 in
      let now : holds site key second ≡ Some (link, old.0) =
      subst (λ (k : List ℕ). holds site k second ≡ Some (link, old.0)) (sym one.0) (new.1 ∙ ap (λ (c : ℕ). Some (link, c)) (sym one.1)) in
      lasts (NotHeld site key link old.0) (Held site key link old.0) (which_held site key link old.0) (held_apart site key link old.0) (λ k. none_some k) second
      (held_once site key link old.0 second (legal_before site stripe second (items.Did other) legal t)) now
      record {
        before = first;
        e = items.Did did;
        stands = r;
        was = old.1;
        now = λ h. goes.has_not (held_link key (item_after site (first ++ items.Did did ∷ []) key) link old.0 h);
      }

  pub one_taker : (class : ClassNo) (first second : List StripeEvent) (did other : Did) (e : Unlinked) → Stands stripe first (items.Did did) → Stands stripe second (items.Did other)
      → IsUnlinking site class first did e → IsUnlinking site class second other e → first ≡ second
  one_taker class first second did other e s t p q =
      elim (in_order stripe first second (items.Did did) (items.Did other) s t) [
        | inl r ↦ absurd (not_taken_again first second did other (link_to class e.number) s t r p.goes q.goes)
        | inr u ↦ elim u [ inl now ↦ now.0 | inr r ↦ absurd (not_taken_again second first other did (link_to class e.number) t s r q.goes p.goes) ]
      ]

module _ (site : Site) (class : ClassNo) (stripe first second : List StripeEvent) where
  pub one_evicted_item : (behind : List ClassEvent) (lost other : Lost) (e : Evicted) → Stands stripe first (items.Lost lost) → Stands stripe second (items.Lost other)
      → IsEviction site class first lost behind e → IsEviction site class second other behind e → first ≡ second
  one_evicted_item behind lost other e s t p q = (one_stands stripe first second (items.Lost lost) (items.Lost other) s t (sym p.at ∙ q.at)).0

  pub one_reclaimed_item : (lost other : Lost) (e : Reclaimed) → Stands stripe first (items.Lost lost) → Stands stripe second (items.Lost other)
      → IsReclaiming site class first lost e → IsReclaiming site class second other e → first ≡ second
  one_reclaimed_item lost other e s t p q = (one_stands stripe first second (items.Lost lost) (items.Lost other) s t (sym p.at ∙ q.at)).0

  pub one_cooled_item : (cooled other : Cooled) (e : Shifted) → Stands stripe first (items.Cooled cooled) → Stands stripe second (items.Cooled other)
      → IsCooling site class first cooled e → IsCooling site class second other e → first ≡ second
  one_cooled_item cooled other e s t p q = (one_stands stripe first second (items.Cooled cooled) (items.Cooled other) s t (sym p.at ∙ q.at)).0
