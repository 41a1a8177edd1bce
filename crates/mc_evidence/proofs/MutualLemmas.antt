-- A stripe's history and a class's that are evidence of each other: what the one holds the other has.
use Rattle.std.proofs.Common.{◌≡◌, ◌≢◌, ℕ, List, [], ◌∷◌, ◌++◌, refl, sym, ap, ◌∙◌, subst}
use Rattle.std.specs.Prelude.{Some, IsSome}
use Rattle.mc_item.specs.{Command.key_of, Item.link_of_item, Stripe.IsLegal}
use Rattle.mc_item.specs.declared.{answer.Site.Site, class_event.ClassEvent.ClassEvent, item.ClassNo.ClassNo, lists.Entry.Entry, lists.Seg.Seg}
use Rattle.mc_item.specs.declared.{stripe_event.Cause.Cause, stripe_event.Cause.TheVariants.Expired, stripe_event.Cause.TheVariants.Taken}
use Rattle.mc_item.specs.declared.{stripe_event.Lost.Lost, stripe_event.StripeEvent.StripeEvent}
use Rattle.mc_item.specs.declared.class_event.ClassEvent.TheVariants as entries
use Rattle.mc_item.specs.declared.reply.Room.TheVariants as rooms
use Rattle.mc_item.specs.declared.stripe_event.StripeEvent.TheVariants as items
use Rattle.mc_rule.proofs.{HistoryLemmas.lawful_at, HistoryLemmas.lawful_before, HistoryLemmas.legal_at, HistoryLemmas.legal_before, OnceLemmas.numbered}
use Rattle.mc_rule.proofs.{EventPlaceLemmas.stood_before, TestLemmas.none_some}
use Rattle.mc_rule.specs.{Evidence.AreEvidence, Evidence.HasLossTrace, Lawful.IsLawfulHistoryByLists, Lists.find, Lists.found, Lists.lists_of, Pairs.IsKeyOf}
use Rattle.mc_rule.specs.{Pairs.LetsGo, Pairs.item_after, Pairs.link_to, Partners.TakesOut, Places.Has, Places.Stands, Segment.Rule}
use Rattle.mc_evidence.proofs.HeldItemLemmas.{cost_at, held_at, held_link, link_held, same_link, same_some}
use Rattle.mc_evidence.proofs.EntryLifeLemmas.{IsLinkOf, found_by_kept, in_cold, kept, kept_by, kept_left, kept_linked, kept_once, linked_once, listed_by, was_linked}
use Rattle.mc_evidence.proofs.LinkLifeLemmas.{IsGiftOf, IsLossOf, held_once, holds, was_given, with_link}
use Rattle.mc_evidence.proofs.BeganLemmas.{Turns, both_have}
use Rattle.mc_evidence.proofs.EntryLifeLemmas as classes
use Rattle.mc_evidence.proofs.LinkLifeLemmas as stripes

module _ (site : Site) (rule : Rule) (class : ClassNo) (chunks : ℕ) (stripe : List StripeEvent) (history : List ClassEvent)
    (legal : IsLegal site stripe) (lawful : IsLawfulHistoryByLists chunks rule history) (both : AreEvidence site rule class stripe history) where
  -- a link that a key was given was linked with the key and the cost
  linked_as : (n : ℕ) (key : List ℕ) (cost : ℕ) (before : List StripeEvent) (e : StripeEvent) → Stands stripe before e → IsGiftOf key (link_to class n) e → holds site key (before ++ e ∷ []) ≡ Some (link_to class n, cost)
      → Has entries.Linked history (λ behind x. (x.number ≡ n) × (x.key ≡ key) × (x.cost ≡ cost))
  linked_as n key cost before (items.Did did) s gift now =
      let partner = (both.told before (items.Did did) s).linked n gift.1 in
      let is = partner.3 in (
        partner.0,
        partner.1,
        partner.2,
        (
          same_link class partner.1.number n (sym is.room ∙ gift.1),
          is.key ∙ gift.0,
          cost_at (key_of did.command) (item_after site (before ++ items.Did did ∷ []) (key_of did.command)) (link_to class n) cost partner.1.cost _ is.item
              (subst (λ (k : List ℕ). holds site k (before ++ items.Did did ∷ []) ≡ Some (link_to class n, cost)) (sym gift.0) now),
        ),
      )
  linked_as n key cost before (items.Lost lost) s gift now = absurd gift
  linked_as n key cost before (items.Cooled cooled) s gift now = absurd gift

  -- what a stripe holds and what a class keeps under one link is one
  agree : (n : ℕ) (key other : List ℕ) (cost price : ℕ) (sb : List StripeEvent) (se : StripeEvent) (cb : List ClassEvent) (ce : ClassEvent) → Stands stripe sb se → Stands history cb ce
      → holds site key sb ≡ Some (link_to class n, cost) → kept n cb ≡ Some (other, price) → (key ≡ other) × (cost ≡ price)
  agree n key other cost price sb se cb ce s c h k =
      let gift = was_given site key (link_to class n) cost sb (legal_before site stripe sb se legal s) h in
      let link = linked_as n key cost gift.0 gift.1 (stood_before stripe gift.0 sb gift.1 se s gift.2) gift.3 gift.4 in
      let old = was_linked chunks rule n other price cb (lawful_before chunks rule history cb ce lawful c) k in
      linked_once chunks rule n history link.0 old.0 key other cost price (entries.Linked link.1) old.1 lawful link.2 (stood_before history old.0 cb old.1 ce c old.2) link.3 old.3

  module _ (n : ℕ) (key : List ℕ) (cost : ℕ) where
    abbrev NotHeld : List StripeEvent → Type 0
    NotHeld h = holds site key h ≢ Some (link_to class n, cost)

    abbrev Held : List StripeEvent → Type 0
    Held h = holds site key h ≡ Some (link_to class n, cost)

    abbrev NotKept : List ClassEvent → Type 0
    NotKept h = kept n h ≢ Some (key, cost)

    abbrev Kept : List ClassEvent → Type 0
    Kept h = kept n h ≡ Some (key, cost)

    -- where the stripe's item gets the link, the class links its entry
    began : Turns NotHeld Held stripe → Turns NotKept Kept history
    began t =
        let link = linked_as n key cost t.before t.e t.stands (stripes.rise_at site key (link_to class n) cost stripe legal t) t.now in
        let now = kept_linked chunks rule n link.0 link.1 (numbered chunks rule link.0
        (lawful_before chunks rule history link.0 (entries.Linked link.1) lawful link.2))
        (lawful_at chunks rule history link.0 (entries.Linked link.1) lawful link.2) link.3.0 in
        record {
          before = link.0;
          e = entries.Linked link.1;
          stands = link.2;
          was = λ h. none_some (sym now.0 ∙ h);
          now = now.1 ∙ (ap (λ (k : List ℕ). Some (k, link.1.cost)) link.3.1 ∙ ap (λ (c : ℕ). Some (key, c)) link.3.2);
        }

    -- where the class links an entry of a key of the stripe, the stripe's item gets the link
    began_back : IsKeyOf site key → Turns NotKept Kept history → Turns NotHeld Held stripe
    began_back of t = by t.before t.e t.stands (classes.rise_at chunks rule n key cost history lawful t)
      where
        by : (behind : List ClassEvent) (e : ClassEvent) → Stands history behind e → IsLinkOf n key cost e → Turns NotHeld Held stripe
        by behind (entries.Linked e) s is =
            let partner = both.backed behind (entries.Linked e) s (subst (IsKeyOf site) (sym is.1) of) in
            let did = partner.1 in
            let pair = partner.3 in
            let room : did.room ≡ rooms.At (link_to class n) = pair.room ∙ ap (λ (m : ℕ). rooms.At (link_to class m)) is.0 in
            let may = legal_at site stripe partner.0 (items.Did did) legal partner.2 in
            let of_key : key_of did.command ≡ key = sym pair.key ∙ is.1 in
            let there = held_at (key_of did.command) (item_after site (partner.0 ++ items.Did did ∷ []) (key_of did.command)) (link_to class n) e.cost _
            pair.item (with_link site partner.0 did (link_to class n) may room) in
            record {
              before = partner.0;
              e = items.Did did;
              stands = partner.2;
              was = λ h. stripes.held_named site key (link_to class n) cost partner.0 (legal_before site stripe partner.0 (items.Did did) legal partner.2) h
                  (stripes.link_new site partner.0 did (link_to class n) may room);
              now =
                  subst (λ (k : List ℕ). holds site k (partner.0 ++ items.Did did ∷ []) ≡ Some (link_to class n, e.cost)) of_key there
                  ∙ ap (λ (c : ℕ). Some (link_to class n, c)) is.2;
            }
        by behind (entries.Unlinked e) s is = absurd is
        by behind (entries.Shifted e) s is = absurd is
        by behind (entries.Evicted e) s is = absurd is
        by behind (entries.Reclaimed e) s is = absurd is
        by behind (entries.Surveyed e) s is = absurd is
        by behind (entries.Refused e) s is = absurd is
        by behind (entries.Limited e) s is = absurd is

    -- an event of the class that takes the number out ends the entry, where the stripe held the link then
    class_ends : (sb : List StripeEvent) (se : StripeEvent) (behind : List ClassEvent) (e : ClassEvent) → Stands stripe sb se → Stands history behind e → Held sb → TakesOut n e
        → (s : Seg) × (x : Entry) × (found n (lists_of behind) ≡ Some (s, x)) → Turns Kept NotKept history
    class_ends sb se behind e s c h leaves there =
        let was = kept_by n behind there.0 there.1 there.2 in
        let same = agree n key there.1.key cost there.1.cost sb se behind e s c h was in
        let gone = kept_left chunks rule n behind e (numbered chunks rule behind (lawful_before chunks rule history behind e lawful c)) leaves in
        record {
          before = behind;
          e = e;
          stands = c;
          was = was ∙ (ap (λ (k : List ℕ). Some (k, there.1.cost)) (sym same.0) ∙ ap (λ (p : ℕ). Some (key, p)) (sym same.1));
          now = λ k. none_some (sym gone ∙ k);
        }

    -- where the stripe's item loses the link, the class's entry ends
    ended : Turns Held NotHeld stripe → Turns Kept NotKept history
    ended t = by t.before t.e t.stands t.was (stripes.fall_at site key (link_to class n) cost stripe legal t)
      where
        lost_so : (before : List StripeEvent) (lost : Lost) (cause : Cause) → Stands stripe before (items.Lost lost) → Held before → lost.key ≡ key
            → HasLossTrace site class history before lost cause → Turns Kept NotKept history
        lost_so before lost (Taken other place) s was is partner =
            let e = partner.1 in
            let number : e.number ≡ n = same_some class e.number n (sym partner.3.item
            ∙ subst (λ (k : List ℕ). link_of_item (item_after site before k) ≡ Some (link_to class n)) (sym is)
            (held_link key (item_after site before key) (link_to class n) cost was)) in
            let may = lawful_at chunks rule history partner.0 (entries.Evicted e) lawful partner.2 in
            let inv = numbered chunks rule partner.0 (lawful_before chunks rule history partner.0 (entries.Evicted e) lawful partner.2) in
            class_ends before (items.Lost lost) partner.0 (entries.Evicted e) s partner.2 was number
            (in_cold n (lists_of partner.0) (find n (lists_of partner.0).cold) refl (subst (λ m. IsSome (find m (lists_of partner.0).cold)) number may.0) (inv.once n))
        lost_so before lost (Expired moment) s was is partner =
            let e = partner.1 in
            let number : e.number ≡ n = same_some class e.number n (sym partner.3.item
            ∙ subst (λ (k : List ℕ). link_of_item (item_after site before k) ≡ Some (link_to class n)) (sym is)
            (held_link key (item_after site before key) (link_to class n) cost was)) in
            let may = lawful_at chunks rule history partner.0 (entries.Reclaimed e) lawful partner.2 in
            class_ends before (items.Lost lost) partner.0 (entries.Reclaimed e) s partner.2 was number
            (listed_by n (lists_of partner.0) (found n (lists_of partner.0)) refl (subst (λ m. IsSome (found m (lists_of partner.0))) number may))

        by : (before : List StripeEvent) (e : StripeEvent) → Stands stripe before e → Held before → IsLossOf site before key (link_to class n) e → Turns Kept NotKept history
        by before (items.Did did) s was is =
            let partner = (both.told before (items.Did did) s).unlinked n is.1 in
            let e = partner.1 in
            let number : e.number ≡ n = same_some class e.number n (sym partner.3.goes.had ∙ is.1.had) in
            let may = lawful_at chunks rule history partner.0 (entries.Unlinked e) lawful partner.2 in
            class_ends before (items.Did did) partner.0 (entries.Unlinked e) s partner.2 was number
            (listed_by n (lists_of partner.0) (found n (lists_of partner.0)) refl (subst (λ m. IsSome (found m (lists_of partner.0))) number may))
        by before (items.Lost lost) s was is =
            let has = held_link key (item_after site before key) (link_to class n) cost was in
            lost_so before lost lost.cause s was is (both.told before (items.Lost lost) s n (subst (λ (k : List ℕ). link_of_item (item_after site before k) ≡ Some (link_to class n)) (sym is) has))
        by before (items.Cooled cooled) s was is = absurd is

    -- an event of the stripe that takes the link away ends the item's link, where the class kept the entry then
    stripe_ends : (before : List StripeEvent) (e : StripeEvent) (behind : List ClassEvent) (x : ClassEvent) → Stands stripe before e → Stands history behind x → Kept behind
        → link_of_item (item_after site before key) ≡ Some (link_to class n) → link_of_item (item_after site (before ++ e ∷ []) key) ≢ Some (link_to class n) → Turns Held NotHeld stripe
    stripe_ends before e behind x s c k had has_not =
        let some = link_held key (item_after site before key) (link_to class n) had in
        let same = agree n key key some.0 cost before e behind x s c some.1 k in
        record {
          before = before;
          e = e;
          stands = s;
          was = some.1 ∙ ap (λ (p : ℕ). Some (link_to class n, p)) same.1;
          now = λ h. has_not (held_link key (item_after site (before ++ e ∷ []) key) (link_to class n) cost h);
        }

    -- where the class's entry of a key of the stripe ends, the stripe's item loses the link
    ended_back : IsKeyOf site key → Turns Kept NotKept history → Turns Held NotHeld stripe
    ended_back of t =
        let there = found_by_kept n (lists_of t.before) (found n (lists_of t.before)) key cost refl t.was in
        by t.before t.e t.stands t.was (classes.fall_at chunks rule n key cost history lawful t) there.0 there.1 there.2 there.3
      where
        lost_so : (before : List StripeEvent) (lost : Lost) (behind : List ClassEvent) (x : ClassEvent) (m : ℕ) → Stands stripe before (items.Lost lost) → Stands history behind x → Kept behind → lost.key ≡ key → m ≡ n
            → link_of_item (item_after site before lost.key) ≡ Some (link_to class m) → Turns Held NotHeld stripe
        lost_so before lost behind x m s c k same number has =
            let gone = stripes.lost_gone site key before lost same in
            stripe_ends before (items.Lost lost) behind x s c k (subst (λ (q : List ℕ). link_of_item (item_after site before q) ≡ Some (link_to class n)) same (has ∙ ap (λ (p : ℕ). Some (link_to class p)) number))
            (λ h. none_some (sym (ap link_of_item gone) ∙ h))

        by : (behind : List ClassEvent) (e : ClassEvent) → Stands history behind e → Kept behind → TakesOut n e → (g : Seg) (x : Entry) → found n (lists_of behind) ≡ Some (g, x) → x.key ≡ key → Turns Held NotHeld stripe
        by behind (entries.Linked e) s k is g x at of_key = absurd is
        by behind (entries.Unlinked e) s k is g x at of_key =
            let partner = both.backed behind (entries.Unlinked e) s g x (ap (λ (m : ℕ). found m (lists_of behind)) is ∙ at) (subst (IsKeyOf site) (sym of_key) of) in
            let did = partner.1 in
            let same : key_of did.command ≡ key = partner.3.0 ∙ of_key in
            let goes : LetsGo site partner.0 did (link_to class n) = subst (λ (m : ℕ). LetsGo site partner.0 did (link_to class m)) is partner.3.1.goes in
            stripe_ends partner.0 (items.Did did) behind (entries.Unlinked e) partner.2 s k
            (subst (λ (q : List ℕ). link_of_item (item_after site partner.0 q) ≡ Some (link_to class n)) same goes.had)
            (subst (λ (q : List ℕ). link_of_item (item_after site (partner.0 ++ items.Did did ∷ []) q) ≢ Some (link_to class n)) same goes.has_not)
        by behind (entries.Shifted e) s k is g x at of_key = absurd is
        by behind (entries.Evicted e) s k is g x at of_key =
            let partner = both.backed behind (entries.Evicted e) s g x (ap (λ (m : ℕ). found m (lists_of behind)) is ∙ at) (subst (IsKeyOf site) (sym of_key) of) in
            lost_so partner.0 partner.1 behind (entries.Evicted e) e.number partner.2 s k (partner.3.0 ∙ of_key) is partner.3.1.item
        by behind (entries.Reclaimed e) s k is g x at of_key =
            let partner = both.backed behind (entries.Reclaimed e) s g x (ap (λ (m : ℕ). found m (lists_of behind)) is ∙ at) (subst (IsKeyOf site) (sym of_key) of) in
            lost_so partner.0 partner.1 behind (entries.Reclaimed e) e.number partner.2 s k (partner.3.0 ∙ of_key) is partner.3.1.item
        by behind (entries.Surveyed e) s k is g x at of_key = absurd is
        by behind (entries.Refused e) s k is g x at of_key = absurd is
        by behind (entries.Limited e) s k is g x at of_key = absurd is

    -- what the stripe holds the class keeps
    pub held_is_kept : IsKeyOf site key → Held stripe → Kept history
    held_is_kept of now =
        both_have NotHeld Held NotKept Kept (stripes.which_held site key (link_to class n) cost) (λ h was is. was is) (classes.which_kept chunks rule n key cost) (λ h was is. was is) stripe history
        (λ h. none_some h) (held_once site key (link_to class n) cost stripe legal) began (ended_back of) now

    -- what the class keeps of the stripe's keys the stripe holds
    pub kept_is_held : IsKeyOf site key → Kept history → Held stripe
    kept_is_held of now =
        both_have NotKept Kept NotHeld Held (classes.which_kept chunks rule n key cost) (λ h was is. was is) (stripes.which_held site key (link_to class n) cost) (λ h was is. was is) history stripe
        (λ h. none_some h) (kept_once chunks rule n key cost history lawful) (began_back of) ended now
