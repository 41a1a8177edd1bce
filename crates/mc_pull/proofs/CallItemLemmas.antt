-- What a call makes of its key's item, and what it tells one class.
use Rattle.std.proofs.Common.{◌≡◌, ◌≢◌, ◌&&◌, ℕ, List, [], ◌∷◌, ◌++◌, Bool, true, refl, sym, ap, ◌∙◌, subst, inl, inr, ◌⊎◌}
use Rattle.std.specs.Prelude.{Option, Some, None, IsSomeAnd, nat_eq, if◌then◌else◌}
use Rattle.std.specs.{Cmp.Lexicographic.pointwise, Option.option_map}
use Rattle.std.proofs.lemmas.Cmp.{nat_list_eq_equiv}
use Rattle.mc_item.specs.{Cache.changed, Command.key_of, Item.link_of_item, Stripe.IsLegal, Stripe.MayDo}
use Rattle.mc_item.specs.declared.{class_event.ClassEvent.ClassEvent, class_event.Linked.Linked, item.ClassNo.ClassNo, item.Item.Item, item.Link.Link}
use Rattle.mc_item.specs.declared.{lists.Entry.Entry, lists.Seg.Seg, stripe_event.Did.Did, stripe_event.StripeEvent.StripeEvent}
use Rattle.mc_item.specs.declared.class_event.ClassEvent.TheVariants as entries
use Rattle.mc_item.specs.declared.reply.Room.TheVariants as rooms
use Rattle.mc_rule.specs.{Agreement.Agree, Belonging.IsEntryFor, Belonging.IsEntryOf, Evidence.HasTrace, Lawful.IsLawfulHistoryByLists, Lists.found}
use Rattle.mc_rule.specs.{Lists.lists_of, Pairs.LetsGo, Pairs.item_after, Pairs.link_to, Places.Each, Segment.Rule}
use Rattle.mc_rule.proofs.{HistoryLemmas.lists_of-push, ListLemmas.other_stays, EventPlaceLemmas.each_push, EventPlaceLemmas.stands_at}
use Rattle.mc_rule.proofs.TestLemmas.{by_eq, none_some, not_equal, some_same}
use Rattle.mc_evidence.specs.Made.{IsGivenNone, IsRefusedThere, LetsNoneGo}
use Rattle.mc_evidence.proofs.{ItemsAreEntriesLemmas.entry_of_item, HeldItemLemmas.link_held, RowLemmas.IsNoChunk}
use Rattle.mc_evidence.proofs.LinkLifeLemmas.{by_key, held_named, holds_push, link_new}
use Rattle.mc_segment.specs.{ClassState.ClassView, Entries.entry_of}
use Rattle.mc_stripe.specs.StripeState.{Stripe, cache_now}
use Rattle.mc_pull.specs.{Agreeing.HasRefusal, Parts.is_for, Parts.entry_number, Performed.did_event}
use Rattle.mc_pull.specs.Perform.{Call, MayAnswer, answer_to, item_before}
use Rattle.mc_pull.proofs.NewVersionLemmas.{IsPlaced, row_places}

-- an item that is changed in all but its link keeps it
pub kept_link : (o : Option Item) (f : Item → Item) → ((i : Item) → (f i).link ≡ i.link) → link_of_item (option_map f o) ≡ link_of_item o
kept_link None f same = refl
kept_link (Some item) f same = ap (λ (l : Link). Some l) (same item)

-- ---- what a call makes of its key's item
module _ (s : Stripe) (c : Call) where
  -- the command's key, its event, and the stripe's history with it
  abbrev pub key : List ℕ
  key = key_of c.command

  abbrev pub did : Did
  did = record { who = c.who; command = c.command; moment = c.moment; reply = (answer_to s c).reply; room = c.room }

  -- the stripe's history with the command
  abbrev pub noted : List StripeEvent
  noted = s.history ++ did_event s c ∷ []

  -- the item of the key has a link of this class
  abbrev pub IsOldOf : ClassNo → Type 0
  IsOldOf n = (m : ℕ) × (link_of_item (item_before s c) ≡ Some (link_to n m))

  -- the item keeps its link
  abbrev pub KeepsLink : Type 0
  KeepsLink = link_of_item (changed (item_before s c) (answer_to s c).change) ≡ link_of_item (item_before s c)

  -- a class that gives and loses no chunk by a command tells it
  pub neither_told : (rule : Rule) (n : ClassNo) (seen : List ClassEvent) → IsGivenNone n did → LetsNoneGo s.site n s.history did → IsRefusedThere n did seen
      → Each (HasTrace s.site rule n seen) s.history → Each (HasTrace s.site rule n seen) noted
  neither_told rule n seen none spared refused each =
      each_push (HasTrace s.site rule n seen) s.history (did_event s c) each record { linked = λ m room. absurd (none m room); unlinked = λ m goes. absurd (spared m goes); refused = refused }

module _ (s : Stripe) (c : Call) (legal : IsLegal s.site s.history) (may : MayAnswer s c) where
  pub may_do : MayDo s.site (cache_now s) s.history (did s c)
  may_do = record { stripe = may.stripe; alive = may.alive; fits = may.fits; reply = refl }

  pub placed : IsPlaced c.room (answer_to s c).change
  placed = row_places s.history c.room s.site (cache_now s).versions (item_before s c) c.command c.moment may.fits

  pub after_is : item_after s.site (noted s c) (key s c) ≡ changed (item_before s c) (answer_to s c).change
  after_is =
      let P : Option Item → Type 0 = λ o. o ≡ changed (item_before s c) (answer_to s c).change in
      holds_push s.site (key s c) s.history (did_event s c) P (by_key P (cache_now s) (key s c) (key s c) (answer_to s c).change (λ same. refl) (λ apart. absurd (apart refl)))

  -- a chunk that a command was given isn't one that its key's item has
  pub not_held : (link : Link) → c.room ≡ rooms.At link → link_of_item (item_before s c) ≡ Some link → ⊥
  not_held link room had =
      let some = link_held (key s c) (item_before s c) link had in
      held_named s.site (key s c) link some.0 s.history legal some.1 (link_new s.site s.history (did s c) link may_do room)

  -- ---- one class
  module _ (n : ClassNo) (history : List ClassEvent) where
    pub spared_if_kept : KeepsLink s c → LetsNoneGo s.site n s.history (did s c)
    spared_if_kept keeps = λ m goes. goes.has_not (ap link_of_item after_is ∙ (keeps ∙ goes.had))

    pub spared_if_apart : (IsOldOf s c n → ⊥) → LetsNoneGo s.site n s.history (did s c)
    spared_if_apart apart = λ m goes. apart (m, goes.had)

    pub goes : (m : ℕ) → link_of_item (item_before s c) ≡ Some (link_to n m) → link_of_item (changed (item_before s c) (answer_to s c).change) ≢ Some (link_to n m) → LetsGo s.site s.history (did s c) (link_to n m)
    goes m had gone = record { had = had; has_not = λ is. gone (sym (ap link_of_item after_is) ∙ is) }

    pub given_none : IsNoChunk c.room → IsGivenNone n (did s c)
    given_none none = λ m is. subst IsNoChunk is none

    pub refused_there : HasRefusal c.who c.room n history → IsRefusedThere n (did s c) history
    refused_there has = λ place is.
        let at = stands_at history place (entries.Refused (record { who = c.who })) (has place is) in
        (at.0, record { who = c.who }, at.1, record { who = refl; room = is ∙ ap (rooms.Refused n) (sym at.2) })

  -- ---- the number of the entry that a class has of the key
  module _ (v : ClassView) (lawful : IsLawfulHistoryByLists v.chunks v.rule v.history) (agree : Agree s.site v.rule v.number s.history v.history) where
    is_entry : (item : Item) (m : ℕ) → item.link ≡ link_to v.number m → (o : Option (Seg × Entry)) → found m (lists_of v.history) ≡ o
        → IsSomeAnd o (λ there. IsEntryFor (key s c) item there.1) → IsEntryOf v.history m (key s c)
    is_entry item m link None is has = absurd has
    is_entry item m link (Some (seg, e)) is has = record { seg = seg; entry = e; there = is; key_is = has.key_is }

    entry_at : (m : ℕ) → (o : Option Item) → item_before s c ≡ o → link_of_item o ≡ Some (link_to v.number m) → IsEntryOf v.history m (key s c)
    entry_at m None is had = absurd (none_some had)
    entry_at m (Some item) is had =
        let link : item.link ≡ link_to v.number m = some_same _ _ had in
        let has = entry_of_item s.site v.rule v.number v.chunks s.history v.history (key s c) item legal lawful agree.evidence is (ap (λ (l : Link). l.class) link) in
        is_entry item m link (found m (lists_of v.history)) refl
        (subst (λ (n : ℕ). IsSomeAnd (found n (lists_of v.history)) (λ there. IsEntryFor (key s c) item there.1)) (ap (λ (l : Link). l.number) link) has)

    pub entry : (m : ℕ) → link_of_item (item_before s c) ≡ Some (link_to v.number m) → IsEntryOf v.history m (key s c)
    entry m had = entry_at m (item_before s c) refl had

    entry_is_for : (m : ℕ) → IsEntryOf v.history m (key s c) → is_for (key s c) (entry_of m (lists_of v.history)) ≡ true
    entry_is_for m one =
        subst (λ (o : Option (Seg × Entry)). is_for (key s c) (option_map (λ p. p.1) o) ≡ true) (sym one.there)
        (subst (λ (k : List ℕ). pointwise nat_eq one.entry.key k ≡ true) one.key_is (nat_list_eq_equiv.refl one.entry.key))

    -- the key's item has a link of the class and its number is found, or it has none and none is
    abbrev pub Finds : Option Link → Type 0
    Finds o = ((m : ℕ) × (o ≡ Some (link_to v.number m)) × (entry_number v (key s c) o ≡ Some m)) ⊎ (((m : ℕ) × (o ≡ Some (link_to v.number m)) → ⊥) × (entry_number v (key s c) o ≡ None))

    finds_by : (o : Option Link) → ((m : ℕ) → o ≡ Some (link_to v.number m) → is_for (key s c) (entry_of m (lists_of v.history)) ≡ true) → Finds o
    finds_by None known = inr (λ has. none_some has.1, refl)
    finds_by (Some link) known =
        by_eq link.class.0 v.number.0
        (λ b. ((m : ℕ) × (Some link ≡ Some (link_to v.number m)) × ((if b && is_for (key s c) (entry_of link.number (lists_of v.history)) then Some link.number else None) ≡ Some m))
        ⊎ (((m : ℕ) × (Some link ≡ Some (link_to v.number m)) → ⊥) × ((if b && is_for (key s c) (entry_of link.number (lists_of v.history)) then Some link.number else None) ≡ None)))
        (λ same.
        let is : Some link ≡ Some (link_to v.number link.number) = ap (λ (n : ℕ). Some (link_to (record { 0 = n }) link.number)) same in
        inl (link.number, is, ap (λ (b : Bool). if b then Some link.number else None) (known link.number is)))
        (λ apart. inr (λ has. apart (ap (λ (l : Link). l.class.0) (some_same _ _ has.1)), refl))

    pub finds : Finds (link_of_item (item_before s c))
    finds = finds_by (link_of_item (item_before s c)) (λ m had. entry_is_for m (entry m had))

    -- an entry stays while one of a number that is in no link of the key's item comes
    pub entry_stays : (m : ℕ) (e : Linked) → e.number ≢ m → IsEntryOf v.history m (key s c) → IsEntryOf (v.history ++ entries.Linked e ∷ []) m (key s c)
    entry_stays m e apart one = record {
      seg = one.seg;
      entry = one.entry;
      there = ap (found m) (lists_of-push v.history (entries.Linked e)) ∙ (other_stays m (lists_of v.history) (entries.Linked e) (not_equal e.number m apart) ∙ one.there);
      key_is = one.key_is;
    }
