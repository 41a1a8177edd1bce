-- Between two commands items only go, each by a loss that has its cause.
use Rattle.std.proofs.Common.{◌≡◌, ℕ, List, [], ◌∷◌, ◌++◌, Bool, true, false, refl, sym, ap, ◌∙◌, subst, append_assoc, append-nil, inl, inr, ◌⊎◌, length}
use Rattle.std.specs.Prelude.{Option, Some, None, IsSomeAnd, if◌then◌else◌}
use Rattle.std.proofs.lemmas.Bool.{false≢true}
use Rattle.mc_item.specs.{Cache.changed, Cache.marked, Cache.if_alive, Cache.visible_items, Item.is_dead, Item.link_of_item}
use Rattle.mc_item.specs.Stripe.{cache_of, cooled_change, IsDead, IsLegal, MayLose}
use Rattle.mc_item.specs.declared.{answer.Site.Site, class_event.ClassEvent.ClassEvent, item.ClassNo.ClassNo, item.Item.Item, item.Link.Link}
use Rattle.mc_item.specs.declared.{stripe_event.Cause.Cause, stripe_event.Cause.TheVariants.Expired, stripe_event.Cause.TheVariants.Taken}
use Rattle.mc_item.specs.declared.{stripe_event.Cooled.Cooled, stripe_event.Lost.Lost, stripe_event.StripeEvent.StripeEvent}
use Rattle.mc_item.specs.declared.class_event.ClassEvent.TheVariants as entries
use Rattle.mc_item.specs.declared.stripe_event.StripeEvent.TheVariants as events
use Rattle.mc_rule.proofs.{HistoryLemmas.lawful_at, HistoryLemmas.legal_at, TestLemmas.none_some, TestLemmas.some_same}
use Rattle.mc_rule.specs.{Evidence.AreEvidence, Evidence.HasLossTrace, Lawful.IsLawfulHistoryByLists, Lists.IsFull, Pairs.item_after}
use Rattle.mc_rule.specs.{Pairs.link_to, Places.Has, Places.Stands, Segment.Rule}
use Rattle.mc_evidence.proofs.{LinkLifeLemmas.after_loss, LinkLifeLemmas.by_key, LinkLifeLemmas.holds_push, LockLemmas.between}
use Rattle.mc_evidence.specs.Losses.{AreNoCommands, HadCause, IsSameItem, IsTaking, WasLost}

-- the item of a key is this one but for its marks
abbrev pub IsThere : Item → Option Item → Type 0
IsThere item found = IsSomeAnd found (λ other. IsSameItem item other)

-- a loss of this key among these events, behind others: the key had this item then, but for its marks
pub record WasLostIn (site : Site) (pre es : List StripeEvent) (key : List ℕ) (item : Item) : Type 0 where
  pub mid : List StripeEvent
  pub lost : Lost
  pub stands : Stands es mid (events.Lost lost)
  pub key_is : lost.key ≡ key
  pub had : IsThere item (item_after site (pre ++ mid) key)

module _ (site : Site) where
  cooled_there : (item : Item) (found : Option Item) → IsThere item found → IsThere item (changed found (cooled_change found))
  cooled_there item None there = there
  cooled_there item (Some other) there = (_, ap (marked _) there.1)

  after_cooled : (key : List ℕ) (h : List StripeEvent) (cooled : Cooled) (item : Item) → IsThere item (item_after site h key) → IsThere item (item_after site (h ++ events.Cooled cooled ∷ []) key)
  after_cooled key h cooled item there =
      holds_push site key h (events.Cooled cooled) (IsThere item)
      (by_key (IsThere item) (cache_of site h) cooled.key key (cooled_change (item_after site h cooled.key))
      (λ same. subst (λ (k : List ℕ). IsThere item (changed (item_after site h k) (cooled_change (item_after site h k)))) (sym same) (cooled_there item (item_after site h key) there))
      (λ apart. there))

  -- where no command is among them, an item stays but for its marks, or was lost
  pub stays_or_lost : (key : List ℕ) (item : Item) (pre es : List StripeEvent) → AreNoCommands es → IsThere item (item_after site pre key) → IsThere item (item_after site (pre ++ es) key) ⊎ WasLostIn site pre es key item
  stays_or_lost key item pre [] none there = inl (subst (λ (h : List StripeEvent). IsThere item (item_after site h key)) (sym (append-nil pre)) there)
  stays_or_lost key item pre (events.Did did ∷ es) none there = absurd none
  stays_or_lost key item pre (events.Lost lost ∷ es) none there =
      let later = stays_or_lost key item (pre ++ events.Lost lost ∷ []) es none in
      elim (after_loss site key pre lost) [
        | inl apart ↦ moved (events.Lost lost) (later (subst (IsThere item) (sym apart.1) there))
        | inr same ↦ inr record {
          mid = [];
          lost = lost;
          stands = record { later = es; is = refl };
          key_is = same.0;
          had =
              subst (λ (h : List StripeEvent). IsThere item (item_after site h key)) (sym (append-nil pre)) there;
        }
      ]
    where
      moved : (e : StripeEvent) → IsThere item (item_after site ((pre ++ e ∷ []) ++ es) key) ⊎ WasLostIn site (pre ++ e ∷ []) es key item
          → IsThere item (item_after site (pre ++ e ∷ es) key) ⊎ WasLostIn site pre (e ∷ es) key item
      moved e (inl there) = inl (subst (λ (h : List StripeEvent). IsThere item (item_after site h key)) (append_assoc pre (e ∷ []) es) there)
      moved e (inr w) = inr record {
        mid = e ∷ w.mid;
        lost = w.lost;
        stands =
            record { later = w.stands.later; is = ap (λ (t : List StripeEvent). e ∷ t) w.stands.is };
        key_is = w.key_is;
        had =
            subst (λ (h : List StripeEvent). IsThere item (item_after site h key)) (append_assoc pre (e ∷ []) w.mid) w.had;
      }
  stays_or_lost key item pre (events.Cooled cooled ∷ es) none there =
      moved (events.Cooled cooled) (stays_or_lost key item (pre ++ events.Cooled cooled ∷ []) es none (after_cooled key pre cooled item there))
    where
      moved : (e : StripeEvent) → IsThere item (item_after site ((pre ++ e ∷ []) ++ es) key) ⊎ WasLostIn site (pre ++ e ∷ []) es key item
          → IsThere item (item_after site (pre ++ e ∷ es) key) ⊎ WasLostIn site pre (e ∷ es) key item
      moved e (inl there) = inl (subst (λ (h : List StripeEvent). IsThere item (item_after site h key)) (append_assoc pre (e ∷ []) es) there)
      moved e (inr w) = inr record {
        mid = e ∷ w.mid;
        lost = w.lost;
        stands =
            record { later = w.stands.later; is = ap (λ (t : List StripeEvent). e ∷ t) w.stands.is };
        key_is = w.key_is;
        had =
            subst (λ (h : List StripeEvent). IsThere item (item_after site h key)) (append_assoc pre (e ∷ []) w.mid) w.had;
      }

  -- what cooling leaves was there, but for its marks
  before_cooled : (key : List ℕ) (h : List StripeEvent) (cooled : Cooled) (item : Item) → IsSomeAnd (item_after site (h ++ events.Cooled cooled ∷ []) key) (λ other. IsSameItem other item)
      → IsSomeAnd (item_after site h key) (λ other. IsSameItem other item)
  before_cooled key h cooled item =
      holds_push site key h (events.Cooled cooled) (λ o. IsSomeAnd o (λ other. IsSameItem other item) → IsSomeAnd (item_after site h key) (λ other. IsSameItem other item))
      (by_key (λ o. IsSomeAnd o (λ other. IsSameItem other item) → IsSomeAnd (item_after site h key) (λ other. IsSameItem other item)) (cache_of site h) cooled.key key (cooled_change (item_after site h cooled.key))
      (λ same. subst (λ (k : List ℕ). IsSomeAnd (changed (item_after site h k) (cooled_change (item_after site h k))) (λ other. IsSameItem other item)
      → IsSomeAnd (item_after site h key) (λ other. IsSameItem other item)) (sym same) (by (item_after site h key)))
      (λ apart there. there))
    where
      by : (o : Option Item) → IsSomeAnd (changed o (cooled_change o)) (λ other. IsSameItem other item) → IsSomeAnd o (λ other. IsSameItem other item)
      by None there = there
      by (Some other) there = (there.0, there.1)

  -- an item behind events without a command was there before them, but for its marks
  pub was_there : (key : List ℕ) (item : Item) (pre es : List StripeEvent) → AreNoCommands es → item_after site (pre ++ es) key ≡ Some item → IsSomeAnd (item_after site pre key) (λ before. IsSameItem before item)
  was_there key item pre [] none now =
      subst (λ (o : Option Item). IsSomeAnd o (λ before. IsSameItem before item)) (sym now ∙ ap (λ (h : List StripeEvent). item_after site h key) (append-nil pre)) (item.marks, refl)
  was_there key item pre (events.Did did ∷ es) none now = absurd none
  was_there key item pre (events.Lost lost ∷ es) none now =
      let later = was_there key item (pre ++ events.Lost lost ∷ []) es none (ap (λ (h : List StripeEvent). item_after site h key) (append_assoc pre (events.Lost lost ∷ []) es) ∙ now) in
      elim (after_loss site key pre lost) [
        | inl apart ↦ subst (λ (o : Option Item). IsSomeAnd o (λ before. IsSameItem before item)) apart.1 later
        | inr same ↦ absurd (subst (λ (o : Option Item). IsSomeAnd o (λ before. IsSameItem before item)) same.1 later)
      ]
  was_there key item pre (events.Cooled cooled ∷ es) none now =
      before_cooled key pre cooled item
      (was_there key item (pre ++ events.Cooled cooled ∷ []) es none (ap (λ (h : List StripeEvent). item_after site h key) (append_assoc pre (events.Cooled cooled ∷ []) es) ∙ now))

-- ---- the cause of a loss

same_dead : (item : Item) (moment : ℕ) (found : Option Item) → IsThere item found → IsDead found moment → is_dead item moment ≡ true
same_dead item moment None there dead = absurd there
same_dead item moment (Some other) there dead = sym (ap (λ (x : Item). is_dead x moment) there.1) ∙ dead

same_link : (item : Item) (found : Option Item) → IsThere item found → link_of_item found ≡ Some item.link
same_link item None there = absurd there
same_link item (Some other) there = ap (λ (x : Item). Some x.link) there.1

same_class : (item : Item) (class : ClassNo) (found : Option Item) → IsThere item found → IsSomeAnd found (λ other. other.link.class ≡ class) → item.link.class ≡ class
same_class item class None there is = absurd there
same_class item class (Some other) there is = sym (ap (λ (x : Item). x.link.class) there.1) ∙ is

module _ (site : Site) (rule : Rule) (chunks : ClassNo → ℕ) (classes : ClassNo → List ClassEvent) (stripe : List StripeEvent) (legal : IsLegal site stripe) where
  -- a loss of a key had its cause
  pub cause_of : (before : List StripeEvent) (lost : Lost) (item : Item) → Stands stripe before (events.Lost lost) → IsThere item (item_after site before lost.key)
      → AreEvidence site rule item.link.class stripe (classes item.link.class) → IsLawfulHistoryByLists (chunks item.link.class) rule (classes item.link.class) → HadCause chunks classes item lost lost.cause
  cause_of before lost item s there both lawful =
      by lost.cause refl (legal_at site stripe before (events.Lost lost) legal s) (both.told before (events.Lost lost) s item.link.number (same_link item (item_after site before lost.key) there))
    where
      by : (cause : Cause) → lost.cause ≡ cause → MayLose (item_after site before lost.key) cause → HasLossTrace site item.link.class (classes item.link.class) before lost cause → HadCause chunks classes item lost cause
      by (Expired moment) is may told = same_dead item moment (item_after site before lost.key) there may
      by (Taken class place) is may told =
          let of_class = same_class item class (item_after site before lost.key) there may in
          let behind = told.0 in
          let e = told.1 in
          let pair = told.3 in
          let at : length behind ≡ place = same_place item.link.class class (length behind) place (sym pair.cause ∙ is) in
          let number : e.number ≡ item.link.number = ap (λ (l : Link). l.number) (some_same (link_to item.link.class e.number) item.link (sym pair.item ∙ same_link item (item_after site before lost.key) there)) in
          let may_take = lawful_at (chunks item.link.class) rule (classes item.link.class) behind (entries.Evicted e) lawful told.2 in (
            of_class,
            subst (λ (c : ClassNo). Has entries.Evicted (classes c) (λ b x. IsTaking (chunks c) place item lost b x)) of_class
                (behind, e, told.2, record { place = at; who = pair.who; number = number; full = may_take.1; cold = may_take.0; near = may_take.2 }),
          )
        where
          same_place : (c d : ClassNo) (p q : ℕ) → Taken c p ≡ Taken d q → p ≡ q
          same_place c d p q h = cc

-- with no command between, an item stays but for its marks, or was lost in between with its cause
stays_or_was_lost : (site : Site) (rule : Rule) (chunks : ClassNo → ℕ) (classes : ClassNo → List ClassEvent) (before between later : List StripeEvent) (key : List ℕ) (item : Item)
    → IsLegal site (before ++ (between ++ later)) → AreNoCommands between
    → AreEvidence site rule item.link.class (before ++ (between ++ later)) (classes item.link.class)
    → IsLawfulHistoryByLists (chunks item.link.class) rule (classes item.link.class)
    → item_after site before key ≡ Some item → IsThere item (item_after site (before ++ between) key) ⊎ WasLost chunks classes between key item
stays_or_was_lost site rule chunks classes before between later key item legal none both lawful was =
    elim (stays_or_lost site key item before between none (subst (IsThere item) (sym was) (item.marks, refl))) [
      | inl there ↦ inl there
      | inr w ↦
          let whole : before ++ (between ++ later) ≡ (before ++ w.mid) ++ events.Lost w.lost ∷ (w.stands.later ++ later) =
          ap (λ (t : List StripeEvent). before ++ (t ++ later)) w.stands.is
          ∙ (ap (λ (t : List StripeEvent). before ++ t) (append_assoc w.mid (events.Lost w.lost ∷ w.stands.later) later)
          ∙ sym (append_assoc before w.mid (events.Lost w.lost ∷ (w.stands.later ++ later)))) in
          let cause = cause_of site rule chunks classes (before ++ (between ++ later)) legal (before ++ w.mid) w.lost item record { later = w.stands.later ++ later; is = whole }
          (subst (λ (k : List ℕ). IsThere item (item_after site (before ++ w.mid) k)) (sym w.key_is) w.had) both lawful in
          inr (w.mid, w.lost, w.stands, (w.key_is, cause))
    ]

-- an item that is gone, with no command between, was lost in between, and its loss had its cause
pub lost_between : (site : Site) (rule : Rule) (chunks : ClassNo → ℕ) (classes : ClassNo → List ClassEvent) (before between later : List StripeEvent) (key : List ℕ) (item : Item)
    → IsLegal site (before ++ (between ++ later)) → AreNoCommands between
    → AreEvidence site rule item.link.class (before ++ (between ++ later)) (classes item.link.class)
    → IsLawfulHistoryByLists (chunks item.link.class) rule (classes item.link.class)
    → item_after site before key ≡ Some item → item_after site (before ++ between) key ≡ None
    → WasLost chunks classes between key item
lost_between site rule chunks classes before between later key item legal none both lawful was gone =
    elim (stays_or_was_lost site rule chunks classes before between later key item legal none both lawful was) [
      | inl there ↦ absurd (subst (IsThere item) gone there)
      | inr lost ↦ lost
    ]

-- an item that never dies has no cause to go while its class isn't full
no_cause : (chunks : ClassNo → ℕ) (classes : ClassNo → List ClassEvent) (item : Item) (lost : Lost) (cause : Cause) → ((moment : ℕ) → is_dead item moment ≡ false)
    → ((behind more : List ClassEvent) → classes item.link.class ≡ behind ++ more → IsFull (chunks item.link.class) behind → ⊥) → HadCause chunks classes item lost cause → ⊥
no_cause chunks classes item lost (Expired moment) lives free dead = false≢true (sym (lives moment) ∙ dead)
no_cause chunks classes item lost (Taken class place) lives free taken =
    let there = taken.1 in
    free there.0 (entries.Evicted there.1 ∷ there.2.later) (ap classes taken.0 ∙ there.2.is) (subst (λ (c : ClassNo). IsFull (chunks c) there.0) (sym taken.0) there.3.full)

-- so it stays, but for its marks
pub stays_while_free : (site : Site) (rule : Rule) (chunks : ClassNo → ℕ) (classes : ClassNo → List ClassEvent) (before between later : List StripeEvent) (key : List ℕ) (item : Item)
    → IsLegal site (before ++ (between ++ later)) → AreNoCommands between
    → AreEvidence site rule item.link.class (before ++ (between ++ later)) (classes item.link.class)
    → IsLawfulHistoryByLists (chunks item.link.class) rule (classes item.link.class)
    → item_after site before key ≡ Some item → ((moment : ℕ) → is_dead item moment ≡ false)
    → ((behind more : List ClassEvent) → classes item.link.class ≡ behind ++ more → IsFull (chunks item.link.class) behind → ⊥)
    → IsThere item (item_after site (before ++ between) key)
stays_while_free site rule chunks classes before between later key item legal none both lawful was lives free =
    elim (stays_or_was_lost site rule chunks classes before between later key item legal none both lawful was) [
      | inl there ↦ there
      | inr lost ↦ absurd (no_cause chunks classes item lost.1 lost.1.cause lives free lost.3.1)
    ]

seen_alive : (item : Item) (moment : ℕ) (o : Option Item) → if_alive moment o ≡ Some item → (o ≡ Some item) × (is_dead item moment ≡ false)
seen_alive item moment None h = absurd (none_some h)
seen_alive item moment (Some other) h = by (is_dead other moment) refl h
  where
    by : (b : Bool) → is_dead other moment ≡ b → (if b then None else Some other) ≡ Some item → (Some other ≡ Some item) × (is_dead item moment ≡ false)
    by true is h = absurd (none_some h)
    by false is h = (h, sym (ap (λ (x : Item). is_dead x moment) (some_same other item h)) ∙ is)

alive_seen : (item : Item) (moment : ℕ) (o : Option Item) → is_dead item moment ≡ false → IsSomeAnd o (λ old. IsSameItem old item) → IsSomeAnd (if_alive moment o) (λ old. IsSameItem old item)
alive_seen item moment None alive there = absurd there
alive_seen item moment (Some other) alive there =
    let same : is_dead other moment ≡ false = sym (ap (λ (x : Item). is_dead x moment) there.1) ∙ alive in
    subst (λ (b : Bool). IsSomeAnd (if b then None else Some other) (λ old. IsSameItem old item)) (sym same) there

-- what is visible behind events without a command was visible before them, but for its marks
pub visible_before : (site : Site) (before between : List StripeEvent) (key : List ℕ) (item : Item) (moment : ℕ) → AreNoCommands between → visible_items (cache_of site (before ++ between)) moment key ≡ Some item
    → IsSomeAnd (visible_items (cache_of site before) moment key) (λ old. IsSameItem old item)
visible_before site before between key item moment none now =
    let seen = seen_alive item moment (item_after site (before ++ between) key) now in
    alive_seen item moment (item_after site before key) seen.1 (was_there site key item before between none seen.0)
