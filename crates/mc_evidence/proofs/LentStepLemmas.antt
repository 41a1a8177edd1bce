-- One step on the lent states of a stripe and a class, as their locks keep them: each is told the other's whole history
-- after it, and sees no less of all others.
use Rattle.std.proofs.Common.{◌≡◌, ◌<◌, ℕ, List, [], ◌∷◌, ◌++◌, true, refl, sym, ap, ◌∙◌, subst, length}
use Rattle.std.specs.Prelude.{Option, Some, None, IsSomeAnd}
use mathlib.Core.List.{IsPrefix}
use Rattle.mc_item.proofs.StripeLemmas.{IsLegal-push}
use Rattle.mc_item.specs.{Command.key_of, Item.is_dead, Item.link_of_item, Stripe.MayDo, Stripe.MayHappen, Stripe.IsDead, Stripe.cache_of}
use Rattle.mc_item.specs.declared.{answer.Site.Site, class_event.ClassEvent.ClassEvent, class_event.Evicted.Evicted, class_event.Limited.Limited}
use Rattle.mc_item.specs.declared.{class_event.Linked.Linked, class_event.Reclaimed.Reclaimed, class_event.Refused.Refused, class_event.Shifted.Shifted, class_event.Surveyed.Surveyed}
use Rattle.mc_item.specs.declared.{class_event.Unlinked.Unlinked, item.ClassNo.ClassNo, item.Item.Item, item.Link.Link, item.StripeNo.StripeNo, item.Who.Who}
use Rattle.mc_item.specs.declared.{stripe_event.Cause.TheVariants.Expired, stripe_event.Cause.TheVariants.Taken, stripe_event.Cooled.Cooled}
use Rattle.mc_item.specs.declared.{stripe_event.Did.Did, stripe_event.Lost.Lost, stripe_event.StripeEvent.StripeEvent}
use Rattle.mc_item.specs.declared.class_event.ClassEvent.TheVariants as entries
use Rattle.mc_item.specs.declared.reply.Room.TheVariants as rooms
use Rattle.mc_item.specs.declared.stripe_event.StripeEvent.TheVariants as items
use Rattle.mc_rule.proofs.{HistoryLemmas.lawful_push, EventPlaceLemmas.each_push, EventPlaceLemmas.last_stands, TestLemmas.none_some, TestLemmas.some_same}
use Rattle.mc_rule.specs.{Belonging.Belong, Belonging.IsEntryOf, Cited.IsCitedIn, Cited.IsSuited, Cited.cited_in, Evidence.IsBacked, Evidence.HasLossTrace}
use Rattle.mc_rule.specs.{Evidence.HasTrace, Evidence.OfStripe, Lawful.IsLawfulByLists, Lawful.SuitsMove, Lists.found, Partners.ClearsOnce, Places.Each}
use Rattle.mc_rule.specs.{Places.Has, Segment.Rule}
use Rattle.mc_rule.specs.Pairs.{ClearsMark, IsCooling, IsEviction, IsKeyOf, IsLinking, IsReclaiming, IsRefusal, IsUnlinking, LetsGo, item_after, link_to}
use Rattle.mc_evidence.proofs.{CitedItemLemmas.cited_later, CitedItemLemmas.cited_now, EvidenceGrowthLemmas.all_backed_later, LockLemmas.class_sees_more}
use Rattle.mc_evidence.proofs.{LockLemmas.stripe_sees_more, OnlyPartnerLemmas.move_is_only, StepLemmas.key_found, CitedMarkLemmas.with_link}
use Rattle.mc_evidence.specs.{Locks.AreHeld, Locks.ClassKeeps, Locks.SeesMore, Locks.StripeKeeps, Setting.IsClass, Setting.Setting, Setting.site_in}
use Rattle.mc_evidence.specs.Made.{cooled_as, evicted_as, lost_at, lost_to, reclaimed_as}

-- a stripe's lock, one event later
pub stripe_step : (setting : Setting) (s : ℕ) (own : List StripeEvent) (seen more : ClassNo → List ClassEvent) (e : StripeEvent) → ((class : ClassNo) → IsPrefix (seen class) (more class)) → StripeKeeps setting s own seen
    → MayHappen (site_in setting s) (cache_of (site_in setting s) own) own e
    → ((class : ClassNo) → IsClass setting class → HasTrace (site_in setting s) setting.rule class (more class) own e)
    → StripeKeeps setting s (own ++ e ∷ []) more
stripe_step setting s own seen more e grows keeps may told =
    let later = stripe_sees_more setting s own seen more grows keeps in
    record {
      legal = IsLegal-push (site_in setting s) own e later.legal may;
      told = λ class is. each_push (HasTrace (site_in setting s) setting.rule class (more class)) own e (later.told class is) (told class is);
    }

-- a class's lock, one event later
pub class_step : (setting : Setting) (class : ClassNo) (own : List ClassEvent) (seen more : ℕ → List StripeEvent) (x : ClassEvent) → ((s : ℕ) → IsPrefix (seen s) (more s)) → ClassKeeps setting class own seen
    → IsLawfulByLists (setting.chunks class) setting.rule own x → ClearsOnce own x
    → ((s : ℕ) → s < setting.stripes → IsBacked (site_in setting s) setting.rule class (more s) own x)
    → ((s : ℕ) → s < setting.stripes → IsSuited (site_in setting s) class (more s) own x)
    → ClassKeeps setting class (own ++ x ∷ []) more
class_step setting class own seen more x grows keeps may only backed suited =
    let later = class_sees_more setting class own seen more grows keeps in
    record {
      lawful = lawful_push (setting.chunks class) setting.rule own x later.lawful may;
      once = each_push ClearsOnce own x later.once only;
      backed = λ s of. each_push (IsBacked (site_in setting s) setting.rule class (more s)) own x (later.backed s of) (backed s of);
      suited = λ s of. each_push (IsSuited (site_in setting s) class (more s)) own x (later.suited s of) (suited s of);
    }

-- ---- what the class of a link tells all classes may say, and what the stripe of a key backs all stripes may

-- a command is told by each class, where the classes of its new link, of the one it takes away, and of its refusal tell it
pub command_told : (site : Site) (rule : Rule) (more : ClassNo → List ClassEvent) (own : List StripeEvent) (did : Did)
    → ((link : Link) → did.room ≡ rooms.At link → Has entries.Linked (more link.class) (λ behind e. IsLinking site rule link.class own did e))
    → ((link : Link) → LetsGo site own did link → Has entries.Unlinked (more link.class) (λ behind e. IsUnlinking site link.class own did e))
    → ((class : ClassNo) (place : ℕ) → did.room ≡ rooms.Refused class place → Has entries.Refused (more class) (λ behind e. IsRefusal class did behind e))
    → (class : ClassNo) → HasTrace site rule class (more class) own (items.Did did)
command_told site rule more own did linked unlinked refused class =
    record { linked = λ n room. linked (link_to class n) room; unlinked = λ n goes. unlinked (link_to class n) goes; refused = refused class }

class_in : (found : Option Item) (link : Link) (class : ClassNo) (n : ℕ) → link_of_item found ≡ Some link → link_of_item found ≡ Some (link_to class n) → link.class ≡ class
class_in found link class n is has = ap (λ (l : Link). l.class) (some_same link (link_to class n) (sym is ∙ has))

-- a loss is told by each class, where the class of the lost link tells it
pub lost_told : (site : Site) (rule : Rule) (more : ClassNo → List ClassEvent) (own : List StripeEvent) (lost : Lost) (link : Link) → link_of_item (item_after site own lost.key) ≡ Some link
    → HasLossTrace site link.class (more link.class) own lost lost.cause → (class : ClassNo) → HasTrace site rule class (more class) own (items.Lost lost)
lost_told site rule more own lost link is told class n has =
    subst (λ (c : ClassNo). HasLossTrace site c (more c) own lost lost.cause) (class_in (item_after site own lost.key) link class n is has) told

-- a cooling is told by each class, where the class of the item's link tells it
pub cooled_told : (site : Site) (rule : Rule) (more : ClassNo → List ClassEvent) (own : List StripeEvent) (cooled : Cooled) (link : Link) → link_of_item (item_after site own cooled.key) ≡ Some link
    → Has entries.Shifted (more link.class) (λ behind e. IsCooling site link.class own cooled e) → (class : ClassNo) → HasTrace site rule class (more class) own (items.Cooled cooled)
cooled_told site rule more own cooled link is told class n has =
    subst (λ (c : ClassNo). Has entries.Shifted (more c) (λ behind e. IsCooling site c own cooled e)) (class_in (item_after site own cooled.key) link class n is has) told

-- what the stripe of an entry's key does, each stripe does of which the key is
pub by_stripe : (setting : Setting) (history : List ClassEvent) (n : ℕ) (key : List ℕ) (s : ℕ) (P : ℕ → List ℕ → Type 0) → IsEntryOf history n key → IsKeyOf (site_in setting s) key → P s key
    → (t : ℕ) → OfStripe (site_in setting t) history n (P t)
by_stripe setting history n key s P entry of here t g x at of_t =
    let same_key = key_found n history key g x entry at in
    let same : s ≡ t = ap (λ (m : StripeNo). m.0) (sym of ∙ subst (IsKeyOf (site_in setting t)) (sym same_key) of_t) in
    subst (λ (k : List ℕ). P t k) same_key (subst (λ (u : ℕ). P u key) same here)

item_class : (found : Option Item) (class : ClassNo) (n : ℕ) → link_of_item found ≡ Some (link_to class n) → IsSomeAnd found (λ item. item.link.class ≡ class)
item_class None class n h = absurd (none_some h)
item_class (Some item) class n h = ap (λ (l : Link). l.class) (some_same item.link (link_to class n) h)

-- an item that suits now is cited once the stripe has one event more
pub cites_now : (site : Site) (class : ClassNo) (stripe later : List StripeEvent) (e : StripeEvent) (number : ℕ) (key : List ℕ) (P : Item → Type 0) → later ≡ stripe ++ e ∷ []
    → IsSomeAnd (item_after site stripe key) (λ item. (item.link ≡ link_to class number) × P item) → IsCitedIn site class later number (length stripe) P key
cites_now site class stripe later e number key P is suits =
    let Q : Item → Type 0 = λ item. (item.link ≡ link_to class number) × P item in
    subst (λ (h : List StripeEvent). IsSomeAnd (cited_in site h key (length stripe)) Q) (sym is)
    (cited_later site stripe (e ∷ []) key (length stripe) Q (subst (λ (o : Option Item). IsSomeAnd o Q) (sym (cited_now site stripe key)) suits))

-- ---- the outcomes of a judgement

module _ (setting : Setting) (s : ℕ) (class : ClassNo) (stripe : List StripeEvent) (history : List ClassEvent) (seen more : ClassNo → List ClassEvent) (seen_of more_of : ℕ → List StripeEvent)
    (held : AreHeld setting s class stripe history seen more seen_of more_of) where
  -- an eviction with its loss
  pub eviction_step : (who : Who) (key passed : List ℕ) (number : ℕ) → Belong (site_in setting s) class stripe history key number → IsKeyOf (site_in setting s) key
      → IsLawfulByLists (setting.chunks class) setting.rule history (evicted_as who number passed (length stripe))
      → more class ≡ history ++ evicted_as who number passed (length stripe) ∷ [] → more_of s ≡ stripe ++ lost_to class who key (length history) ∷ []
      → StripeKeeps setting s (stripe ++ lost_to class who key (length history) ∷ []) more × ClassKeeps setting class (history ++ evicted_as who number passed (length stripe) ∷ []) more_of
  eviction_step who key passed number one of_key may sees sees_of =
      let lost : Lost = record { who = who; key = key; cause = Taken class (length history) } in
      let e : Evicted = record { who = who; number = number; passed = passed; at = length stripe } in
      let pair : IsEviction (site_in setting s) class stripe lost history e = record { who = refl; item = one.item; cause = refl; at = refl } in (
        stripe_step setting s stripe seen more (items.Lost lost) held.grows held.stripe_keeps (item_class (item_after (site_in setting s) stripe key) class number one.item)
            (λ c c_is. lost_told (site_in setting s) setting.rule more stripe lost (link_to class number) one.item
            (subst (λ (h : List ClassEvent). Has entries.Evicted h (λ behind x. IsEviction (site_in setting s) class stripe lost behind x)) (sym sees) (history, e, last_stands history (entries.Evicted e), pair)) c),
        class_step setting class history seen_of more_of (entries.Evicted e) held.grows_of held.class_keeps may tt
            (λ t t_of. by_stripe setting history number key s (λ u k. Has items.Lost (more_of u) (λ before x. (x.key ≡ k) × IsEviction (site_in setting u) class before x history e)) one.entry of_key
            (subst (λ (h : List StripeEvent). Has items.Lost h (λ before x. (x.key ≡ key) × IsEviction (site_in setting s) class before x history e))
            (sym sees_of) (stripe, lost, last_stands stripe (items.Lost lost), (refl, pair))) t)
            (λ t t_of. tt),
      )

  -- a reclaimed entry with its loss
  pub reclaiming_step : (who : Who) (key : List ℕ) (number moment : ℕ) → Belong (site_in setting s) class stripe history key number
      → IsDead (item_after (site_in setting s) stripe key) moment → IsKeyOf (site_in setting s) key
      → IsLawfulByLists (setting.chunks class) setting.rule history (reclaimed_as who number moment (length stripe))
      → more class ≡ history ++ reclaimed_as who number moment (length stripe) ∷ [] → more_of s ≡ stripe ++ lost_at who key moment ∷ []
      → StripeKeeps setting s (stripe ++ lost_at who key moment ∷ []) more × ClassKeeps setting class (history ++ reclaimed_as who number moment (length stripe) ∷ []) more_of
  reclaiming_step who key number moment one dead of_key may sees sees_of =
      let lost : Lost = record { who = who; key = key; cause = Expired moment } in
      let e : Reclaimed = record { who = who; number = number; moment = moment; at = length stripe } in
      let pair : IsReclaiming (site_in setting s) class stripe lost e = record { who = refl; item = one.item; cause = refl; at = refl } in (
        stripe_step setting s stripe seen more (items.Lost lost) held.grows held.stripe_keeps dead
            (λ c c_is. lost_told (site_in setting s) setting.rule more stripe lost (link_to class number) one.item
            (subst (λ (h : List ClassEvent). Has entries.Reclaimed h (λ behind x. IsReclaiming (site_in setting s) class stripe lost x)) (sym sees) (history, e, last_stands history (entries.Reclaimed e), pair)) c),
        class_step setting class history seen_of more_of (entries.Reclaimed e) held.grows_of held.class_keeps may tt
            (λ t t_of. by_stripe setting history number key s (λ u k. Has items.Lost (more_of u) (λ before x. (x.key ≡ k) × IsReclaiming (site_in setting u) class before x e)) one.entry of_key
            (subst (λ (h : List StripeEvent). Has items.Lost h (λ before x. (x.key ≡ key) × IsReclaiming (site_in setting s) class before x e)) (sym sees_of)
            (stripe, lost, last_stands stripe (items.Lost lost), (refl, pair))) t)
            (λ t t_of. by_stripe setting history number key s (λ u k. IsCitedIn (site_in setting u) class (more_of u) number (length stripe) (λ item. is_dead item moment ≡ true) k) one.entry of_key
            (cites_now (site_in setting s) class stripe (more_of s) _ number key (λ item. is_dead item moment ≡ true) sees_of
            (with_link (item_after (site_in setting s) stripe key) (link_to class number) (λ item. is_dead item moment ≡ true) one.item dead)) t),
      )

  -- an active entry's move, or a hit's, with its cooling
  pub cooling_step : s < setting.stripes → IsPrefix (seen_of s) stripe → (key : List ℕ) (e : Shifted) → ClearsMark e.why → e.at ≡ length stripe → Belong (site_in setting s) class stripe history key e.number
      → IsSomeAnd (item_after (site_in setting s) stripe key) (λ item. item.marks.active ≡ true) → IsSomeAnd (item_after (site_in setting s) stripe key) (SuitsMove e.why e.moment)
      → IsKeyOf (site_in setting s) key → IsLawfulByLists (setting.chunks class) setting.rule history (entries.Shifted e)
      → more class ≡ history ++ entries.Shifted e ∷ [] → more_of s ≡ stripe ++ cooled_as e.who key ∷ []
      → StripeKeeps setting s (stripe ++ cooled_as e.who key ∷ []) more × ClassKeeps setting class (history ++ entries.Shifted e ∷ []) more_of
  cooling_step of saw_of key e active at one marked suits of_key may sees sees_of =
      let backed : Each (IsBacked (site_in setting s) setting.rule class stripe) history =
      subst (λ (h : List StripeEvent). Each (IsBacked (site_in setting s) setting.rule class h) history) saw_of.1
      (all_backed_later (site_in setting s) setting.rule class (seen_of s) saw_of.0 history (held.class_keeps.backed s of)) in
      let cooled : Cooled = record { who = e.who; key = key } in
      let pair : IsCooling (site_in setting s) class stripe cooled e = record { who = refl; item = one.item; why = active; at = at } in (
        stripe_step setting s stripe seen more (items.Cooled cooled) held.grows held.stripe_keeps marked
            (λ c c_is. cooled_told (site_in setting s) setting.rule more stripe cooled (link_to class e.number) one.item
            (subst (λ (h : List ClassEvent). Has entries.Shifted h (λ behind x. IsCooling (site_in setting s) class stripe cooled x)) (sym sees) (history, e, last_stands history (entries.Shifted e), pair)) c),
        class_step setting class history seen_of more_of (entries.Shifted e) held.grows_of held.class_keeps may
            (move_is_only (setting.chunks class) setting.rule (site_in setting s) class stripe history key e backed held.class_keeps.lawful one.entry of_key at)
            (λ t t_of why. by_stripe setting history e.number key s (λ u k. Has items.Cooled (more_of u) (λ before x. (x.key ≡ k) × IsCooling (site_in setting u) class before x e)) one.entry of_key
            (subst (λ (h : List StripeEvent). Has items.Cooled h (λ before x. (x.key ≡ key) × IsCooling (site_in setting s) class before x e)) (sym sees_of)
            (stripe, cooled, last_stands stripe (items.Cooled cooled), (refl, pair))) t)
            (λ t t_of. by_stripe setting history e.number key s (λ u k. IsCitedIn (site_in setting u) class (more_of u) e.number e.at (SuitsMove e.why e.moment) k) one.entry of_key
            (subst (λ (p : ℕ). IsCitedIn (site_in setting s) class (more_of s) e.number p (SuitsMove e.why e.moment) key) (sym at)
            (cites_now (site_in setting s) class stripe (more_of s) _ e.number key (SuitsMove e.why e.moment) sees_of
            (with_link (item_after (site_in setting s) stripe key) (link_to class e.number) (SuitsMove e.why e.moment) one.item suits))) t),
      )

module _ (setting : Setting) (s : ℕ) (class : ClassNo) (stripe : List StripeEvent) (history : List ClassEvent) (seen_of more_of : ℕ → List StripeEvent)
    (class_keeps : ClassKeeps setting class history seen_of) (grows_of : SeesMore seen_of more_of) where
  -- a move that clears no mark: the class's event alone, which cites the item as all events of the stripe leave it
  pub plain_move_step : (key : List ℕ) (e : Shifted) → (ClearsMark e.why → ⊥) → e.at ≡ length stripe → Belong (site_in setting s) class stripe history key e.number
      → IsSomeAnd (item_after (site_in setting s) stripe key) (SuitsMove e.why e.moment) → IsKeyOf (site_in setting s) key → IsLawfulByLists (setting.chunks class) setting.rule history (entries.Shifted e)
      → more_of s ≡ stripe → ClassKeeps setting class (history ++ entries.Shifted e ∷ []) more_of
  plain_move_step key e passive at one suits of_key may sees_of =
      let Q : Item → Type 0 = λ item. (item.link ≡ link_to class e.number) × SuitsMove e.why e.moment item in
      class_step setting class history seen_of more_of (entries.Shifted e) grows_of class_keeps may (λ again. passive again.clears) (λ t t_of why. absurd (passive why))
      (λ t t_of. by_stripe setting history e.number key s (λ u k. IsCitedIn (site_in setting u) class (more_of u) e.number e.at (SuitsMove e.why e.moment) k) one.entry of_key
      (subst (λ (p : ℕ). IsCitedIn (site_in setting s) class (more_of s) e.number p (SuitsMove e.why e.moment) key) (sym at)
      (subst (λ (h : List StripeEvent). IsSomeAnd (cited_in (site_in setting s) h key (length stripe)) Q) (sym sees_of)
      (subst (λ (o : Option Item). IsSomeAnd o Q) (sym (cited_now (site_in setting s) stripe key))
      (with_link (item_after (site_in setting s) stripe key) (link_to class e.number) (SuitsMove e.why e.moment) one.item suits)))) t)

module _ (setting : Setting) (s : ℕ) (class : ClassNo) (stripe : List StripeEvent) (history : List ClassEvent) (seen_of more_of : ℕ
    → List StripeEvent) (class_keeps : ClassKeeps setting class history seen_of) (grows_of : SeesMore seen_of more_of) where
  -- a new entry, for a command of the stripe
  pub linking_step : (did : Did) (e : Linked) → IsLinking (site_in setting s) setting.rule class stripe did e → IsKeyOf (site_in setting s) e.key
      → IsLawfulByLists (setting.chunks class) setting.rule history (entries.Linked e)
      → more_of s ≡ stripe ++ items.Did did ∷ [] → ClassKeeps setting class (history ++ entries.Linked e ∷ []) more_of
  linking_step did e pair of_key may sees_of =
      class_step setting class history seen_of more_of (entries.Linked e) grows_of class_keeps may tt
      (λ t t_of of_t. subst (λ (u : ℕ). Has items.Did (more_of u) (λ before x. IsLinking (site_in setting u) setting.rule class before x e)) (ap (λ (m : StripeNo). m.0) (sym of_key ∙ of_t))
      (subst (λ (h : List StripeEvent). Has items.Did h (λ before x. IsLinking (site_in setting s) setting.rule class before x e)) (sym sees_of) (stripe, did, last_stands stripe (items.Did did), pair)))
      (λ t t_of. tt)

  -- an old entry that goes, for a command of the stripe
  pub unlinking_step : (did : Did) (e : Unlinked) → IsUnlinking (site_in setting s) class stripe did e → IsEntryOf history e.number (key_of did.command) → IsKeyOf (site_in setting s) (key_of did.command)
      → IsLawfulByLists (setting.chunks class) setting.rule history (entries.Unlinked e) → more_of s ≡ stripe ++ items.Did did ∷ [] → ClassKeeps setting class (history ++ entries.Unlinked e ∷ []) more_of
  unlinking_step did e pair entry of_key may sees_of =
      class_step setting class history seen_of more_of (entries.Unlinked e) grows_of class_keeps may tt
      (λ t t_of. by_stripe setting history e.number (key_of did.command) s (λ u k. Has items.Did (more_of u) (λ before x. (key_of x.command ≡ k) × IsUnlinking (site_in setting u) class before x e)) entry of_key
      (subst (λ (h : List StripeEvent). Has items.Did h (λ before x. (key_of x.command ≡ key_of did.command)
      × IsUnlinking (site_in setting s) class before x e)) (sym sees_of) (stripe, did, last_stands stripe (items.Did did), (refl, pair))) t)
      (λ t t_of. tt)

module _ (setting : Setting) (class : ClassNo) (history : List ClassEvent) (seen_of more_of : ℕ → List StripeEvent) (class_keeps : ClassKeeps setting class history seen_of) (grows_of : SeesMore seen_of more_of) where
  -- a survey, a refusal or a new limit
  pub survey_step : (e : Surveyed) → IsLawfulByLists (setting.chunks class) setting.rule history (entries.Surveyed e) → ClassKeeps setting class (history ++ entries.Surveyed e ∷ []) more_of
  survey_step e may = class_step setting class history seen_of more_of (entries.Surveyed e) grows_of class_keeps may tt (λ t t_of. tt) (λ t t_of. tt)

  pub refusal_step : (e : Refused) → IsLawfulByLists (setting.chunks class) setting.rule history (entries.Refused e) → ClassKeeps setting class (history ++ entries.Refused e ∷ []) more_of
  refusal_step e may = class_step setting class history seen_of more_of (entries.Refused e) grows_of class_keeps may tt (λ t t_of. tt) (λ t t_of. tt)

  pub limit_step : (e : Limited) → IsLawfulByLists (setting.chunks class) setting.rule history (entries.Limited e) → ClassKeeps setting class (history ++ entries.Limited e ∷ []) more_of
  limit_step e may = class_step setting class history seen_of more_of (entries.Limited e) grows_of class_keeps may tt (λ t t_of. tt) (λ t t_of. tt)

module _ (setting : Setting) (s : ℕ) (stripe : List StripeEvent) (seen more : ClassNo → List ClassEvent) (stripe_keeps : StripeKeeps setting s stripe seen) (grows : SeesMore seen more) where
  -- a command, told by the classes of its links and of its refusal
  pub command_step : (did : Did) → MayDo (site_in setting s) (cache_of (site_in setting s) stripe) stripe did
      → ((link : Link) → did.room ≡ rooms.At link → Has entries.Linked (more link.class) (λ behind e. IsLinking (site_in setting s) setting.rule link.class stripe did e))
      → ((link : Link) → LetsGo (site_in setting s) stripe did link → Has entries.Unlinked (more link.class) (λ behind e. IsUnlinking (site_in setting s) link.class stripe did e))
      → ((c : ClassNo) (place : ℕ) → did.room ≡ rooms.Refused c place → Has entries.Refused (more c) (λ behind e. IsRefusal c did behind e))
      → StripeKeeps setting s (stripe ++ items.Did did ∷ []) more
  command_step did may linked unlinked refused =
      stripe_step setting s stripe seen more (items.Did did) grows stripe_keeps may (λ c c_is. command_told (site_in setting s) setting.rule more stripe did linked unlinked refused c)
