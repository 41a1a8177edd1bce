-- One try of a command on the classes that it is lent: that it may be made there, and what it makes.
use Rattle.std.proofs.Common.{◌≡◌, ◌≤◌, ◌+◌, ◌^◌, ◌==◌, ◌&&◌, ℕ, List, [], ◌∷◌, Bool, true, false, not, refl, sym, ap, ◌∙◌, subst, inl, inr, ◌⊎◌, arith}
use Rattle.std.specs.Prelude.{Option, Some, None, IfSome, IsSomeAnd, if◌then◌else◌, nat_le, position, slice_get}
use Rattle.std.specs.{List.All, Option.option_map}
use Rattle.std.proofs.lemmas.Bool.{false≢true}
use Rattle.mc_item.specs.{Cache.changed, Command.key_of, Item.link_of_item, Measure.cost_of}
use Rattle.mc_item.specs.{Stripe.Fits, Stripe.IsLegal, Stripe.IsUnnamed, Stripe.link_of}
use Rattle.mc_item.specs.declared.{answer.Change.Change, answer.Need.Need, command.Command.Command}
use Rattle.mc_item.specs.declared.{config.Config.Config, item.ClassNo.ClassNo, item.Expiry.Expiry}
use Rattle.mc_item.specs.declared.{item.Item.Item, item.Link.Link, reply.Room.Room}
use Rattle.mc_item.specs.declared.answer.Change.TheVariants as changes
use Rattle.mc_item.specs.declared.answer.Need.TheVariants as needs
use Rattle.mc_item.specs.declared.class_event.ClassEvent.TheVariants as class_events
use Rattle.mc_item.specs.declared.reply.Room.TheVariants as rooms
use Rattle.mc_rule.specs.{Lawful.is_named, Lists.entries_linked, Lists.lists_of, Pairs.link_to}
use Rattle.mc_rule.proofs.TestLemmas.{by_eq}
use Rattle.mc_evidence.specs.Small.{AreSmall}
use Rattle.mc_evidence.proofs.{SmallItemLemmas.small_item, UnnamedLemmas.next_unnamed}
use Rattle.mc_segment.specs.{ClassState.ClassView, ClassState.HasPlaces, Entries.entry_of}
use Rattle.mc_stripe.specs.{Plan.fate_of, StripeState.Stripe, StripeState.cache_now, Trying.item_of, Trying.row_at}
use Rattle.mc_stripe.specs.Wanting.{Covers, Holds, IsGiven, IsTaken, Uses, changes_at, class_beside, class_of_fate, home_class, other_class}
use Rattle.mc_stripe.specs.Wanting as wanting
use Rattle.mc_stripe.specs.declared.{fate.Fate.Fate, wanting.Given.Given, wanting.Home.Home, wanting.Other.Other, trying.Turn.Turn}
use Rattle.mc_stripe.specs.declared.fate.Fate.TheVariants as fates
use Rattle.mc_pull.specs.{Agreeing.AgreeNow, Lent.OfEachClass, Lent.IsLent, Lent.IsLentIf, Perform.AreLent, Perform.GivesRoom, Perform.MayAnswer, Perform.MayPerform}
use Rattle.mc_pull.specs.{Perform.call, Perform.fate_for, Question.IsClassOf, Question.IsStripeOf}
use Rattle.mc_pull.specs.Attempt.{GivesHome, HasFree, HasRoomFor, IsAny, IsSmallFate, MayTryOn, OffersHome, OffersOther}
use Rattle.mc_pull.specs.Parts.{gone_part, is_for, is_here, new_part, part_for, places_of}
use Rattle.mc_pull.proofs.{CallItemLemmas.after_is, CallItemLemmas.did, CallItemLemmas.may_do, PerformedLemmas.IsOf}
use Rattle.mc_pull.proofs.{PerformedLemmas.each_at, PerformedLemmas.one_class, NewVersionLemmas.IsPlaced, NewVersionLemmas.row_places, CostLemmas.small_at}

-- ---- one of some classes
record Picked (P : ClassView → Type 0) (vs : List ClassView) : Type 0 where
  pub class : ClassView
  pub there : IsOf class vs
  pub is : P class

picked : (P : ClassView → Type 0) (vs : List ClassView) → IsAny P vs → Picked P vs
picked P [] any = absurd any
picked P (v ∷ vs) (inl is) = record { class = v; there = inl refl; is = is }
picked P (v ∷ vs) (inr later) = let p = picked P vs later in record { class = p.class; there = inr p.there; is = p.is }

each_by : (P : ClassView → Type 0) (vs : List ClassView) → ((v : ClassView) → IsOf v vs → P v) → OfEachClass P vs
each_by P [] by = tt
each_by P (v ∷ vs) by = (by v (inl refl), each_by P vs (λ x there. by x (inr there)))

lent_at : (vs : List ClassView) (v : ClassView) → IsOf v vs → (link : Link) → v.number ≡ link.class → IsLent vs link
lent_at [] v there link is = absurd there
lent_at (w ∷ vs) v (inl same) link is = inl (ap (λ (x : ClassView). x.number) (sym same) ∙ is)
lent_at (w ∷ vs) v (inr later) link is = inr (lent_at vs v later link is)

-- ---- how many events a part has
module _ (key : List ℕ) (cost n : ℕ) (expiry : Expiry) where
  few_both : (b c d : Bool) → places_of (new_part key cost expiry b (if c && d then Some n else None)) ≤ (if b then 1 else 0) + (if c then 1 else 0)
  few_both true true true = omega arith
  few_both true true false = omega arith
  few_both true false d = omega arith
  few_both false true true = omega arith
  few_both false true false = omega arith
  few_both false false d = omega arith

  few_one : (b : Bool) → places_of (new_part key cost expiry b None) ≤ (if b then 1 else 0) + 0
  few_one true = omega arith
  few_one false = omega arith

few_gone : (n : ℕ) (c d : Bool) → places_of (gone_part (if c && d then Some n else None)) ≤ (if c then 1 else 0)
few_gone n true true = omega arith
few_gone n true false = omega arith
few_gone n false d = omega arith

module _ (v : ClassView) (key : List ℕ) where
  few_renewed : (cost : ℕ) (expiry : Expiry) (room : Room) (old : Option Link) → places_of (part_for v key room (fates.Renewed cost expiry old)) ≤ changes_at v.number room (fates.Renewed cost expiry old)
  few_renewed cost expiry (rooms.At link) None = few_one key cost 0 expiry (link.class.0 == v.number.0)
  few_renewed cost expiry (rooms.At link) (Some old) = few_both key cost old.number expiry (link.class.0 == v.number.0) (old.class.0 == v.number.0) (is_for key (entry_of old.number (lists_of v.history)))
  few_renewed cost expiry (rooms.Refused class place) None = omega arith
  few_renewed cost expiry (rooms.Refused class place) (Some old) = few_both key cost old.number expiry false (old.class.0 == v.number.0) (is_for key (entry_of old.number (lists_of v.history)))
  few_renewed cost expiry rooms.Keep None = omega arith
  few_renewed cost expiry rooms.Keep (Some old) = few_both key cost old.number expiry false (old.class.0 == v.number.0) (is_for key (entry_of old.number (lists_of v.history)))

  -- it has no more than entries come into the class and leave it
  pub part_few : (room : Room) (fate : Fate) → places_of (part_for v key room fate) ≤ changes_at v.number room fate
  part_few room fates.Untouched = omega arith
  part_few room (fates.Renewed cost expiry old) = few_renewed cost expiry room old
  part_few room (fates.Goes link) = few_gone link.number (link.class.0 == v.number.0) (is_for key (entry_of link.number (lists_of v.history)))
  part_few room (fates.Woken link) = omega arith

-- ---- a command that may be tried on these classes
module _ (s : Stripe) (vs : List ClassView) (command : Command) (turn : Turn) (given : Given) (may : MayTryOn s vs command turn given) where
  -- the class that offers a room
  record Offer (h : Home) : Type 0 where
    pub class : ClassView
    pub there : IsOf class vs
    pub offers : OffersHome class may.refused turn.who h

  offer_of : (h : Home) → IsAny (λ v. OffersHome v may.refused turn.who h) vs → Offer h
  offer_of h any = let p = picked (λ v. OffersHome v may.refused turn.who h) vs any in record { class = p.class; there = p.there; offers = p.is }

  offer_at : (o : Option Home) → IfSome o (λ h. IsAny (λ v. OffersHome v may.refused turn.who h) vs) → (P : Home → Type 0) → IsSomeAnd o P → (h : Home) × (o ≡ Some h) × P h × Offer h
  offer_at None offered P is = absurd is
  offer_at (Some h) offered P is = (h, refl, is, offer_of h offered)

  -- the room of a new version that is taken
  record Taken (class : ClassNo) (room : Room) : Type 0 where
    pub from : ClassView
    pub there : IsOf from vs
    pub number_is : from.number ≡ class
    pub gives : GivesHome from may.refused turn.who room

  taken_of : (class : ClassNo) (room : Room) → IsTaken given (needs.Fresh class) room → Taken class room
  taken_of class room taken =
      let at = offer_at given.home may.offered.home (λ h. (h.class ≡ class) × (h.room ≡ room)) taken.0 in
      record {
        from = at.3.class;
        there = at.3.there;
        number_is = sym at.3.offers.class_is ∙ at.2.0;
        gives = subst (GivesHome at.3.class may.refused turn.who) at.2.1 at.3.offers.room;
      }

  module _ (fresh_at : (v : ClassView) → IsOf v vs → (q : ℕ) → entries_linked v.history ≤ q → is_named q v.history ≡ false) where
    fits_room : (class : ClassNo) (room : Room) → IsGiven room → Taken class room → Fits (needs.Fresh class) room s.history
    fits_room class (rooms.At link) given t =
        let link_is : link ≡ link_to t.from.number (entries_linked t.from.history) = t.gives.0 in
        let met : AgreeNow t.from s = each_at (λ v. AgreeNow v s) vs may.met t.from t.there in (
          ap (λ (l : Link). l.class) link_is ∙ t.number_is,
          subst (λ (l : Link). IsUnnamed l s.history) (sym link_is)
              (next_unnamed s.site t.from.rule t.from.number (entries_linked t.from.history) s.history t.from.history met.evidence.told (fresh_at t.from t.there (entries_linked t.from.history) (omega arith))),
        )
    fits_room class (rooms.Refused of place) given t = t.gives.0 ∙ t.number_is
    fits_room class rooms.Keep given t = absurd given

    -- what the classes give fits
    pub offered_fits : (class : ClassNo) (room : Room) → IsTaken given (needs.Fresh class) room → Fits (needs.Fresh class) room s.history
    offered_fits class room taken = fits_room class room taken.1 (taken_of class room taken)

    taken_fits : (need : Need) (room : Room) → IsTaken given need room → Fits need room s.history
    taken_fits (needs.Fresh class) room taken = offered_fits class room taken
    taken_fits needs.Nothing room taken = rw taken tt
    taken_fits needs.Same room taken = rw taken tt
    taken_fits needs.TooLarge room taken = rw taken tt

    module _ (room : Room) (fate : Fate) (uses : Uses given (key_of command) (item_of s command) turn.moment (row_at s command turn.moment) room fate) where
      may_answer : MayAnswer s (call turn.who command turn.moment room)
      may_answer = record { stripe = may.stripe; moment = may.moment; alive = uses.alive; fits = taken_fits (row_at s command turn.moment).need room uses.taken }

      -- ---- the room is each class's as it is
      same_class : (v w : ClassView) → IsOf v vs → IsOf w vs → v.number ≡ w.number → v ≡ w
      same_class = one_class vs may.distinct

      here_number : (v : ClassView) (link : Link) → is_here v (rooms.At link) ≡ true → link.class ≡ v.number
      here_number v link = by_eq link.class.0 v.number.0 (λ b. b ≡ true → link.class ≡ v.number) (λ same here. ap (λ (n : ℕ). record { 0 = n }) same) (λ apart here. absurd (false≢true here))

      gives_taken : (class : ClassNo) (r : Room) → Taken class r → (v : ClassView) → IsOf v vs → GivesRoom turn.who r v
      gives_taken class (rooms.At link) t v there =
          let number : link.class ≡ t.from.number = ap (λ (l : Link). l.class) t.gives.0 in
          record {
            free = λ here. subst HasFree (same_class t.from v t.there there (sym number ∙ here_number v link here)) t.gives.1;
            named = λ same. ap (λ (l : Link). l.number) t.gives.0 ∙ ap (λ (x : ClassView). entries_linked x.history) (same_class t.from v t.there there (sym number ∙ same));
          }
      gives_taken class (rooms.Refused of place) t v there = record {
        free = λ here. absurd (false≢true here);
        named = λ same. subst (λ (x : ClassView). slice_get x.history place ≡ Some (class_events.Refused (record { who = turn.who }))) (same_class t.from v t.there there (sym t.gives.0 ∙ same)) t.gives.2;
      }
      gives_taken class rooms.Keep t v there = record { free = λ here. absurd (false≢true here); named = tt }

      gives_none : (r : Room) → r ≡ rooms.Keep → (v : ClassView) → GivesRoom turn.who r v
      gives_none r is v = rw is (record { free = λ here. absurd (false≢true here); named = tt })

      gives : (need : Need) → IsTaken given need room → (v : ClassView) → IsOf v vs → GivesRoom turn.who room v
      gives (needs.Fresh class) taken v there = gives_taken class room (taken_of class room taken) v there
      gives needs.Nothing taken v there = gives_none room taken v
      gives needs.Same taken v there = gives_none room taken v
      gives needs.TooLarge taken v there = gives_none room taken v

      -- ---- the classes that have a part are lent
      home_lent : (o : Option Home) → IfSome o (λ h. IsAny (λ v. OffersHome v may.refused turn.who h) vs) → (link : Link) → option_map (λ h. h.class) o ≡ Some link.class → IsLent vs link
      home_lent None offered link is = absurd (cc is)
      home_lent (Some h) offered link is =
          let offer = offer_of h offered in
          let class : h.class ≡ link.class = cc in
          lent_at vs offer.class offer.there link (sym offer.offers.class_is ∙ class)

      other_lent : (o : Option Other) → IfSome o (λ x. IsAny (λ v. OffersOther v x) vs) → (link : Link) → option_map (λ x. x.class) o ≡ Some link.class → IsLent vs link
      other_lent None offered link is = absurd (cc is)
      other_lent (Some o) offered link is =
          let p = picked (λ v. OffersOther v o) vs offered in
          let class : o.class ≡ link.class = cc in
          lent_at vs p.class p.there link (sym p.is.class_is ∙ class)

      beside_lent : (class : ClassNo) → home_class given ≡ Some class → (old : Option Link) → Holds (other_class given) (class_beside class old) → IsLentIf vs old
      beside_lent class home None held = tt
      beside_lent class home (Some link) held =
          by_eq link.class.0 class.0 (λ b. Holds (other_class given) (if b then None else Some link.class) → IsLent vs link)
          (λ same held. home_lent given.home may.offered.home link (home ∙ ap (λ (n : ℕ). Some (record { 0 = n })) (sym same)))
          (λ apart held. other_lent given.other may.offered.other link held) held

      room_lent : (class : ClassNo) (r : Room) → Taken class r → IsLentIf vs (link_of r)
      room_lent class (rooms.At link) t = lent_at vs t.from t.there link (sym (ap (λ (l : Link). l.class) t.gives.0))
      room_lent class (rooms.Refused of place) t = tt
      room_lent class rooms.Keep t = tt

      woken_lent : (b : Bool) (link : Link) → AreLent vs room (if b then fates.Woken link else fates.Untouched)
      woken_lent true link = tt
      woken_lent false link = tt

      lent_by : (found : Option Item) (change : Change) → IsLentIf vs (link_of room) → IsLentIf vs (link_of_item found) → AreLent vs room (fate_of (key_of command) found change)
      lent_by found changes.Stays at old = tt
      lent_by None changes.Goes at old = tt
      lent_by (Some item) changes.Goes at old = old
      lent_by None (changes.Hit marks) at old = tt
      lent_by (Some item) (changes.Hit marks) at old = woken_lent (marks.active && not item.marks.active) item.link
      lent_by None (changes.Touched expiry marks) at old = tt
      lent_by (Some item) (changes.Touched expiry marks) at old = woken_lent (marks.active && not item.marks.active) item.link
      lent_by found (changes.Counted value cas) at old = tt
      lent_by found (changes.Renewed item) at old = (at, old)

      -- where no chunk is needed
      fate_lent : (f : Fate) → ((cost : ℕ) (expiry : Expiry) (old : Option Link) → f ≡ fates.Renewed cost expiry old → ⊥) → Holds (other_class given) (class_of_fate f) → AreLent vs room f
      fate_lent fates.Untouched none held = tt
      fate_lent (fates.Renewed cost expiry old) none held = absurd (none cost expiry old refl)
      fate_lent (fates.Goes link) none held = other_lent given.other may.offered.other link held
      fate_lent (fates.Woken link) none held = tt

      no_wake : (b : Bool) (link : Link) (cost : ℕ) (expiry : Expiry) (old : Option Link) → (if b then fates.Woken link else fates.Untouched) ≡ fates.Renewed cost expiry old → ⊥
      no_wake true link cost expiry old is = cc is
      no_wake false link cost expiry old is = cc is

      not_renewed : (found : Option Item) (change : Change) → IsPlaced rooms.Keep change → (cost : ℕ) (expiry : Expiry) (old : Option Link) → fate_of (key_of command) found change ≡ fates.Renewed cost expiry old → ⊥
      not_renewed found changes.Stays at cost expiry old is = cc is
      not_renewed None changes.Goes at cost expiry old is = cc is
      not_renewed (Some item) changes.Goes at cost expiry old is = cc is
      not_renewed None (changes.Hit marks) at cost expiry old is = cc is
      not_renewed (Some item) (changes.Hit marks) at cost expiry old is = no_wake (marks.active && not item.marks.active) item.link cost expiry old is
      not_renewed None (changes.Touched expiry_new marks) at cost expiry old is = cc is
      not_renewed (Some item) (changes.Touched expiry_new marks) at cost expiry old is = no_wake (marks.active && not item.marks.active) item.link cost expiry old is
      not_renewed found (changes.Counted value cas) at cost expiry old is = cc is
      not_renewed found (changes.Renewed item) at cost expiry old is = cc at

      abbrev Lent : Type 0
      Lent = AreLent vs room (fate_for s (call turn.who command turn.moment room))

      kept_lent : room ≡ rooms.Keep → Holds (other_class given) (class_of_fate (fate_of (key_of command) (item_of s command) ((row_at s command turn.moment).answer rooms.Keep).change)) → Lent
      kept_lent is held =
          let at : IsPlaced rooms.Keep ((row_at s command turn.moment).answer rooms.Keep).change =
          subst (λ (r : Room). IsPlaced r ((row_at s command turn.moment).answer r).change) is (row_places s.history room s.site (cache_now s).versions (item_of s command) command turn.moment may_answer.fits) in
          subst (λ (r : Room). AreLent vs room (fate_of (key_of command) (item_of s command) ((row_at s command turn.moment).answer r).change)) (sym is)
          (fate_lent _ (not_renewed (item_of s command) _ at) held)

      lent_need : (need : Need) → IsTaken given need room
          → Covers given (wanting.classes_of need (link_of_item (item_of s command))
          (fate_of (key_of command) (item_of s command) ((row_at s command turn.moment).answer rooms.Keep).change)) → Lent
      lent_need (needs.Fresh class) taken covers =
          lent_by (item_of s command) _ (room_lent class room (taken_of class room taken)) (beside_lent class covers.0 (link_of_item (item_of s command)) covers.1)
      lent_need needs.Nothing taken covers = kept_lent taken covers.1
      lent_need needs.Same taken covers = kept_lent taken covers.1
      lent_need needs.TooLarge taken covers = kept_lent taken covers.1

      -- the command may be made
      pub may_perform : (config : Config) → IsStripeOf config s → OfEachClass (IsClassOf config) vs → MayPerform config s (call turn.who command turn.moment room) vs
      may_perform config made_with classes = record {
        answer = may_answer;
        made_with = made_with;
        classes = classes;
        distinct = may.distinct;
        rooms = each_by (GivesRoom turn.who room) vs (gives (row_at s command turn.moment).need uses.taken);
        lent = lent_need (row_at s command turn.moment).need uses.taken uses.covers;
      }

      -- a class that the room is a link of has a chunk free
      pub here_free : (v : ClassView) → IsOf v vs → is_here v room ≡ true → HasFree v
      here_free v there = (gives (row_at s command turn.moment).need uses.taken v there).free

      -- the new version is small
      small_woken : (b : Bool) (link : Link) → IsSmallFate (if b then fates.Woken link else fates.Untouched)
      small_woken true link = tt
      small_woken false link = tt

      small_by : (found : Option Item) (change : Change) → IsSomeAnd (changed found change) (λ item. cost_of (key_of command) item.value ≤ 2 ^ 20) → IsSmallFate (fate_of (key_of command) found change)
      small_by found changes.Stays small = tt
      small_by None changes.Goes small = tt
      small_by (Some item) changes.Goes small = tt
      small_by None (changes.Hit marks) small = tt
      small_by (Some item) (changes.Hit marks) small = small_woken (marks.active && not item.marks.active) item.link
      small_by None (changes.Touched expiry marks) small = tt
      small_by (Some item) (changes.Touched expiry marks) small = small_woken (marks.active && not item.marks.active) item.link
      small_by found (changes.Counted value cas) small = tt
      small_by found (changes.Renewed item) small = small

      small_at_room : (legal : IsLegal s.site s.history) → All (λ size. size ≤ 2 ^ 20) s.site.sizes → (r : Room) → room ≡ r → (v : ClassView) → is_here v r ≡ true → IsSmallFate fate
      small_at_room legal sizes (rooms.At link) is v here =
          let c = call turn.who command turn.moment room in
          let most : AreSmall s.site.sizes = record { most = λ cost class of. small_at cost s.site.sizes sizes (position (λ size. nat_le cost size) s.site.sizes) class refl of } in
          let item = small_item s.site most s.history (did s c) link (may_do s c legal may_answer) is in
          subst IsSmallFate (sym uses.fate_is)
          (small_by (item_of s command) _ (subst (λ (o : Option Item). IsSomeAnd o (λ item. cost_of (key_of command) item.value ≤ 2 ^ 20)) (after_is s c legal may_answer) item))
      small_at_room legal sizes (rooms.Refused of place) is v here = absurd (false≢true here)
      small_at_room legal sizes rooms.Keep is v here = absurd (false≢true here)

      pub here_small : IsLegal s.site s.history → All (λ size. size ≤ 2 ^ 20) s.site.sizes → (v : ClassView) → is_here v room ≡ true → IsSmallFate fate
      here_small legal sizes v here = small_at_room legal sizes room refl v here

      -- a part has places, which take no memory
      pub record Ready (v : ClassView) (n : ℕ) : Type 0 where
        pub space : n ≤ v.room
        pub places : HasPlaces v n

      fewer : (v : ClassView) (n m : ℕ) → n ≤ m → m ≤ v.room → HasPlaces v m → Ready v n
      fewer v n m few room fits = record { space = omega arith; places = omega arith }

      ready_at : (v : ClassView) → IsSomeAnd given.home (OffersHome v may.refused turn.who) ⊎ IsSomeAnd given.other (OffersOther v) → HasRoomFor given v → (n : ℕ) → n ≤ changes_at v.number room fate → Ready v n
      ready_at v offers has n few = by given.home given.other offers has.0 has.1 uses.places.home uses.places.other
        where
          by : (h : Option Home) (o : Option Other) → IsSomeAnd h (OffersHome v may.refused turn.who) ⊎ IsSomeAnd o (OffersOther v)
              → IfSome h (λ h. h.class ≡ v.number → h.places ≤ v.room) → IfSome o (λ o. o.class ≡ v.number → o.places ≤ v.room)
              → IfSome h (λ h. changes_at h.class room fate ≤ h.places) → IfSome o (λ o. changes_at o.class room fate ≤ o.places) → Ready v n
          by (Some h) o (inl offers) room_h room_o places_h places_o =
              let most : changes_at v.number room fate ≤ h.places = subst (λ (c : ClassNo). changes_at c room fate ≤ h.places) offers.class_is places_h in
              fewer v n h.places (omega (arith, few, most)) (room_h offers.class_is) offers.places.fits
          by None o (inl offers) room_h room_o places_h places_o = absurd offers
          by h (Some o) (inr offers) room_h room_o places_h places_o =
              let most : changes_at v.number room fate ≤ o.places = subst (λ (c : ClassNo). changes_at c room fate ≤ o.places) offers.class_is places_o in
              fewer v n o.places (omega (arith, few, most)) (room_o offers.class_is) offers.places.fits
          by h None (inr offers) room_h room_o places_h places_o = absurd offers

      pub part_ready : (v : ClassView) → IsSomeAnd given.home (OffersHome v may.refused turn.who) ⊎ IsSomeAnd given.other (OffersOther v) → HasRoomFor given v
          → Ready v (places_of (part_for v (key_of command) room fate))
      part_ready v offers has = ready_at v offers has (places_of (part_for v (key_of command) room fate)) (part_few v (key_of command) room fate)
