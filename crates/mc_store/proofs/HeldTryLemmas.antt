-- One try on the classes that a command holds: what it may still want, and that a refusal was earned.
use Rattle.std.proofs.Common.{◌≡◌, ◌≢◌, ◌≤◌, ◌<◌, ◌+◌, ◌⊎◌, [], ℕ, List, Bool, true, false, Result, Ok, Err, inl, inr, length, refl, sym, ap, ◌∙◌, subst, arith}
use Rattle.std.specs.Prelude.{◌==◌, Option, Some, None, IfOk, IfSome, IsSomeAnd, OnErr, if◌then◌else◌, slice_get}
use Rattle.std.proofs.lemmas.Bool.Decides.{nat_tests}
use Rattle.mc_item.specs.{Answer.Row, Answer.row_of, Command.key_of, Item.link_of_item, Stripe.link_of}
use Rattle.mc_item.specs.declared.{answer.Need.Need, command.Command.Command, class_event.ClassEvent.ClassEvent, config.Config.Config, fault.Fault.Fault}
use Rattle.mc_item.specs.declared.{item.ClassNo.ClassNo, item.Item.Item, item.Link.Link, item.StripeNo.StripeNo, item.Who.Who}
use Rattle.mc_item.specs.declared.{reply.Room.Room}
use Rattle.mc_item.specs.declared.answer.Need.TheVariants as needs
use Rattle.mc_item.specs.declared.reply.Room.TheVariants as rooms
use Rattle.atomic_table.specs.Seated.{TableId}
use Rattle.mc_rule.specs.Lists.{IsFull, chunks_from, count_of, lists_of}
use Rattle.mc_rule.proofs.EventPlaceLemmas.{at_place}
use Rattle.mc_segment.specs.{ClassCalls.Makes, ClassCalls.refused_event, ClassState.ClassView, ClassState.with_room}
use Rattle.mc_evidence.specs.Seen.{classes_seen}
use Rattle.mc_board.specs.Histories.{Grows, list_at}
use Rattle.mc_board.specs.declared.rule.Sight.{Sight}
use Rattle.mc_stripe.specs.{Plan.fate_of, StripeState.Stripe, StripeState.cache_now, Trying.item_of, Trying.row_at}
use Rattle.mc_stripe.specs.Wanting.{Covers, Holds, IsCrowded, IsGiven, IsTaken, IsWanting, LacksPlace, LacksRoom, changes_at, classes_for, home_class, links_at, other_class}
use Rattle.mc_stripe.specs.declared.{wanting.Classes.Classes, fate.Fate.Fate, wanting.Given.Given, wanting.Home.Home, wanting.Other.Other, wanting.Want.Want}
use Rattle.mc_stripe.specs.declared.{trying.Turn.Turn}
use Rattle.mc_stripe.specs.declared.fate.Fate.TheVariants as fates
use Rattle.mc_stripe.specs.declared.wanting.Want.TheVariants as wants
use Rattle.mc_pull.specs.Attempt.{GivesHome, IsNoted, IsReady, LeavesPlaces, OffersHome, OffersOther}
use Rattle.mc_pull.specs.declared.{attempting.Tried.Tried, attempting.Tried.TheVariants.Made, attempting.Tried.TheVariants.Wants}
use Rattle.mc_store.specs.{Earned.HasGivenUp, Earned.IsEarnedAt, Earned.IsEarnedIn, Locked.IsLockedClass, Passes.CallerView}
use Rattle.mc_store.specs.{Full.HasSeenFull, Full.IsRoomOf, Full.LacksEntries, Full.LacksPlaces, Serving.IsShortFor}
use Rattle.mc_store.specs.{Sides.ClassSide, Sides.StripeSide, Sides.class_told, Trying.IsMadeBy, Trying.IsTriedUnder}
use Rattle.mc_store.specs.Trying.{Stay, StillTries}
use Rattle.mc_pull.specs.declared.attempting.Replied.{Replied}
use Rattle.mc_store.specs.Held.{IsMadeIn, IsRefusedAt, IsStillFull, IsTriedOn, MayWant, Suffice, WantsAlone, WantsChunk, nothing}
use Rattle.mc_store.proofs.{CommandLemmas.changes_two, CommandLemmas.link_one, CommandLemmas.not_dead, CommandLemmas.visible_alive, EarnedRefusalLemmas.earned_sees, NeededClassLemmas.fresh_classes}
use Rattle.mc_store.proofs.EnteredLemmas.{heard_tried, tries_heard}
use Rattle.mc_store.proofs.{FullLemmas.full_class, FullLemmas.lacks_grows, FullLemmas.seen_full_grows, ShortHistoryLemmas.short_class, SyncedStepLemmas.any_short}

pub some_none : {A : Type 0} (a : A) (o : Option A) → o ≡ Some a → o ≡ None → ⊥
some_none a o is none = absurd (cc (is, none))

-- what suffices to a command that holds nothing suffices to any
holds_none : (held o : Option ClassNo) → Holds None o → Holds held o
holds_none held None none = tt
holds_none held (Some class) none = absurd (cc none)

pub covers_more : (given : Given) (wanted : Classes) → Covers nothing wanted → Covers given wanted
covers_more given wanted covers = (holds_none (home_class given) wanted.home covers.0, holds_none (other_class given) wanted.other covers.1)

-- what a try under locks came to, on classes of these numbers
module _ (config : Config) (own own_new : StripeSide) (caller caller_new : CallerView) (made : Command) (turn : Turn) (given : Given) (cs ds : List ClassSide) (home other : Option ClassNo) (AnyFull : Type 0)
    (for_home : home_class given ≡ home) (for_other : other_class given ≡ other) where
  abbrev IsLacking : Want → Type 0
  IsLacking want = IsWanting given (key_of made) (item_of own.stripe made) turn.moment (row_at own.stripe made turn.moment) want

  may_want : (Stay cs ds → LacksRoom given (key_of made) (item_of own.stripe made) turn.moment (row_at own.stripe made turn.moment) → AnyFull)
      → (Stay cs ds → (class : ClassNo) → IsCrowded given (key_of made) (item_of own.stripe made) turn.moment (row_at own.stripe made turn.moment) class
      → LacksEntries config own.stripe own_new.sight made turn.moment)
      → (want : Want) → Stay cs ds → IsLacking want → MayWant config own.stripe own_new made turn.moment home other AnyFull want
  may_want full short (wants.Burial link) stay lacking = lacking
  may_want full short (wants.Classes classes) stay lacking =
      let wanted = classes_for (key_of made) (item_of own.stripe made) (row_at own.stripe made turn.moment) in (
        (lacking.0, lacking.1, λ covers. lacking.2 (covers_more given classes covers)),
        λ suffice. lacking.2 (subst (Covers given) (sym lacking.1) (
          subst (λ (o : Option ClassNo). Holds o wanted.home) (sym for_home) suffice.for_version,
          subst (λ (o : Option ClassNo). Holds o wanted.other) (sym for_other) suffice.for_item,
        )),
      )
  may_want full short wants.Room stay lacking = full stay lacking
  may_want full short (wants.Place class) stay lacking = short stay class lacking

  pub tried_on : ((room : Room) → IsTaken given (row_at own.stripe made turn.moment).need room
      → IsEarnedIn config own.stripe.site.stripe turn.who turn.moment (key_of made) own_new.sight room)
      → (Stay cs ds → LacksRoom given (key_of made) (item_of own.stripe made) turn.moment (row_at own.stripe made turn.moment) → AnyFull)
      → (Stay cs ds → (class : ClassNo) → IsCrowded given (key_of made) (item_of own.stripe made) turn.moment (row_at own.stripe made turn.moment) class
      → LacksEntries config own.stripe own_new.sight made turn.moment)
      → (r : Result Tried Fault) → IfOk r (IsTriedUnder config own own_new caller caller_new made turn given cs ds)
      → IfOk r (IsTriedOn config own own_new caller caller_new made turn home other AnyFull)
  tried_on earned full short (Ok (Made replied)) tried = record { alive = tried.uses.alive; room = tried.room; made_is = tried.made_is; noted = tried.noted; earned = earned tried.room tried.uses.taken }
  tried_on earned full short (Ok (Wants want)) tried = (tried.0, tried.1, may_want full short want tried.2 tried.3)
  tried_on earned full short (Err fault) tried = tt

-- what a stripe came to that had only heard more before it is tried
module _ (config : Config) (own heard end : StripeSide) (caller caller_new : CallerView) (made : Command) (turn : Turn) (is : heard ≡ record own { sight = heard.sight }) (more : Grows own.sight heard.sight) where
  module _ (given : Given) (cs ds : List ClassSide) where
    tried_seen : (sight : Sight) → Grows own.sight sight → (r : Result Tried Fault) → IfOk r (IsTriedUnder config (record own { sight = sight }) end caller caller_new made turn given cs ds)
        → IfOk r (IsTriedUnder config own end caller caller_new made turn given cs ds)
    tried_seen sight sees (Ok (Made replied)) tried = record {
      room = tried.room;
      fate = tried.fate;
      uses = tried.uses;
      made_is = tried.made_is;
      noted = heard_tried config turn own (record own { sight = sight }) end refl sees refl tried.noted;
    }
    tried_seen sight sees (Ok (Wants want)) tried = (tried.0, heard_tried config turn own (record own { sight = sight }) end refl sees refl tried.1, tried.2, tried.3)
    tried_seen sight sees (Err fault) tried = tt

    pub tried_heard : (r : Result Tried Fault) → IfOk r (IsTriedUnder config heard end caller caller_new made turn given cs ds) → IfOk r (IsTriedUnder config own end caller caller_new made turn given cs ds)
    tried_heard r tried = tried_seen heard.sight more r (subst (λ (x : StripeSide). IfOk r (IsTriedUnder config x end caller caller_new made turn given cs ds)) is tried)

  -- or that failed
  pub err_heard : (r : Result Tried Fault) → OnErr r ((end.stripe.history ≡ heard.stripe.history) × StillTries config turn heard end caller caller_new)
      → OnErr r ((end.stripe.history ≡ own.stripe.history) × StillTries config turn own end caller caller_new)
  err_heard (Ok tried) err = tt
  err_heard (Err fault) err = (err.0 ∙ ap (λ (x : StripeSide). x.stripe.history) is, heard_tried config turn own heard end is more refl err.1)

-- a stripe that heard more and then more
pub heard_both : (own mid last : StripeSide) → mid ≡ record own { sight = mid.sight } → last ≡ record mid { sight = last.sight } → last ≡ record own { sight = last.sight }
heard_both own mid last first more = more ∙ ap (λ (x : StripeSide). record x { sight = last.sight }) first

-- where it has only heard more nothing was made
pub only_heard : (config : Config) (turn : Turn) (own heard : StripeSide) (caller : CallerView) → heard ≡ record own { sight = heard.sight } → Grows own.sight heard.sight
    → (heard.stripe.history ≡ own.stripe.history) × StillTries config turn own heard caller caller
only_heard config turn own heard caller is more = (ap (λ (x : StripeSide). x.stripe.history) is, tries_heard config turn own heard is more refl)

-- a chunk is wanted of the class of a new version that is held
pub wants_chunk : (s : Stripe) (made : Command) (moment : ℕ) (given : Given) (class : ClassNo) (other : Option ClassNo) → home_class given ≡ Some class
    → other_class given ≡ other → LacksRoom given (key_of made) (item_of s made) moment (row_at s made moment)
    → WantsChunk class other s made moment
wants_chunk s made moment given class other for_home for_other lacks =
    let key = key_of made in
    let wanted = classes_for key (item_of s made) (row_at s made moment) in
    let fate = fate_of key (item_of s made) ((row_at s made moment).answer rooms.Keep).change in
    let home = subst (λ (o : Option ClassNo). Holds o wanted.home) for_home lacks.covers.0 in
    let fresh = subst (λ (w : Classes). Holds (Some class) w.home) (fresh_classes (row_at s made moment).need (link_of_item (item_of s made)) fate lacks.class lacks.fresh) home in
    let same : lacks.class ≡ class = cc fresh in
    record {
      suffice = record { alive = lacks.alive; for_version = home; for_item = subst (λ (o : Option ClassNo). Holds o wanted.other) for_other lacks.covers.1 };
      fresh = lacks.fresh ∙ ap (λ (n : ClassNo). needs.Fresh n) same;
    }

-- a room that is taken was earned where the class that gives it says so
module _ (config : Config) (s : Stripe) (turn : Turn) (key : List ℕ) (v : ClassView) (refused : Option ℕ) (mid end : Sight)
    (heard : classes_seen config.stripes (list_at mid.seen) v.number ≡ v.history) (more : Grows mid end) (at : IsRefusedAt config s turn key v refused) where
  by_place : (place : ℕ) (o : Option ℕ) → IsRefusedAt config s turn key v o → o ≡ Some place → IsEarnedAt config (record { 0 = s.site.stripe }) v.number turn.who turn.moment key place v.history
  by_place place None earned is = absurd (cc is)
  by_place place (Some other) earned is =
      let same : other ≡ place = cc is in
      subst (λ (p : ℕ). IsEarnedAt config (record { 0 = s.site.stripe }) v.number turn.who turn.moment key p v.history) same earned

  gives_earned : (room : Room) → GivesHome v refused turn.who room → IsEarnedIn config s.site.stripe turn.who turn.moment key end room
  gives_earned rooms.Keep gives = tt
  gives_earned (rooms.At link) gives = tt
  gives_earned (rooms.Refused class place) gives =
      earned_sees config s.site.stripe turn.who turn.moment key mid end (rooms.Refused class place) more
      (subst (λ (n : ClassNo). IsEarnedAt config (record { 0 = s.site.stripe }) n turn.who turn.moment key place (classes_seen config.stripes (list_at mid.seen) n)) (sym gives.0)
      (subst (λ (h : List ClassEvent). IsEarnedAt config (record { 0 = s.site.stripe }) v.number turn.who turn.moment key place h) (sym heard) (by_place place refused at gives.1)))

  kept_earned : (room : Room) → room ≡ rooms.Keep → IsEarnedIn config s.site.stripe turn.who turn.moment key end room
  kept_earned room is = rw is tt

  pub taken_earned : (given : Given) (need : Need) (room : Room) → IfSome given.home (OffersHome v refused turn.who) → IsTaken given need room → IsEarnedIn config s.site.stripe turn.who turn.moment key end room
  taken_earned given (needs.Fresh class) room offers taken = by given.home offers taken.0
    where
      by : (o : Option Home) → IfSome o (OffersHome v refused turn.who) → IsSomeAnd o (λ h. (h.class ≡ class) × (h.room ≡ room)) → IsEarnedIn config s.site.stripe turn.who turn.moment key end room
      by None offer is = absurd is
      by (Some h) offer is = gives_earned room (subst (GivesHome v refused turn.who) is.1 offer.room)
  taken_earned given needs.Nothing room offers taken = kept_earned room taken
  taken_earned given needs.Same room offers taken = kept_earned room taken
  taken_earned given needs.TooLarge room offers taken = kept_earned room taken

-- without a class for a new version no room is a refusal
pub none_earned : (config : Config) (s : Stripe) (turn : Turn) (key : List ℕ) (sight : Sight) (given : Given) (need : Need) (room : Room) → given.home ≡ None
    → IsTaken given need room → IsEarnedIn config s.site.stripe turn.who turn.moment key sight room
none_earned config s turn key sight given (needs.Fresh class) room none taken = absurd (subst (λ (o : Option Home). IsSomeAnd o (λ h. (h.class ≡ class) × (h.room ≡ room))) none taken.0)
none_earned config s turn key sight given needs.Nothing room none taken = rw taken tt
none_earned config s turn key sight given needs.Same room none taken = rw taken tt
none_earned config s turn key sight given needs.TooLarge room none taken = rw taken tt

-- a class that gives no room is full
not_less : (a b : ℕ) → (a < b → ⊥) → b ≤ a
not_less a b none = grind (arith, none)

pub keeps_full : (config : Config) (sight : Sight) (was v v_new : ClassView) (refused : Option ℕ) (who : Who) (o : Option Home)
    → IfSome o (OffersHome v refused who) → v ≡ with_room was v.room → v_new ≡ with_room v v_new.room
    → (IsFull v.chunks v.history → HasSeenFull config sight v.number) → ((events : ℕ) → v.max_events < length v.history + events → LacksPlaces config sight v.number events)
    → IsSomeAnd o (λ h. h.room ≡ rooms.Keep) → IsStillFull config sight refused was v_new
keeps_full config sight was v v_new refused who None offers readied stay seen short keeps = absurd keeps
keeps_full config sight was v v_new refused who (Some h) offers readied stay seen short keeps =
    let gives = subst (GivesHome v refused who) keeps offers.room in
    let full = not_less (count_of (lists_of v.history)) (chunks_from v.chunks v.history) gives.1 in
    record {
      none = gives.0;
      was_full = subst (λ (x : ClassView). IsFull x.chunks x.history) readied full;
      full = subst (λ (x : ClassView). IsFull x.chunks x.history) (sym stay) full;
      history_is = ap (λ (x : ClassView). x.history) stay ∙ ap (λ (x : ClassView). x.history) readied;
      number_is = ap (λ (x : ClassView). x.number) stay ∙ ap (λ (x : ClassView). x.number) readied;
      seen = subst (λ (x : ClassView). HasSeenFull config sight x.number) (sym stay) (seen full);
      short = λ few. subst (λ (x : ClassView). IsShortFor config x.number sight) (sym stay)
          (any_short config sight (short 1 (let few_was = subst (λ (x : ClassView). x.max_events ≤ length x.history) stay few in omega (arith, few_was))));
    }

-- where the classes that are held suffice no burial is wanted
pub no_burial : (s : Stripe) (command : Command) (moment : ℕ) (home other : Option ClassNo) → Suffice home other s command moment → (link : Link) → WantsAlone s command moment (wants.Burial link) → ⊥
no_burial s command moment home other suffice link wanted = some_none link _ wanted (not_dead (item_of s command) moment suffice.alive)

-- but a place, or a chunk
module _ (config : Config) (s : Stripe) (own_new : StripeSide) (command : Command) (moment : ℕ) (home other : Option ClassNo) (AnyFull : Type 0) (suffice : Suffice home other s command moment) where
  pub wants_place : (want : Want) → MayWant config s own_new command moment home other AnyFull want → (want ≡ wants.Room → ⊥) → LacksEntries config s own_new.sight command moment
  wants_place wants.Room may not = absurd (not refl)
  wants_place (wants.Place class) may not = may
  wants_place (wants.Burial link) may not = absurd (no_burial s command moment home other suffice link may)
  wants_place (wants.Classes classes) may not = absurd (may.1 suffice)

-- ---- a class that lacks places

-- one change at most, in a class that gives no room
changes_one : (class : ClassNo) (room : Room) (fate : Fate) → links_at class (link_of room) ≡ 0 → changes_at class room fate ≤ 1
changes_one class room fates.Untouched none = omega arith
changes_one class room (fates.Renewed cost expiry old) none =
    let b = link_one class old in
    omega (arith, none, b)
changes_one class room (fates.Goes link) none =
    let a = link_one class (Some link) in
    omega (arith, a)
changes_one class room (fates.Woken link) none = omega arith

home_lacks : (v : ClassView) (places changes : ℕ) → LeavesPlaces 2 v places → places < changes → changes ≤ 2 → v.max_events < length v.history + changes
home_lacks v places changes leaves less few =
    let all = leaves.all (omega (arith, less, few)) in
    omega (arith, all, less, few)

other_lacks : (v : ClassView) (places changes : ℕ) → LeavesPlaces 1 v places → places < changes → changes ≤ 1 → v.max_events < length v.history + changes
other_lacks v places changes leaves less few =
    let all = leaves.all (omega (arith, less, few)) in
    omega (arith, all, less, few)

-- a room that is taken is none of another class's
apart_link : (class other : ClassNo) → other ≢ class → (other.0 == class.0) ≡ false
apart_link class other apart = by (other.0 == class.0) refl
  where
    by : (b : Bool) → (other.0 == class.0) ≡ b → (other.0 == class.0) ≡ false
    by false is = is
    by true is =
        let same : other.0 ≡ class.0 = grind (arith, nat_tests) in
        absurd (apart (ap (λ (n : ℕ). record { 0 = n }) same))

link_apart : (class : ClassNo) (v : ClassView) (refused : Option ℕ) (who : Who) (room : Room) → v.number ≢ class → GivesHome v refused who room → links_at class (link_of room) ≡ 0
link_apart class v refused who rooms.Keep apart gives = refl
link_apart class v refused who (rooms.Refused c place) apart gives = refl
link_apart class v refused who (rooms.At link) apart gives =
    ap (λ (b : Bool). if b then 1 else 0) (apart_link class link.class (λ same. apart (sym (ap (λ (l : Link). l.class) gives.0) ∙ same)))

no_link : (class : ClassNo) (room : Room) → room ≡ rooms.Keep → links_at class (link_of room) ≡ 0
no_link class room is = rw is refl

taken_apart : (class : ClassNo) (given : Given) (need : Need) (room : Room)
    → IfSome given.home (λ h. (v : ClassView) × (refused : Option ℕ) × (who : Who) × (v.number ≢ class) × OffersHome v refused who h) → IsTaken given need room
    → links_at class (link_of room) ≡ 0
taken_apart class given (needs.Fresh fresh) room apart taken = by given.home apart taken.0
  where
    by : (o : Option Home) → IfSome o (λ h. (v : ClassView) × (refused : Option ℕ) × (who : Who) × (v.number ≢ class) × OffersHome v refused who h)
        → IsSomeAnd o (λ h. (h.class ≡ fresh) × (h.room ≡ room)) → links_at class (link_of room) ≡ 0
    by None offer is = absurd is
    by (Some h) offer is = link_apart class offer.0 offer.1 offer.2 room offer.3 (subst (GivesHome offer.0 offer.1 offer.2) is.1 offer.4.room)
taken_apart class given needs.Nothing room apart taken = no_link class room taken
taken_apart class given needs.Same room apart taken = no_link class room taken
taken_apart class given needs.TooLarge room apart taken = no_link class room taken

-- a class's history lacks places for so many events, and the class has this number
abbrev LacksIn : ClassView → ClassNo → ℕ → Type 0
LacksIn v class events = (class ≡ v.number) × (v.max_events < length v.history + events)

home_few : (v : ClassView) (refused : Option ℕ) (who : Who) (room : Room) (fate : Fate) (class : ClassNo) (o : Option Home)
    → IfSome o (OffersHome v refused who) → IsSomeAnd o (λ h. (h.class ≡ class) × (h.places < changes_at class room fate)) → LacksIn v class (changes_at class room fate)
home_few v refused who room fate class None offers lacks = absurd lacks
home_few v refused who room fate class (Some h) offers lacks =
    (sym lacks.0 ∙ offers.class_is, home_lacks v h.places (changes_at class room fate) offers.places lacks.1 (changes_two class room fate))

other_few : (w : ClassView) (room : Room) (fate : Fate) (class : ClassNo) (o : Option Other) → links_at w.number (link_of room) ≡ 0 → IfSome o (OffersOther w)
    → IsSomeAnd o (λ e. (e.class ≡ class) × (e.places < changes_at class room fate)) → LacksIn w class (changes_at class room fate)
other_few w room fate class None none offers lacks = absurd lacks
other_few w room fate class (Some e) none offers lacks =
    let at : class ≡ w.number = sym lacks.0 ∙ offers.class_is in
    (at, other_lacks w e.places (changes_at class room fate) offers.places lacks.1 (changes_one class room fate (subst (λ (n : ClassNo). links_at n (link_of room) ≡ 0) (sym at) none)))

-- the room that is taken is of the class that is needed
gives_fits : (v : ClassView) (refused : Option ℕ) (who : Who) (class : ClassNo) (room : Room) → v.number ≡ class → GivesHome v refused who room → IsGiven room → IsRoomOf (needs.Fresh class) room
gives_fits v refused who class rooms.Keep at gives given = given
gives_fits v refused who class (rooms.Refused other place) at gives given = gives.0 ∙ at
gives_fits v refused who class (rooms.At link) at gives given = ap (λ (l : Link). l.class) gives.0 ∙ at

pub taken_fits : (given : Given) (need : Need) (room : Room) → IfSome given.home (λ h. (v : ClassView) × (refused : Option ℕ) × (who : Who) × OffersHome v refused who h)
    → IsTaken given need room → IsRoomOf need room
taken_fits given (needs.Fresh class) room offers taken = by given.home offers taken.0
  where
    by : (o : Option Home) → IfSome o (λ h. (v : ClassView) × (refused : Option ℕ) × (who : Who) × OffersHome v refused who h) → IsSomeAnd o (λ h. (h.class ≡ class) × (h.room ≡ room))
        → IsRoomOf (needs.Fresh class) room
    by None offer is = absurd is
    by (Some h) offer is =
        gives_fits offer.0 offer.1 offer.2 class room (sym offer.3.class_is ∙ is.0) (subst (GivesHome offer.0 offer.1 offer.2) is.1 offer.3.room) taken.1
taken_fits given needs.Nothing room offers taken = taken
taken_fits given needs.Same room offers taken = taken
taken_fits given needs.TooLarge room offers taken = taken

-- what a class lacks, as it was seen, is what the command lacks
pub crowded_lacks : (config : Config) (s : Stripe) (sight : Sight) (made : Command) (moment : ℕ) (given : Given) (class : ClassNo)
    (crowded : IsCrowded given (key_of made) (item_of s made) moment (row_at s made moment) class)
    → IfSome given.home (λ h. (v : ClassView) × (refused : Option ℕ) × (who : Who) × OffersHome v refused who h) → (v : ClassView)
    → LacksIn v class (changes_at class crowded.room (fate_of (key_of made) (item_of s made) ((row_at s made moment).answer crowded.room).change))
    → ((events : ℕ) → v.max_events < length v.history + events → LacksPlaces config sight v.number events) → LacksEntries config s sight made moment
crowded_lacks config s sight made moment given class crowded offers v lacks short =
    let key = key_of made in
    let found = item_of s made in
    let room = crowded.room in
    let visible = sym (visible_alive moment found crowded.alive) in
    let changes = changes_at class room (fate_of key found ((row_at s made moment).answer room).change) in
    let of = subst (λ (n : ClassNo). LacksPlaces config sight n changes) (sym lacks.0) (short changes lacks.1) in
    record {
      class = class;
      room = room;
      fits = subst (λ (o : Option Item). IsRoomOf (row_of s.site (cache_now s).versions o made moment).need room) visible
          (taken_fits given (row_at s made moment).need room offers crowded.taken);
      lacks = subst (λ (o : Option Item). LacksPlaces config sight class (changes_at class room (fate_of key o ((row_of s.site (cache_now s).versions o made moment).answer room).change))) visible of;
    }

module _ (given : Given) (key : List ℕ) (found : Option Item) (moment : ℕ) (row : Row) (class : ClassNo) (crowded : IsCrowded given key found moment row class) where
  abbrev fate : Fate
  fate = fate_of key found (row.answer crowded.room).change

  abbrev Lacks : ClassView → Type 0
  Lacks v = LacksIn v class (changes_at class crowded.room fate)

  -- that of a new version alone is held
  pub crowded_home : (v : ClassView) (refused : Option ℕ) (who : Who) → given.other ≡ None → IfSome given.home (OffersHome v refused who) → Lacks v
  crowded_home v refused who none offers = by crowded.lacks
    where
      by : LacksPlace given crowded.room fate class → Lacks v
      by (inl lacks) = home_few v refused who crowded.room fate class given.home offers lacks
      by (inr lacks) = absurd (subst (λ (o : Option Other). IsSomeAnd o (λ e. (e.class ≡ class) × (e.places < changes_at class crowded.room fate))) none lacks)

  -- that of an item alone
  pub crowded_other : (w : ClassView) → given.home ≡ None → IfSome given.other (OffersOther w) → Lacks w
  crowded_other w none offers = by crowded.lacks
    where
      apart : IfSome given.home (λ h. (v : ClassView) × (refused : Option ℕ) × (who : Who) × (v.number ≢ w.number) × OffersHome v refused who h)
      apart = subst (λ (o : Option Home). IfSome o (λ h. (v : ClassView) × (refused : Option ℕ) × (who : Who) × (v.number ≢ w.number) × OffersHome v refused who h)) (sym none) tt

      by : LacksPlace given crowded.room fate class → Lacks w
      by (inl lacks) = absurd (subst (λ (o : Option Home). IsSomeAnd o (λ e. (e.class ≡ class) × (e.places < changes_at class crowded.room fate))) none lacks)
      by (inr lacks) = other_few w crowded.room fate class given.other (taken_apart w.number given row.need crowded.room apart crowded.taken) offers lacks

  -- both
  pub crowded_both : (v w : ClassView) (refused : Option ℕ) (who : Who) → v.number ≢ w.number → IfSome given.home (OffersHome v refused who) → IfSome given.other (OffersOther w) → Lacks v ⊎ Lacks w
  crowded_both v w refused who far home other = by crowded.lacks
    where
      apart : (o : Option Home) → IfSome o (OffersHome v refused who) → IfSome o (λ h. (v : ClassView) × (refused : Option ℕ) × (who : Who) × (v.number ≢ w.number) × OffersHome v refused who h)
      apart None offers = tt
      apart (Some h) offers = (v, refused, who, far, offers)

      by : LacksPlace given crowded.room fate class → Lacks v ⊎ Lacks w
      by (inl lacks) = inl (home_few v refused who crowded.room fate class given.home home lacks)
      by (inr lacks) = inr (other_few w crowded.room fate class given.other (taken_apart w.number given row.need crowded.room (apart given.home home) crowded.taken) other lacks)

-- ---- what is offered

-- a class that is ready has room for what it offers
pub home_fits : (v : ClassView) (h : Home) (refused : Option ℕ) (who : Who) → IsReady v → OffersHome v refused who h → h.places ≤ v.room
home_fits v h refused who ready offers = ready h.places offers.places.few offers.places.fits

pub other_fits : (w : ClassView) (o : Other) → IsReady w → OffersOther w o → o.places ≤ w.room
other_fits w o ready offers =
    let few = offers.places.few in
    ready o.places (omega (arith, few)) offers.places.fits

-- a refusal that is known stands in its class's history
pub noted_of : (config : Config) (s : Stripe) (turn : Turn) (key : List ℕ) (v : ClassView) (refused : Option ℕ) → IsRefusedAt config s turn key v refused → IsNoted refused turn.who v
noted_of config s turn key v None at = tt
noted_of config s turn key v (Some place) at = subst (λ (p : ℕ). slice_get v.history p ≡ Some (refused_event turn.who)) (sym at.place_is) (at_place v.history at.before (refused_event turn.who) at.refused)

-- a class that the stripe has met and that then made room for events is as it was
pub readied : (was met side : ClassSide) → met ≡ record was { sight = met.sight } → side ≡ record met { class = with_room met.class side.class.room }
    → side ≡ record was { class = with_room was.class side.class.room; sight = met.sight }
readied was met side lent same = same ∙ ap (λ (x : ClassSide). record x { class = with_room x.class side.class.room }) lent

-- a class that the stripe has met, and that made room for events
module _ (table : TableId) (config : Config) (was side : ClassSide) (sight : Sight) (room : ℕ) (is : side ≡ record was { class = with_room was.class room; sight = sight }) where
  pub readied_class : side.class ≡ with_room was.class side.class.room
  readied_class = ap (λ (x : ClassSide). x.class) is ∙ ap (λ (n : ℕ). with_room was.class n) (sym (ap (λ (x : ClassSide). x.class.room) is))

  pub same_number : side.class.number ≡ was.class.number
  same_number = ap (λ (x : ClassSide). x.class.number) is

  told_side : (mid : Sight) → list_at mid.seen was.lock ≡ class_told was.class.history → list_at mid.seen side.lock ≡ class_told side.class.history
  told_side mid told = subst (λ (x : ClassSide). list_at mid.seen x.lock ≡ class_told x.class.history) (sym is) told

  -- it was seen to lack places, and to be full
  pub short_seen : (mid end : Sight) → IsLockedClass table config side → list_at mid.seen was.lock ≡ class_told was.class.history → Grows mid end
      → (events : ℕ) → side.class.max_events < length side.class.history + events → LacksPlaces config end side.class.number events
  short_seen mid end kept told more events few = lacks_grows config mid end more (short_class table config side mid events kept.held (told_side mid told) few)

  pub full_seen : (mid end : Sight) → IsLockedClass table config side → list_at mid.seen was.lock ≡ class_told was.class.history → Grows mid end
      → IsFull side.class.chunks side.class.history → HasSeenFull config end side.class.number
  full_seen mid end kept told more full = seen_full_grows config mid end more (full_class table config side mid kept.held (told_side mid told) full)

  -- and its history is what the stripe has seen of it
  pub heard_of : (mid : Sight) → classes_seen config.stripes (list_at mid.seen) was.class.number ≡ was.class.history → classes_seen config.stripes (list_at mid.seen) side.class.number ≡ side.class.history
  heard_of mid heard = subst (λ (x : ClassSide). classes_seen config.stripes (list_at mid.seen) x.class.number ≡ x.class.history) (sym is) heard

  pub refused_of : (s : Stripe) (turn : Turn) (key : List ℕ) (refused : Option ℕ) → IsRefusedAt config s turn key was.class refused → IsRefusedAt config s turn key side.class refused
  refused_of s turn key refused at = subst (λ (x : ClassSide). IsRefusedAt config s turn key x.class refused) (sym is) at

-- ---- what is left to do

-- a class that is full and has no place for its refusal is short, as the stripe has seen
pub refuse_short : (config : Config) (sight : Sight) (v v_new : ClassView) → (v.max_events ≤ length v.history → IsShortFor config v.number sight)
    → v_new ≡ with_room v v_new.room → v_new.max_events ≤ length v_new.history → IsShortFor config v.number sight
refuse_short config sight v v_new short same full =
    let limit : v_new.max_events ≡ v.max_events = ap (λ (x : ClassView). x.max_events) same in
    let long : length v_new.history ≡ length v.history = ap (λ (x : ClassView). length x.history) same in
    short (omega (arith, limit, long, full))

-- a refusal that is noted now was earned, where a chunk was looked for in vain
pub earned_now : (config : Config) (number : StripeNo) (turn : Turn) (key : List ℕ) (v v_new : ClassView) (place : ℕ) → Makes v v_new (refused_event turn.who)
    → place ≡ length v.history → HasGivenUp config number v.number turn.who turn.moment key v.history
    → IsEarnedAt config number v_new.number turn.who turn.moment key place v_new.history
earned_now config number turn key v v_new place makes at given_up =
    subst (λ (n : ClassNo). IsEarnedAt config number n turn.who turn.moment key place v_new.history) (sym (ap (λ (x : ClassView). x.number) makes)) (record {
      before = v.history;
      refused = record { later = []; is = ap (λ (x : ClassView). x.history) makes };
      place_is = at;
      searched = given_up;
    })

-- a command that was made on its stripe alone
pub made_alone : (config : Config) (own own_new : StripeSide) (caller caller_new : CallerView) (made : Command) (turn : Turn) (replied : Replied)
    → IsMadeBy config own own_new caller caller_new made turn nothing replied → IsMadeIn config own own_new caller caller_new made turn replied
made_alone config own own_new caller caller_new made turn replied by = record {
  alive = by.uses.alive;
  room = by.room;
  made_is = by.made_is;
  noted = by.noted;
  earned = none_earned config own.stripe turn (key_of made) own_new.sight nothing (row_at own.stripe made turn.moment).need by.room refl by.uses.taken;
}
