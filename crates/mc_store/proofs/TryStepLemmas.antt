-- One try of a command under locks, as a step that made it or made nothing.
use Rattle.std.proofs.Common.{◌≡◌, ℕ, List, [], ◌∷◌, true, false, Result, Ok, Err, refl, sym, ap, ◌∙◌, subst, inl, inr}
use Rattle.std.specs.Prelude.{Option, Some, None, IfOk, IfSome, IsSomeAnd, OnErr, OnOk}
use Rattle.mc_item.specs.Command.{key_of}
use Rattle.mc_item.specs.declared.{answer.Need.Need, command.Command.Command, config.Config.Config, fault.Fault.Fault}
use Rattle.mc_item.specs.declared.{fault.Fault.TheVariants.NoMemory, item.ClassNo.ClassNo, item.Link.Link, item.Who.Who, reply.Room.Room}
use Rattle.mc_item.specs.declared.answer.Need.TheVariants as needs
use Rattle.mc_item.specs.declared.reply.Room.TheVariants as rooms
use Rattle.mc_segment.specs.ClassState.{ClassView, with_room}
use Rattle.mc_stripe.specs.{Plan.Wakes, Plan.fate_of, Plan.woken_of, StripeCalls.KeepsSite, StripeState.Stripe, StripeState.cache_now, Trying.item_of, Wanting.IsTaken}
use Rattle.mc_stripe.proofs.WakeLemmas.{told_just_woken}
use Rattle.mc_stripe.specs.declared.{fate.Fate.Fate, wanting.Given.Given, wanting.Home.Home, trying.Turn.Turn}
use Rattle.mc_pull.specs.declared.{attempting.Tried.Tried, attempting.Tried.TheVariants.Made, attempting.Tried.TheVariants.Wants}
use Rattle.mc_pull.specs.{Agreeing.KeepsAgreements, Attempt.GivesHome, Attempt.IsAny, Attempt.IsOffered, Attempt.IsTriedBy, Attempt.OffersHome, Perform.Call}
use Rattle.mc_pull.specs.{Perform.answer_to, Perform.call, Performed.IsPerformed, Performed.IsUntouched, Sight.KeepsSights}
use Rattle.mc_pull.proofs.PerformedLemmas.{untouched_kept, untouched_seen}
use Rattle.mc_store.proofs.LentClassLemmas.{IsOneOf, IsRefusedIn}
use Rattle.mc_store.specs.{Passes.CallerView, Sides.ClassSide, Sides.StripeSide, Trying.IsTriedUnder}
use Rattle.mc_store.specs.Trying.{Stay, StillTries, is_made, noted_on}

-- what a try came to, where only that it made its command is asked
abbrev pub result_of : Result Tried Fault → Result (Unit {0}) Fault
result_of (Ok (Made replied)) = Ok tt
result_of (Ok (Wants want)) = Err NoMemory
result_of (Err fault) = Err fault

pub when : (P : Type 0) (t : Result Tried Fault) → (is_made t ≡ true → P) → OnOk (result_of t) P
when P (Ok (Made replied)) there = there refl
when P (Ok (Wants want)) there = tt
when P (Err fault) there = tt

pub unless : (P : Type 0) (t : Result Tried Fault) → (is_made t ≡ false → P) → OnErr (result_of t) P
unless P (Ok (Made replied)) there = tt
unless P (Ok (Wants want)) there = there refl
unless P (Err fault) there = there refl

-- a class that stayed, as it was handed in and as it is at the return
pub stay_of : (new w raw was : ClassView) → new ≡ w → w ≡ with_room raw w.room → raw ≡ was → new ≡ with_room was new.room
stay_of new w raw was told kept of = told ∙ (kept ∙ (ap (λ (v : ClassView). with_room v w.room) of ∙ ap (λ (n : ℕ). with_room was n) (sym (ap (λ (v : ClassView). v.room) told))))

-- a room that is taken is refused by one of the classes that offer it
module _ (given : Given) (refused : Option ℕ) (who : Who) (vs : List ClassView) (offered : IsOffered given refused who vs) where
  one_of : (class : ClassNo) (place : ℕ) (h : Home) (ws : List ClassView) → IsAny (λ v. OffersHome v refused who h) ws → h.room ≡ rooms.Refused class place → IsOneOf class ws
  one_of class place h [] any is = absurd any
  one_of class place h (v ∷ ws) (inl offers) is = inl (subst (GivesHome v refused who) is offers.room).0
  one_of class place h (v ∷ ws) (inr later) is = inr (one_of class place h ws later is)

  refused_home : (class : ClassNo) (place : ℕ) (o : Option Home) → IfSome o (λ h. IsAny (λ v. OffersHome v refused who h) vs) → (of : ClassNo)
      → IsSomeAnd o (λ h. (h.class ≡ of) × (h.room ≡ rooms.Refused class place)) → IsOneOf class vs
  refused_home class place None offers of is = absurd is
  refused_home class place (Some h) offers of is = one_of class place h vs offers is.1

  kept_room : (room : Room) → room ≡ rooms.Keep → IsRefusedIn room vs
  kept_room room is = rw is tt

  pub taken_refused : (need : Need) (room : Room) → IsTaken given need room → IsRefusedIn room vs
  taken_refused (needs.Fresh of) (rooms.Refused class place) taken = refused_home class place given.home offered.home of taken.0
  taken_refused (needs.Fresh of) (rooms.At link) taken = tt
  taken_refused (needs.Fresh of) rooms.Keep taken = tt
  taken_refused needs.Nothing room taken = kept_room room taken
  taken_refused needs.Same room taken = kept_room room taken
  taken_refused needs.TooLarge room taken = kept_room room taken

module _ (config : Config) (s s_new : Stripe) (made : Command) (turn : Turn) (given : Given) (vs ws : List ClassView) where
  abbrev TriedBy : Result Tried Fault → Type 0
  TriedBy t = IfOk t (IsTriedBy config s s_new made turn given vs ws)

  -- the room that a try took
  abbrev pub room_at : (t : Result Tried Fault) → TriedBy t → Room
  room_at (Ok (Made replied)) tried = tried.room
  room_at (Ok (Wants want)) tried = rooms.Keep
  room_at (Err fault) tried = rooms.Keep

  abbrev pub call_at : (t : Result Tried Fault) → TriedBy t → Call
  call_at t tried = call turn.who made turn.moment (room_at t tried)

  pub performed_at : (t : Result Tried Fault) (tried : TriedBy t) → OnOk (result_of t) (IsPerformed s s_new (call_at t tried) vs ws)
  performed_at (Ok (Made replied)) tried = tried.performed
  performed_at (Ok (Wants want)) tried = tt
  performed_at (Err fault) tried = tt

  pub untouched_at : (t : Result Tried Fault) → TriedBy t → OnErr t (IsUntouched s s_new vs ws) → OnErr (result_of t) (IsUntouched s s_new vs ws)
  untouched_at (Ok (Made replied)) tried err = tt
  untouched_at (Ok (Wants want)) tried err = tried.0
  untouched_at (Err fault) tried err = err

  pub kept_at : KeepsSite s s_new → (t : Result Tried Fault) (tried : TriedBy t) → OnErr t (IsUntouched s s_new vs ws) → KeepsAgreements (call_at t tried) s s_new vs ws
  kept_at site (Ok (Made replied)) tried err = tried.agreement
  kept_at site (Ok (Wants want)) tried err = untouched_kept config s s_new (call turn.who made turn.moment rooms.Keep) vs ws site tried.0
  kept_at site (Err fault) tried err = untouched_kept config s s_new (call turn.who made turn.moment rooms.Keep) vs ws site err

  pub seen_at : KeepsSite s s_new → (t : Result Tried Fault) (tried : TriedBy t) → OnErr t (IsUntouched s s_new vs ws) → KeepsSights (call_at t tried) s s_new vs ws
  seen_at site (Ok (Made replied)) tried err = tried.sight
  seen_at site (Ok (Wants want)) tried err = untouched_seen config s s_new (call turn.who made turn.moment rooms.Keep) vs ws site tried.0
  seen_at site (Err fault) tried err = untouched_seen config s s_new (call turn.who made turn.moment rooms.Keep) vs ws site err

  pub refused_at : (refused : Option ℕ) → IsOffered given refused turn.who vs → (t : Result Tried Fault) (tried : TriedBy t) → IsRefusedIn (room_at t tried) vs
  refused_at refused offered (Ok (Made replied)) tried = taken_refused given refused turn.who vs offered _ tried.room tried.uses.taken
  refused_at refused offered (Ok (Wants want)) tried = tt
  refused_at refused offered (Err fault) tried = tt

  -- what its fate tells to be woken, the command made ACTIVE
  woken_at : (room : Room) (fate : Fate) → fate ≡ fate_of (key_of made) (item_of s made) (answer_to s (call turn.who made turn.moment room)).change
      → (woken : Option Link) → woken ≡ woken_of fate → IfSome woken (Wakes (item_of s made) (answer_to s (call turn.who made turn.moment room)).change)
  woken_at room fate is None told = tt
  woken_at room fate is (Some link) told = (told_just_woken s.site (cache_now s).versions (item_of s made) made turn.moment room fate link is).0 (sym told)

-- what a try came to under the locks
module _ (config : Config) (own own_new : StripeSide) (made : Command) (turn : Turn) (given : Given) (vs ws : List ClassView) (caller caller_new : CallerView) (cs ds : List ClassSide) where
  pub under_tried : (t : Result Tried Fault) → IfOk t (IsTriedBy config own.stripe own_new.stripe made turn given vs ws)
      → (is_made t ≡ true → StillTries config turn own own_new (noted_on own.stripe caller) caller_new) → (is_made t ≡ false → StillTries config turn own own_new caller caller_new)
      → (IsUntouched own.stripe own_new.stripe vs ws → Stay cs ds) → IfOk t (IsTriedUnder config own own_new caller caller_new made turn given cs ds)
  under_tried (Ok (Made replied)) tried noted unnoted stay = record {
    room = tried.room;
    fate = tried.fate;
    uses = tried.uses;
    made_is = record {
      reply_is = tried.reply_is;
      woken = woken_at config own.stripe own_new.stripe made turn given vs ws tried.room tried.fate tried.uses.fate_is replied.woken tried.woken_is;
      history_is = tried.performed.stripe;
    };
    noted = noted refl;
  }
  under_tried (Ok (Wants want)) tried noted unnoted stay = (tried.0.stripe, unnoted refl, stay tried.0, tried.1)
  under_tried (Err fault) tried noted unnoted stay = tt
