-- A try of a command whose stripe and classes are out of their locks: what the locks keep behind it.
use Rattle.std.proofs.Common.{◌≡◌, ◌≢◌, ◌≤◌, ◌<◌, ◌++◌, ◌∷◌, [], ℕ, List, Bool, true, false, Result, Ok, Err, drop, length, refl, sym, ap, ◌∙◌, subst, arith}
use Rattle.std.specs.Prelude.{IfOk, OnErr, OnOk}
use mathlib.Core.List.{IsPrefix}
use Rattle.atomic_table.specs.Seated.{TableId}
use Rattle.mc_item.specs.Stripe.{IsLegal}
use Rattle.mc_item.specs.declared.{answer.Site.Site, command.Command.Command, config.Config.Config, fault.Fault.Fault, fault.Fault.TheVariants.HistoryFull}
use Rattle.mc_item.specs.declared.stripe_event.StripeEvent.{StripeEvent}
use Rattle.mc_rule.specs.Lawful.{IsLawfulHistoryByLists}
use Rattle.mc_board.specs.{Accounts.AreBy, Histories.Grows, Histories.list_at, Histories.with_seen, Views.OwnerView, Views.SeenView}
use Rattle.mc_board.specs.declared.rule.Sight.{Sight}
use Rattle.mc_board.proofs.PrefixLemmas.{prefix_self}
use Rattle.mc_segment.specs.ClassState.{ClassView, with_room}
use Rattle.mc_stripe.specs.{StripeCalls.KeepsSite, StripeState.Stripe}
use Rattle.mc_stripe.specs.declared.{wanting.Given.Given, trying.Turn.Turn}
use Rattle.mc_pull.specs.declared.attempting.Tried.{Tried}
use Rattle.mc_pull.specs.{Agreeing.AgreeNow, Agreeing.KeepsAgreements, Attempt.IsTriedBy, Attempt.MayTryOn, Lent.EachPair, Perform.Call}
use Rattle.mc_pull.specs.{Performed.IsPerformed, Performed.IsUntouched, Performed.ClassStays, Sight.BacksStill, Sight.KeepsSights, Sight.SuitsStill}
use Rattle.mc_pull.specs.Growth as classes
use Rattle.mc_pull.specs.Question as made
use Rattle.mc_store.specs.{Callers.AreCalled, Callers.answered_at, Callers.asked_for, Callers.calls_told, Passes.CallerView, Passes.HasAsked, Passes.HasCalled}
use Rattle.mc_store.specs.Locked.{HasBegunAs, IsHeldClass, IsLockedClass, IsLockedStripe, caller_place, locks_for}
use Rattle.mc_store.specs.{Accounts.FollowsItem, Accounts.IsClassLock, Accounts.IsOfTry, Serving.class_side, Sides.ClassSide, Sides.StripeSide, Sides.class_told, Sides.stripe_sight}
use Rattle.mc_store.specs.{Sides.stripe_told, Trying.IsTriedUnder, Trying.Stay, Trying.StillTries, Trying.is_made, Trying.noted_on}
use Rattle.mc_board.specs.Accounts.{with_new}
use Rattle.mc_item.specs.declared.class_event.ClassEvent.{ClassEvent}
use Rattle.mc_board.proofs.{PrefixLemmas.prefix_trans, SeenLemmas.list_at_same}
use Rattle.mc_store.proofs.AccountLemmas.{grows_itself, still_both, still_same, whole_grows}
use Rattle.mc_store.proofs.EnteredLemmas.{GainsAll, all_from, class_entered, following_performed, has_beside, is_class_lock, lock_apart, noted_still, stripe_entered, told_has, tries_asked}
use Rattle.mc_store.proofs.{SeenStripeLemmas.on_err_both, SeenStripeLemmas.on_err_more, CallerLemmas.called_performed, LentClassLemmas.IsRefusedIn, LentClassLemmas.lent_grow, LentClassLemmas.own_behind}
use Rattle.mc_store.proofs.OwnCallLemmas.{class_own_by, stripe_performed_by}
use Rattle.mc_store.proofs.OwnEventLemmas.{GainsFit, gains_performed}
use Rattle.mc_store.proofs.{OwnEventLemmas.locked_told, OwnEventLemmas.noted_called, LockKeepsLemmas.grows_trans, LockKeepsLemmas.seen_on, LockKeepsLemmas.stripe_sees}
use Rattle.mc_store.proofs.SyncedLemmas.{lent_more, lent_said, own_more, own_said, stripe_side}
use Rattle.mc_store.proofs.SyncedCommandLemmas.{alone_end, class_end, one_end, two_end}
use Rattle.mc_store.proofs.TryStepLemmas.{call_at, kept_at, performed_at, refused_at, result_of, seen_at, stay_of, under_tried, unless, untouched_at, when}

-- ---- out of the locks

-- a stripe out of its lock, its tokens apart from it: what the lock kept, what lay in it, and what was handed in
pub record IsOpenStripe (table : TableId) (config : Config) (owner : OwnerView) (seen : SeenView) (s : Stripe) (side own : StripeSide) : Type 0 where
  pub kept : IsLockedStripe table config (stripe_side owner seen s)
  pub side_is : stripe_side owner seen s ≡ side
  pub is : stripe_side owner seen s ≡ own

pub open_stripe : (table : TableId) (config : Config) (owner : OwnerView) (seen : SeenView) (s : Stripe) (side own : StripeSide) → stripe_side owner seen s ≡ side → IsLockedStripe table config side → side ≡ own
    → IsOpenStripe table config owner seen s side own
open_stripe table config owner seen s side own is kept view = record { kept = subst (IsLockedStripe table config) (sym is) kept; side_is = is; is = is ∙ view }

-- the same of a class
pub record IsOpenClass (table : TableId) (config : Config) (owner : OwnerView) (seen : SeenView) (v : ClassView) (class : ClassSide) : Type 0 where
  pub kept : IsLockedClass table config (class_side owner seen v)
  pub is : class_side owner seen v ≡ class

pub open_class : (table : TableId) (config : Config) (owner : OwnerView) (seen : SeenView) (v : ClassView) (side class : ClassSide) → class_side owner seen v ≡ side → IsLockedClass table config side → side ≡ class
    → IsOpenClass table config owner seen v class
open_class table config owner seen v side class is kept view = record { kept = subst (IsLockedClass table config) (sym is) kept; is = is ∙ view }

-- ---- the try

-- a command was tried on an open stripe and classes: it was made on them, or nothing was
pub record IsStep (table : TableId) (config : Config) (command : Command) (turn : Turn) (given : Given) (owner : OwnerView) (seen : SeenView) (s s_new : Stripe)
    (vs ws : List ClassView) (t : Result Tried Fault) : Type 0 where
  pub kept : IsLockedStripe table config (stripe_side owner seen s)
  pub may : MayTryOn s vs command turn given
  pub tried : IfOk t (IsTriedBy config s s_new command turn given vs ws)
  pub err : OnErr t (IsUntouched s s_new vs ws)
  pub site : KeepsSite s s_new

module _ {table : TableId} {config : Config} {owner : OwnerView} {seen : SeenView} {s : Stripe} {side own : StripeSide} (opened : IsOpenStripe table config owner seen s side own)
    {command : Command} {turn : Turn} {given : Given} {s_new : Stripe} (t : Result Tried Fault) (site : KeepsSite s s_new) where
  pub step_on : (vs ws : List ClassView) → MayTryOn own.stripe vs command turn given → (made.IsStripeOf config s → IfOk t (IsTriedBy config s s_new command turn given vs ws)) → OnErr t (IsUntouched s s_new vs ws)
      → IsStep table config command turn given owner seen s s_new vs ws t
  step_on vs ws may tried err = record {
    kept = opened.kept;
    may = subst (λ (x : StripeSide). MayTryOn x.stripe vs command turn given) (sym opened.is) may;
    tried = tried opened.kept.made_with;
    err = err;
    site = site;
  }

  module _ {owner_of : OwnerView} {seen_of : SeenView} {v : ClassView} {class : ClassSide} (open_of : IsOpenClass table config owner_of seen_of v class) (w : ClassView) where
    pub step_one : MayTryOn own.stripe (class.class ∷ []) command turn given → ((c : Config) → made.IsStripeOf c s → made.IsClassOf c v → IfOk t (IsTriedBy c s s_new command turn given (v ∷ []) (w ∷ [])))
        → OnErr t (IsUntouched s s_new (v ∷ []) (w ∷ [])) → IsStep table config command turn given owner seen s s_new (v ∷ []) (w ∷ []) t
    step_one may tried err =
        step_on (v ∷ []) (w ∷ []) (subst (λ (x : ClassSide). MayTryOn own.stripe (x.class ∷ []) command turn given) (sym open_of.is) may) (λ is. tried config is open_of.kept.held.made_with) err

    pub step_two : {owner_b : OwnerView} {seen_b : SeenView} {v_b : ClassView} {beside : ClassSide}
        (open_b : IsOpenClass table config owner_b seen_b v_b beside) (w_b : ClassView)
        → MayTryOn own.stripe (class.class ∷ beside.class ∷ []) command turn given
        → ((c : Config) → made.IsStripeOf c s → made.IsClassOf c v → made.IsClassOf c v_b → IfOk t (IsTriedBy c s s_new command turn given (v ∷ v_b ∷ []) (w ∷ w_b ∷ [])))
        → OnErr t (IsUntouched s s_new (v ∷ v_b ∷ []) (w ∷ w_b ∷ [])) → IsStep table config command turn given owner seen s s_new (v ∷ v_b ∷ []) (w ∷ w_b ∷ []) t
    step_two {v_b = v_b} {beside = beside} open_b w_b may tried err =
        step_on (v ∷ v_b ∷ []) (w ∷ w_b ∷ [])
        (subst (λ (x : ClassSide). MayTryOn own.stripe (x.class ∷ v_b ∷ []) command turn given) (sym open_of.is)
        (subst (λ (x : ClassSide). MayTryOn own.stripe (class.class ∷ x.class ∷ []) command turn given) (sym open_b.is) may))
        (λ is. tried config is open_of.kept.held.made_with open_b.kept.held.made_with) err

-- a class that was lent, before the try and behind it
pub record IsLent (table : TableId) (config : Config) (command : Command) (turn : Turn) (s s_new : Stripe) (owner : OwnerView) (seen : SeenView) (v w : ClassView) : Type 0 where
  pub kept : IsLockedClass table config (class_side owner seen v)
  pub grows : classes.GainsEvents v w
  pub gains : GainsFit turn.who turn.moment command v.history w.history
  pub follows : GainsAll FollowsItem v.history w.history
  pub agrees : AgreeNow w s_new
  pub backs : BacksStill s.site v w
  pub suits : SuitsStill s.site v w

-- what the board lacks of it is of the call
pub class_by : {table : TableId} {config : Config} {command : Command} {turn : Turn} {s s_new : Stripe} {owner : OwnerView} {seen : SeenView} {v w : ClassView}
    → IsLent table config command turn s s_new owner seen v w → owner.history ≡ class_told v.history → AreBy turn.who (drop (length owner.history) (class_told w.history))
class_by {turn = turn} {owner = owner} {v = v} {w = w} lent told = class_own_by turn.who turn.moment owner.history v.history w.history told lent.gains.0

-- ---- what is left

-- a stripe by its parts, once it has seen so much
abbrev pub left_side : OwnerView → Stripe → Sight → StripeSide
left_side owner s sight = record { board = owner.board; lock = owner.lock; stripe = s; sight = sight }

-- the stripe as it is left, once it has seen so much
pub record IsLeft (owner : OwnerView) (s_new : Stripe) (noting : Sight) (own : StripeSide) (sight : Sight) : Type 0 where
  pub is : own ≡ left_side owner s_new sight
  pub more : Grows noting sight

-- the board has its events
pub left_first : {owner owner_new : OwnerView} {s_new : Stripe} (noting : Sight) → owner_new ≡ record owner { history = stripe_told s_new.history }
    → IsLeft owner s_new noting (record { board = owner_new.board; lock = owner_new.lock; stripe = s_new; sight = noting }) noting
left_first {s_new = s_new} noting caught = record {
  is = ap (λ (o : OwnerView). record { board = o.board; lock = o.lock; stripe = s_new; sight = noting }) caught;
  more = record { at = λ lock. prefix_self (list_at noting.seen lock) };
}

-- a class tells it its history
pub left_told : {table : TableId} {config : Config} {command : Command} {turn : Turn} {owner owner_of owner_told : OwnerView} {seen_of : SeenView}
    {s s_new : Stripe} {v w : ClassView} {noting sight : Sight} {own own_new : StripeSide}
    → IsLeft owner s_new noting own sight → IsLent table config command turn s s_new owner_of seen_of v w → owner_told ≡ record owner_of { history = class_told w.history }
    → own_new ≡ record own { sight = with_seen own.sight owner_told.lock (class_told w.history) } → Grows own.sight own_new.sight
    → IsLeft owner s_new noting own_new (with_seen sight owner_of.lock (class_told w.history))
left_told {owner = owner} {owner_of = owner_of} {owner_told = owner_told} {seen_of = seen_of} {s_new = s_new} {v = v} {w = w} {noting = noting} {sight = sight} {own = own} {own_new = own_new} left lent caught told more =
    let before = left_side owner s_new sight in
    let was = class_side owner_of seen_of v in
    let told_by = class_side owner_told seen_of w in
    let told_is : told_by ≡ class_side owner_of seen_of w = ap (λ (o : OwnerView). class_side o seen_of w) caught in
    record {
      is = own_said before own own_new s_new was told_by w left.is told_is told;
      more = grows_trans noting sight (with_seen sight owner_of.lock (class_told w.history)) left.more (own_more before own own_new s_new was told_by w left.is told_is told more);
    }

-- and sees more of it
pub left_more : {table : TableId} {config : Config} {command : Command} {turn : Turn} {owner owner_of owner_told : OwnerView} {seen_of : SeenView}
    {s s_new : Stripe} {v w : ClassView} {noting sight : Sight} {own own_new : StripeSide}
    → IsLeft owner s_new noting own sight → IsLent table config command turn s s_new owner_of seen_of v w → owner_told ≡ record owner_of { history = class_told w.history }
    → own_new ≡ record own { sight = with_seen own.sight owner_told.lock (class_told w.history) } → Grows own.sight own_new.sight
    → Grows sight (with_seen sight owner_of.lock (class_told w.history))
left_more {owner = owner} {owner_of = owner_of} {owner_told = owner_told} {seen_of = seen_of} {s_new = s_new} {v = v} {w = w} {sight = sight} {own = own} {own_new = own_new} left lent caught told more =
    own_more (left_side owner s_new sight) own own_new s_new (class_side owner_of seen_of v) (class_side owner_told seen_of w) w left.is
    (ap (λ (o : OwnerView). class_side o seen_of w) caught) told more

-- a class that told its history was seen, also when more is
pub told_later : (sight end : Sight) (lock : ℕ) (history : List ClassEvent) → Grows (with_seen sight lock (class_told history)) end → IsPrefix (class_told history) (list_at end.seen lock)
told_later sight end lock history grows =
    prefix_trans (class_told history) (list_at (with_seen sight lock (class_told history)).seen lock) (list_at end.seen lock) (told_has sight lock (class_told history)) (grows.at lock)

-- nothing happens to it
pub left_same : {owner : OwnerView} {s_new : Stripe} {noting sight : Sight} {own own_new : StripeSide} → IsLeft owner s_new noting own sight → own_new ≡ own → IsLeft owner s_new noting own_new sight
left_same left same = record { is = same ∙ left.is; more = left.more }

-- the caller has entered the command's events, and noted where it was answered, if it was, and this has seen so; the stripe sees
-- the events by this sight
pub record IsKnown (config : Config) (command : Command) (turn : Turn) (owner : OwnerView) (seen : SeenView) (s s_new : Stripe) (t : Result Tried Fault)
    (noting sight : Sight) (caller caller_new : CallerView) : Type 0 where
  pub more : Grows seen.sight noting
  pub called : AreCalled (locks_for config) config.callers s_new.site.stripe s_new.history (list_at noting.seen)
  pub begun : HasCalled caller_new turn.who turn.moment (asked_for command turn.moment)
  pub noted : is_made t ≡ true → StillTries config turn (stripe_side owner seen s) (left_side owner s_new sight) (noted_on s caller) caller_new
  pub unnoted : is_made t ≡ false → StillTries config turn (stripe_side owner seen s) (left_side owner s_new sight) caller caller_new

module _ {table : TableId} {config : Config} {command : Command} {turn : Turn} {given : Given} {owner : OwnerView} {seen : SeenView} {s s_new : Stripe} {vs ws : List ClassView} {t : Result Tried Fault}
    (step : IsStep table config command turn given owner seen s s_new vs ws t) where
  abbrev call_in : Call
  call_in = call_at config s s_new command turn given vs ws t step.tried

  made_in : OnOk (result_of t) (IsPerformed s s_new call_in vs ws)
  made_in = performed_at config s s_new command turn given vs ws t step.tried

  none_in : OnErr (result_of t) (IsUntouched s s_new vs ws)
  none_in = untouched_at config s s_new command turn given vs ws t step.tried step.err

  kept_in : KeepsAgreements call_in s s_new vs ws
  kept_in = kept_at config s s_new command turn given vs ws step.site t step.tried step.err

  seen_in : KeepsSights call_in s s_new vs ws
  seen_in = seen_at config s s_new command turn given vs ws step.site t step.tried step.err

  refused_in : IsRefusedIn call_in.room vs
  refused_in = refused_at config s s_new command turn given vs ws step.may.refused step.may.offered t step.tried

  follow_in : EachPair (λ v w. GainsAll FollowsItem v.history w.history) vs ws
  follow_in = following_performed s s_new call_in vs ws (result_of t) made_in none_in

  gain_in : EachPair (λ v w. GainsFit turn.who turn.moment command v.history w.history) vs ws
  gain_in = gains_performed s s_new call_in vs ws (result_of t) made_in none_in

  -- the classes have only grown
  pub grow_in : EachPair (λ v w. classes.GainsEvents v w) vs ws
  grow_in = lent_grow s s_new call_in vs ws (result_of t) made_in none_in

  -- and so has the stripe, of which the board may lack the last events
  pub stripe_lacks : owner.history ≡ stripe_told s.history → IsPrefix owner.history (stripe_told s_new.history)
  stripe_lacks told = own_behind s s_new call_in vs ws owner.history told (result_of t) made_in none_in

  -- which are of the call
  pub stripe_by : owner.history ≡ stripe_told s.history → AreBy turn.who (drop (length owner.history) (stripe_told s_new.history))
  stripe_by told = stripe_performed_by s s_new call_in vs ws owner.history told (result_of t) made_in none_in

  -- all that the stripe saw before it sees then, with its own history
  sights_grow : {noting sight : Sight} {own_new : StripeSide} → Grows seen.sight noting → IsLeft owner s_new noting own_new sight
      → Grows (stripe_sight (stripe_side owner seen s)) (stripe_sight (left_side owner s_new sight))
  sights_grow {noting = noting} {sight = sight} noted left =
      whole_grows owner.lock (stripe_told s.history) (stripe_told s_new.history) (own_behind s s_new call_in vs ws (stripe_told s.history) refl (result_of t) made_in none_in)
      (grows_trans seen.sight noting sight noted left.more)

  -- its caller entered the stripe's events
  pub entered_stripe : {noting sight : Sight} {own_new : StripeSide} {caller mid : CallerView} → Grows seen.sight noting → IsLeft owner s_new noting own_new sight → (from : ℕ)
      → mid ≡ record caller { made = with_new caller.made turn.who.turn owner.lock from (length s_new.history) } → StillTries config turn (stripe_side owner seen s) (left_side owner s_new sight) caller mid
  entered_stripe {sight = sight} {caller = caller} {mid = mid} noted left from is =
      stripe_entered config s.site.stripe turn.who.turn caller mid owner.lock from s_new.history is step.kept.lock_is (sights_grow noted left)
      (list_at_same sight.seen owner.lock (stripe_told s_new.history))

  -- and then those of a class, whose history it was told
  pub entered_class : {owner_of : OwnerView} {seen_of : SeenView} {v w : ClassView} {noting sight : Sight} {own_new : StripeSide} {caller mid last : CallerView}
      → IsLent table config command turn s s_new owner_of seen_of v w → IsLeft owner s_new noting own_new sight → owner_of.history ≡ class_told v.history
      → IsPrefix (class_told w.history) (list_at sight.seen owner_of.lock)
      → StillTries config turn (stripe_side owner seen s) (left_side owner s_new sight) caller mid
      → last ≡ record mid { made = with_new mid.made turn.who.turn owner_of.lock (length owner_of.history) (length w.history) }
      → StillTries config turn (stripe_side owner seen s) (left_side owner s_new sight) caller last
  entered_class {owner_of = owner_of} {v = v} {w = w} {sight = sight} {caller = caller} {mid = mid} {last = last} lent left told has still is =
      let number = s.site.stripe in
      let of = subst (IsClassLock config) (sym lent.kept.held.lock_is) (is_class_lock config v.number lent.kept.held.is) in
      still_both (IsOfTry config number) turn.who.turn caller mid last still
      (class_entered config number turn.who.turn mid last owner_of.lock (length owner_of.history) w.history is of (grows_itself (stripe_sight (left_side owner s_new sight)))
      (has_beside sight owner.lock owner_of.lock (stripe_told s_new.history) (class_told w.history) (lock_apart config owner_of.lock owner.lock number of step.kept.lock_is step.kept.of) has)
      (all_from FollowsItem v.history w.history lent.follows owner_of.history told))

  known_so : {side own : StripeSide} → IsOpenStripe table config owner seen s side own → {noting sight : Sight} {caller caller_new : CallerView} {place : ℕ} {done : Bool} → HasAsked caller turn.who command turn.moment
      → place ≡ length side.stripe.history → done ≡ is_made t → Grows seen.sight noting → (done ≡ true → caller.number < config.callers)
      → (done ≡ true → list_at noting.seen (caller_place config caller.number) ≡ calls_told caller_new.calls)
      → (done ≡ true → caller_new ≡ record caller { calls = caller.calls ++ answered_at s_new.site.stripe place ∷ [] })
      → (done ≡ false → caller_new ≡ caller) → {first : CallerView} → StillTries config turn (stripe_side owner seen s) (left_side owner s_new sight) first caller
      → IsKnown config command turn owner seen s s_new t noting sight first caller_new
  known_so opened {noting = noting} {sight = sight} {caller = caller} {caller_new = caller_new} {place = place} {done = done} asked at_side is more of told noted unnoted {first = first} still =
      let at : place ≡ length s.history = at_side ∙ sym (ap (λ (x : StripeSide). length x.stripe.history) opened.side_is) in
      let on = λ (P : Type 0) (f : done ≡ true → P). when P t (λ yes. f (is ∙ yes)) in
      let so = on (caller_new ≡ record caller { calls = caller.calls ++ answered_at s_new.site.stripe place ∷ [] }) noted in
      let Suits = IsOfTry config s.site.stripe in
      let end = stripe_sight (left_side owner s_new sight) in
      record {
        more = more;
        called = called_performed config s s_new call_in vs ws seen.sight noting caller caller_new place asked at step.site more (result_of t) made_in none_in (on (caller.number < config.callers) of)
            (on (list_at noting.seen (caller_place config caller.number) ≡ calls_told caller_new.calls) told) so step.kept.called;
        begun = noted_called caller caller_new turn.who command turn.moment s_new.site.stripe place asked (result_of t) so (unless (caller_new ≡ caller) t (λ no. unnoted (is ∙ no)));
        noted = λ yes.
            still_both Suits turn.who.turn (noted_on s first) (noted_on s caller) caller_new (noted_still s still)
            (still_same Suits turn.who.turn (noted_on s caller) caller_new (grows_itself end) (noted (is ∙ yes)
            ∙ ap (λ (x : Site). record caller { calls = caller.calls ++ answered_at x.stripe place ∷ [] }) step.site.site
            ∙ ap (λ (n : ℕ). record caller { calls = caller.calls ++ answered_at s.site.stripe n ∷ [] }) at));
        unnoted = λ no. still_both Suits turn.who.turn first caller caller_new still (still_same Suits turn.who.turn caller caller_new (grows_itself end) (unnoted (is ∙ no)));
      }

  -- the board had the events before, in the caller's presence, who has entered them
  pub known_in : {side own : StripeSide} → IsOpenStripe table config owner seen s side own → {noting sight : Sight} {own_new : StripeSide} {caller mid caller_new : CallerView} {place : ℕ} {done : Bool}
      → IsLeft owner s_new noting own_new sight → StillTries config turn (stripe_side owner seen s) (left_side owner s_new sight) caller mid
      → HasAsked caller turn.who command turn.moment → place ≡ length side.stripe.history → done ≡ is_made t → Grows seen.sight noting → (done ≡ true → mid.number < config.callers)
      → (done ≡ true → list_at noting.seen (caller_place config mid.number) ≡ calls_told caller_new.calls)
      → (done ≡ true → caller_new ≡ record mid { calls = mid.calls ++ answered_at s_new.site.stripe place ∷ [] })
      → (done ≡ false → caller_new ≡ mid) → IsKnown config command turn owner seen s s_new t noting sight caller caller_new
  known_in opened {sight = sight} {caller = caller} left still asked at_side is more of told noted unnoted =
      known_so opened {sight = sight} (tries_asked config turn command still asked) at_side is more of told noted unnoted {first = caller} still

module _ {table : TableId} {config : Config} {command : Command} {turn : Turn} {given : Given} {owner : OwnerView} {seen : SeenView} {s s_new : Stripe} {v w : ClassView} {vs ws : List ClassView} {t : Result Tried Fault}
    (step : IsStep table config command turn given owner seen s s_new (v ∷ vs) (w ∷ ws) t) {owner_of : OwnerView} {seen_of : SeenView} {class : ClassSide}
    (open_of : IsOpenClass table config owner_of seen_of v class) where
  pub first_lent : IsLent table config command turn s s_new owner_of seen_of v w
  first_lent = record {
    kept = open_of.kept;
    grows = (grow_in step).0;
    gains = (gain_in step).0;
    follows = (follow_in step).0;
    agrees = (kept_in step).own.0 step.may.met.0;
    backs = (seen_in step).backed.0;
    suits = (seen_in step).suited.0;
  }

module _ {table : TableId} {config : Config} {command : Command} {turn : Turn} {given : Given} {owner : OwnerView} {seen : SeenView} {s s_new : Stripe}
    {u x v w : ClassView} {vs ws : List ClassView} {t : Result Tried Fault}
    (step : IsStep table config command turn given owner seen s s_new (u ∷ v ∷ vs) (x ∷ w ∷ ws) t) {owner_of : OwnerView} {seen_of : SeenView}
    {class : ClassSide} (open_of : IsOpenClass table config owner_of seen_of v class) where
  pub second_lent : IsLent table config command turn s s_new owner_of seen_of v w
  second_lent = record {
    kept = open_of.kept;
    grows = (grow_in step).1.0;
    gains = (gain_in step).1.0;
    follows = (follow_in step).1.0;
    agrees = (kept_in step).own.1.0 step.may.met.1.0;
    backs = (seen_in step).backed.1.0;
    suits = (seen_in step).suited.1.0;
  }

-- ---- behind it

-- what holds of a try that made nothing holds of one that failed
failed : (P : Type 0) (t : Result Tried Fault) → (is_made t ≡ false → P) → OnErr t P
failed P (Ok came_to) there = tt
failed P (Err fault) there = there refl

module _ {table : TableId} {config : Config} {command : Command} {turn : Turn} {given : Given} {owner : OwnerView} {seen : SeenView} {s s_new : Stripe} {vs ws : List ClassView} {t : Result Tried Fault}
    (step : IsStep table config command turn given owner seen s s_new vs ws t) {noting sight : Sight} {caller caller_new : CallerView}
    (known : IsKnown config command turn owner seen s s_new t noting sight caller caller_new) where
  -- the stripe before the try, with what was noted of it
  abbrev own_seen : StripeSide
  own_seen = record { board = owner.board; lock = owner.lock; stripe = s; sight = noting }

  kept_seen : IsLockedStripe table config own_seen
  kept_seen = stripe_sees table config (stripe_side owner seen s) noting known.more step.kept

  -- a class, when the stripe has told it its history, and the caller its own
  pub class_left : {owner_of owner_told : OwnerView} {seen_of : SeenView} {v w : ClassView} {own_told : StripeSide} {first mid last : ClassSide} → IsLegal s_new.site s_new.history
      → IsLent table config command turn s s_new owner_of seen_of v w → owner_told ≡ record owner_of { history = class_told w.history } → first ≡ class_side owner_told seen_of w
      → IsLawfulHistoryByLists w.chunks w.rule w.history
      → IsLeft owner s_new noting own_told sight → mid ≡ record first { sight = with_seen first.sight own_told.lock (stripe_told own_told.stripe.history) } → Grows first.sight mid.sight
      → last ≡ record mid { sight = last.sight } → Grows mid.sight last.sight → HasBegunAs config last.sight turn.who turn.moment (asked_for command turn.moment) → IsLockedClass table config last
  class_left {owner_of = owner_of} {owner_told = owner_told} {seen_of = seen_of} {v = v} {w = w} {own_told = own_told} {first = first} {mid = mid} {last = last}
      legal lent caught same lawful left told more learnt grows begun =
      let was = class_side owner_of seen_of v in
      let own_end = left_side owner s_new sight in
      let first_is : first ≡ class_side owner_of seen_of w = same ∙ ap (λ (o : OwnerView). class_side o seen_of w) caught in
      let held = subst (IsHeldClass table config) (sym (lent_said was first mid w own_told own_end first_is left.is told))
      (class_end table config own_seen kept_seen s_new (call_in step) step.site legal known.called was w lent.kept.held lent.grows lawful lent.agrees lent.backs lent.suits
      (lent_more was first mid w own_told own_end first_is left.is told more)) in
      locked_told table config was first mid last turn.who turn.moment lent.kept (record { command = command; begun = begun })
      (subst (λ (x : ClassSide). GainsFit turn.who turn.moment command v.history x.class.history) (sym first_is) lent.gains)
      (ap (λ (x : ClassSide). x.class.number) first_is ∙ ap (λ (x : ClassView). x.number) lent.grows.same) (ap (λ (x : ClassSide). x.sight) first_is) (ap (λ (x : ClassSide). x.class) told) more held learnt grows

  -- the stripe has seen all that it had, and what a try came to
  pub left_sees : {side own own_new : StripeSide} → IsOpenStripe table config owner seen s side own → IsLeft owner s_new noting own_new sight → Grows own.sight own_new.sight
  left_sees {own = own} {own_new = own_new} opened left =
      seen_on own seen.sight noting (left_side owner s_new sight) own_new (ap (λ (x : StripeSide). x.sight) opened.is) known.more left.more left.is

  -- after a fault the caller has noted nothing
  pub left_unnoted : {side own own_new : StripeSide} {caller_last : CallerView} → IsOpenStripe table config owner seen s side own → IsLeft owner s_new noting own_new sight
      → caller_last ≡ caller_new → OnErr t (StillTries config turn own own_new caller caller_last)
  left_unnoted {own = own} {own_new = own_new} {caller_last = caller_last} opened left same =
      failed (StillTries config turn own own_new caller caller_last) t (λ no.
      subst (λ (k : CallerView). StillTries config turn own own_new caller k) (sym same)
      (subst (λ (x : StripeSide). StillTries config turn own x caller caller_new) (sym left.is)
      (subst (λ (x : StripeSide). StillTries config turn x (left_side owner s_new sight) caller caller_new) opened.is (known.unnoted no))))

  -- and the stripe's history is as it was
  pub left_err : {side own own_new : StripeSide} {caller_last : CallerView} → IsOpenStripe table config owner seen s side own → IsLeft owner s_new noting own_new sight
      → caller_last ≡ caller_new → OnErr t ((own_new.stripe.history ≡ own.stripe.history) × StillTries config turn own own_new caller caller_last)
  left_err {own = own} {own_new = own_new} {caller_last = caller_last} opened left same =
      on_err_both t _ (StillTries config turn own own_new caller caller_last)
      (on_err_more t _ _ (λ (none : IsUntouched s s_new vs ws). ap (λ (x : StripeSide). x.stripe.history) left.is ∙ none.stripe ∙ ap (λ (x : StripeSide). x.stripe.history) opened.is) step.err)
      (left_unnoted opened left same)

  -- a full history is that of the stripe
  pub left_full : {own_new : StripeSide} → IsLeft owner s_new noting own_new sight → (t ≡ Err HistoryFull → s.limit ≤ length s.history) → t ≡ Err HistoryFull
      → own_new.stripe.limit ≤ length own_new.stripe.history
  left_full left refusal full =
      let none : IsUntouched s s_new vs ws = subst (λ (x : Result Tried Fault). OnErr x (IsUntouched s s_new vs ws)) full step.err in
      let long : length s_new.history ≡ length s.history = ap (λ (h : List StripeEvent). length h) none.stripe in
      subst (λ (x : StripeSide). x.stripe.limit ≤ length x.stripe.history) (sym left.is) (omega (arith, refusal full, step.site.limit, long))

  pub left_tried : {side own own_new : StripeSide} {caller_last : CallerView} → IsOpenStripe table config owner seen s side own → IsLeft owner s_new noting own_new sight → caller_last ≡ caller_new
      → (cs ds : List ClassSide) → (IsUntouched s s_new vs ws → Stay cs ds) → IfOk t (IsTriedUnder config own own_new caller caller_last command turn given cs ds)
  left_tried {own = own} {own_new = own_new} {caller_last = caller_last} opened left same cs ds stay =
      subst (λ (k : CallerView). IfOk t (IsTriedUnder config own own_new caller k command turn given cs ds)) (sym same)
      (subst (λ (x : StripeSide). IfOk t (IsTriedUnder config own x caller caller_new command turn given cs ds)) (sym left.is)
      (subst (λ (x : StripeSide). IfOk t (IsTriedUnder config x (left_side owner s_new sight) caller caller_new command turn given cs ds)) opened.is
      (under_tried config (stripe_side owner seen s) (left_side owner s_new sight) command turn given vs ws caller caller_new cs ds t step.tried known.noted known.unnoted stay)))

-- a class that stayed
pub left_stays : {table : TableId} {config : Config} {owner_of : OwnerView} {seen_of : SeenView} {v w : ClassView} {class : ClassSide}
    → IsOpenClass table config owner_of seen_of v class → (last : ClassSide) → last.class ≡ w → ClassStays v w
    → last.class ≡ with_room class.class last.class.room
left_stays {v = v} {w = w} {class = class} opened last is stays = stay_of last.class w v class.class is stays (ap (λ (x : ClassSide). x.class) opened.is)

-- ---- the stripe alone

module _ {table : TableId} {config : Config} {command : Command} {turn : Turn} {given : Given} {owner : OwnerView} {seen : SeenView} {s s_new : Stripe} {t : Result Tried Fault}
    (step : IsStep table config command turn given owner seen s s_new [] [] t) {noting sight : Sight} {caller caller_new : CallerView}
    (known : IsKnown config command turn owner seen s s_new t noting sight caller caller_new) where
  pub alone_left : {own_new : StripeSide} → IsLegal s_new.site s_new.history → IsLeft owner s_new noting own_new noting → IsLockedStripe table config own_new
  alone_left legal left =
      subst (IsLockedStripe table config) (sym left.is) (alone_end table config (own_seen step known) (kept_seen step known) s_new (call_in step) step.site legal known.called (refused_in step) (seen_in step))

-- ---- with one class

module _ {table : TableId} {config : Config} {command : Command} {turn : Turn} {given : Given} {owner owner_of : OwnerView} {seen seen_of : SeenView} {s s_new : Stripe} {v w : ClassView} {t : Result Tried Fault}
    (step : IsStep table config command turn given owner seen s s_new (v ∷ []) (w ∷ []) t) {noting sight : Sight} {caller caller_new : CallerView}
    (known : IsKnown config command turn owner seen s s_new t noting sight caller caller_new)
    (lent : IsLent table config command turn s s_new owner_of seen_of v w) {own_new : StripeSide}
    (left : IsLeft owner s_new noting own_new (with_seen noting owner_of.lock (class_told w.history))) (legal : IsLegal s_new.site s_new.history) where
  pub one_left : IsLockedStripe table config own_new
  one_left =
      subst (IsLockedStripe table config) (sym left.is)
      (one_end table config (own_seen step known) (kept_seen step known) s_new (call_in step) step.site legal known.called (class_side owner_of seen_of v) w
      lent.kept.held lent.grows lent.agrees (refused_in step) (seen_in step) left.more)

-- ---- with two

module _ {table : TableId} {config : Config} {command : Command} {turn : Turn} {given : Given} {owner owner_of owner_b : OwnerView}
    {seen seen_of seen_b : SeenView} {s s_new : Stripe} {v w v_b w_b : ClassView} {t : Result Tried Fault}
    (step : IsStep table config command turn given owner seen s s_new (v ∷ v_b ∷ []) (w ∷ w_b ∷ []) t) {noting sight : Sight} {caller caller_new : CallerView}
    (known : IsKnown config command turn owner seen s s_new t noting sight caller caller_new)
    (lent : IsLent table config command turn s s_new owner_of seen_of v w) (lent_b : IsLent table config command turn s s_new owner_b seen_b v_b w_b) {own_new : StripeSide}
    (left : IsLeft owner s_new noting own_new (with_seen (with_seen noting owner_of.lock (class_told w.history)) owner_b.lock (class_told w_b.history))) (legal : IsLegal s_new.site s_new.history) where
  away : v.number.0 ≢ v_b.number.0
  away e = step.may.distinct.0.0 (ap (λ (n : ℕ). record v.number { 0 = n }) e)

  pub two_left : IsLockedStripe table config own_new
  two_left =
      subst (IsLockedStripe table config) (sym left.is)
      (two_end table config (own_seen step known) (kept_seen step known) s_new (call_in step) step.site legal known.called (class_side owner_of seen_of v) w lent.kept.held lent.grows
      (class_side owner_b seen_b v_b) w_b lent_b.kept.held lent_b.grows away lent.agrees lent_b.agrees (refused_in step) (seen_in step) left.more)
