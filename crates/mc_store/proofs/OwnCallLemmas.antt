-- What the board lacks of a stripe or a class that gained only events of one call is of that call.
use Rattle.std.proofs.Common.{◌≡◌, ℕ, zero, suc, List, [], ◌∷◌, ◌++◌, Some, Result, Ok, Err, slice_get, drop, length, refl, sym, ap, ◌∙◌, subst}
use Rattle.std.specs.Prelude.{IfOk, OnOk, OnErr}
use Rattle.std.proofs.lemmas.List.{append-nil, map-append}
use mathlib.Core.List.{IsPrefix}
use Rattle.atomic_table.specs.Seated.{TableId}
use Rattle.mc_item.specs.declared.{call_event.CallEvent.CallEvent, class_event.ClassEvent.ClassEvent, config.Config.Config, event.Event.Event, fault.Fault.Fault, item.Who.Who}
use Rattle.mc_item.specs.declared.stripe_event.StripeEvent.{StripeEvent}
use Rattle.mc_item.specs.declared.stripe_event.StripeEvent.TheVariants as events
use Rattle.mc_item.specs.declared.event.Event.TheVariants as told
use Rattle.mc_board.specs.{Accounts.AreBy, Accounts.maker_in, Accounts.maker_of, Accounts.who_of, Views.OwnerView, Views.SeenView}
use Rattle.mc_board.proofs.AccountLemmas.{are_by_end, are_by_new, are_by_none, are_by_one}
use Rattle.mc_board.proofs.PrefixLemmas.{prefix_self}
use Rattle.mc_segment.specs.{ClassCalls.Makes, ClassCalls.Stays, ClassState.ClassView, ClassState.with_room}
use Rattle.mc_stripe.specs.StripeState.{Stripe}
use Rattle.mc_pull.specs.declared.{context.Context.Context, judge.Done.Done}
use Rattle.mc_pull.specs.{Lone.AreMadeBy, Lone.IsWalkersEvent, Lone.StripeGrows, Looks.judgement, Perform.Call, Performed.IsPerformed, Performed.IsUntouched}
use Rattle.mc_pull.specs.{Performed.did_event, Question.IsClassOf, Question.Question, Settled.IsSettled, Walker.Walker}
use Rattle.mc_store.specs.{Locked.HasBegunAs, Locked.IsHeldClass, Locked.IsLockedClass, Made.AreOwnEvents, Made.GainsOwn, Passes.CallerView, Serving.IsServed, Serving.class_side}
use Rattle.mc_store.specs.{Sides.class_told, Sides.stripe_told, Walking.MayTry}
use Rattle.mc_store.proofs.{CallerLemmas.begun_any, OwnEventLemmas.gains_judged, OwnEventLemmas.gains_none}

-- ---- events of one call

some_event : (a b : Event) → Some a ≡ Some b → a ≡ b
some_event a b e = cc e

own_at : (who : Who) (moment : ℕ) (es : List ClassEvent) → AreOwnEvents who moment es → (place : ℕ) (event : Event) → slice_get (class_told es) place ≡ Some event → maker_in event ≡ Some who
own_at who moment [] own place event at = absurd (cc at)
own_at who moment (x ∷ xs) own zero event at = subst (λ (e : Event). maker_in e ≡ Some who) (some_event (told.Class x) event at) (ap (λ (w : Who). Some w) own.0.0)
own_at who moment (x ∷ xs) own (suc place) event at = own_at who moment xs own.1 place event at

-- a call's own events of a class
pub own_by : (who : Who) (moment : ℕ) (es : List ClassEvent) → AreOwnEvents who moment es → AreBy who (class_told es)
own_by who moment es own = record { each = own_at who moment es own }

walkers_who : (w : Walker) (x : StripeEvent) → IsWalkersEvent w x → who_of x ≡ w.who
walkers_who w (events.Did did) made = absurd made
walkers_who w (events.Lost lost) made = made.0
walkers_who w (events.Cooled cooled) made = made

walked_at : (w : Walker) (es : List StripeEvent) → AreMadeBy w es → (place : ℕ) (event : Event) → slice_get (stripe_told es) place ≡ Some event → maker_in event ≡ Some w.who
walked_at w [] made place event at = absurd (cc at)
walked_at w (x ∷ xs) made zero event at =
    subst (λ (e : Event). maker_in e ≡ Some w.who) (some_event (told.Stripe x) event at) (ap (λ (v : Who). Some v) (walkers_who w x made.0))
walked_at w (x ∷ xs) made (suc place) event at = walked_at w xs made.1 place event at

-- a walker's events of a stripe
pub walked_by : (w : Walker) (es : List StripeEvent) → AreMadeBy w es → AreBy w.who (stripe_told es)
walked_by w es made = record { each = walked_at w es made }

-- ---- what the board lacks, if it had all before the call's step

-- of a class that gained these events
pub class_gained_by : (who : Who) (had : List Event) (h h_new es : List ClassEvent) → had ≡ class_told h → h_new ≡ h ++ es → AreBy who (class_told es) → AreBy who (drop (length had) (class_told h_new))
class_gained_by who had h h_new es is more of =
    subst (λ (l : List Event). AreBy who (drop (length l) (class_told h_new))) (sym is)
    (subst (λ (l : List Event). AreBy who (drop (length (class_told h)) l)) (sym (ap class_told more ∙ map-append told.Class h es)) (are_by_new who (class_told h) (class_told es) of))

-- of a stripe that gained these events
pub stripe_gained_by : (who : Who) (had : List Event) (h h_new es : List StripeEvent) → had ≡ stripe_told h → h_new ≡ h ++ es → AreBy who (stripe_told es) → AreBy who (drop (length had) (stripe_told h_new))
stripe_gained_by who had h h_new es is more of =
    subst (λ (l : List Event). AreBy who (drop (length l) (stripe_told h_new))) (sym is)
    (subst (λ (l : List Event). AreBy who (drop (length (stripe_told h)) l)) (sym (ap stripe_told more ∙ map-append told.Stripe h es)) (are_by_new who (stripe_told h) (stripe_told es) of))

-- of a class that gained only a call's own events
pub class_own_by : (who : Who) (moment : ℕ) (had : List Event) (h h_new : List ClassEvent) → had ≡ class_told h → GainsOwn who moment h h_new → AreBy who (drop (length had) (class_told h_new))
class_own_by who moment had h h_new is gains = class_gained_by who had h h_new gains.events is gains.history_is (own_by who moment gains.events gains.each)

-- of a stripe that gained only a walker's events
pub stripe_walked_by : (w : Walker) (had : List Event) (s s_new : Stripe) → had ≡ stripe_told s.history → StripeGrows w s s_new → AreBy w.who (drop (length had) (stripe_told s_new.history))
stripe_walked_by w had s s_new is grows = stripe_gained_by w.who had s.history s_new.history grows.events is grows.history_is (walked_by w grows.events grows.each)

-- of a class with a judgement's events, however that ended
pub class_settled_by : {T : Type 0} (made : T → Done) (c c_new : ClassView) (s s_new : Stripe) (q : Question) (r : Result T Fault) → IfOk r (λ x. IsSettled c c_new s s_new q (made x))
    → OnErr r ((c_new ≡ with_room c c_new.room) × (s_new.history ≡ s.history)) → (had : List Event) → had ≡ class_told c.history → AreBy q.who (drop (length had) (class_told c_new.history))
class_settled_by made c c_new s s_new q (Ok x) settled err had is =
    class_own_by q.who q.moment had c.history c_new.history is (gains_judged c c_new q (Some (judgement (made x) s)) settled.class)
class_settled_by made c c_new s s_new q (Err fault) settled err had is =
    class_own_by q.who q.moment had c.history c_new.history is (gains_none q.who q.moment c.history c_new.history (ap (λ (v : ClassView). v.history) err.0))

-- of a stripe with a command's event, if it was made
pub stripe_performed_by : {T : Type 0} (s s_new : Stripe) (c : Call) (vs ws : List ClassView) (had : List Event) → had ≡ stripe_told s.history → (r : Result T Fault) → OnOk r (IsPerformed s s_new c vs ws)
    → OnErr r (IsUntouched s s_new vs ws) → AreBy c.who (drop (length had) (stripe_told s_new.history))
stripe_performed_by s s_new c vs ws had is (Ok x) made err =
    stripe_gained_by c.who had s.history s_new.history (did_event s c ∷ []) is made.stripe (are_by_one c.who (told.Stripe (did_event s c)) refl)
stripe_performed_by s s_new c vs ws had is (Err f) made err = stripe_gained_by c.who had s.history s_new.history [] is (err.stripe ∙ sym (append-nil s.history)) (are_by_none c.who)

-- of a class that noted one event, or couldn't
pub class_noted_by : {T : Type 0} (v w : ClassView) (event : ClassEvent) (had : List Event) → had ≡ class_told v.history → (r : Result T Fault) → OnOk r (Makes v w event) → OnErr r (Stays v w)
    → AreBy (maker_of event) (drop (length had) (class_told w.history))
class_noted_by v w event had is (Ok x) makes err =
    class_gained_by (maker_of event) had v.history w.history (event ∷ []) is (ap (λ (c : ClassView). c.history) makes) (are_by_one (maker_of event) (told.Class event) refl)
class_noted_by v w event had is (Err f) makes err =
    class_gained_by (maker_of event) had v.history w.history [] is (ap (λ (c : ClassView). c.history) err.0 ∙ sym (append-nil v.history)) (are_by_none (maker_of event))

-- ---- a class that is lent whole

-- a class of which the board has all is served for any call
pub served_whole : (table : TableId) (config : Config) (who : Who) (owner : OwnerView) (seen : SeenView) (c : ClassView) → IsHeldClass table config (class_side owner seen c)
    → owner.history ≡ class_told c.history → seen.board ≡ owner.board → IsServed table config who owner seen c
served_whole table config who owner seen c kept is board = record {
  kept = kept;
  behind = subst (λ (h : List Event). IsPrefix h (class_told c.history)) (sym is) (prefix_self (class_told c.history));
  by = subst (λ (h : List Event). AreBy who (drop (length h) (class_told c.history))) (sym is) (are_by_end who (class_told c.history));
  board_is = board;
}

-- a class that was served is so once the board has all of it
pub served_told : (table : TableId) (config : Config) (who : Who) (owner owner_new : OwnerView) (seen : SeenView) (c : ClassView) → owner_new ≡ record owner { history = class_told c.history }
    → IsServed table config who owner seen c → IsServed table config who owner_new seen c
served_told table config who owner owner_new seen c is served =
    served_whole table config who owner_new seen c (subst (λ (o : OwnerView). IsHeldClass table config (class_side o seen c)) (sym is) served.kept) (ap (λ (o : OwnerView). o.history) is)
    (served.board_is ∙ sym (ap (λ (o : OwnerView). o.board) is))

-- a call may walk in a class that has seen the call begin, if the class is as its lock keeps it and the board has all of it
pub may_try_whole : (table : TableId) (config : Config) (context : Context) (caller : CallerView) (owner : OwnerView) (seen : SeenView) (c : ClassView) (call : CallEvent)
    → context.config.now ≡ config → IsLockedClass table config (class_side owner seen c) → owner.history ≡ class_told c.history → seen.board ≡ owner.board
    → HasBegunAs config seen.sight context.turn.who context.turn.moment call → context.turn.who.caller ≡ caller.number
    → MayTry table config context caller owner seen c context.turn.who context.turn.moment
may_try_whole table config context caller owner seen c call names kept is board begun number = record {
  class = subst (λ (k : Config). IsClassOf k c) (sym names) kept.held.made_with;
  names = names;
  asks = refl;
  at = refl;
  walks = record {
    served = served_whole table config context.turn.who owner seen c kept.held is board;
    begun = begun_any config seen.sight context.turn.who context.turn.moment call begun;
    number = number;
  };
}
