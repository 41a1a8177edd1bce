-- A command under locks: what it leaves of its stripe and of the classes that are lent with it.
use Rattle.std.proofs.Common.{◌≡◌, ◌≢◌, ◌⊎◌, ◌++◌, ◌∷◌, [], ℕ, List, Result, Ok, Err, sym, ap, ◌∙◌, subst, inl, inr, ⊎_elim}
use Rattle.std.specs.Prelude.{OnOk, OnErr}
use Rattle.std.proofs.lemmas.List.{append-nil, map-append}
use mathlib.Core.List.{IsPrefix}
use Rattle.mc_item.specs.declared.{class_event.ClassEvent.ClassEvent, event.Event.Event, fault.Fault.Fault, item.ClassNo.ClassNo, item.Who.Who, reply.Room.Room}
use Rattle.mc_item.specs.declared.{stripe_event.StripeEvent.StripeEvent}
use Rattle.mc_item.specs.declared.event.Event.TheVariants as events
use Rattle.mc_rule.specs.Segment.{Rule}
use Rattle.mc_item.specs.declared.reply.Room.TheVariants as rooms
use Rattle.mc_board.proofs.PrefixLemmas.{same_or_not}
use Rattle.mc_segment.specs.ClassState.{ClassView}
use Rattle.mc_stripe.specs.StripeState.{Stripe}
use Rattle.mc_pull.specs.{Agreeing.HasRefusal, Agreeing.IsApart, Growth.GainsEvents, Lent.EachPair, Perform.Call, Sight.KeepsSights, Sight.TellsStill}
use Rattle.mc_pull.specs.Performed.{ClassStays, GainsPart, IsPerformed, IsUntouched, did_event, events_in}
use Rattle.mc_store.specs.{Sides.class_told, Sides.stripe_told}

-- the number is that of one of these classes
abbrev pub IsOneOf : ClassNo → List ClassView → Type 0
IsOneOf number [] = ⊥
IsOneOf number (v ∷ vs) = (number ≡ v.number) ⊎ IsOneOf number vs

-- if a room is a refusal, one of these classes refused
abbrev pub IsRefusedIn : Room → List ClassView → Type 0
IsRefusedIn (rooms.Refused class place) vs = IsOneOf class vs
IsRefusedIn (rooms.At link) vs = Unit {0}
IsRefusedIn rooms.Keep vs = Unit {0}

-- ---- a history that has only grown begins with what its owner told

pub stripe_behind : (told : List Event) (old new es : List StripeEvent) → told ≡ stripe_told old → new ≡ old ++ es → IsPrefix told (stripe_told new)
stripe_behind told old new es is more =
    (stripe_told es, ap (λ (l : List Event). l ++ stripe_told es) is ∙ (sym (map-append events.Stripe old es) ∙ ap stripe_told (sym more)))

pub class_behind : (told : List Event) (v w : ClassView) → told ≡ class_told v.history → GainsEvents v w → IsPrefix told (class_told w.history)
class_behind told v w is grows =
    (class_told grows.events, ap (λ (l : List Event). l ++ class_told grows.events) is ∙ (sym (map-append events.Class v.history grows.events) ∙ ap class_told (sym grows.history_is)))

-- ---- a command that was made or wasn't

gains_grows : (s : Stripe) (c : Call) (v w : ClassView) → GainsPart s c v w → GainsEvents v w
gains_grows s c v w gains = record {
  same = gains ∙ ap (λ (h : List ClassEvent). record v { history = h; room = w.room }) (sym (ap (λ (x : ClassView). x.history) gains));
  events = events_in s c v;
  history_is = ap (λ (x : ClassView). x.history) gains;
}

stays_grows : (v w : ClassView) → ClassStays v w → GainsEvents v w
stays_grows v w stays = record {
  same = stays ∙ ap (λ (h : List ClassEvent). record v { history = h; room = w.room }) (sym (ap (λ (x : ClassView). x.history) stays));
  events = [];
  history_is = ap (λ (x : ClassView). x.history) stays ∙ sym (append-nil v.history);
}

each_grows : (R : ClassView → ClassView → Type 0) → ((v w : ClassView) → R v w → GainsEvents v w) → (vs ws : List ClassView) → EachPair R vs ws → EachPair (λ v w. GainsEvents v w) vs ws
each_grows R more [] [] each = tt
each_grows R more [] (w ∷ ws) each = absurd each
each_grows R more (v ∷ vs) [] each = absurd each
each_grows R more (v ∷ vs) (w ∷ ws) each = (more v w each.0, each_grows R more vs ws each.1)

module _ {T : Type 0} (s s_new : Stripe) (c : Call) (vs ws : List ClassView) where
  -- the classes that were lent have only grown
  pub lent_grow : (r : Result T Fault) → OnOk r (IsPerformed s s_new c vs ws) → OnErr r (IsUntouched s s_new vs ws) → EachPair (λ v w. GainsEvents v w) vs ws
  lent_grow (Ok x) made err = each_grows (λ v w. GainsPart s c v w) (λ v w g. gains_grows s c v w g) vs ws made.classes
  lent_grow (Err f) made err = each_grows (λ v w. ClassStays v w) (λ v w g. stays_grows v w g) vs ws err.classes

  -- the stripe's owner is behind it
  pub own_behind : (told : List Event) → told ≡ stripe_told s.history → (r : Result T Fault) → OnOk r (IsPerformed s s_new c vs ws) → OnErr r (IsUntouched s s_new vs ws) → IsPrefix told (stripe_told s_new.history)
  own_behind told is (Ok x) made err = stripe_behind told s.history s_new.history (did_event s c ∷ []) is made.stripe
  own_behind told is (Err f) made err = stripe_behind told s.history s_new.history [] is (err.stripe ∙ sym (append-nil s.history))

-- ---- numbers of classes

-- two numbers of classes are the same or apart
same_class : (a b : ClassNo) → (a ≡ b) ⊎ (a ≢ b)
same_class a b = ⊎_elim
    (λ (e : a.0 ≡ b.0). inl (ap (λ (n : ℕ). record { 0 = n }) e))
    (λ (away : a.0 ≢ b.0). inr (λ (e : a ≡ b). away (ap (λ (n : ClassNo). n.0) e)))
    (same_or_not a.0 b.0)

-- a number is that of one of these classes, or of none
pub one_or_apart : (number : ClassNo) (vs : List ClassView) → IsOneOf number vs ⊎ IsApart number vs
one_or_apart number [] = inr tt
one_or_apart number (v ∷ vs) = ⊎_elim
    (λ (e : number ≡ v.number). inl (inl e))
    (λ (away : number ≢ v.number). ⊎_elim
    (λ (one : IsOneOf number vs). inl (inr one))
    (λ (apart : IsApart number vs). inr (away, apart))
    (one_or_apart number vs))
    (same_class number v.number)

-- ---- a room that a class refused which was lent is no refusal of any other

one_apart : (number : ClassNo) (vs : List ClassView) → IsApart number vs → IsOneOf number vs → ⊥
one_apart number [] apart one = one
one_apart number (v ∷ vs) apart (inl same) = apart.0 same
one_apart number (v ∷ vs) apart (inr more) = one_apart number vs apart.1 more

no_refusal : (who : Who) (room : Room) (other : ClassNo) (seen : List ClassEvent) (vs : List ClassView) → IsRefusedIn room vs → IsApart other vs → HasRefusal who room other seen
no_refusal who room other seen vs refused apart = λ place is. absurd (one_apart other vs apart (subst (λ (r : Room). IsRefusedIn r vs) is refused))

pub apart_tells : (c : Call) (s s_new : Stripe) (vs ws : List ClassView) → IsRefusedIn c.room vs → KeepsSights c s s_new vs ws
    → (other : ClassNo) (rule : Rule) (seen : List ClassEvent) → IsApart other vs → TellsStill s s_new rule other seen
apart_tells c s s_new vs ws refused sight other rule seen apart = sight.told other rule seen apart (no_refusal c.who c.room other seen vs refused apart)
