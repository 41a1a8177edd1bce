-- The places that a caller's history has, and what stands there, as its calls go on.
use Rattle.std.proofs.Common.{◌≡◌, ◌<◌, ◌≤◌, ◌+◌, ◌⊎◌, ℕ, zero, suc, List, [], ◌∷◌, ◌++◌, inl, inr, refl, sym, ap, ◌∙◌, subst, arith, length, append-nil}
use Rattle.std.specs.Prelude.{Bool, true, false, Some, cond, nat_eq}
use Rattle.std.specs.List.{slice_get}
use Rattle.std.proofs.lemmas.Option.{slice_get_within}
use mathlib.Core.List.{IsPrefix}
use Rattle.mc_item.specs.declared.{call_event.CallEvent.CallEvent, class_event.ClassEvent.ClassEvent, event.Event.Event, stripe_event.StripeEvent.StripeEvent}
use Rattle.mc_item.specs.declared.{stripe_event.Did.Did}
use Rattle.mc_item.specs.declared.call_event.CallEvent.TheVariants as calls
use Rattle.mc_evidence.specs.Seen.{class_events, stripe_events}
use Rattle.mc_evidence.proofs.SeenLemmas.{class_events-map, classes_grow, stripe_events-map, stripes_grow}
use Rattle.mc_script.specs.Exchanges.{Exchange}
use Rattle.mc_store.specs.{Callers.answered_at, Callers.IsCalled, Callers.IsNext, Callers.turns_of, Sides.class_told, Sides.stripe_told}
use Rattle.mc_driver.specs.Caller.{AreAt, AreRising, IsAt, places_in}
use Rattle.mc_driver.proofs.OnlyCallsLemmas.{IsOneOf, is_yes}
use Rattle.mc_item.specs.declared.stripe_event.StripeEvent.TheVariants as events

-- what begins a stripe's history on the board shows a beginning of it
pub stripe_begins : (list : List Event) (es : List StripeEvent) → IsPrefix list (stripe_told es) → IsPrefix (stripe_events list) es
stripe_begins list es p = subst (IsPrefix (stripe_events list)) (stripe_events-map es) (stripes_grow (λ lock. list) (λ lock. stripe_told es) (λ lock. p) 0)

-- and what begins a class's shows a beginning of that
pub class_begins : (list : List Event) (es : List ClassEvent) → IsPrefix list (class_told es) → IsPrefix (class_events list) es
class_begins list es p = subst (IsPrefix (class_events list)) (class_events-map es) (classes_grow 0 (λ lock. list) (λ lock. class_told es) (λ lock. p) (record { 0 = 0 }))

-- what stands at a place goes on standing there
get_front : {X : Type 0} (xs more : List X) (k : ℕ) (x : X) → slice_get xs k ≡ Some x → slice_get (xs ++ more) k ≡ Some x
get_front [] more k x is = absurd (cc)
get_front (y ∷ ys) more zero x is = is
get_front (y ∷ ys) more (suc k) x is = get_front ys more k x is

-- behind a list stands what comes next
pub get_next : {X : Type 0} (xs ys : List X) (x : X) → slice_get (xs ++ x ∷ ys) (length xs) ≡ Some x
get_next [] ys x = refl
get_next (z ∷ zs) ys x = get_next zs ys x

-- answers go on standing where a history grows
pub at_later : (h h' : List StripeEvent) (caller : ℕ) (ps : List ℕ) (xs : List Exchange) → IsPrefix h h' → AreAt h caller ps xs → AreAt h' caller ps xs
at_later h h' caller [] [] grows at = tt
at_later h h' caller (p ∷ ps) (x ∷ xs) grows at = (
  record {
    did = at.0.did;
    there = ap (λ (l : List StripeEvent). slice_get l p) (sym grows.1) ∙ get_front h grows.0 p _ at.0.there;
    call_is = at.0.call_is;
    by = at.0.by;
  },
  at_later h h' caller ps xs grows at.1,
)
at_later h h' caller [] (x ∷ xs) grows at = absurd at
at_later h h' caller (p ∷ ps) [] grows at = absurd at

-- one more
at_push : (h : List StripeEvent) (caller : ℕ) (ps : List ℕ) (xs : List Exchange) (p : ℕ) (x : Exchange) → AreAt h caller ps xs → IsAt h caller p x → AreAt h caller (ps ++ p ∷ []) (xs ++ x ∷ [])
at_push h caller [] [] p x at next = (next, tt)
at_push h caller (q ∷ qs) (y ∷ ys) p x at next = (at.0, at_push h caller qs ys p x at.1 next)
at_push h caller [] (y ∷ ys) p x at next = absurd at
at_push h caller (q ∷ qs) [] p x at next = absurd at

-- a place behind a history is larger than those in it
rising_push : (h : List StripeEvent) (caller from : ℕ) (ps : List ℕ) (xs : List Exchange) (p : ℕ) → AreAt h caller ps xs → AreRising from ps → from ≤ p → length h ≤ p → AreRising from (ps ++ p ∷ [])
rising_push h caller from [] [] p at rising least behind = (least, tt)
rising_push h caller from (q ∷ qs) (y ∷ ys) p at rising least behind =
    let within : q < length h = slice_get_within h q _ at.0.there in
    (rising.0, rising_push h caller (q + 1) qs ys p at.1 rising.1 (omega (arith, within, behind)) behind)
rising_push h caller from [] (y ∷ ys) p at rising least behind = absurd at
rising_push h caller from (q ∷ qs) [] p at rising least behind = absurd at

-- one more, where a test is passed
pub at_push_if : (b : Bool) (h : List StripeEvent) (caller : ℕ) (ps : List ℕ) (xs : List Exchange) (p : ℕ) (x : Exchange) → AreAt h caller ps xs → (b ≡ true → IsAt h caller p x)
    → AreAt h caller (ps ++ cond b (p ∷ []) []) (xs ++ cond b (x ∷ []) [])
at_push_if true h caller ps xs p x at next = at_push h caller ps xs p x at (next refl)
at_push_if false h caller ps xs p x at next = subst (λ (l : List ℕ). AreAt h caller l (xs ++ [])) (sym (append-nil ps)) (subst (λ (l : List Exchange). AreAt h caller ps l) (sym (append-nil xs)) at)

-- and the places go on rising
pub rising_push_if : (b : Bool) (h : List StripeEvent) (caller : ℕ) (ps : List ℕ) (xs : List Exchange) (p : ℕ) → AreAt h caller ps xs → AreRising 0 ps → (b ≡ true → length h ≤ p) → AreRising 0 (ps ++ cond b (p ∷ []) [])
rising_push_if true h caller ps xs p at rising behind = rising_push h caller 0 ps xs p at rising (omega arith) (behind refl)
rising_push_if false h caller ps xs p at rising behind = subst (AreRising 0) (sym (append-nil ps)) rising

-- a test by its answer
cond_first : (b : Bool) (p : ℕ) (ps more : List ℕ) → cond b (p ∷ ps) ps ++ more ≡ cond b (p ∷ (ps ++ more)) (ps ++ more)
cond_first true p ps more = refl
cond_first false p ps more = refl

-- the places of a caller's history that goes on
pub places_in-push : (number : ℕ) (events : List CallEvent) (stripe place : ℕ) → places_in number (events ++ answered_at stripe place ∷ []) ≡ places_in number events ++ cond (nat_eq stripe number) (place ∷ []) []
places_in-push number [] stripe place = refl
places_in-push number (calls.Asked asked ∷ events) stripe place = places_in-push number events stripe place
places_in-push number (calls.Juggled worked ∷ events) stripe place = places_in-push number events stripe place
places_in-push number (calls.Crawled worked ∷ events) stripe place = places_in-push number events stripe place
places_in-push number (calls.Limits limits ∷ events) stripe place = places_in-push number events stripe place
places_in-push number (calls.Answered answered ∷ events) stripe place =
    ap (λ (l : List ℕ). cond (nat_eq answered.stripe.0 number) (answered.place ∷ l) l) (places_in-push number events stripe place)
    ∙ sym (cond_first (nat_eq answered.stripe.0 number) answered.place (places_in number events) (cond (nat_eq stripe number) (place ∷ []) []))

-- a call that is no answer adds none
pub places_in-call : (number : ℕ) (events : List CallEvent) (call : CallEvent) → turns_of (call ∷ []) ≡ call ∷ [] → places_in number (events ++ call ∷ []) ≡ places_in number events
places_in-call number [] (calls.Asked asked) turn = refl
places_in-call number [] (calls.Juggled worked) turn = refl
places_in-call number [] (calls.Crawled worked) turn = refl
places_in-call number [] (calls.Limits limits) turn = refl
places_in-call number [] (calls.Answered answered) turn = absurd (cc turn)
places_in-call number (calls.Asked asked ∷ events) call turn = places_in-call number events call turn
places_in-call number (calls.Juggled worked ∷ events) call turn = places_in-call number events call turn
places_in-call number (calls.Crawled worked ∷ events) call turn = places_in-call number events call turn
places_in-call number (calls.Limits limits ∷ events) call turn = places_in-call number events call turn
places_in-call number (calls.Answered answered ∷ events) call turn =
    ap (λ (l : List ℕ). cond (nat_eq answered.stripe.0 number) (answered.place ∷ l) l) (places_in-call number events call turn)

-- a place that a test lets through
first_if : (b : Bool) (place : ℕ) (ps : List ℕ) → b ≡ true → IsOneOf place (cond b (place ∷ ps) ps)
first_if true place ps is = inl refl
first_if false place ps is = absurd (cc)

-- a place that is there whatever stands first
more_if : (b : Bool) (q place : ℕ) (ps : List ℕ) → IsOneOf place ps → IsOneOf place (cond b (q ∷ ps) ps)
more_if true q place ps is = inr is
more_if false q place ps is = is

-- the event is one of these
abbrev IsCall : CallEvent → List CallEvent → Type 0
IsCall call [] = ⊥
IsCall call (e ∷ es) = (e ≡ call) ⊎ IsCall call es

-- where a caller's history has an answer, its place is one of these
pub call_place : (number place : ℕ) (events : List CallEvent) → IsCall (answered_at number place) events → IsOneOf place (places_in number events)
call_place number place [] none = elim none [ ]
call_place number place (calls.Asked asked ∷ events) (inl same) = absurd (cc same)
call_place number place (calls.Juggled worked ∷ events) (inl same) = absurd (cc same)
call_place number place (calls.Crawled worked ∷ events) (inl same) = absurd (cc same)
call_place number place (calls.Limits limits ∷ events) (inl same) = absurd (cc same)
call_place number place (calls.Asked asked ∷ events) (inr more) = call_place number place events more
call_place number place (calls.Juggled worked ∷ events) (inr more) = call_place number place events more
call_place number place (calls.Crawled worked ∷ events) (inr more) = call_place number place events more
call_place number place (calls.Limits limits ∷ events) (inr more) = call_place number place events more
call_place number place (calls.Answered answered ∷ events) (inl same) =
    subst (λ (e : CallEvent). IsOneOf place (places_in number (e ∷ events))) (sym same) (first_if (nat_eq number number) place (places_in number events) (is_yes number number refl))
call_place number place (calls.Answered answered ∷ events) (inr more) = more_if (nat_eq answered.stripe.0 number) answered.place place (places_in number events) (call_place number place events more)

-- an answer that comes next is there
next_is_call : (call : CallEvent) (behind : List CallEvent) → IsNext call behind → IsCall call behind
next_is_call call [] is = absurd is
next_is_call call (e ∷ es) is = inl is

is_call_behind : (call : CallEvent) (before behind : List CallEvent) → IsCall call behind → IsCall call (before ++ behind)
is_call_behind call [] behind is = is
is_call_behind call (b ∷ bs) behind is = inr (is_call_behind call bs behind is)

-- where an answered command was called, its place is one of these
pub called_place : (number place : ℕ) (all : List CallEvent) (did : Did) → IsCalled all number place (events.Did did) → IsOneOf place (places_in number all)
called_place number place all did called =
    call_place number place all
    (subst (IsCall (answered_at number place)) (sym called.begun.split)
    (is_call_behind (answered_at number place) called.begun.before (called.begun.call ∷ called.begun.behind)
    (inr (next_is_call (answered_at number place) called.begun.behind called.own.1))))
