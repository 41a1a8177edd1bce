-- Callers' histories: what was begun in one is begun in each longer one, and the events of stripes stay called.
use Rattle.std.proofs.Common.{◌≡◌, ◌⊎◌, ◌<◌, ◌+◌, ℕ, zero, suc, List, [], ◌∷◌, ◌++◌, Some, Result, Ok, Err, slice_get, length, append_assoc, refl, sym, ap, ◌∙◌, subst, inl, inr, ⊎_elim, arith}
use Rattle.std.specs.Prelude.{None, OnOk, OnErr}
use Rattle.std.proofs.lemmas.List.{map-append}
use mathlib.Core.List.{IsPrefix}
use Rattle.mc_item.specs.declared.{answer.Site.Site, call_event.CallEvent.CallEvent, class_event.ClassEvent.ClassEvent, config.Config.Config, event.Event.Event}
use Rattle.mc_item.specs.declared.{event.Event.TheVariants.Call, event.Event.TheVariants.Class, event.Event.TheVariants.Stripe, fault.Fault.Fault}
use Rattle.mc_item.specs.declared.{class_event.Limited.Limited, command.Command.Command, item.ClassNo.ClassNo, item.Who.Who, stripe_event.Cause.Cause}
use Rattle.mc_item.specs.declared.{stripe_event.Cause.TheVariants.Expired, stripe_event.Cause.TheVariants.Taken, stripe_event.StripeEvent.StripeEvent}
use Rattle.mc_item.specs.declared.class_event.ClassEvent.TheVariants as entries
use Rattle.mc_item.specs.declared.stripe_event.StripeEvent.TheVariants as events
use Rattle.mc_board.specs.{Accounts.maker_in, Accounts.maker_of, Accounts.who_of, Histories.Grows, Histories.list_at, Histories.with_seen, Views.SeenView}
use Rattle.mc_board.specs.declared.rule.Sight.{Sight}
use Rattle.mc_board.proofs.SeenLemmas.{list_at_same}
use Rattle.mc_segment.specs.ClassState.{ClassView}
use Rattle.mc_stripe.specs.StripeCalls.{KeepsSite}
use Rattle.mc_stripe.specs.StripeState as states
use Rattle.mc_pull.specs.{Lone.AreMadeBy, Lone.IsCauseOf, Lone.IsWalkersEvent, Lone.StripeGrows, Walker.Walker}
use Rattle.mc_pull.specs.Perform as words
use Rattle.mc_pull.specs.Performed.{IsPerformed, IsUntouched, did_event}
use Rattle.mc_store.specs.Callers.{AreCalled, IsBegun, IsBegunAs, IsMomentOf, IsCalled, IsNext, IsOf, answered_at, asked_for, call_events, calls_told, limits_of}
use Rattle.mc_store.specs.Locked.{HasBegun, HasBegunAs, HasBegunCommand, HasBegunSearch, caller_place, locks_for}
use Rattle.mc_store.specs.Made.{IsClassCalled, IsLimitCalled, WasCalled}
use Rattle.mc_store.specs.Passes.{CallerView, HasAsked, HasCalled}

-- ---- a caller's history

-- an event of a caller's own history says nobody
pub says_nobody : (e : Event) → calls_told (call_events (e ∷ [])) ≡ e ∷ [] → maker_in e ≡ None
says_nobody (Call e) only = refl
says_nobody (Stripe e) only = absurd (cc only)
says_nobody (Class e) only = absurd (cc only)

-- the calls of two lists are those of the one, then those of the other
pub call_events-append : (xs ys : List Event) → call_events (xs ++ ys) ≡ call_events xs ++ call_events ys
call_events-append [] ys = refl
call_events-append (Stripe e ∷ xs) ys = call_events-append xs ys
call_events-append (Class e ∷ xs) ys = call_events-append xs ys
call_events-append (Call e ∷ xs) ys = ap (λ (t : List CallEvent). e ∷ t) (call_events-append xs ys)

-- a caller's own events are those that the board was told
pub call_events-told : (calls : List CallEvent) → call_events (calls_told calls) ≡ calls
call_events-told [] = refl
call_events-told (e ∷ calls) = ap (λ (t : List CallEvent). e ∷ t) (call_events-told calls)

-- one call more
pub called_more : (old new : List Event) (call : CallEvent) → new ≡ old ++ Call call ∷ [] → call_events new ≡ call_events old ++ call ∷ []
called_more old new call more = ap call_events more ∙ call_events-append old (Call call ∷ [])

-- and nothing but calls
pub only_called : (old new : List Event) (call : CallEvent) → new ≡ old ++ Call call ∷ [] → old ≡ calls_told (call_events old) → new ≡ calls_told (call_events new)
only_called old new call more only =
    more ∙ (ap (λ (t : List Event). t ++ Call call ∷ []) only
    ∙ (sym (map-append Call (call_events old) (call ∷ [])) ∙ sym (ap calls_told (called_more old new call more))))

-- the same of what is no longer known to be one call
pub calls_more : (old new more : List Event) → new ≡ old ++ more → call_events new ≡ call_events old ++ call_events more
calls_more old new more is = ap call_events is ∙ call_events-append old more

-- and nothing but calls
pub only_calls : (old new more : List Event) → new ≡ old ++ more → old ≡ calls_told (call_events old) → calls_told (call_events more) ≡ more → new ≡ calls_told (call_events new)
only_calls old new more is only only_more =
    is ∙ (ap (λ (t : List Event). t ++ more) only
    ∙ (ap (λ (t : List Event). calls_told (call_events old) ++ t) (sym only_more)
    ∙ (sym (map-append Call (call_events old) (call_events more)) ∙ sym (ap calls_told (calls_more old new more is)))))

-- a token was told so
pub called_told : (before after : SeenView) (lock lock_is : ℕ) (list : List Event) → after ≡ record before { sight = with_seen before.sight lock list } → lock ≡ lock_is → list ≡ calls_told (call_events list)
    → after ≡ record before { sight = with_seen before.sight lock_is (calls_told (call_events list)) }
called_told before after lock lock_is list told at only =
    told ∙ (ap (λ (k : ℕ). record before { sight = with_seen before.sight k list }) at ∙ ap (λ (es : List Event). record before { sight = with_seen before.sight lock_is es }) only)

-- ---- calls that stand in a history

-- what always holds holds of what was answered
pub on_ok_always : {T E P : Type 0} (r : Result T E) → P → OnOk r P
on_ok_always (Ok x) p = p
on_ok_always (Err e) p = tt

-- ---- calls that were begun

-- more is in the history
pub begun_more : (xs ys : List CallEvent) (turn moment : ℕ) → IsBegun xs turn moment → IsBegun (xs ++ ys) turn moment
begun_more xs ys turn moment b = record {
  before = b.before;
  call = b.call;
  behind = b.behind ++ ys;
  split = ap (λ (l : List CallEvent). l ++ ys) b.split ∙ append_assoc b.before (b.call ∷ b.behind) ys;
  turn_is = b.turn_is;
  handed = b.handed;
}

next_more : (call : CallEvent) (xs ys : List CallEvent) → IsNext call xs → IsNext call (xs ++ ys)
next_more call [] ys is = absurd is
next_more call (x ∷ xs) ys is = is

of_more : (stripe place : ℕ) (event : StripeEvent) (call : CallEvent) (behind more : List CallEvent) (moment : ℕ) → IsOf stripe place event call behind moment → IsOf stripe place event call (behind ++ more) moment
of_more stripe place (events.Did did) call behind more moment is = (is.0, next_more (answered_at stripe place) behind more is.1)
of_more stripe place (events.Lost lost) call behind more moment is = is
of_more stripe place (events.Cooled cooled) call behind more moment is = tt

-- what begins a history begins the calls in it
calls_prefix : (xs ys : List Event) (p : IsPrefix xs ys) → call_events xs ++ call_events p.0 ≡ call_events ys
calls_prefix xs ys p = sym (call_events-append xs p.0) ∙ ap call_events p.1

pub begun_prefix : (xs ys : List Event) (turn moment : ℕ) → IsPrefix xs ys → IsBegun (call_events xs) turn moment → IsBegun (call_events ys) turn moment
begun_prefix xs ys turn moment p b = subst (λ (l : List CallEvent). IsBegun l turn moment) (calls_prefix xs ys p) (begun_more (call_events xs) (call_events p.0) turn moment b)

-- just one call
pub begun_as_more : (xs ys : List CallEvent) (turn moment : ℕ) (call : CallEvent) → IsBegunAs xs turn moment call → IsBegunAs (xs ++ ys) turn moment call
unfolding begun_more
begun_as_more xs ys turn moment call b = record { begun = begun_more xs ys turn moment b.begun; call_is = b.call_is }

begun_as_prefix : (xs ys : List Event) (turn moment : ℕ) (call : CallEvent) → IsPrefix xs ys → IsBegunAs (call_events xs) turn moment call → IsBegunAs (call_events ys) turn moment call
begun_as_prefix xs ys turn moment call p b = subst (λ (l : List CallEvent). IsBegunAs l turn moment call) (calls_prefix xs ys p) (begun_as_more (call_events xs) (call_events p.0) turn moment call b)

called_append : (xs ys : List CallEvent) (stripe place : ℕ) (event : StripeEvent) → IsCalled xs stripe place event → IsCalled (xs ++ ys) stripe place event
unfolding begun_more
called_append xs ys stripe place event c = record {
  moment = c.moment;
  begun = begun_more xs ys (who_of event).turn c.moment c.begun;
  own = of_more stripe place event c.begun.call c.begun.behind ys c.moment c.own;
}

pub called_prefix : (xs ys : List Event) (stripe place : ℕ) (event : StripeEvent) → IsPrefix xs ys → IsCalled (call_events xs) stripe place event → IsCalled (call_events ys) stripe place event
called_prefix xs ys stripe place event p c = subst (λ (l : List CallEvent). IsCalled l stripe place event) (calls_prefix xs ys p) (called_append (call_events xs) (call_events p.0) stripe place event c)

-- the same of an event of a class
class_called_more : (xs ys : List CallEvent) (class : ClassNo) (event : ClassEvent) → IsClassCalled xs class event → IsClassCalled (xs ++ ys) class event
unfolding begun_more
class_called_more xs ys class event c = record { moment = c.moment; begun = begun_more xs ys (maker_of event).turn c.moment c.begun; timed = c.timed; own = c.own }

limit_called_more : (xs ys : List CallEvent) (class : ClassNo) (e : Limited) → IsLimitCalled xs class e → IsLimitCalled (xs ++ ys) class e
limit_called_more xs ys class e c = record {
  before = c.before;
  behind = c.behind ++ ys;
  split = ap (λ (l : List CallEvent). l ++ ys) c.split ∙ append_assoc c.before (limits_of class e.chunks ∷ c.behind) ys;
  turn_is = c.turn_is;
}

was_called_more : (xs ys : List CallEvent) (class : ClassNo) (event : ClassEvent) → WasCalled xs class event → WasCalled (xs ++ ys) class event
was_called_more xs ys class (entries.Linked e) c = class_called_more xs ys class (entries.Linked e) c
was_called_more xs ys class (entries.Unlinked e) c = class_called_more xs ys class (entries.Unlinked e) c
was_called_more xs ys class (entries.Shifted e) c = class_called_more xs ys class (entries.Shifted e) c
was_called_more xs ys class (entries.Evicted e) c = class_called_more xs ys class (entries.Evicted e) c
was_called_more xs ys class (entries.Reclaimed e) c = class_called_more xs ys class (entries.Reclaimed e) c
was_called_more xs ys class (entries.Surveyed e) c = class_called_more xs ys class (entries.Surveyed e) c
was_called_more xs ys class (entries.Refused e) c = class_called_more xs ys class (entries.Refused e) c
was_called_more xs ys class (entries.Limited e) c = limit_called_more xs ys class e c

pub class_called_prefix : (xs ys : List Event) (class : ClassNo) (event : ClassEvent) → IsPrefix xs ys → WasCalled (call_events xs) class event → WasCalled (call_events ys) class event
class_called_prefix xs ys class event p c = subst (λ (l : List CallEvent). WasCalled l class event) (calls_prefix xs ys p) (was_called_more (call_events xs) (call_events p.0) class event c)

-- what a call with a moment made was called
pub was_called_so : (calls : List CallEvent) (class : ClassNo) (event : ClassEvent) → IsClassCalled calls class event → WasCalled calls class event
was_called_so calls class (entries.Linked e) c = c
was_called_so calls class (entries.Unlinked e) c = c
was_called_so calls class (entries.Shifted e) c = c
was_called_so calls class (entries.Evicted e) c = c
was_called_so calls class (entries.Reclaimed e) c = c
was_called_so calls class (entries.Surveyed e) c = c
was_called_so calls class (entries.Refused e) c = c
was_called_so calls class (entries.Limited e) c = absurd c.timed

-- more is seen
pub begun_sees : (config : Config) (old new : Sight) (who : Who) (moment : ℕ) → Grows old new → HasBegun config old who moment → HasBegun config new who moment
begun_sees config old new who moment more h = record {
  of = h.of;
  begun = begun_prefix (list_at old.seen (caller_place config who.caller)) (list_at new.seen (caller_place config who.caller)) who.turn moment (more.at (caller_place config who.caller)) h.begun;
}

pub begun_as_sees : (config : Config) (old new : Sight) (who : Who) (moment : ℕ) (call : CallEvent) → Grows old new → HasBegunAs config old who moment call → HasBegunAs config new who moment call
begun_as_sees config old new who moment call more h = record {
  of = h.of;
  begun = begun_as_prefix (list_at old.seen (caller_place config who.caller)) (list_at new.seen (caller_place config who.caller)) who.turn moment call (more.at (caller_place config who.caller)) h.begun;
}

pub command_sees : (config : Config) (old new : Sight) (who : Who) (moment : ℕ) → Grows old new → HasBegunCommand config old who moment → HasBegunCommand config new who moment
command_sees config old new who moment more h = record { command = h.command; begun = begun_as_sees config old new who moment (asked_for h.command moment) more h.begun }

-- what a command that may need a chunk has begun
pub search_sees : (config : Config) (old new : Sight) (who : Who) (moment : ℕ) → Grows old new → HasBegunSearch config old who moment → HasBegunSearch config new who moment
search_sees config old new who moment more h = record { command = h.command; needs = h.needs; begun = begun_as_sees config old new who moment (asked_for h.command moment) more h.begun }

-- what has just this call has a call
pub begun_any : (config : Config) (sight : Sight) (who : Who) (moment : ℕ) (call : CallEvent) → HasBegunAs config sight who moment call → HasBegun config sight who moment
begun_any config sight who moment call h = record { of = h.of; begun = h.begun.begun }

pub search_any : (config : Config) (sight : Sight) (who : Who) (moment : ℕ) → HasBegunSearch config sight who moment → HasBegun config sight who moment
search_any config sight who moment h = begun_any config sight who moment (asked_for h.command moment) h.begun

pub command_any : (config : Config) (sight : Sight) (who : Who) (moment : ℕ) → HasBegunCommand config sight who moment → HasBegun config sight who moment
command_any config sight who moment h = begun_any config sight who moment (asked_for h.command moment) h.begun

-- the same of who and when it is equal to
pub asked_here : (config : Config) (sight : Sight) (who asker : Who) (moment at : ℕ) → (asker ≡ who) × (at ≡ moment) → HasBegun config sight who moment → HasBegun config sight asker at
asked_here config sight who asker moment at same begun =
    subst (λ (w : Who). HasBegun config sight w at) (sym same.0) (subst (λ (m : ℕ). HasBegun config sight who m) (sym same.1) begun)

-- a command that was asked for was called
pub asked_called : (caller : CallerView) (who : Who) (command : Command) (moment : ℕ) → HasAsked caller who command moment → HasCalled caller who moment (asked_for command moment)
asked_called caller who command moment a = record {
  number = a.number;
  begun = record { begun = record { before = a.before; call = asked_for command moment; behind = []; split = a.last; turn_is = a.turn; handed = refl }; call_is = refl };
}

-- who was told a caller's history has seen each of its calls
pub told_begun : (config : Config) (caller : CallerView) (before after : SeenView) → caller.number < config.callers
    → after ≡ record before { sight = with_seen before.sight (caller_place config caller.number) (calls_told caller.calls) }
    → (who : Who) (moment : ℕ) (call : CallEvent) → HasCalled caller who moment call → HasBegunAs config after.sight who moment call
told_begun config caller before after of told who moment call called = record {
  of = subst (λ (n : ℕ). n < config.callers) (sym called.number) of;
  begun =
      let list : list_at after.sight.seen (caller_place config caller.number) ≡ calls_told caller.calls =
      ap (λ (s : SeenView). list_at s.sight.seen (caller_place config caller.number)) told ∙ list_at_same before.sight.seen (caller_place config caller.number) (calls_told caller.calls) in
      let here : call_events (list_at after.sight.seen (caller_place config who.caller)) ≡ caller.calls =
      ap (λ (n : ℕ). call_events (list_at after.sight.seen (caller_place config n))) called.number ∙ (ap call_events list ∙ call_events-told caller.calls) in
      subst (λ (l : List CallEvent). IsBegunAs l who.turn moment call) (sym here) called.begun;
}

-- and all of it
pub told_whole : (config : Config) (caller : CallerView) (before after : SeenView)
    → after ≡ record before { sight = with_seen before.sight (caller_place config caller.number) (calls_told caller.calls) }
    → list_at after.sight.seen (caller_place config caller.number) ≡ calls_told caller.calls
told_whole config caller before after told =
    ap (λ (s : SeenView). list_at s.sight.seen (caller_place config caller.number)) told ∙ list_at_same before.sight.seen (caller_place config caller.number) (calls_told caller.calls)

-- who was told a caller's history with an answer at its end has seen it whole
pub told_answer : {T E : Type 0} (config : Config) (old new : CallerView) (before after : SeenView) → after ≡ record before { sight = with_seen before.sight (caller_place config old.number) (calls_told new.calls) }
    → (r : Result T E) → OnOk r (list_at after.sight.seen (caller_place config old.number) ≡ calls_told new.calls)
told_answer config old new before after told r =
    on_ok_always r (ap (λ (s : SeenView). list_at s.sight.seen (caller_place config old.number)) told ∙ list_at_same before.sight.seen (caller_place config old.number) (calls_told new.calls))

-- where it was noted is the stripe's number
pub noted_at : {T E : Type 0} (old new : CallerView) (number stripe place : ℕ) → number ≡ stripe → new ≡ record old { calls = old.calls ++ answered_at number place ∷ [] }
    → (r : Result T E) → OnOk r (new ≡ record old { calls = old.calls ++ answered_at stripe place ∷ [] })
noted_at old new number stripe place is noted r = on_ok_always r (noted ∙ ap (λ (n : ℕ). record old { calls = old.calls ++ answered_at n place ∷ [] }) is)

-- ---- events that were called

-- what stands at a place of two lists stands in the one or in the other
pub get_append : {A : Type 0} (xs ys : List A) (y : A) (k : ℕ) → slice_get (xs ++ ys) k ≡ Some y → (slice_get xs k ≡ Some y) ⊎ ((j : ℕ) × (k ≡ length xs + j) × (slice_get ys j ≡ Some y))
get_append [] ys y k e = inr (k, omega arith, e)
get_append (x ∷ xs) ys y zero e = inl e
get_append (x ∷ xs) ys y (suc k) e = ⊎_elim
    (λ (was : slice_get xs k ≡ Some y). inl was)
    (λ (t : (j : ℕ) × (k ≡ length xs + j) × (slice_get ys j ≡ Some y)). let at = t.1 in inr (t.0, omega (arith, at), t.2))
    (get_append xs ys y k e)

-- an event at a place of a stripe's history was called by one of the callers, as far as that one's history was seen
abbrev WasStripeCalled : Config → ℕ → ℕ → StripeEvent → (ℕ → List Event) → Type 0
WasStripeCalled config stripe place event seen = ((who_of event).caller < config.callers) × IsCalled (call_events (seen (locks_for config + (who_of event).caller))) stripe place event

-- each of these events, which come behind so many others, was
abbrev WereCalled : Config → ℕ → ℕ → List StripeEvent → (ℕ → List Event) → Type 0
WereCalled config stripe many es seen = (j : ℕ) (event : StripeEvent) → slice_get es j ≡ Some event → WasStripeCalled config stripe (many + j) event seen

module _ (config : Config) (stripe : ℕ) where
  abbrev Called : List StripeEvent → Sight → Type 0
  Called history sight = AreCalled (locks_for config) config.callers stripe history (list_at sight.seen)

  -- more is seen
  pub called_sees : (history : List StripeEvent) (old new : Sight) → Grows old new
      → AreCalled (locks_for config) config.callers stripe history (list_at old.seen)
      → AreCalled (locks_for config) config.callers stripe history (list_at new.seen)
  called_sees history old new more all = record {
    each = λ place event at.
        let lock = locks_for config + (who_of event).caller in
        let was = all.each place event at in
        (was.0, called_prefix (list_at old.seen lock) (list_at new.seen lock) stripe place event (more.at lock) was.1);
  }

  -- a history has these events more
  called_longer : (old es new : List StripeEvent) (seen : ℕ → List Event) → new ≡ old ++ es → WereCalled config stripe (length old) es seen → AreCalled (locks_for config) config.callers stripe old seen
      → AreCalled (locks_for config) config.callers stripe new seen
  called_longer old es new seen more called all = record {
    each = λ place event at. ⊎_elim
        (λ (was : slice_get old place ≡ Some event). all.each place event was)
        (λ (t : (j : ℕ) × (place ≡ length old + j) × (slice_get es j ≡ Some event)). subst (λ (k : ℕ). WasStripeCalled config stripe k event seen) (sym t.1) (called t.0 event t.2))
        (get_append old es event place (ap (λ (h : List StripeEvent). slice_get h place) (sym more) ∙ at));
  }

some_event : (a b : StripeEvent) → Some a ≡ Some b → a ≡ b
some_event a b e = cc e

-- an item that a walker loses for being dead is so at the walker's moment
moment_made : (w : Walker) (cause : Cause) → IsCauseOf w cause → IsMomentOf cause w.moment
moment_made w (Expired dead) is = is
moment_made w (Taken class place) is = tt

-- a walker's event was called
event_called : (config : Config) (stripe place : ℕ) (sight : Sight) (w : Walker) (event : StripeEvent) → HasBegun config sight w.who w.moment
    → IsWalkersEvent w event → WasStripeCalled config stripe place event (list_at sight.seen)
event_called config stripe place sight w (events.Did did) begun made = absurd made
event_called config stripe place sight w (events.Lost lost) begun made =
    let here : HasBegun config sight lost.who w.moment = subst (λ (who : Who). HasBegun config sight who w.moment) (sym made.0) begun in
    (here.of, record { moment = w.moment; begun = here.begun; own = moment_made w lost.cause made.1 })
event_called config stripe place sight w (events.Cooled cooled) begun made =
    let here : HasBegun config sight cooled.who w.moment = subst (λ (who : Who). HasBegun config sight who w.moment) (sym made) begun in
    (here.of, record { moment = w.moment; begun = here.begun; own = tt })

-- and so were all of them
made_called : (config : Config) (stripe many : ℕ) (sight : Sight) (w : Walker) (es : List StripeEvent) → HasBegun config sight w.who w.moment → AreMadeBy w es → WereCalled config stripe many es (list_at sight.seen)
made_called config stripe many sight w [] begun made j event at = absurd (cc at)
made_called config stripe many sight w (e ∷ es) begun made zero event at =
    subst (λ (x : StripeEvent). WasStripeCalled config stripe (many + zero) x (list_at sight.seen)) (some_event e event at) (event_called config stripe (many + zero) sight w e begun made.0)
made_called config stripe many sight w (e ∷ es) begun made (suc j) event at =
    let place : many + 1 + j ≡ many + suc j = omega arith in
    subst (λ (k : ℕ). WasStripeCalled config stripe k event (list_at sight.seen)) place (made_called config stripe (many + 1) sight w es begun made.1 j event at)

-- a stripe that a walker left
pub called_walked : (config : Config) (w : Walker) (s s_new : states.Stripe) (old new : Sight) → StripeGrows w s s_new → Grows old new → HasBegun config old w.who w.moment
    → AreCalled (locks_for config) config.callers s.site.stripe s.history (list_at old.seen) → AreCalled (locks_for config) config.callers s_new.site.stripe s_new.history (list_at new.seen)
called_walked config w s s_new old new grows more begun all =
    subst (λ (t : Site). AreCalled (locks_for config) config.callers t.stripe s_new.history (list_at new.seen)) (sym grows.site.site)
    (called_longer config s.site.stripe s.history grows.events s_new.history (list_at new.seen) grows.history_is
    (made_called config s.site.stripe (length s.history) new w grows.events (begun_sees config old new w.who w.moment more begun) grows.each)
    (called_sees config s.site.stripe s.history old new more all))

-- a stripe on which a command was made or wasn't, and where it was answered, its caller has noted it and told the stripe
module _ (config : Config) (s s_new : states.Stripe) (c : words.Call) (vs ws : List ClassView) (old new : Sight) (caller caller_new : CallerView) (place : ℕ)
    (asked : HasAsked caller c.who c.command c.moment) (at : place ≡ length s.history)
    (site : KeepsSite s s_new) (more : Grows old new) where
  abbrev seen_calls : ℕ → List CallEvent
  seen_calls number = call_events (list_at new.seen (caller_place config number))

  module _ (of : caller.number < config.callers) (told : list_at new.seen (caller_place config caller.number) ≡ calls_told caller_new.calls)
      (noted : caller_new ≡ record caller { calls = caller.calls ++ answered_at s_new.site.stripe place ∷ [] }) where
    calls_are : seen_calls c.who.caller ≡ asked.before ++ asked_for c.command c.moment ∷ answered_at s_new.site.stripe place ∷ []
    calls_are =
        ap seen_calls asked.number
        ∙ (ap call_events told ∙ (call_events-told caller_new.calls
        ∙ (ap (λ (v : CallerView). v.calls) noted
        ∙ (ap (λ (l : List CallEvent). l ++ answered_at s_new.site.stripe place ∷ []) asked.last
        ∙ append_assoc asked.before (asked_for c.command c.moment ∷ []) (answered_at s_new.site.stripe place ∷ [])))))

    begun_now : IsBegun (seen_calls c.who.caller) c.who.turn c.moment
    begun_now = record {
      before = asked.before;
      call = asked_for c.command c.moment;
      behind = answered_at s_new.site.stripe place ∷ [];
      split = calls_are;
      turn_is = asked.turn;
      handed = refl;
    }

    of_now : c.who.caller < config.callers
    of_now = subst (λ (n : ℕ). n < config.callers) (sym asked.number) of

    first : WasStripeCalled config s_new.site.stripe place (did_event s c) (list_at new.seen)
    unfolding begun_now
    first = (of_now, record { moment = c.moment; begun = begun_now; own = (refl, refl) })

    made : WereCalled config s_new.site.stripe (length s.history) (did_event s c ∷ []) (list_at new.seen)
    made zero event is =
        subst (λ (x : StripeEvent). WasStripeCalled config s_new.site.stripe (length s.history + zero) x (list_at new.seen)) (some_event (did_event s c) event is)
        (subst (λ (k : ℕ). WasStripeCalled config s_new.site.stripe k (did_event s c) (list_at new.seen)) (omega (arith, at)) first)
    made (suc j) event is = absurd (cc is)

  pub called_performed : {T : Type 0} (r : Result T Fault) → OnOk r (IsPerformed s s_new c vs ws) → OnErr r (IsUntouched s s_new vs ws) → OnOk r (caller.number < config.callers)
      → OnOk r (list_at new.seen (caller_place config caller.number) ≡ calls_told caller_new.calls) → OnOk r (caller_new ≡ record caller { calls = caller.calls ++ answered_at s_new.site.stripe place ∷ [] })
      → AreCalled (locks_for config) config.callers s.site.stripe s.history (list_at old.seen) → AreCalled (locks_for config) config.callers s_new.site.stripe s_new.history (list_at new.seen)
  called_performed (Ok x) performed err of told noted all =
      called_longer config s_new.site.stripe s.history (did_event s c ∷ []) s_new.history (list_at new.seen) performed.stripe (made of told noted)
      (subst (λ (t : Site). AreCalled (locks_for config) config.callers t.stripe s.history (list_at new.seen)) (sym site.site) (called_sees config s.site.stripe s.history old new more all))
  called_performed (Err fault) performed err of told noted all =
      subst (λ (t : Site). AreCalled (locks_for config) config.callers t.stripe s_new.history (list_at new.seen)) (sym site.site)
      (subst (λ (h : List StripeEvent). AreCalled (locks_for config) config.callers s.site.stripe h (list_at new.seen)) (sym err.stripe) (called_sees config s.site.stripe s.history old new more all))
