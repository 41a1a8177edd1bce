-- A class under its lock has a new limit of chunks: the event was called, and the lock keeps all that it keeps.
use Rattle.std.proofs.Common.{◌≡◌, ◌≤◌, ◌<◌, ◌+◌, ◌++◌, ◌∷◌, [], ℕ, zero, suc, List, Some, Result, Ok, Err, append-nil, refl, slice_get, length, sym, ap, ◌∙◌, subst, ⊎_elim, arith}
use Rattle.std.specs.Prelude.{OnOk, OnErr}
use Rattle.atomic_table.specs.Seated.{TableId}
use Rattle.mc_item.specs.declared.{call_event.CallEvent.CallEvent, class_event.ClassEvent.ClassEvent, config.Config.Config, event.Event.Event, fault.Fault.Fault, item.ClassNo.ClassNo, item.Who.Who}
use Rattle.mc_item.specs.declared.fault.Fault.TheVariants.{HistoryFull, NoMemory}
use Rattle.mc_rule.specs.Lawful.{IsLawfulHistoryByLists}
use Rattle.mc_board.specs.{Accounts.maker_of, Accounts.with_new, Histories.Grows, Histories.list_at}
use Rattle.mc_board.specs.declared.rule.Sight.{Sight}
use Rattle.mc_segment.specs.{ClassCalls.Makes, ClassCalls.MayEnd, ClassCalls.Stays, ClassCalls.limited_event, ClassState.ClassView}
use Rattle.mc_pull.specs.Growth as classes
use Rattle.mc_store.specs.Callers.{call_events, calls_told, limits_of, turns_of}
use Rattle.mc_store.specs.{Accounts.StillCalls, Calls.HasGained, Calls.IsSeenGrowOf, Locked.IsLockedClass, Locked.caller_place, Locked.class_lock, Locked.locks_for, Passes.CallerView}
use Rattle.mc_store.specs.Made.{AreCalledInClass, HasNoneMadeBy, IsLimitCalled, WasCalled}
use Rattle.mc_store.specs.{Sides.ClassSide, Sides.class_told, Walking.class_sight, Walking.with_class}
use Rattle.mc_store.proofs.AccountLemmas.{grows_itself, seen_all, still_new, whole_grows}
use Rattle.mc_store.proofs.{GateLemmas.class_within, LentClassLemmas.class_behind}
use Rattle.mc_store.proofs.{CallerLemmas.call_events-told, CallerLemmas.get_append, NotedRefusalLemmas.limited_after, NotedRefusalLemmas.noted_does, NotedRefusalLemmas.noted_grows}

-- ---- the event was called

-- who was told a caller's whole history has seen the call at its end
pub limit_seen : (config : Config) (caller : CallerView) (sight : Sight) (class : ClassNo) (who : Who) (chunks : ℕ) (before : List CallEvent)
    → list_at sight.seen (caller_place config caller.number) ≡ calls_told caller.calls → who.caller ≡ caller.number
    → caller.calls ≡ before ++ limits_of class chunks ∷ [] → length (turns_of before) ≡ who.turn
    → IsLimitCalled (call_events (list_at sight.seen (caller_place config who.caller))) class (record { who = who; chunks = chunks })
limit_seen config caller sight class who chunks before whole number calls turn = record {
  before = before;
  behind = [];
  split = ap (λ (n : ℕ). call_events (list_at sight.seen (caller_place config n))) number ∙ (ap call_events whole ∙ (call_events-told caller.calls ∙ calls));
  turn_is = turn;
}

some_event : (a b : ClassEvent) → Some a ≡ Some b → a ≡ b
some_event a b e = cc e

-- an event of a class was called by one of the callers, as far as that one's history was seen
abbrev IsMade : Config → ClassNo → Sight → ClassEvent → Type 0
IsMade config class sight event = ((maker_of event).caller < config.callers) × WasCalled (call_events (list_at sight.seen (locks_for config + (maker_of event).caller))) class event

module _ (config : Config) (class : ClassNo) (sight : Sight) (who : Who) (chunks : ℕ) (of : who.caller < config.callers)
    (called : IsLimitCalled (call_events (list_at sight.seen (caller_place config who.caller))) class (record { who = who; chunks = chunks })) where
  last_called : (j : ℕ) (event : ClassEvent) → slice_get (limited_event who chunks ∷ []) j ≡ Some event → IsMade config class sight event
  last_called zero event is = subst (IsMade config class sight) (some_event (limited_event who chunks) event is) (of, called)
  last_called (suc j) event is = absurd (cc is)

  -- a history with the new limit at its end
  all_called : (history : List ClassEvent) → AreCalledInClass (locks_for config) config.callers class history (list_at sight.seen)
      → AreCalledInClass (locks_for config) config.callers class (history ++ limited_event who chunks ∷ []) (list_at sight.seen)
  all_called history all = record {
    each = λ place event at. ⊎_elim
        (λ (was : slice_get history place ≡ Some event). all.each place event was)
        (λ (t : (j : ℕ) × (place ≡ length history + j) × (slice_get (limited_event who chunks ∷ []) j ≡ Some event)). last_called t.0 event t.2)
        (get_append history (limited_event who chunks ∷ []) event place at);
  }

-- ---- what a class's lock keeps

pub locked_limited : {T : Type 0} (table : TableId) (config : Config) (old new : ClassSide) (who : Who) (chunks : ℕ) → IsLockedClass table config old
    → new.board ≡ old.board → new.lock ≡ old.lock → Grows old.sight new.sight → new.sight ≡ old.sight
    → IsLawfulHistoryByLists new.class.chunks new.class.rule new.class.history → who.caller < config.callers
    → IsLimitCalled (call_events (list_at old.sight.seen (caller_place config who.caller))) old.class.number (record { who = who; chunks = chunks })
    → (r : Result T Fault) → OnOk r (Makes old.class new.class (limited_event who chunks)) → OnErr r (Stays old.class new.class) → IsLockedClass table config new
locked_limited table config old new who chunks kept board lock more sight lawful of called r makes err =
    let event = limited_event who chunks in
    let number : new.class.number ≡ old.class.number = ap (λ (v : ClassView). v.number) (noted_grows old.class new.class event r makes err).same in
    record {
      held = limited_after table config old new who chunks kept.held board lock more lawful r makes err;
      called = subst (λ (s : Sight). AreCalledInClass (locks_for config) config.callers new.class.number new.class.history (list_at s.seen)) (sym sight)
          (subst (λ (n : ClassNo). AreCalledInClass (locks_for config) config.callers n new.class.history (list_at old.sight.seen)) (sym number)
          (noted_does old.class new.class event (λ h. AreCalledInClass (locks_for config) config.callers old.class.number h (list_at old.sight.seen)) kept.called
          (all_called config old.class.number old.sight who chunks of called old.class.history kept.called) r makes err));
    }

-- ---- what the call enters

-- the caller's account gained only events of the class, as that was under its lock
pub still_limited : (config : Config) (turn : ℕ) (old was : ClassSide) (c_new : ClassView) (caller caller_new : CallerView) (from : ℕ) → old ≡ was → old.lock ≡ class_lock config old.class.number
    → classes.GainsEvents old.class c_new → caller_new ≡ record caller { made = with_new caller.made turn old.lock from (length c_new.history) }
    → StillCalls (λ lock place event. lock ≡ class_lock config was.class.number) turn (class_sight config was) (with_class config c_new.number c_new.history old.sight) caller caller_new
still_limited config turn old was c_new caller caller_new from is at grows entered =
    let Suits : (lock place : ℕ) → Event → Type 0 = λ lock place event. lock ≡ class_lock config old.class.number in
    let last = with_class config old.class.number c_new.history old.sight in
    let still : StillCalls Suits turn (class_sight config old) last caller caller_new =
    still_new Suits {x = class_sight config old} {y = last} caller caller_new turn old.lock from (length c_new.history) entered
    (whole_grows {x = old.sight} {y = old.sight} (class_lock config old.class.number) (class_told old.class.history) (class_told c_new.history)
    (class_behind (class_told old.class.history) old.class c_new refl grows) (grows_itself old.sight))
    (seen_all Suits last old.lock from (length c_new.history) (class_within config old.class.number c_new.history old.sight old.lock at) (λ place event low high. at)) in
    subst (λ (x : ClassSide). StillCalls (λ lock place event. lock ≡ class_lock config x.class.number) turn (class_sight config x) (with_class config c_new.number c_new.history old.sight) caller caller_new) is
    (subst (λ (n : ClassNo). StillCalls Suits turn (class_sight config old) (with_class config n c_new.history old.sight) caller caller_new) (sym (ap (λ (v : ClassView). v.number) grows.same)) still)

-- ---- how the call ends

-- for a full history, only if that has no place left
pub limit_full : {T : Type 0} (v w : ClassView) (r : Result T Fault) → MayEnd v r → OnErr r (Stays v w) → r ≡ Err HistoryFull → w.max_events ≤ length w.history
limit_full v w (Ok x) may stays is = absurd (cc is)
limit_full v w (Err HistoryFull) may stays is = subst (λ (c : ClassView). c.max_events ≤ length c.history) (sym stays.0) (omega (arith, may))
limit_full v w (Err NoMemory) may stays is = absurd (cc is)

-- no event at all
pub limit_stays : {T : Type 0} (v w : ClassView) (r : Result T Fault) → OnErr r (Stays v w) → OnErr r (w.history ≡ v.history)
limit_stays v w (Ok x) stays = tt
limit_stays v w (Err f) stays = ap (λ (c : ClassView). c.history) stays.0

-- the event of the call, and no other
pub limit_made : {T : Type 0} (v w : ClassView) (event : ClassEvent) (r : Result T Fault) → OnOk r (Makes v w event) → OnOk r (w.history ≡ v.history ++ event ∷ [])
limit_made v w event (Ok x) makes = ap (λ (c : ClassView). c.history) makes
limit_made v w event (Err f) makes = tt

-- the pass that made the call has seen it
pub limited_so : {T : Type 0} (config : Config) (class : ClassNo) (before after : Sight) (old : ClassView) (history_new : List ClassEvent) (who : Who) (chunks : ℕ)
    → IsSeenGrowOf config class before after old history_new → HasNoneMadeBy who old.history
    → (r : Result T Fault) → OnOk r (history_new ≡ old.history ++ limited_event who chunks ∷ []) → OnOk r (HasGained config class before after who (limited_event who chunks ∷ []))
limited_so config class before after old history_new who chunks grew first (Ok x) made =
    record { old = old; grew = subst (λ (h : List ClassEvent). IsSeenGrowOf config class before after old h) made grew; first = first }
limited_so config class before after old history_new who chunks grew first (Err f) made = tt

-- and after a fault it has seen no event of the call
pub unlimited_so : {T : Type 0} (config : Config) (class : ClassNo) (before after : Sight) (old : ClassView) (history_new : List ClassEvent) (who : Who)
    → IsSeenGrowOf config class before after old history_new → HasNoneMadeBy who old.history
    → (r : Result T Fault) → OnErr r (history_new ≡ old.history) → OnErr r (HasGained config class before after who [])
unlimited_so config class before after old history_new who grew first (Ok x) stays = tt
unlimited_so config class before after old history_new who grew first (Err f) stays = record {
  old = old;
  grew = subst (λ (h : List ClassEvent). IsSeenGrowOf config class before after old h) (stays ∙ sym (append-nil old.history)) grew;
  first = first;
}
