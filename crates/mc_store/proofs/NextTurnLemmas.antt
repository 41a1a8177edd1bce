-- No event that was called is of its caller's next turn.
use Rattle.std.proofs.Common.{◌≡◌, ◌<◌, ◌+◌, ℕ, List, [], ◌∷◌, ◌++◌, Some, length, ap, subst, arith}
use Rattle.mc_item.specs.declared.{call_event.CallEvent.CallEvent, class_event.ClassEvent.ClassEvent, class_event.Limited.Limited, config.Config.Config}
use Rattle.mc_item.specs.declared.{item.ClassNo.ClassNo, item.Who.Who}
use Rattle.mc_item.specs.declared.class_event.ClassEvent.TheVariants as entries
use Rattle.mc_item.specs.declared.stripe_event.StripeEvent.{StripeEvent}
use Rattle.mc_item.specs.declared.call_event.CallEvent.TheVariants.{Answered, Asked, Crawled, Juggled, Limits}
use Rattle.mc_board.specs.{Accounts.maker_of, Accounts.who_of, Histories.HasSeen, Histories.list_at}
use Rattle.mc_board.specs.declared.rule.Sight.{Sight}
use Rattle.mc_store.specs.Callers.{AreCalled, HasNoneOf, IsBegun, call_events, calls_told, limits_of, moment_of, turns_of}
use Rattle.mc_store.specs.Made.{AreCalledInClass, HasNoneMadeBy, IsLimitCalled, WasCalled}
use Rattle.mc_store.specs.{Locked.caller_place, Locked.locks_for, Passes.CallerView, Passes.next_call}
use Rattle.mc_store.proofs.CallerLemmas.{begun_prefix, call_events-told, class_called_prefix}

pub turns_both : (xs ys : List CallEvent) → length (turns_of (xs ++ ys)) ≡ length (turns_of xs) + length (turns_of ys)
turns_both [] ys = omega arith
turns_both (Asked a ∷ xs) ys = omega (arith, turns_both xs ys)
turns_both (Juggled w ∷ xs) ys = omega (arith, turns_both xs ys)
turns_both (Crawled w ∷ xs) ys = omega (arith, turns_both xs ys)
turns_both (Answered a ∷ xs) ys = turns_both xs ys
turns_both (Limits l ∷ xs) ys = omega (arith, turns_both xs ys)

-- a call that has a moment is one turn more
pub turn_more : (call : CallEvent) (calls : List CallEvent) (moment : ℕ) → moment_of call ≡ Some moment → length (turns_of (call ∷ calls)) ≡ length (turns_of calls) + 1
turn_more (Asked a) calls moment handed = omega arith
turn_more (Juggled w) calls moment handed = omega arith
turn_more (Crawled w) calls moment handed = omega arith
turn_more (Answered a) calls moment handed = absurd (cc handed)
turn_more (Limits l) calls moment handed = absurd (cc handed)

-- and so is one that sets a limit
pub limit_more : (class : ClassNo) (chunks : ℕ) (calls : List CallEvent) → length (turns_of (limits_of class chunks ∷ calls)) ≡ length (turns_of calls) + 1
limit_more class chunks calls = omega arith

-- a call takes the next turn
pub turn_called : (calls calls_new : List CallEvent) (turn turn_new moment : ℕ) (call : CallEvent) → turn_new ≡ turn + 1 → calls_new ≡ calls ++ call ∷ [] → moment_of call ≡ Some moment
    → length (turns_of calls) ≡ turn → turn_new ≡ length (turns_of calls_new)
turn_called calls calls_new turn turn_new moment call next more handed turns =
    let all : length (turns_of calls_new) ≡ length (turns_of (calls ++ call ∷ [])) = ap (λ (l : List CallEvent). length (turns_of l)) more in
    omega (arith, all, turns_both calls (call ∷ []), turn_more call [] moment handed, next, turns)

-- a turn that was begun comes before the next one
begun_before : (calls : List CallEvent) (turn moment : ℕ) → IsBegun calls turn moment → turn < length (turns_of calls)
begun_before calls turn moment b =
    let all : length (turns_of calls) ≡ length (turns_of (b.before ++ b.call ∷ b.behind)) = ap (λ (l : List CallEvent). length (turns_of l)) b.split in
    omega (arith, all, turns_both b.before (b.call ∷ b.behind), turn_more b.call b.behind moment b.handed, b.turn_is)

limit_before : (calls : List CallEvent) (class : ClassNo) (e : Limited) → IsLimitCalled calls class e → e.who.turn < length (turns_of calls)
limit_before calls class e c =
    let all : length (turns_of calls) ≡ length (turns_of (c.before ++ limits_of class e.chunks ∷ c.behind)) = ap (λ (l : List CallEvent). length (turns_of l)) c.split in
    omega (arith, all, turns_both c.before (limits_of class e.chunks ∷ c.behind), limit_more class e.chunks c.behind, c.turn_is)

-- so does the turn of an event of a class that was called
made_before : (calls : List CallEvent) (class : ClassNo) (event : ClassEvent) → WasCalled calls class event → (maker_of event).turn < length (turns_of calls)
made_before calls class (entries.Linked e) c = begun_before calls e.who.turn c.moment c.begun
made_before calls class (entries.Unlinked e) c = begun_before calls e.who.turn c.moment c.begun
made_before calls class (entries.Shifted e) c = begun_before calls e.who.turn c.moment c.begun
made_before calls class (entries.Evicted e) c = begun_before calls e.who.turn c.moment c.begun
made_before calls class (entries.Reclaimed e) c = begun_before calls e.who.turn c.moment c.begun
made_before calls class (entries.Surveyed e) c = begun_before calls e.who.turn c.moment c.begun
made_before calls class (entries.Refused e) c = begun_before calls e.who.turn c.moment c.begun
made_before calls class (entries.Limited e) c = limit_before calls class e c

module _ (config : Config) (sight : Sight) (caller : CallerView) (seen : HasSeen (calls_told caller.calls) sight (caller_place config caller.number)) where
  seen_before : (who : Who) (moment : ℕ) → who.caller ≡ caller.number → IsBegun (call_events (list_at sight.seen (locks_for config + who.caller))) who.turn moment
      → who.turn < length (turns_of caller.calls)
  seen_before who moment by begun =
      begun_before caller.calls who.turn moment (subst (λ (l : List CallEvent). IsBegun l who.turn moment) (call_events-told caller.calls)
      (begun_prefix (list_at sight.seen (caller_place config caller.number)) (calls_told caller.calls) who.turn moment seen
      (subst (λ (n : ℕ). IsBegun (call_events (list_at sight.seen (locks_for config + n))) who.turn moment) by begun)))

  not_next : (who : Who) (moment : ℕ) → IsBegun (call_events (list_at sight.seen (locks_for config + who.caller))) who.turn moment → who ≡ next_call caller → ⊥
  not_next who moment begun same =
      let turn : who.turn ≡ length (turns_of caller.calls) = ap (λ (w : Who). w.turn) same in
      absurd (omega (arith, seen_before who moment (ap (λ (w : Who). w.caller) same) begun, turn))

  -- of a stripe that has seen a beginning of the caller's history
  pub none_next : (stripe : ℕ) (history : List StripeEvent) → AreCalled (locks_for config) config.callers stripe history (list_at sight.seen) → HasNoneOf (next_call caller) history
  none_next stripe history called = record {
    each = λ place event at same. let c = (called.each place event at).1 in not_next (who_of event) c.moment c.begun same;
  }

  made_seen : (class : ClassNo) (event : ClassEvent) → (maker_of event).caller ≡ caller.number
      → WasCalled (call_events (list_at sight.seen (locks_for config + (maker_of event).caller))) class event → (maker_of event).turn < length (turns_of caller.calls)
  made_seen class event by called =
      made_before caller.calls class event (subst (λ (l : List CallEvent). WasCalled l class event) (call_events-told caller.calls)
      (class_called_prefix (list_at sight.seen (caller_place config caller.number)) (calls_told caller.calls) class event seen
      (subst (λ (n : ℕ). WasCalled (call_events (list_at sight.seen (locks_for config + n))) class event) by called)))

  -- and of a class
  pub none_made_next : (class : ClassNo) (history : List ClassEvent) → AreCalledInClass (locks_for config) config.callers class history (list_at sight.seen) → HasNoneMadeBy (next_call caller) history
  none_made_next class history called = record {
    each = λ place event at same.
        let turn : (maker_of event).turn ≡ length (turns_of caller.calls) = ap (λ (w : Who). w.turn) same in
        absurd (omega (arith, made_seen class event (ap (λ (w : Who). w.caller) same) (called.each place event at).1, turn));
  }
