-- Whose the events of a closed store are.
use Rattle.std.proofs.Common.{◌≡◌, ◌<◌, ◌+◌, ◌-◌, ℕ, suc, List, [], ◌∷◌, Some, None, refl, sym, ap, ◌∙◌, subst, arith, inl, inr, length}
use Rattle.std.specs.Prelude.{slice_get}
use Rattle.std.proofs.lemmas.Bool.{cases_lt}
use Rattle.mc_item.specs.declared.{call_event.CallEvent.CallEvent, class_event.ClassEvent.ClassEvent, config.Config.Config, item.ClassNo.ClassNo, item.Who.Who}
use Rattle.mc_item.specs.declared.{stripe_event.StripeEvent.StripeEvent}
use Rattle.mc_item.specs.declared.class_event.ClassEvent.TheVariants as entries
use Rattle.mc_item.specs.declared.stripe_event.StripeEvent.TheVariants as events
use Rattle.mc_evidence.specs.Setting.{IsClass}
use Rattle.mc_script.specs.Exchanges.{Exchange}
use Rattle.mc_board.specs.Accounts.{maker_of, who_of}
use Rattle.mc_store.specs.Callers.{IsBegun, IsOf, limits_of, moment_of, turns_of}
use Rattle.mc_store.specs.{Locked.setting_of, Made.WasCalled}
use Rattle.mc_store.specs.Finals.{AreClasses, AreStripes, FinalView, class_histories, class_history, stripe_histories, stripe_history}
use Rattle.mc_store.specs.{Passes.PassView, Sides.ClassSide, Sides.StripeSide}
use Rattle.mc_store.proofs.NumberOrderLemmas.{get_some}
use Rattle.mc_driver.specs.Called.{AreByCallers, AreCalledBy, AreInTurn, AreItsCalls, AreWholeTurns, HasCall, IsAtMoment, IsCompared}
use Rattle.mc_driver.specs.{Run.callers_at_work, Run.histories_left, Stand.Histories, Stand.MakesOnly, Stand.nothing_seen}
use Rattle.mc_driver.proofs.CalledEventLemmas.{event_for, moment_of_call_event, turn_at, turns_for-at, turns_of-append}
use Rattle.mc_driver.proofs.{NotedPlaceLemmas.get_next, StandingCallLemmas.stand_at}

-- an event's moment is that of its call
moment_of_call : (stripe place : ℕ) (event : StripeEvent) (call : CallEvent) (behind : List CallEvent) (moment handed : ℕ) → moment_of call ≡ Some moment
    → moment_of call ≡ Some handed → IsOf stripe place event call behind moment
    → IsAtMoment event handed
moment_of_call stripe place (events.Did did) call behind moment handed is also own = let asked = ap moment_of own.0 in cc
moment_of_call stripe place (events.Lost lost) call behind moment handed is also own =
    let same : moment ≡ handed = cc in
    subst (IsAtMoment (events.Lost lost)) same own
moment_of_call stripe place (events.Cooled cooled) call behind moment handed is also own = tt

who_by : (who : Who) (caller : ℕ) → who.caller ≡ caller → who ≡ record { caller = caller; turn = who.turn }
who_by who caller is = ap (λ (n : ℕ). record who { caller = n }) is

-- a call that was begun in a turn is that turn's
begun_turn : (history : List CallEvent) (turn moment : ℕ) → (begun : IsBegun history turn moment) → slice_get (turns_of history) turn ≡ Some begun.call
begun_turn history turn moment begun = turn_at history begun.before begun.call begun.behind turn moment begun.split begun.turn_is begun.handed

-- an event of a class that was called has its turn in its caller's history
class_turn : (history : List CallEvent) (class : ClassNo) (event : ClassEvent) → WasCalled history class event → (call : CallEvent) × (slice_get (turns_of history) (maker_of event).turn ≡ Some call)
class_turn history class (entries.Linked e) was = (_, begun_turn history e.who.turn was.moment was.begun)
class_turn history class (entries.Unlinked e) was = (_, begun_turn history e.who.turn was.moment was.begun)
class_turn history class (entries.Shifted e) was = (_, begun_turn history e.who.turn was.moment was.begun)
class_turn history class (entries.Evicted e) was = (_, begun_turn history e.who.turn was.moment was.begun)
class_turn history class (entries.Reclaimed e) was = (_, begun_turn history e.who.turn was.moment was.begun)
class_turn history class (entries.Surveyed e) was = (_, begun_turn history e.who.turn was.moment was.begun)
class_turn history class (entries.Refused e) was = (_, begun_turn history e.who.turn was.moment was.begun)
class_turn history class (entries.Limited e) was =
    let limits = limits_of class e.chunks in
    let turns = turns_of was.before in (
      limits,
      subst (λ (n : ℕ). slice_get (turns_of history) n ≡ Some limits) was.turn_is
          (ap (λ (l : List CallEvent). slice_get l (length turns)) (ap turns_of was.split ∙ turns_of-append was.before (limits ∷ was.behind)) ∙ get_next turns (turns_of was.behind) limits),
    )

-- where no call of a caller broke off, each event that names it has its call
pub whole_turns : (config : Config) (caller : ℕ) (histories : Histories) (calls : List Exchange) → AreItsCalls config caller histories calls None → AreInTurn caller calls → AreWholeTurns config caller histories
whole_turns config caller histories calls are own = record {
  at = λ number place event below found by.
      let called = are.events.called number place event below found by in
      let begun = called.begun in
      let turn = (who_of event).turn in
      let made = call_at turn begun.call (begun_turn are.history turn called.moment begun) in (
        has_call (who_of event) by made.0 made.1,
        moment_of_call number place event begun.call begun.behind called.moment made.0.moment begun.handed
            (ap moment_of made.2 ∙ moment_of_call_event made.0.call made.0.moment called.moment (sym (ap moment_of made.2) ∙ begun.handed)) called.own,
      );
  at_classes = λ class place event is found by.
      let turn = class_turn are.history class event (are.events.called_in_classes class place event is found by) in
      let made = call_at (maker_of event).turn turn.0 turn.1 in
      has_call (maker_of event) by made.0 made.1;
}
  where
    call_at : (turn : ℕ) (event : CallEvent) → slice_get (turns_of are.history) turn ≡ Some event → (call : Exchange) × (slice_get calls turn ≡ Some call) × (event ≡ event_for call)
    call_at turn event at = turns_for-at calls turn event (ap (λ (l : List CallEvent). slice_get l turn) (sym are.just) ∙ at)

    has_call : (who : Who) → who.caller ≡ caller → (call : Exchange) → slice_get calls who.turn ≡ Some call → HasCall config histories who
    has_call who by call at = record {
      call = call;
      stands = stand_at (MakesOnly config histories) config nothing_seen histories calls who.turn call are.stand at;
      who_is = who_by who caller by ∙ sym (own.each who.turn call at);
    }

module _ (config : Config) (final : FinalView) (all : AreStripes final.board config final.stripes) (all_classes : AreClasses final.board config final.classes) where
  -- an event of a stripe that is left stands there
  pub in_stripe : (number place : ℕ) (event : StripeEvent) → number < config.stripes → slice_get (stripe_histories final.stripes number) place ≡ Some event
      → (s : StripeSide) × (slice_get final.stripes number ≡ Some s) × (slice_get s.stripe.history place ≡ Some event)
  in_stripe number place event below found =
      let s = get_some final.stripes number (omega (arith, below, all.many)) in
      let there : stripe_histories final.stripes number ≡ s.0.stripe.history = ap stripe_history s.1 in
      (s.0, s.1, ap (λ (h : List StripeEvent). slice_get h place) (sym there) ∙ found)

  -- and so does one of a class
  pub in_class : (class : ClassNo) (place : ℕ) (event : ClassEvent) → IsClass (setting_of config) class → slice_get (class_histories final.classes class) place ≡ Some event
      → (c : ClassSide) × (slice_get final.classes (class.0 - 1) ≡ Some c) × (slice_get c.class.history place ≡ Some event)
  in_class class place event is found =
      let c = get_some final.classes (class.0 - 1) (omega (arith, is.0, is.1, all_classes.many)) in
      let there : class_histories final.classes class ≡ c.0.class.history = ap class_history c.1 in
      (c.0, c.1, ap (λ (h : List ClassEvent). slice_get h place) (sym there) ∙ found)

  -- each event that names the caller of a pass is of a call of its
  pub called_by : (pass : PassView) → IsCompared pass final → AreCalledBy config pass.caller (histories_left final) pass.calls
  called_by pass compared = record {
    called = λ number place event below found by.
        let s = in_stripe number place event below found in
        compared.own.each number s.0 place event s.1 s.2 by;
    called_in_classes = λ class place event is found by.
        let c = in_class class place event is found in
        let number : (class.0 - 1) + 1 ≡ class.0 = omega (arith, is.0) in
        subst (λ (n : ℕ). WasCalled pass.calls (record { 0 = n }) event) number (compared.own_in_classes.each (class.0 - 1) c.0 place event c.1 c.2 by);
  }

  -- where the maintainer and the crawler have no moments to work at, the events are those of the scripts' callers
  pub by_working : (scripts : ℕ) (moments : List ℕ) → config.callers ≡ scripts + 2
      → (moments ≡ [] → AreItsCalls config scripts (histories_left final) [] None × AreItsCalls config (suc scripts) (histories_left final) [] None)
      → AreByCallers config (callers_at_work scripts moments) (histories_left final)
  by_working scripts moments many none = record {
    at = λ number place event below found.
        let s = in_stripe number place event below found in
        let few = ((all.each number s.0 s.1).kept.called.each place event s.2).0 in
        working moments (who_of event).caller (omega (arith, few, many)) (λ is. (
          λ by. no_event scripts (none is).0 _ _ ((none is).0.events.called number place event below found by).begun,
          λ by. no_event (suc scripts) (none is).1 _ _ ((none is).1.events.called number place event below found by).begun,
        ));
    at_classes = λ class place event is found.
        let c = in_class class place event is found in
        let few = ((all_classes.each (class.0 - 1) c.0 c.1).kept.called.each place event c.2).0 in
        working moments (maker_of event).caller (omega (arith, few, many)) (λ idle. (
          λ by. no_class_event scripts (none idle).0 class event ((none idle).0.events.called_in_classes class place event is found by),
          λ by. no_class_event (suc scripts) (none idle).1 class event ((none idle).1.events.called_in_classes class place event is found by),
        ));
  }
    where
      no_turn : (caller : ℕ) → (are : AreItsCalls config caller (histories_left final) [] None) → (turn : ℕ) (call : CallEvent) → slice_get (turns_of are.history) turn ≡ Some call → ⊥
      no_turn caller are turn call at =
          let none : slice_get [] turn ≡ Some call = ap (λ (l : List CallEvent). slice_get l turn) (sym are.just) ∙ at in
          absurd (cc none)

      no_event : (caller : ℕ) → (are : AreItsCalls config caller (histories_left final) [] None) → (turn moment : ℕ) → IsBegun are.history turn moment → ⊥
      no_event caller are turn moment begun = no_turn caller are turn begun.call (begun_turn are.history turn moment begun)

      no_class_event : (caller : ℕ) → (are : AreItsCalls config caller (histories_left final) [] None) → (class : ClassNo) (event : ClassEvent) → WasCalled are.history class event → ⊥
      no_class_event caller are class event was = let turn = class_turn are.history class event was in no_turn caller are (maker_of event).turn turn.0 turn.1

      below_both : (n : ℕ) → n < scripts + 2 → (n ≡ scripts → ⊥) → (n ≡ suc scripts → ⊥) → n < scripts
      below_both n few one two = elim (cases_lt n scripts) [
        | inl below ↦ below
        | inr past ↦ elim (cases_lt n (suc scripts)) [
          | inl first ↦ absurd (one (omega (arith, past, first)))
          | inr second ↦ absurd (two (omega (arith, few, second)))
        ]
      ]

      working : (moments : List ℕ) (n : ℕ) → n < scripts + 2 → (moments ≡ [] → (n ≡ scripts → ⊥) × (n ≡ suc scripts → ⊥)) → n < callers_at_work scripts moments
      working [] n few none = let both = none refl in below_both n few both.0 both.1
      working (moment ∷ moments) n few none = few
