-- The turns of a caller's history, and the calls that they are for.
use Rattle.std.proofs.Common.{◌≡◌, ◌⊎◌, ℕ, zero, suc, List, [], ◌∷◌, ◌++◌, Some, Result, Ok, Err, refl, sym, ap, ◌∙◌, subst, inl, inr, ⊎_elim, arith, length, append-nil, None, map}
use Rattle.std.specs.Prelude.{OnOk, slice_get}
use Rattle.std.proofs.lemmas.List.{length-map}
use Rattle.mc_item.specs.declared.{call_event.CallEvent.CallEvent, config.Config.Config, fault.Fault.Fault}
use Rattle.mc_item.specs.declared.call_event.CallEvent.TheVariants as calls
use Rattle.mc_script.specs.Exchanges.{Asks, Begun, Crawls, Exchange, Juggles, Limits, ScriptCall}
use Rattle.mc_store.specs.Callers.{answered_at, moment_of, turns_of}
use Rattle.mc_store.specs.{Passes.PassView, Passes.next_who}
use Rattle.mc_driver.specs.{Called.AreInTurn, Called.call_event_of, Called.turns_for, Caller.MayCall}
use Rattle.mc_driver.proofs.NotedPlaceLemmas.{get_next}

-- ---- turns

-- the turns of two lists are those of the one, then those of the other
pub turns_of-append : (xs ys : List CallEvent) → turns_of (xs ++ ys) ≡ turns_of xs ++ turns_of ys
turns_of-append [] ys = refl
turns_of-append (calls.Asked a ∷ xs) ys = ap (λ (l : List CallEvent). calls.Asked a ∷ l) (turns_of-append xs ys)
turns_of-append (calls.Juggled w ∷ xs) ys = ap (λ (l : List CallEvent). calls.Juggled w ∷ l) (turns_of-append xs ys)
turns_of-append (calls.Crawled w ∷ xs) ys = ap (λ (l : List CallEvent). calls.Crawled w ∷ l) (turns_of-append xs ys)
turns_of-append (calls.Limits l ∷ xs) ys = ap (λ (more : List CallEvent). calls.Limits l ∷ more) (turns_of-append xs ys)
turns_of-append (calls.Answered a ∷ xs) ys = turns_of-append xs ys

-- what was handed a moment is a turn
turn_first : (call : CallEvent) (behind : List CallEvent) (moment : ℕ) → moment_of call ≡ Some moment → turns_of (call ∷ behind) ≡ call ∷ turns_of behind
turn_first (calls.Asked a) behind moment handed = refl
turn_first (calls.Juggled w) behind moment handed = refl
turn_first (calls.Crawled w) behind moment handed = refl
turn_first (calls.Limits l) behind moment handed = absurd (cc handed)
turn_first (calls.Answered a) behind moment handed = absurd (cc handed)

-- the call of a turn stands at its place among the turns
pub turn_at : (all before : List CallEvent) (call : CallEvent) (behind : List CallEvent) (turn moment : ℕ) → all ≡ before ++ call ∷ behind → length (turns_of before) ≡ turn → moment_of call ≡ Some moment
    → slice_get (turns_of all) turn ≡ Some call
turn_at all before call behind turn moment split is handed =
    subst (λ (k : ℕ). slice_get (turns_of all) k ≡ Some call) is
    (ap (λ (l : List CallEvent). slice_get l (length (turns_of before)))
    (ap turns_of split ∙ (turns_of-append before (call ∷ behind) ∙ ap (λ (l : List CallEvent). turns_of before ++ l) (turn_first call behind moment handed)))
    ∙ get_next (turns_of before) (turns_of behind) call)

-- what stands at a place of a list with one more stands there, or is that one
get_last : {A : Type 0} (xs : List A) (x y : A) (k : ℕ) → slice_get (xs ++ x ∷ []) k ≡ Some y → (slice_get xs k ≡ Some y) ⊎ ((k ≡ length xs) × (x ≡ y))
get_last [] x y zero e = inr (refl, cc e)
get_last [] x y (suc k) e = absurd (cc e)
get_last (z ∷ zs) x y zero e = inl e
get_last (z ∷ zs) x y (suc k) e = ⊎_elim
    (λ (was : slice_get zs k ≡ Some y). inl was)
    (λ (t : (k ≡ length zs) × (x ≡ y)). let at = t.0 in inr (omega (arith, at), t.1))
    (get_last zs x y k e)

-- a list with one more event has its call's turn more, if it is one
pub turns_of-call : (calls : List CallEvent) (call : CallEvent) → turns_of (call ∷ []) ≡ call ∷ [] → turns_of (calls ++ call ∷ []) ≡ turns_of calls ++ call ∷ []
turns_of-call calls call turn = turns_of-append calls (call ∷ []) ∙ ap (λ (l : List CallEvent). turns_of calls ++ l) turn

-- the event of a call is a turn
pub call_event_of-turn : (call : ScriptCall) (moment : ℕ) → turns_of (call_event_of call moment ∷ []) ≡ call_event_of call moment ∷ []
call_event_of-turn (Asks command) moment = refl
call_event_of-turn (Juggles class) moment = refl
call_event_of-turn (Crawls class) moment = refl
call_event_of-turn (Limits class n) moment = refl

-- a call has the moment that its event has, if that has one
pub moment_of_call_event : (call : ScriptCall) (moment handed : ℕ) → moment_of (call_event_of call moment) ≡ Some handed → moment_of (call_event_of call moment) ≡ Some moment
moment_of_call_event (Asks command) moment handed is = refl
moment_of_call_event (Juggles class) moment handed is = refl
moment_of_call_event (Crawls class) moment handed is = refl
moment_of_call_event (Limits class n) moment handed is = absurd (cc is)

-- a command that was answered is one turn more
pub replied_turns : (old new : List CallEvent) (asked : CallEvent) (stripe place : ℕ) → new ≡ (old ++ asked ∷ []) ++ answered_at stripe place ∷ [] → turns_of new ≡ turns_of old ++ turns_of (asked ∷ [])
replied_turns old new asked stripe place noted =
    ap turns_of noted ∙ (turns_of-append (old ++ asked ∷ []) (answered_at stripe place ∷ []) ∙ (append-nil (turns_of (old ++ asked ∷ [])) ∙ turns_of-append old (asked ∷ [])))

-- ---- the turns for some calls

abbrev pub event_for : Exchange → CallEvent
event_for call = call_event_of call.call call.moment

-- calls have a turn each
pub turns_for-length : (calls : List Exchange) → length (turns_for calls None) ≡ length calls
turns_for-length calls = ap (λ (l : List CallEvent). length l) (append-nil (map event_for calls)) ∙ length-map calls event_for

-- the turn of a call, where none broke off
pub turns_for-at : (calls : List Exchange) (turn : ℕ) (event : CallEvent) → slice_get (turns_for calls None) turn ≡ Some event
    → (call : Exchange) × (slice_get calls turn ≡ Some call) × (event ≡ event_for call)
turns_for-at [] turn event at = absurd (cc at)
turns_for-at (call ∷ calls) zero event at = (call, refl, cc)
turns_for-at (call ∷ calls) (suc turn) event at = turns_for-at calls turn event at

-- one call more has the last turn
turns_for-push : (calls : List Exchange) (call : Exchange) → turns_for (calls ++ call ∷ []) None ≡ turns_for calls None ++ event_for call ∷ []
turns_for-push [] call = refl
turns_for-push (first ∷ calls) call = ap (λ (l : List CallEvent). event_for first ∷ l) (turns_for-push calls call)

-- and so does one that broke off
turns_for-begun : (calls : List Exchange) (call : ScriptCall) (moment : ℕ) (fault : Fault)
    → turns_for calls (Some (Begun call moment fault)) ≡ turns_for calls None ++ call_event_of call moment ∷ []
turns_for-begun [] call moment fault = refl
turns_for-begun (first ∷ calls) call moment fault = ap (λ (l : List CallEvent). event_for first ∷ l) (turns_for-begun calls call moment fault)

-- a caller's history goes on by a call
pub turns_more : (old new : List CallEvent) (calls : List Exchange) (call : Exchange) → turns_of new ≡ turns_of old ++ event_for call ∷ [] → turns_of old ≡ turns_for calls None
    → turns_of new ≡ turns_for (calls ++ call ∷ []) None
turns_more old new calls call more turns = more ∙ (ap (λ (l : List CallEvent). l ++ event_for call ∷ []) turns ∙ sym (turns_for-push calls call))

-- or by one that breaks off
pub turns_begun : (old new : List CallEvent) (calls : List Exchange) (call : ScriptCall) (moment : ℕ) (fault : Fault) → new ≡ old ++ call_event_of call moment ∷ []
    → turns_of old ≡ turns_for calls None → turns_of new ≡ turns_for calls (Some (Begun call moment fault))
turns_begun old new calls call moment fault more turns =
    let event = call_event_of call moment in
    ap turns_of more ∙ (turns_of-call old event (call_event_of-turn call moment)
    ∙ (ap (λ (l : List CallEvent). l ++ event ∷ []) turns ∙ sym (turns_for-begun calls call moment fault)))

-- its next call is in the turn of its place
pub in_turn_more : (pass : PassView) (calls : List Exchange) (call : Exchange) → AreInTurn pass.caller calls → call.who ≡ next_who pass → length (turns_of pass.calls) ≡ pass.turn
    → turns_of pass.calls ≡ turns_for calls None → AreInTurn pass.caller (calls ++ call ∷ [])
in_turn_more pass calls call own who many turns = record {
  each = λ turn other at. ⊎_elim
      (λ (was : slice_get calls turn ≡ Some other). own.each turn other was)
      (λ (last : (turn ≡ length calls) × (call ≡ other)).
      let here : pass.turn ≡ turn = omega (arith, last.0, many, ap (λ (l : List CallEvent). length l) turns, turns_for-length calls) in
      subst (λ (c : Exchange). c.who ≡ record { caller = pass.caller; turn = turn }) last.1 (who ∙ ap (λ (n : ℕ). record { caller = pass.caller; turn = n }) here))
      (get_last calls call other turn at);
}

-- where a call was made, the next one may be
pub may_again : {T : Type 0} (config : Config) (old new : PassView) (r : Result T Fault) → MayCall config old → new.turn ≡ length (turns_of new.calls) → OnOk r (MayCall config new)
may_again config old new (Ok x) may turn = record { some = may.some; turns = sym turn }
may_again config old new (Err fault) may turn = tt
