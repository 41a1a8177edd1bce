-- What a caller's account has of its calls, as it grows by one, and where its events stand in the histories.
use Rattle.std.proofs.Common.{◌≡◌, ◌≢◌, ◌<◌, ◌≤◌, ◌+◌, ◌⊎◌, ℕ, List, [], ◌++◌, Option, None, Some, length, map, option_map, slice_get, refl, sym, ap, ◌∙◌, subst, inl, inr, ⊎_elim, arith, append-nil}
use Rattle.std.specs.Prelude.{IsSomeAnd}
use Rattle.std.proofs.lemmas.Bool.{cases_lt}
use Rattle.std.proofs.lemmas.Option.{slice_get-map, slice_get_within}
use Rattle.mc_item.specs.declared.{event.Event.Event, item.Who.Who}
use Rattle.mc_board.specs.{Accounts.IsEntered, Accounts.maker_in, Histories.Grows, Histories.list_at}
use Rattle.mc_board.specs.declared.rule.Span.{Span}
use Rattle.mc_board.proofs.AccountLemmas.{get_either, get_longer}
use Rattle.mc_store.specs.{Accounts.Enters, Passes.PassView, Passes.next_who}
use Rattle.mc_store.proofs.{NumberOrderLemmas.get_some, SyncedStepLemmas.map_length}
use Rattle.mc_driver.specs.Caller.{EntersOnly, IsBefore}

-- ---- places of histories

-- the event at a place, of which something holds
pub some_at : (P : Event → Type 0) (o : Option Event) → IsSomeAnd o P → (event : Event) × (o ≡ Some event) × P event
some_at P (Some event) it = (event, refl, it)
some_at P None it = absurd it

some_is : (P : Event → Type 0) (o : Option Event) (event : Event) → o ≡ Some event → P event → IsSomeAnd o P
some_is P o event at it = subst (λ (x : Option Event). IsSomeAnd x P) (sym at) it

-- of a history whose older events are none of a call's, those of the call stand behind these, and before the end
pub stands_within : {A : Type 0} (tell : A → Event) (maker : A → Who) (who : Who) (older more all : List A) (place : ℕ) (event : Event) → ((e : A) → maker_in (tell e) ≡ Some (maker e))
    → ((k : ℕ) (e : A) → slice_get older k ≡ Some e → maker e ≢ who) → all ≡ older ++ more → slice_get (map tell all) place ≡ Some event → maker_in event ≡ Some who
    → (length older ≤ place) × (place < length all)
stands_within tell maker who older more all place event told none split at by =
    let below : place < length (map tell all) = slice_get_within (map tell all) place event at in (
      elim (cases_lt place (length older)) [
        | inl early ↦
            let e = get_some older place early in
            let there : slice_get all place ≡ Some e.0 = get_longer older all place e.0 (more, sym split) e.1 in
            let same : Some (tell e.0) ≡ Some event = sym (slice_get-map tell all place ∙ ap (option_map tell) there) ∙ at in
            let is : tell e.0 ≡ event = cc same in
            let made : Some (maker e.0) ≡ Some who = sym (told e.0) ∙ (ap maker_in is ∙ by) in
            absurd (none place e.0 e.1 (cc made))
        | inr past ↦ past
      ],
      subst (λ (n : ℕ). place < n) (map_length tell all) below,
    )

-- ---- accounts

-- an account gained only spans of this turn
abbrev pub Gains : ℕ → List Span → List Span → Type 0
Gains turn made made_new = (spans : List Span) × (made_new ≡ made ++ spans) × ((i : ℕ) (span : Span) → slice_get spans i ≡ Some span → span.turn ≡ turn)

pub gains_none : (turn : ℕ) (made made_new : List Span) → made_new ≡ made → Gains turn made made_new
gains_none turn made made_new same = ([], same ∙ sym (append-nil made), λ i span at. absurd (cc at))

pub gains : (Suits : (lock place : ℕ) → Event → Type 0) (old new : PassView) → Enters Suits old.turn new.sight old.made new.made → Gains old.turn old.made new.made
gains Suits old new enters = (enters.spans, enters.made_is, enters.turns)

-- an account of earlier turns is one of these and of the turn of which it gained spans
pub before_more : (turn : ℕ) (made made_new : List Span) → IsBefore turn made → Gains turn made made_new → IsBefore (turn + 1) made_new
before_more turn made made_new before gained = record {
  each = λ k span at. ⊎_elim
      (λ (old : slice_get made k ≡ Some span). let below = before.each k span old in omega (arith, below))
      (λ (new : (j : ℕ) × (length made + j ≡ k) × (slice_get gained.0 j ≡ Some span)). let is = gained.2 new.0 span new.2 in omega (arith, is))
      (get_either made gained.0 k span (ap (λ (l : List Span). slice_get l k) (sym gained.1) ∙ at));
}

module _ (old new : PassView) (gained : Gains old.turn old.made new.made) where
  -- the account had what it has, or gained it in its last turn
  had_or_got : (turn lock place : ℕ) → IsEntered new.made turn lock place → IsEntered old.made turn lock place ⊎ ((turn ≡ old.turn) × IsEntered gained.0 turn lock place)
  had_or_got turn lock place entered =
      let span = entered.span in
      ⊎_elim
      (λ (had : slice_get old.made entered.index ≡ Some span).
      inl (record { index = entered.index; span = span; there = had; turn_is = entered.turn_is; lock_is = entered.lock_is; within = entered.within }))
      (λ (got : (j : ℕ) × (length old.made + j ≡ entered.index) × (slice_get gained.0 j ≡ Some span)).
      inr (
        sym entered.turn_is ∙ gained.2 got.0 span got.2,
        record { index = got.0; span = span; there = got.2; turn_is = entered.turn_is; lock_is = entered.lock_is; within = entered.within },
      ))
      (get_either old.made gained.0 entered.index span (ap (λ (l : List Span). slice_get l entered.index) (sym gained.1) ∙ entered.there))

  -- of an earlier call it has what it had
  pub entered_still : (who : Who) (Suits : (lock place : ℕ) → Event → Type 0) → who.turn < old.turn → Grows old.sight new.sight → EntersOnly old who Suits → EntersOnly new who Suits
  entered_still who Suits earlier grows has = record {
    each = λ lock place entered. ⊎_elim
        (λ had.
        let Fits = λ (event : Event). maker_in event ≡ Some who → Suits lock place event in
        let e = some_at Fits (slice_get (list_at old.sight.seen lock) place) (has.each lock place had) in
        some_is Fits (slice_get (list_at new.sight.seen lock) place) e.0 (get_longer (list_at old.sight.seen lock) (list_at new.sight.seen lock) place e.0 (grows.at lock) e.1) e.2)
        (λ got. let same = got.0 in absurd (omega (arith, earlier, same)))
        (had_or_got who.turn lock place entered);
  }

-- and of the call that has just been made only what this entered
pub entered_only : (old new : PassView) (Suits Others : (lock place : ℕ) → Event → Type 0) → IsBefore old.turn old.made → Enters Suits old.turn new.sight old.made new.made
    → ((lock place : ℕ) (event : Event) → slice_get (list_at new.sight.seen lock) place ≡ Some event → maker_in event ≡ Some (next_who old) → Suits lock place event → Others lock place event)
    → EntersOnly new (next_who old) Others
unfolding gains
entered_only old new Suits Others before enters follows = record {
  each = λ lock place entered. ⊎_elim
      (λ had.
      let below : had.span.turn < old.turn = before.each had.index had.span had.there in
      let same = had.turn_is in
      absurd (omega (arith, below, same)))
      (λ got.
      let e = some_at (Suits lock place) (slice_get (list_at new.sight.seen lock) place) (enters.each lock place got.1) in
      some_is (λ event. maker_in event ≡ Some (next_who old) → Others lock place event) (slice_get (list_at new.sight.seen lock) place) e.0 e.1 (λ by. follows lock place e.0 e.1 by e.2))
      (had_or_got old new (gains Suits old new enters) old.turn lock place entered);
}
