-- A closed store held against a caller's history and account: each event that names the caller was called, and is entered.
use Rattle.std.proofs.Common.{◌≡◌, ◌∙◌, ◌+◌, ℕ, List, Some, slice_get, ap, refl, subst}
use Rattle.std.specs.Option.{option_map}
use Rattle.std.proofs.lemmas.Option.{slice_get-map}
use Rattle.atomic_table.specs.Seated.{TableId}
use Rattle.mc_item.specs.declared.{call_event.CallEvent.CallEvent, config.Config.Config, event.Event.Event}
use Rattle.mc_item.specs.declared.{event.Event.TheVariants.Class, event.Event.TheVariants.Stripe}
use Rattle.mc_board.specs.{Accounts.IsAccount, Accounts.maker_of, Accounts.who_of}
use Rattle.mc_board.specs.Histories.{HasSeen, list_at, with_seen}
use Rattle.mc_board.specs.declared.rule.Sight.{Sight}
use Rattle.mc_board.proofs.SeenLemmas.{list_at_same}
use Rattle.mc_store.specs.{Callers.IsCalled, Callers.call_events, Callers.calls_told, Finals.AreClasses, Finals.AreEntered, Finals.AreItsOwn}
use Rattle.mc_store.specs.{Finals.AreItsOwnInClasses, Finals.AreStripes, Finals.IsAccounted, Locked.caller_place, Locked.locks_for, Made.WasCalled}
use Rattle.mc_store.specs.{Passes.CallerView, Passes.PassView, Passes.caller_of, Sides.ClassSide, Sides.StripeSide, Sides.class_told, Sides.stripe_told}
use Rattle.mc_store.proofs.CallerLemmas.{call_events-told, called_prefix, class_called_prefix}

-- what each stripe has seen of a caller's history begins it
pub its_own : (table : TableId) (config : Config) (pass : PassView) (stripes : List StripeSide) → AreStripes table config stripes
    → ((k : ℕ) (s : StripeSide) → slice_get stripes k ≡ Some s → HasSeen (calls_told pass.calls) s.sight (caller_place config pass.caller)) → AreItsOwn pass stripes
its_own table config pass stripes are behind = record {
  each = λ k s place event at is own.
      let under = are.each k s at in
      let called = (under.kept.called.each place event is).1 in
      let seen : IsCalled (call_events (list_at s.sight.seen (caller_place config pass.caller))) s.stripe.site.stripe place event =
      subst (λ (n : ℕ). IsCalled (call_events (list_at s.sight.seen (locks_for config + n))) s.stripe.site.stripe place event) own called in
      let whole = called_prefix (list_at s.sight.seen (caller_place config pass.caller)) (calls_told pass.calls) s.stripe.site.stripe place event (behind k s at) seen in
      subst (λ (n : ℕ). IsCalled pass.calls n place event) under.number_is
      (subst (λ (l : List CallEvent). IsCalled l s.stripe.site.stripe place event) (call_events-told pass.calls) whole);
}

-- the same of the classes
pub its_own_in_classes : (table : TableId) (config : Config) (pass : PassView) (classes : List ClassSide) → AreClasses table config classes
    → ((k : ℕ) (s : ClassSide) → slice_get classes k ≡ Some s → HasSeen (calls_told pass.calls) s.sight (caller_place config pass.caller)) → AreItsOwnInClasses pass classes
its_own_in_classes table config pass classes are behind = record {
  each = λ k s place event at is own.
      let under = are.each k s at in
      let called = (under.kept.called.each place event is).1 in
      let seen : WasCalled (call_events (list_at s.sight.seen (caller_place config pass.caller))) s.class.number event =
      subst (λ (n : ℕ). WasCalled (call_events (list_at s.sight.seen (locks_for config + n))) s.class.number event) own called in
      let whole = class_called_prefix (list_at s.sight.seen (caller_place config pass.caller)) (calls_told pass.calls) s.class.number event (behind k s at) seen in
      subst (λ (n : ℕ). WasCalled pass.calls (record { 0 = n }) event) under.number_is
      (subst (λ (l : List CallEvent). WasCalled l s.class.number event) (call_events-told pass.calls) whole);
}

-- an account that has the caller's events of all that a token saw has those of the history that the token was told last
pub entered_of : (config : Config) (caller : CallerView) (sight : Sight) (lock : ℕ) (history : List Event)
    → IsAccount (locks_for config) (caller_place config caller.number) caller.made (list_at (with_seen sight lock history).seen) → AreEntered caller lock history
entered_of config caller sight lock history account = record {
  each = λ place event who at is own.
      account.has lock place event who (ap (λ (l : List Event). slice_get l place) (list_at_same sight.seen lock history) ∙ at) is
      (ap (λ (n : ℕ). locks_for config + n) own);
}

-- what is entered of the stripes' and classes' histories as the board has them is entered of the stripes and the classes
pub accounted : (pass : PassView) (stripes : List StripeSide) (classes : List ClassSide)
    → ((k : ℕ) (s : StripeSide) → slice_get stripes k ≡ Some s → AreEntered (caller_of pass) s.lock (stripe_told s.stripe.history))
    → ((k : ℕ) (s : ClassSide) → slice_get classes k ≡ Some s → AreEntered (caller_of pass) s.lock (class_told s.class.history)) → IsAccounted pass stripes classes
accounted pass stripes classes of_stripes of_classes = record {
  stripes = λ k s place event at is own.
      (of_stripes k s at).each place (Stripe event) (who_of event) (slice_get-map Stripe s.stripe.history place ∙ ap (option_map Stripe) is) refl own;
  classes = λ k s place event at is own.
      (of_classes k s at).each place (Class event) (maker_of event) (slice_get-map Class s.class.history place ∙ ap (option_map Class) is) refl own;
}
