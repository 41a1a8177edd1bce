-- A class under its lock notes a refusal or a new limit.
use Rattle.std.proofs.Common.{◌≡◌, ◌++◌, ◌∷◌, [], ℕ, List, Result, Ok, Err, sym, ap, ◌∙◌, subst}
use Rattle.std.specs.Prelude.{OnOk, OnErr}
use Rattle.std.proofs.lemmas.List.{append-nil}
use Rattle.atomic_table.specs.Seated.{TableId}
use Rattle.mc_item.specs.declared.{class_event.ClassEvent.ClassEvent, class_event.Limited.Limited, class_event.Refused.Refused, config.Config.Config, fault.Fault.Fault}
use Rattle.mc_item.specs.declared.{event.Event.Event, item.ClassNo.ClassNo, item.Who.Who}
use mathlib.Core.List.{IsPrefix}
use Rattle.mc_rule.specs.{Cited.IsSuited, Evidence.IsBacked, Lawful.IsLawfulHistoryByLists, Partners.ClearsOnce, Places.Each}
use Rattle.mc_rule.proofs.EventPlaceLemmas.{each_push}
use Rattle.mc_board.specs.Histories as seen
use Rattle.mc_board.proofs.{PrefixLemmas.prefix_self, SeenLemmas.list_at_same}
use Rattle.mc_board.specs.declared.rule.Sight.{Sight}
use Rattle.mc_segment.specs.{ClassCalls.Makes, ClassCalls.Stays, ClassCalls.limited_event, ClassCalls.refused_event, ClassState.ClassView}
use Rattle.mc_pull.specs.Growth.{GainsEvents}
use Rattle.mc_pull.proofs.OtherSightLemmas.{limit_backed, limit_suited, refusal_backed, refusal_suited}
use Rattle.mc_store.specs.{Locked.IsHeldClass, Locked.class_lock, Searches.HasSeenOf, Sides.ClassSide, Sides.StripeSide, Sides.class_told}
use Rattle.mc_store.proofs.{EnteredLemmas.heard_is, LockKeepsLemmas.class_alone}

module _ {T : Type 0} (v w : ClassView) (event : ClassEvent) where
  -- the class has only grown
  pub noted_grows : (r : Result T Fault) → OnOk r (Makes v w event) → OnErr r (Stays v w) → GainsEvents v w
  noted_grows (Ok x) makes err = record {
    same = makes ∙ ap (λ (h : List ClassEvent). record v { history = h; room = w.room }) (sym (ap (λ (c : ClassView). c.history) makes));
    events = event ∷ [];
    history_is = ap (λ (c : ClassView). c.history) makes;
  }
  noted_grows (Err f) makes err = record {
    same = err.0 ∙ ap (λ (h : List ClassEvent). record v { history = h; room = w.room }) (sym (ap (λ (c : ClassView). c.history) err.0));
    events = [];
    history_is = ap (λ (c : ClassView). c.history) err.0 ∙ sym (append-nil v.history);
  }

  -- what its history does, with the event and without it, it does
  pub noted_does : (P : List ClassEvent → Type 0) → P v.history → P (v.history ++ event ∷ []) → (r : Result T Fault) → OnOk r (Makes v w event) → OnErr r (Stays v w) → P w.history
  noted_does P old new (Ok x) makes err = subst P (sym (ap (λ (c : ClassView). c.history) makes)) new
  noted_does P old new (Err f) makes err = subst P (sym (ap (λ (c : ClassView). c.history) err.0)) old

pub refused_after : {T : Type 0} (table : TableId) (config : Config) (lent lent_new : ClassSide) (who : Who) → IsHeldClass table config lent
    → lent_new.board ≡ lent.board → lent_new.lock ≡ lent.lock → seen.Grows lent.sight lent_new.sight
    → IsLawfulHistoryByLists lent_new.class.chunks lent_new.class.rule lent_new.class.history
    → (r : Result T Fault) → OnOk r (Makes lent.class lent_new.class (refused_event who)) → OnErr r (Stays lent.class lent_new.class) → IsHeldClass table config lent_new
refused_after table config lent lent_new who kept board lock more lawful r makes err =
    let v = lent.class in
    let w = lent_new.class in
    let e : Refused = record { who = who } in
    let event = refused_event who in
    class_alone table config lent lent_new kept board lock (noted_grows v w event r makes err) more lawful
    (noted_does v w event (Each ClearsOnce) kept.keeps.once (each_push ClearsOnce v.history event kept.keeps.once tt) r makes err)
    (λ t history bears. (
      noted_does v w event (Each (IsBacked t v.rule v.number history)) bears.0 (refusal_backed t v.number history v.rule v.history e bears.0) r makes err,
      noted_does v w event (Each (IsSuited t v.number history)) bears.1 (refusal_suited t v.number history v.history e bears.1) r makes err,
    ))

pub limited_after : {T : Type 0} (table : TableId) (config : Config) (lent lent_new : ClassSide) (who : Who) (chunks : ℕ) → IsHeldClass table config lent
    → lent_new.board ≡ lent.board → lent_new.lock ≡ lent.lock → seen.Grows lent.sight lent_new.sight
    → IsLawfulHistoryByLists lent_new.class.chunks lent_new.class.rule lent_new.class.history
    → (r : Result T Fault) → OnOk r (Makes lent.class lent_new.class (limited_event who chunks)) → OnErr r (Stays lent.class lent_new.class) → IsHeldClass table config lent_new
limited_after table config lent lent_new who chunks kept board lock more lawful r makes err =
    let v = lent.class in
    let w = lent_new.class in
    let e : Limited = record { who = who; chunks = chunks } in
    let event = limited_event who chunks in
    class_alone table config lent lent_new kept board lock (noted_grows v w event r makes err) more lawful
    (noted_does v w event (Each ClearsOnce) kept.keeps.once (each_push ClearsOnce v.history event kept.keeps.once tt) r makes err)
    (λ t history bears. (
      noted_does v w event (Each (IsBacked t v.rule v.number history)) bears.0 (limit_backed t v.number history v.rule v.history e bears.0) r makes err,
      noted_does v w event (Each (IsSuited t v.number history)) bears.1 (limit_suited t v.number history v.history e bears.1) r makes err,
    ))

-- the stripe of a refusal has only heard more, once the class has learnt of the call and told its history
pub refused_heard : (own learnt heard : StripeSide) (sight : Sight) → learnt ≡ own → heard ≡ record learnt { sight = sight } → seen.Grows learnt.sight heard.sight
    → (heard ≡ record own { sight = heard.sight }) × seen.Grows own.sight heard.sight
refused_heard own learnt heard sight same told more = (
  heard_is own heard sight (told ∙ ap (λ (x : StripeSide). record x { sight = sight }) same),
  subst (λ (x : StripeSide). seen.Grows x.sight heard.sight) same more,
)

-- and it has seen the class's whole history, which was told
pub refused_seen : (config : Config) (class : ClassNo) (learnt heard : StripeSide) (told now : ClassSide)
    → heard ≡ record learnt { sight = seen.with_seen learnt.sight told.lock (class_told told.class.history) } → now ≡ told → told.lock ≡ class_lock config class
    → HasSeenOf config heard.sight class now.class.history
refused_seen config class learnt heard told now is same at =
    let history = class_told told.class.history in
    let list : seen.list_at heard.sight.seen told.lock ≡ history = ap (λ (x : StripeSide). seen.list_at x.sight.seen told.lock) is ∙ list_at_same learnt.sight.seen told.lock history in
    subst (λ (x : ClassSide). HasSeenOf config heard.sight class x.class.history) (sym same)
    (subst (λ (k : ℕ). IsPrefix history (seen.list_at heard.sight.seen k)) at (subst (λ (l : List Event). IsPrefix history l) (sym list) (prefix_self history)))
