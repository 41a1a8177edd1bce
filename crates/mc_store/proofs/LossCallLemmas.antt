-- Each loss of a closed store by what its caller had called: a dead item at the call's moment, a living one for a command that may need a chunk.
use Rattle.std.proofs.Common.{◌≡◌, ◌<◌, ◌+◌, ◌-◌, ℕ, List, [], ◌∷◌, ◌++◌, Option, Some, None, slice_get, length, refl, sym, ap, ◌∙◌, subst}
use Rattle.std.specs.Prelude.{IsSomeAnd}
use Rattle.mc_item.specs.{Measure.cost_of, Stripe.IsDead, Stripe.MayLose}
use Rattle.mc_item.specs.declared.{answer.Site.Site, call_event.CallEvent.CallEvent, class_event.ClassEvent.ClassEvent, class_event.Evicted.Evicted}
use Rattle.mc_item.specs.declared.{config.Config.Config, item.ClassNo.ClassNo, item.Item.Item, item.Who.Who, stripe_event.Cause.Cause}
use Rattle.mc_item.specs.declared.{stripe_event.Cause.TheVariants.Expired, stripe_event.Cause.TheVariants.Taken, stripe_event.Lost.Lost, stripe_event.StripeEvent.StripeEvent}
use Rattle.mc_item.specs.declared.call_event.CallEvent.TheVariants.{Answered, Asked, Crawled, Juggled, Limits}
use Rattle.mc_item.specs.declared.class_event.ClassEvent.TheVariants as entries
use Rattle.mc_item.specs.declared.stripe_event.StripeEvent.TheVariants as events
use Rattle.mc_rule.specs.{Pairs.item_after, Places.Stands}
use Rattle.mc_rule.proofs.HistoryLemmas.{by_lists, legal_at, legal_before}
use Rattle.mc_evidence.specs.{Losses.HadCause, Losses.IsSameItem, Setting.site_in, Sound.IsSoundStore, Sound.cited_of}
use Rattle.mc_evidence.proofs.{LossLemmas.cause_of, RowLemmas.held, SizedItemLemmas.link_sized}
use Rattle.mc_store.specs.Callers.{IsBegun, IsMomentOf, moment_of}
use Rattle.mc_store.specs.Finals.{AreClasses, AreItsOwn, AreItsOwnInClasses, AreStripes, FinalView, class_histories, class_history, stripe_histories, stripe_history}
use Rattle.mc_store.specs.{Locked.setting_of, Made.IsBegunForChunk, Made.IsClassCalled, Made.SuitsCall, Passes.PassView, Sides.ClassSide, Sides.StripeSide}
use Rattle.mc_store.proofs.AnsweredTurnLemmas.{class_was_called, was_called}

get_there : {X : Type 0} (before later : List X) (x : X) → slice_get (before ++ x ∷ later) (length before) ≡ Some x
get_there [] later x = refl
get_there (y ∷ before) later x = get_there before later x

-- an event of what a stripe's number gives is one of that stripe
stripe_there : (o : Option StripeSide) (place : ℕ) (e : StripeEvent) → slice_get (stripe_history o) place ≡ Some e → (s : StripeSide) × (o ≡ Some s) × (slice_get s.stripe.history place ≡ Some e)
stripe_there None place e at = absurd (cc at)
stripe_there (Some s) place e at = (s, refl, at)

class_there : (o : Option ClassSide) (place : ℕ) (e : ClassEvent) → slice_get (class_history o) place ≡ Some e → (s : ClassSide) × (o ≡ Some s) × (slice_get s.class.history place ≡ Some e)
class_there None place e at = absurd (cc at)
class_there (Some s) place e at = (s, refl, at)

same_moment : (m n : ℕ) → Some m ≡ Some n → m ≡ n
same_moment m n e = cc e

same_expired : (m n : ℕ) → Expired m ≡ Expired n → m ≡ n
same_expired m n e = cc e

-- an eviction was called for a command that may need a chunk
for_chunk : (calls : List CallEvent) (class : ClassNo) (e : Evicted) → IsClassCalled calls class (entries.Evicted e) → IsBegunForChunk calls e.who.turn
for_chunk calls class e called = by called.begun.call refl
  where
    by : (call : CallEvent) → called.begun.call ≡ call → IsBegunForChunk calls e.who.turn
    by (Asked asked) is = record {
      command = asked.command;
      needs = subst (λ (c : CallEvent). SuitsCall class (entries.Evicted e) c) is called.own;
      moment = called.moment;
      begun = record {
        begun = called.begun;
        call_is = is ∙ ap (λ (m : ℕ). Asked (record { command = asked.command; moment = m })) (same_moment asked.moment called.moment (ap moment_of (sym is) ∙ called.begun.handed));
      };
    }
    by (Juggled worked) is = absurd ((subst (λ (c : CallEvent). SuitsCall class (entries.Evicted e) c) is called.own).1)
    by (Crawled worked) is = absurd ((subst (λ (c : CallEvent). SuitsCall class (entries.Evicted e) c) is called.own).1)
    by (Answered answered) is = absurd (subst (λ (c : CallEvent). SuitsCall class (entries.Evicted e) c) is called.own)
    by (Limits limits) is = absurd (subst (λ (c : CallEvent). SuitsCall class (entries.Evicted e) c) is called.own)

module _ (config : Config) (final : FinalView) (passes : ℕ → PassView) (number : ℕ) (before : List StripeEvent) (lost : Lost)
    (sound : IsSoundStore (setting_of config) (stripe_histories final.stripes) (class_histories final.classes))
    (of : number < config.stripes) (stands : Stands (stripe_histories final.stripes number) before (events.Lost lost)) where
  -- a dead item was lost at a moment that was handed in
  pub expired_called : (moment : ℕ) → AreStripes final.board config final.stripes
      → ((caller : ℕ) → caller < config.callers → ((passes caller).caller ≡ caller) × AreItsOwn (passes caller) final.stripes) → lost.cause ≡ Expired moment
      → IsDead (item_after (site_in (setting_of config) number) before lost.key) moment × (lost.who.caller < config.callers)
      × IsBegun (passes lost.who.caller).calls lost.who.turn moment
  expired_called moment all own is =
      let at : slice_get (stripe_histories final.stripes number) (length before) ≡ Some (events.Lost lost) =
      ap (λ (h : List StripeEvent). slice_get h (length before)) stands.is ∙ get_there before stands.later (events.Lost lost) in
      let there = stripe_there (slice_get final.stripes number) (length before) (events.Lost lost) at in
      let called = was_called config final passes number (length before) there.0 (events.Lost lost) all own there.1 there.2 in
      let may = legal_at (site_in (setting_of config) number) (stripe_histories final.stripes number) before (events.Lost lost) (sound.legal number of) stands in
      let same : called.1.moment ≡ moment = by lost.cause is called.1.moment called.1.own in (
        subst (λ (c : Cause). MayLose (item_after (site_in (setting_of config) number) before lost.key) c) is may,
        called.0,
        subst (λ (m : ℕ). IsBegun (passes lost.who.caller).calls lost.who.turn m) same called.1.begun,
      )
    where
      by : (cause : Cause) → cause ≡ Expired moment → (m : ℕ) → IsMomentOf cause m → m ≡ moment
      by (Expired dead) is m of_moment = sym of_moment ∙ same_expired dead moment is
      by (Taken class place) is m of_moment = absurd (cc is)

  -- an item was taken for a command that may need a chunk
  pub taken_called : (class : ClassNo) (place : ℕ) → AreClasses final.board config final.classes
      → ((caller : ℕ) → caller < config.callers → ((passes caller).caller ≡ caller) × AreItsOwnInClasses (passes caller) final.classes) → lost.cause ≡ Taken class place
      → (lost.who.caller < config.callers) × IsBegunForChunk (passes lost.who.caller).calls lost.who.turn
  taken_called class place all own is = found (item_after site before lost.key) refl
      (subst (λ (c : Cause). MayLose (item_after site before lost.key) c) is (legal_at site history before (events.Lost lost) (sound.legal number of) stands))
    where
      site : Site
      site = site_in (setting_of config) number

      history : List StripeEvent
      history = stripe_histories final.stripes number

      found : (o : Option Item) → item_after site before lost.key ≡ o → IsSomeAnd o (λ item. item.link.class ≡ class) → (lost.who.caller < config.callers) × IsBegunForChunk (passes lost.who.caller).calls lost.who.turn
      found None was may = absurd may
      found (Some item) was may =
          let sized = link_sized site before lost.key item.link (cost_of lost.key item.value) (legal_before site history before (events.Lost lost) (sound.legal number of) stands) (ap (held lost.key) was) in
          let cause = cause_of site (setting_of config).rule (setting_of config).chunks (class_histories final.classes) history (sound.legal number of) before lost item stands
          (subst (λ (found : Option Item). IsSomeAnd found (λ other. IsSameItem item other)) (sym was) (item.marks, refl))
          (sound.evidence number item.link.class of sized)
          (by_lists item.link.class ((setting_of config).chunks item.link.class) (setting_of config).rule (cited_of (setting_of config) (stripe_histories final.stripes))
          (class_histories final.classes item.link.class) (sound.lawful item.link.class sized)) in
          let had = (subst (λ (c : Cause). HadCause (setting_of config).chunks (class_histories final.classes) item lost c) is cause).1 in
          let e = had.1 in
          let at : slice_get (class_histories final.classes class) (length had.0) ≡ Some (entries.Evicted e) =
          ap (λ (h : List ClassEvent). slice_get h (length had.0)) had.2.is ∙ get_there had.0 had.2.later (entries.Evicted e) in
          let there = class_there (slice_get final.classes (class.0 - 1)) (length had.0) (entries.Evicted e) at in
          let called = class_was_called config final passes (class.0 - 1) (length had.0) there.0 (entries.Evicted e) all own there.1 there.2 in
          subst (λ (w : Who). (w.caller < config.callers) × IsBegunForChunk (passes w.caller).calls w.turn) had.3.who
          (called.0, for_chunk (passes e.who.caller).calls (record { 0 = (class.0 - 1) + 1 }) e called.1)
