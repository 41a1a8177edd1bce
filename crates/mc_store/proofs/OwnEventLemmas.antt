-- Events of slab classes: those that one call makes are its own, and a class that gained only such ones has each event called.
use Rattle.std.proofs.Common.{◌≡◌, ◌<◌, ◌+◌, ℕ, zero, suc, List, [], ◌∷◌, ◌++◌, Some, Result, Ok, Err, slice_get, length, append_assoc, Bool, refl, sym, ap, ◌∙◌, subst, ⊎_elim}
use Rattle.std.specs.Prelude.{IfOk, OnOk, OnErr, Option, None}
use Rattle.std.specs.List.{All}
use Rattle.std.proofs.lemmas.List.{append-nil, append_cancel_left}
use Rattle.std.proofs.lemmas.List.Elements.{All-head, All-same, All-tail}
use Rattle.atomic_table.specs.Seated.{TableId}
use Rattle.mc_item.specs.declared.{call_event.CallEvent.CallEvent, class_event.ClassEvent.ClassEvent, class_event.Surveyed.Surveyed, command.Command.Command}
use Rattle.mc_item.specs.declared.{config.Config.Config, fault.Fault.Fault, item.ClassNo.ClassNo, item.Who.Who}
use Rattle.mc_item.specs.declared.class_event.ClassEvent.TheVariants as events
use Rattle.mc_board.specs.{Accounts.maker_of, Histories.Grows, Histories.list_at}
use Rattle.mc_board.specs.declared.rule.Sight.{Sight}
use Rattle.mc_board.proofs.PrefixLemmas.{prefix_self}
use Rattle.mc_segment.specs.{ClassCalls.Makes, ClassCalls.Stays, ClassCalls.refused_event, ClassState.ClassView, ClassState.with_room}
use Rattle.mc_stripe.specs.StripeState.{Stripe, cache_now}
use Rattle.mc_pull.specs.declared.{judge.Done.Done, judge.Judge.Judge, judge.Judge.TheVariants.Walk, judge.Judge.TheVariants.Dead}
use Rattle.mc_pull.specs.declared.{judge.Judge.TheVariants.Hit, looking.Judged.Judged}
use Rattle.mc_pull.specs.declared.judge.Done.TheVariants as done
use Rattle.mc_pull.specs.{
  Growth.GainsFor,
  Growth.SuitsSearch,
  Growth.SuitsUpkeep,
  Growth.SuitsWalk,
  Judgement.done_of,
  Lent.EachPair,
  Looks.events_if,
  Looks.judged_by,
  Perform.Call,
  Performed.GainsPart,
  Performed.IsPerformed,
  Performed.IsUntouched,
}
use Rattle.mc_pull.specs.{Question.Question, Question.question}
use Rattle.mc_pull.specs.Suited.{MayNeedChunk, SuitsCommand}
use Rattle.mc_pull.specs.Performed as performed
use Rattle.mc_pull.specs.Settled.{IsSettled, done_class_events, class_with, cold_events, warm_events}
use Rattle.mc_pull.proofs.{EventsLemmas.events_so, SuitedLemmas.AreSuited, SuitedLemmas.suited_dead, SuitedLemmas.suited_part}
use Rattle.mc_crawl.specs.Crawl.{AreReclaims, Reclaims}
use Rattle.mc_store.specs.Callers.{answered_at, asked_for, call_events, crawling_of, juggling_of}
use Rattle.mc_store.specs.Locked.{HasBegunAs, HasBegunCommand, IsHeldClass, IsLockedClass, locks_for}
use Rattle.mc_store.specs.Made.{AreCalledInClass, AreOwnEvents, GainsOwn, IsOwnEvent, SuitsCall, WalksOwn, WasCalled}
use Rattle.mc_store.specs.{Passes.CallerView, Passes.HasAsked, Passes.HasCalled, Sides.ClassSide}
use Rattle.mc_store.proofs.CallerLemmas.{asked_called, begun_as_more, class_called_prefix, get_append, was_called_so}
use Rattle.mc_store.proofs.LockKeepsLemmas.{class_sees, grows_trans}

-- ---- what a history gains

-- nothing
pub gains_none : (who : Who) (moment : ℕ) (history history_new : List ClassEvent) → history_new ≡ history → GainsOwn who moment history history_new
gains_none who moment history history_new same = record { events = []; history_is = same ∙ sym (append-nil history); each = tt }

own_both : (who : Who) (moment : ℕ) (xs ys : List ClassEvent) → AreOwnEvents who moment xs → AreOwnEvents who moment ys → AreOwnEvents who moment (xs ++ ys)
own_both who moment [] ys first more = more
own_both who moment (x ∷ xs) ys first more = (first.0, own_both who moment xs ys first.1 more)

-- first this, then that
pub gains_both : (who : Who) (moment : ℕ) (a b c : List ClassEvent) → GainsOwn who moment a b → GainsOwn who moment b c → GainsOwn who moment a c
gains_both who moment a b c first more = record {
  events = first.events ++ more.events;
  history_is = more.history_is ∙ (ap (λ (h : List ClassEvent). h ++ more.events) first.history_is ∙ append_assoc a first.events more.events);
  each = own_both who moment first.events more.events first.each more.each;
}

-- a command's own events, each of which it may make
abbrev pub GainsFit : Who → ℕ → Command → List ClassEvent → List ClassEvent → Type 0
GainsFit who moment command history history_new = (gains : GainsOwn who moment history history_new) × AreSuited command gains.events

-- a call's own events are those that its class gained
pub suits_own : (looks : Bool) (who : Who) (moment : ℕ) (c c_new : ClassView) (gains : GainsOwn who moment c.history c_new.history) → GainsFor looks c c_new
    → All (SuitsWalk looks) gains.events
suits_own looks who moment c c_new gains more =
    All-same (SuitsWalk looks) gains.events more.grows.events (append_cancel_left c.history gains.events more.grows.events (sym gains.history_is ∙ more.grows.history_is)) more.each

-- ---- what calls make

own_warm : (q : Question) (at : ℕ) (j : Judge) → AreOwnEvents q.who q.moment (warm_events q at j)
own_warm q at (Walk s mode passed) = ((refl, refl), tt)
own_warm q at Dead = tt
own_warm q at Hit = ((refl, refl), tt)

own_cold : (c : ClassView) (q : Question) (at : ℕ) (j : Judge) → AreOwnEvents q.who q.moment (cold_events c q at j)
own_cold c q at (Walk s mode passed) = ((refl, refl), tt)
own_cold c q at Dead = tt
own_cold c q at Hit = tt

-- a judgement's events are of the call that asks
own_done : (c : ClassView) (q : Question) (at : ℕ) (d : Done) → AreOwnEvents q.who q.moment (done_class_events c q at d)
own_done c q at done.Reclaimed = ((refl, refl), tt)
own_done c q at done.ToWarm = own_warm q at q.judge
own_done c q at done.WithinWarm = own_warm q at q.judge
own_done c q at done.ToCold = own_cold c q at q.judge
own_done c q at done.Evicted = ((refl, tt), tt)
own_done c q at done.Stayed = tt
own_done c q at (done.Alive expiry) = tt
own_done c q at done.Stranger = tt

own_judged : (c : ClassView) (q : Question) (j : Option Judged) → AreOwnEvents q.who q.moment (events_if c q j)
own_judged c q None = tt
own_judged c q (Some j) = own_done c q (length (judged_by j).history) j.done

-- a class after an answer
pub gains_judged : (c c_new : ClassView) (q : Question) (j : Option Judged) → c_new ≡ class_with c (events_if c q j) c_new.room → GainsOwn q.who q.moment c.history c_new.history
gains_judged c c_new q j is = record { events = events_if c q j; history_is = ap (λ (v : ClassView). v.history) is; each = own_judged c q j }

-- a class after that judgement, however it ended
pub gains_settled : (command : Command) (c c_new : ClassView) (s s_new : Stripe) (who : Who) (number moment : ℕ) → let q = question who number Dead moment in
    (r : Result Done Fault) → IfOk r (λ made. made ≡ done_of c (cache_now s) q) → IfOk r (λ made. IsSettled c c_new s s_new q made)
    → OnErr r ((c_new ≡ with_room c c_new.room) × (s_new.history ≡ s.history)) → GainsFit who moment command c.history c_new.history
gains_settled command c c_new s s_new who number moment (Ok made) done settled err =
    let q = question who number Dead moment in (
      record { events = done_class_events c q (length s.history) made; history_is = ap (λ (v : ClassView). v.history) settled.class; each = own_done c q (length s.history) made },
      suited_dead command c (cache_now s) who number moment (length s.history) made done,
    )
gains_settled command c c_new s s_new who number moment (Err fault) done settled err =
    (record { events = []; history_is = ap (λ (v : ClassView). v.history) err.0 ∙ sym (append-nil c.history); each = tt }, tt)

-- a command's events in a class are its own
own_part : (s : Stripe) (c : Call) (v : ClassView) → AreOwnEvents c.who c.moment (performed.events_in s c v)
own_part s c v = events_so (AreOwnEvents c.who c.moment) s c v tt (λ key cost expiry. ((refl, refl), tt))
    (λ key cost expiry number. ((refl, refl), ((refl, tt), tt))) (λ number. ((refl, tt), tt))

module _ (s s_new : Stripe) (c : Call) where
  part_gains : (v w : ClassView) → GainsPart s c v w → GainsFit c.who c.moment c.command v.history w.history
  part_gains v w gains = (record { events = performed.events_in s c v; history_is = ap (λ (x : ClassView). x.history) gains; each = own_part s c v }, suited_part s c v)

  stays_gains : (v w : ClassView) → performed.ClassStays v w → GainsFit c.who c.moment c.command v.history w.history
  stays_gains v w stays = (record { events = []; history_is = ap (λ (x : ClassView). x.history) stays ∙ sym (append-nil v.history); each = tt }, tt)

  each_gains : (R : ClassView → ClassView → Type 0) → ((v w : ClassView) → R v w → GainsFit c.who c.moment c.command v.history w.history) → (xs ys : List ClassView) → EachPair R xs ys
      → EachPair (λ v w. GainsFit c.who c.moment c.command v.history w.history) xs ys
  each_gains R more [] [] each = tt
  each_gains R more [] (y ∷ ys) each = absurd each
  each_gains R more (x ∷ xs) [] each = absurd each
  each_gains R more (x ∷ xs) (y ∷ ys) each = (more x y each.0, each_gains R more xs ys each.1)

  -- classes that were lent to a command, whether it was made or not
  pub gains_performed : {T : Type 0} (vs ws : List ClassView) (r : Result T Fault) → OnOk r (IsPerformed s s_new c vs ws) → OnErr r (IsUntouched s s_new vs ws)
      → EachPair (λ v w. GainsFit c.who c.moment c.command v.history w.history) vs ws
  gains_performed vs ws (Ok x) made err = each_gains (λ v w. GainsPart s c v w) (λ v w g. part_gains v w g) vs ws made.classes
  gains_performed vs ws (Err f) made err = each_gains (λ v w. performed.ClassStays v w) (λ v w g. stays_gains v w g) vs ws err.classes

-- a class that noted a refusal, or couldn't
pub gains_refused : {T : Type 0} (command : Command) → MayNeedChunk command → (v w : ClassView) (who : Who) (moment : ℕ) (r : Result T Fault) → OnOk r (Makes v w (refused_event who)) → OnErr r (Stays v w)
    → GainsFit who moment command v.history w.history
gains_refused command needs v w who moment (Ok x) makes stays =
    (record { events = refused_event who ∷ []; history_is = ap (λ (c : ClassView). c.history) makes; each = ((refl, tt), tt) }, (needs, tt))
gains_refused command needs v w who moment (Err f) makes stays =
    (record { events = []; history_is = ap (λ (c : ClassView). c.history) stays.0 ∙ sym (append-nil v.history); each = tt }, tt)

-- ---- walks

-- a walk that has just begun
pub walks_none : (who : Who) (moment : ℕ) (sight : Sight) (history : List ClassEvent) → WalksOwn who moment sight sight history history
walks_none who moment sight history = record { sees = record { at = λ lock. prefix_self (list_at sight.seen lock) }; gains = gains_none who moment history history refl }

-- a walk goes on
pub walks_on : (who : Who) (moment : ℕ) (a b c : Sight) (h k l : List ClassEvent) → WalksOwn who moment a b h k → Grows b c → GainsOwn who moment k l → WalksOwn who moment a c h l
walks_on who moment a b c h k l walked more gains = record { sees = grows_trans a b c walked.sees more; gains = gains_both who moment h k l walked.gains gains }

-- and makes a survey of its own
pub walks_survey : (who : Who) (moment : ℕ) (a b : Sight) (h k : List ClassEvent) (survey : Surveyed) → survey.who ≡ who → survey.moment ≡ moment → WalksOwn who moment a b h k
    → WalksOwn who moment a b h (k ++ events.Surveyed survey ∷ [])
walks_survey who moment a b h k survey by at walked = record {
  sees = walked.sees;
  gains = gains_both who moment h k (k ++ events.Surveyed survey ∷ []) walked.gains (record { events = events.Surveyed survey ∷ []; history_is = refl; each = ((by, at), tt) });
}

-- ---- searches and upkeep

suited_one : (command : Command) → MayNeedChunk command → (e : ClassEvent) → SuitsSearch e → SuitsCommand command e
suited_one command needs (events.Reclaimed e) suits = tt
suited_one command needs (events.Evicted e) suits = needs
suited_one command needs (events.Shifted e) suits = (needs, suits)
suited_one command needs (events.Linked e) suits = absurd suits
suited_one command needs (events.Unlinked e) suits = absurd suits
suited_one command needs (events.Surveyed e) suits = absurd suits
suited_one command needs (events.Refused e) suits = absurd suits
suited_one command needs (events.Limited e) suits = absurd suits

-- a command that may need a chunk may make what a search makes
pub suited_search : (command : Command) → MayNeedChunk command → (es : List ClassEvent) → All SuitsSearch es → AreSuited command es
suited_search command needs [] each = tt
suited_search command needs (e ∷ es) each = (suited_one command needs e (All-head SuitsSearch e es each), suited_search command needs es (All-tail SuitsSearch e es each))

-- ---- events that were called

-- each of these events of a class may be of this call
abbrev pub AreOf : ClassNo → List ClassEvent → CallEvent → Type 0
AreOf class [] call = Unit {0}
AreOf class (e ∷ es) call = SuitsCall class e call × AreOf class es call

-- all may be of a command that may make them
of_command : (class : ClassNo) (es : List ClassEvent) (command : Command) (moment : ℕ) → AreSuited command es → AreOf class es (asked_for command moment)
of_command class [] command moment fit = tt
of_command class (e ∷ es) command moment fit = (fit.0, of_command class es command moment fit.1)

-- and of juggling of their class, if upkeep may make them
pub of_juggling : (class : ClassNo) (es : List ClassEvent) (moment : ℕ) → All SuitsUpkeep es → AreOf class es (juggling_of class moment)
of_juggling class [] moment each = tt
of_juggling class (e ∷ es) moment each = ((refl, All-head SuitsUpkeep e es each), of_juggling class es moment (All-tail SuitsUpkeep e es each))

-- an event of a class was called by one of the callers, as far as that one's history was seen
abbrev WasMade : Config → ClassNo → ClassEvent → Sight → Type 0
WasMade config class event sight = ((maker_of event).caller < config.callers) × WasCalled (call_events (list_at sight.seen (locks_for config + (maker_of event).caller))) class event

some_event : (a b : ClassEvent) → Some a ≡ Some b → a ≡ b
some_event a b e = cc e

module _ (config : Config) (class : ClassNo) where
  -- where nothing happened
  pub called_none : (history : List ClassEvent) (sight : Sight) → history ≡ [] → AreCalledInClass (locks_for config) config.callers class history (list_at sight.seen)
  called_none history sight empty = record { each = λ place event at. absurd (cc (sym at ∙ ap (λ (h : List ClassEvent). slice_get h place) empty)) }

  -- more is seen
  pub class_called_sees : (history : List ClassEvent) (old new : Sight) → Grows old new → AreCalledInClass (locks_for config) config.callers class history (list_at old.seen)
      → AreCalledInClass (locks_for config) config.callers class history (list_at new.seen)
  class_called_sees history old new more all = record {
    each = λ place event at.
        let was = all.each place event at in
        let lock = locks_for config + (maker_of event).caller in
        (was.0, class_called_prefix (list_at old.seen lock) (list_at new.seen lock) class event (more.at lock) was.1);
  }

  -- a call's own event was called
  own_called : (sight : Sight) (who : Who) (moment : ℕ) (call : CallEvent) (event : ClassEvent) → HasBegunAs config sight who moment call
      → SuitsCall class event call → IsOwnEvent who moment event → WasMade config class event sight
  own_called sight who moment call event begun suits own =
      let here : HasBegunAs config sight (maker_of event) moment call = subst (λ (w : Who). HasBegunAs config sight w moment call) (sym own.0) begun in
      let calls = call_events (list_at sight.seen (locks_for config + (maker_of event).caller)) in
      (here.of, was_called_so calls class event (record { moment = moment; begun = here.begun.begun; timed = own.1; own = subst (SuitsCall class event) (sym here.begun.call_is) suits }))

  all_called : (sight : Sight) (who : Who) (moment : ℕ) (call : CallEvent) (es : List ClassEvent) → HasBegunAs config sight who moment call → AreOf class es call → AreOwnEvents who moment es
      → (k : ℕ) (event : ClassEvent) → slice_get es k ≡ Some event → WasMade config class event sight
  all_called sight who moment call [] begun suits own k event at = absurd (cc at)
  all_called sight who moment call (e ∷ es) begun suits own zero event at =
      subst (λ (x : ClassEvent). WasMade config class x sight) (some_event e event at) (own_called sight who moment call e begun suits.0 own.0)
  all_called sight who moment call (e ∷ es) begun suits own (suc k) event at = all_called sight who moment call es begun suits.1 own.1 k event at

  -- a history gained a call's own events alone
  pub class_called_gains : (old new : Sight) (who : Who) (moment : ℕ) (call : CallEvent) (history history_new : List ClassEvent) → HasBegunAs config new who moment call → Grows old new
      → (gains : GainsOwn who moment history history_new) → AreOf class gains.events call
      → AreCalledInClass (locks_for config) config.callers class history (list_at old.seen) → AreCalledInClass (locks_for config) config.callers class history_new (list_at new.seen)
  class_called_gains old new who moment call history history_new begun more gains suits all = record {
    each = λ place event at. ⊎_elim
        (λ (was : slice_get history place ≡ Some event). (class_called_sees history old new more all).each place event was)
        (λ (t : (j : ℕ) × (place ≡ length history + j) × (slice_get gains.events j ≡ Some event)).
        all_called new who moment call gains.events begun suits gains.each t.0 event t.2)
        (get_append history gains.events event place (ap (λ (h : List ClassEvent). slice_get h place) (sym gains.history_is) ∙ at));
  }

-- ---- what a class's lock keeps

-- while more is seen
pub locked_sees : (table : TableId) (config : Config) (s : ClassSide) (sight : Sight) → Grows s.sight sight → IsLockedClass table config s → IsLockedClass table config (record s { sight = sight })
locked_sees table config s sight grows kept =
    record { held = class_sees table config s sight grows kept.held; called = class_called_sees config s.class.number s.class.history s.sight sight grows kept.called }

-- behind a call that has made only events of its own
pub locked_gains : (table : TableId) (config : Config) (old new : ClassSide) (who : Who) (moment : ℕ) (call : CallEvent) → IsLockedClass table config old → IsHeldClass table config new
    → new.class.number ≡ old.class.number → HasBegunAs config new.sight who moment call → Grows old.sight new.sight
    → (gains : GainsOwn who moment old.class.history new.class.history) → AreOf old.class.number gains.events call → IsLockedClass table config new
locked_gains table config old new who moment call kept held number begun more gains suits = record {
  held = held;
  called = subst (λ (n : ClassNo). AreCalledInClass (locks_for config) config.callers n new.class.history (list_at new.sight.seen)) (sym number)
      (class_called_gains config old.class.number old.sight new.sight who moment call old.class.history new.class.history begun more gains suits kept.called);
}

-- the same of a command
pub locked_commanded : (table : TableId) (config : Config) (old new : ClassSide) (who : Who) (moment : ℕ) → IsLockedClass table config old → IsHeldClass table config new
    → new.class.number ≡ old.class.number → (begun : HasBegunCommand config new.sight who moment) → Grows old.sight new.sight
    → GainsFit who moment begun.command old.class.history new.class.history → IsLockedClass table config new
locked_commanded table config old new who moment kept held number begun more gains =
    locked_gains table config old new who moment (asked_for begun.command moment) kept held number begun.begun more gains.0
    (of_command old.class.number gains.0.events begun.command moment gains.1)

-- behind a step of which it told the stripe it was told of it, and of the command
pub locked_told : (table : TableId) (config : Config) (old first mid new : ClassSide) (who : Who) (moment : ℕ) → IsLockedClass table config old
    → (begun : HasBegunCommand config new.sight who moment) → GainsFit who moment begun.command old.class.history first.class.history
    → first.class.number ≡ old.class.number → first.sight ≡ old.sight
    → mid.class ≡ first.class → Grows first.sight mid.sight → IsHeldClass table config mid → new ≡ record mid { sight = new.sight } → Grows mid.sight new.sight
    → IsLockedClass table config new
locked_told table config old first mid new who moment kept begun gains number same told more held learnt grows =
    subst (IsLockedClass table config) (sym learnt)
    (locked_commanded table config old (record mid { sight = new.sight }) who moment kept (class_sees table config mid new.sight grows held) (ap (λ (v : ClassView). v.number) told ∙ number) begun
    (subst (λ (s : Sight). Grows s new.sight) same (grows_trans first.sight mid.sight new.sight more grows))
    (subst (λ (v : ClassView). GainsFit who moment begun.command old.class.history v.history) (sym told) gains))

-- ---- a crawl's events

reclaims_own : (who : Who) (moment : ℕ) (es : List ClassEvent) → AreReclaims who moment es → AreOwnEvents who moment es
reclaims_own who moment [] are = tt
reclaims_own who moment (events.Reclaimed e ∷ es) are = (are.0, reclaims_own who moment es are.1)
reclaims_own who moment (events.Linked e ∷ es) are = absurd are.0
reclaims_own who moment (events.Unlinked e ∷ es) are = absurd are.0
reclaims_own who moment (events.Shifted e ∷ es) are = absurd are.0
reclaims_own who moment (events.Evicted e ∷ es) are = absurd are.0
reclaims_own who moment (events.Surveyed e ∷ es) are = absurd are.0
reclaims_own who moment (events.Refused e ∷ es) are = absurd are.0
reclaims_own who moment (events.Limited e ∷ es) are = absurd are.0

of_crawl : (class : ClassNo) (who : Who) (moment : ℕ) (es : List ClassEvent) → AreReclaims who moment es → AreOf class es (crawling_of class moment)
of_crawl class who moment [] are = tt
of_crawl class who moment (events.Reclaimed e ∷ es) are = ((refl, tt), of_crawl class who moment es are.1)
of_crawl class who moment (events.Linked e ∷ es) are = absurd are.0
of_crawl class who moment (events.Unlinked e ∷ es) are = absurd are.0
of_crawl class who moment (events.Shifted e ∷ es) are = absurd are.0
of_crawl class who moment (events.Evicted e ∷ es) are = absurd are.0
of_crawl class who moment (events.Surveyed e ∷ es) are = absurd are.0
of_crawl class who moment (events.Refused e ∷ es) are = absurd are.0
of_crawl class who moment (events.Limited e ∷ es) are = absurd are.0

-- a class behind a crawl of one of its links, however that ended
pub gains_crawled : {T : Type 0} (class : ClassNo) (who : Who) (moment : ℕ) (history history_new : List ClassEvent) (before after : ℕ) (r : Result T Fault)
    → OnOk r (Reclaims who moment history history_new before after) → OnErr r (history_new ≡ history)
    → (gains : GainsOwn who moment history history_new) × AreOf class gains.events (crawling_of class moment)
gains_crawled class who moment history history_new before after (Ok x) reclaims same =
    (record { events = reclaims.events; history_is = reclaims.history_is; each = reclaims_own who moment reclaims.events reclaims.each }, of_crawl class who moment reclaims.events reclaims.each)
gains_crawled class who moment history history_new before after (Err f) reclaims same = (record { events = []; history_is = same ∙ sym (append-nil history); each = tt }, tt)

-- ---- a caller that asked

-- a caller that asked for a command has called, also where it has noted the answer
pub noted_called : {T : Type 0} (old new : CallerView) (who : Who) (command : Command) (moment stripe place : ℕ) → HasAsked old who command moment → (r : Result T Fault)
    → OnOk r (new ≡ record old { calls = old.calls ++ answered_at stripe place ∷ [] }) → OnErr r (new ≡ old) → HasCalled new who moment (asked_for command moment)
noted_called old new who command moment stripe place asked (Ok x) noted same =
    let called = asked_called old who command moment asked in
    subst (λ (v : CallerView). HasCalled v who moment (asked_for command moment)) (sym noted)
    (record { number = called.number; begun = begun_as_more old.calls (answered_at stripe place ∷ []) who.turn moment (asked_for command moment) called.begun })
noted_called old new who command moment stripe place asked (Err f) noted same = subst (λ (v : CallerView). HasCalled v who moment (asked_for command moment)) (sym same) (asked_called old who command moment asked)
