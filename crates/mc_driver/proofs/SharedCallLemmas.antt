-- What a call on a store that threads share leaves of what its pass knows.
use Rattle.std.proofs.Common.{◌≡◌, ◌+◌, ◌<◌, ◌≤◌, ℕ, List, [], ◌∷◌, ◌++◌, Result, Ok, Err, refl, sym, ap, ◌∙◌, append-nil, subst, arith, length, length-append, ◌⊎◌, inl, inr, ⊎_elim}
use Rattle.std.specs.Prelude.{IfOk, None, Some, cond, nat_eq, true, OnOk, IfErr}
use Rattle.std.specs.List.{slice_get}
use Rattle.std.proofs.lemmas.{List.Elements.filter-append, Option.slice_get_within}
use Rattle.mc_item.specs.declared.{call_event.CallEvent.CallEvent, command.Command.Command, config.Config.Config, counts.Moves.Moves, fault.Fault.Fault}
use Rattle.mc_item.specs.declared.{item.ClassNo.ClassNo, item.Who.Who, reply.Reply.Reply, stripe_event.Did.Did, stripe_event.StripeEvent.StripeEvent}
use Rattle.mc_item.specs.declared.{counts.Histogram.Histogram}
use Rattle.mc_item.specs.declared.stripe_event.StripeEvent.TheVariants as events
use Rattle.mc_board.specs.Histories.{Grows, list_at}
use Rattle.mc_board.proofs.PrefixLemmas.{prefix_length}
use Rattle.mc_item.specs.{Command.key_of, Stripe.cache_of}
use Rattle.mc_evidence.specs.{Seen.stripe_events, Setting.IsClass, Setting.site_in}
use Rattle.mc_rule.proofs.HistoryLemmas.{legal_at}
use Rattle.mc_evidence.proofs.SeenLemmas.{stripe_events-map}
use Rattle.mc_segment.specs.ClassCalls.{limited_event}
use Rattle.mc_proto.specs.Answers.{Answer, Counted, Limited, Moved, Replied}
use Rattle.mc_script.specs.{Calls.AddsCalls, Calls.AddsUp, Calls.BreaksOff, Calls.GoesOn, Calls.MakesCalls, Exchanges.Asks, Exchanges.Begun, Exchanges.Crawls, Exchanges.Exchange}
use Rattle.mc_script.specs.Exchanges.{Unbegun}
use Rattle.mc_script.specs.Exchanges.{IsOfKind, IsReplyTo, Juggles, Limits, ScriptCall, exchange}
use Rattle.mc_store.specs.Callers.{answered_at, asked_for, turns_of}
use Rattle.mc_store.specs.{Calls.IsJuggledBy, Calls.IsLimitedBy, Calls.IsRepliedBy, Calls.IsUnbegun, Crawls.IsCrawledBy}
use Rattle.mc_store.specs.{Locked.setting_of, Passes.PassView, Passes.next_who}
use Rattle.mc_driver.specs.{Called.AreInTurn, Called.call_event_of}
use Rattle.mc_driver.specs.Caller.{AreAt, AreNoted, AreRising, EntersOnly, IsAt, IsBefore, MayCall, places_in, view_of}
use Rattle.mc_driver.specs.Stand.{BreaksOffAfter, Grow, StandFrom, StandsBetween, StandsLast, calls_at, histories_seen, is_command_at, nothing_seen, stripe_number}
use Rattle.mc_driver.proofs.NotedPlaceLemmas.{at_later, at_push_if, get_next, places_in-push, rising_push_if, stripe_begins, places_in-call}
use Rattle.mc_driver.proofs.SeenByCallLemmas.{crawled_between, juggled_between, limited_between, replied_between, seen_grow}
use Rattle.mc_driver.proofs.EnteredCallLemmas.{Gains, before_more, entered_still, gains_none}
use Rattle.mc_driver.proofs.CalledEventLemmas.{call_event_of-turn, event_for, turns_for-length, in_turn_more, may_again, replied_turns, turns_begun, turns_more, turns_of-call}
use Rattle.mc_driver.proofs.{OnlyCallsLemmas.is_same, StandingCallLemmas.breaks_after, StandingCallLemmas.grow_self, StandingCallLemmas.stand_by}
use Rattle.mc_driver.proofs.StandingCallLemmas.{stand_rest, stand_more}

-- where a reply was noted, and what stands there
module _ (config : Config) (old new : PassView) (command : Command) (moment : ℕ) (reply : Reply)
    (by : IsRepliedBy config (stripe_number config.stripes command) old new command moment reply) where
  abbrev number : ℕ
  number = stripe_number config.stripes command

  abbrev pub call : Exchange
  call = exchange old.caller old.turn (Asks command) moment (Replied reply)

  abbrev place : ℕ
  place = by.replied.place

  abbrev history : List StripeEvent
  history = by.old.history ++ by.replied.answered.before

  new_is : stripe_events (list_at new.sight.seen number) ≡ by.new.history
  new_is = ap stripe_events by.grew.now ∙ stripe_events-map by.new.history

  abbrev did : Did
  did = record { who = record { caller = old.caller; turn = old.turn }; command = command; moment = moment; reply = by.replied.answered.reply; room = by.replied.answered.room }

  there : slice_get (stripe_events (list_at new.sight.seen number)) place ≡ Some (events.Did did)
  there =
      ap (λ (h : List StripeEvent). slice_get h by.replied.place) (new_is ∙ by.replied.answered.history_is)
      ∙ (ap (slice_get (history ++ events.Did did ∷ [])) by.replied.answered.place_is ∙ get_next history [] (events.Did did))

  here : IsAt (stripe_events (list_at new.sight.seen number)) old.caller place call
  here = record { did = did; there = there; call_is = ap (λ (r : Reply). exchange old.caller old.turn (Asks command) moment (Replied r)) by.replied.reply_is; by = refl }

  abbrev asked : List CallEvent
  asked = old.calls ++ asked_for command moment ∷ []

  noted_as : new.calls ≡ asked ++ answered_at number place ∷ []
  noted_as = by.replied.noted ∙ ap (λ (k : ℕ). asked ++ answered_at k by.replied.place ∷ []) by.grew.number_is

  behind : length (stripe_events (list_at old.sight.seen number)) ≤ place
  behind =
      let begins = stripe_begins (list_at old.sight.seen (stripe_number config.stripes command)) by.old.history by.grew.seen in
      let long = prefix_length (stripe_events (list_at old.sight.seen (stripe_number config.stripes command))) by.old.history begins in
      omega (arith, long, by.replied.answered.place_is, length-append by.old.history by.replied.answered.before)

  module _ (calls : List Exchange) (noted : AreNoted config old calls None) (grows : Grows old.sight new.sight) (n : ℕ) (below : n < config.stripes) where
    places : places_in n new.calls ≡ places_in n old.calls ++ cond (nat_eq number n) (place ∷ []) []
    places =
        ap (places_in n) noted_as
        ∙ (places_in-push n asked number place
        ∙ ap (λ (l : List ℕ). l ++ cond (nat_eq number n) (place ∷ []) []) (places_in-call n old.calls (asked_for command moment) refl))

    all : calls_at config.stripes n (calls ++ call ∷ []) ≡ calls_at config.stripes n calls ++ cond (nat_eq number n) (call ∷ []) []
    all = filter-append (λ (c : Exchange). is_command_at config.stripes n c.call) calls (call ∷ [])

    later : AreAt (stripe_events (list_at new.sight.seen n)) old.caller (places_in n old.calls) (calls_at config.stripes n calls)
    later = at_later _ _ old.caller _ _ ((seen_grow config old.sight new.sight grows).stripes n below) (noted.at n below)

    next : nat_eq number n ≡ true → IsAt (stripe_events (list_at new.sight.seen n)) old.caller place call
    next passed = subst (λ (k : ℕ). IsAt (stripe_events (list_at new.sight.seen k)) old.caller place call) (is_same number n passed) here

    pub noted_at : AreAt (stripe_events (list_at new.sight.seen n)) old.caller (places_in n new.calls) (calls_at config.stripes n (calls ++ call ∷ []))
    noted_at =
        subst (λ (l : List ℕ). AreAt (stripe_events (list_at new.sight.seen n)) old.caller l (calls_at config.stripes n (calls ++ call ∷ []))) (sym places)
        (subst (λ (l : List Exchange). AreAt (stripe_events (list_at new.sight.seen n)) old.caller (places_in n old.calls ++ cond (nat_eq number n) (place ∷ []) []) l) (sym all)
        (at_push_if (nat_eq number n) _ old.caller _ _ place call later next))

    pub noted_rising : AreRising 0 (places_in n new.calls)
    noted_rising =
        subst (AreRising 0) (sym places)
        (rising_push_if (nat_eq number n) (stripe_events (list_at old.sight.seen n)) old.caller _ _ place (noted.at n below) (noted.rising n below)
        (λ passed. subst (λ (k : ℕ). length (stripe_events (list_at old.sight.seen k)) ≤ place) (is_same number n passed) behind))

-- a reply that stands in a legal history is one of the table's
reply_fits : (config : Config) (old new : PassView) (command : Command) (moment : ℕ) (reply : Reply) → IsRepliedBy config (stripe_number config.stripes command) old new command moment reply
    → IsReplyTo command reply
reply_fits config old new command moment reply by =
    let answered = by.replied.answered in
    let site = site_in (setting_of config) (stripe_number config.stripes command) in
    let before = by.old.history ++ answered.before in
    let cache = cache_of site before in
    let did = events.Did (record { who = next_who old; command = command; moment = moment; reply = answered.reply; room = answered.room }) in
    let may = legal_at site by.new.history before did by.grew.sound.legal (record { later = []; is = answered.history_is }) in
    record {
      site = site;
      versions = cache.versions;
      found = cache.items (key_of command);
      moment = moment;
      room = answered.room;
      reply_is = sym by.replied.reply_is ∙ may.reply;
    }

-- how a call that broke off leaves what its pass knows: with the call in its caller's history, and its beginning in what was seen
abbrev pub IsBegun : Config → PassView → PassView → ScriptCall → ℕ → Fault → Type 0
IsBegun config old new made moment fault =
    (new.calls ≡ old.calls ++ call_event_of made moment ∷ [])
    × (IsBefore old.turn old.made → BreaksOffAfter (EntersOnly new) (λ sight. sight ≡ new.sight) config (histories_seen config old.sight) (histories_seen config new.sight) (next_who old) made moment fault)

-- however a call ends, its account gained only spans of its turn
pub call_gains : {T : Type 0} (config : Config) (old new : PassView) (r : Result T Fault) {By : T → Type 0} {Till : Fault → Type 0} → IfOk r By
    → IfErr r (λ fault. IsUnbegun config old new fault ⊎ Till fault) → ((x : T) → By x → Gains old.turn old.made new.made) → ((fault : Fault) → Till fault → Gains old.turn old.made new.made)
    → Gains old.turn old.made new.made
call_gains config old new (Ok x) by cut whole part = whole x by
call_gains config old new (Err fault) by cut whole part = ⊎_elim (λ early. gains_none old.turn old.made new.made (ap (λ (p : PassView). p.made) early.0)) (λ till. part fault till) cut

module _ (config : Config) (old new : PassView) (same : new.caller ≡ old.caller) (grows : Grows old.sight new.sight) (may : MayCall config old) (gained : Gains old.turn old.made new.made) where
  earlier : (calls : List Exchange) → AreNoted config old calls None → IsBefore old.turn old.made
  earlier calls noted = subst (λ (n : ℕ). IsBefore n old.made) may.turns noted.before

  -- with the next turn, all of the account is of a turn before the one to come
  before_next : (calls : List Exchange) → AreNoted config old calls None → (turn : CallEvent) → turns_of new.calls ≡ turns_of old.calls ++ turn ∷ [] → IsBefore (length (turns_of new.calls)) new.made
  before_next calls noted turn more =
      let count : old.turn + 1 ≡ length (turns_of new.calls) = omega (arith, may.turns, ap length more, length-append (turns_of old.calls) (turn ∷ [])) in
      subst (λ (n : ℕ). IsBefore n new.made) count (before_more old.turn old.made new.made (earlier calls noted) gained)

  -- the calls so far stand as they did: their events are known by the account, which has no other of them
  stand_still : (calls : List Exchange) → AreNoted config old calls None
      → StandFrom (EntersOnly new) config nothing_seen calls (λ reached. Grow config reached (histories_seen config old.sight))
  stand_still calls noted = stand_by (EntersOnly old) (EntersOnly new) config nothing_seen calls (λ reached. Grow config reached (histories_seen config old.sight))
      (λ reached. Grow config reached (histories_seen config old.sight))
      (λ k call at Suits.
      let within : k < length calls = slice_get_within calls k call at in
      let turn : call.who.turn ≡ k = ap (λ (w : Who). w.turn) (noted.own.each k call at) in
      let below : call.who.turn < old.turn = omega (arith, turn, within, may.turns, ap length noted.turns, turns_for-length calls) in
      entered_still old new gained call.who Suits below grows)
      (λ reached grown. grown)
      noted.stand

  -- a reply is noted
  replied_adds : (command : Command) (moment : ℕ) (reply : Reply)
      → IsRepliedBy config (stripe_number config.stripes command) old new command moment reply
      → AddsCalls (AreNoted config old) (AreNoted config new) (exchange old.caller old.turn (Asks command) moment (Replied reply) ∷ [])
  replied_adds command moment reply by = record {
    at = λ calls noted.
        let call = exchange old.caller old.turn (Asks command) moment (Replied reply) in
        let more = replied_turns old.calls new.calls (asked_for command moment) by.old.site.stripe by.replied.place by.replied.noted in
        record {
          stand = stand_more (EntersOnly new) config nothing_seen (histories_seen config old.sight) (histories_seen config new.sight) calls call (stand_still calls noted)
              (replied_between config old new command moment reply may.some grows (earlier calls noted) by);
          at = λ n below.
              subst (λ (k : ℕ). AreAt (stripe_events (list_at new.sight.seen n)) k (places_in n new.calls) (calls_at config.stripes n (calls ++ call ∷ []))) (sym same)
              (noted_at config old new command moment reply by calls noted grows n below);
          rising = λ n below. noted_rising config old new command moment reply by calls noted grows n below;
          own = subst (λ (k : ℕ). AreInTurn k (calls ++ call ∷ [])) (sym same) (in_turn_more old calls call noted.own refl may.turns noted.turns);
          turns = turns_more old.calls new.calls calls call more noted.turns;
          before = before_next calls noted (asked_for command moment) more;
        };
  }

  -- a call that is no answer leaves the places as they are, and what is there
  module _ (call : CallEvent) (turn : turns_of (call ∷ []) ≡ call ∷ []) (noted_as : new.calls ≡ old.calls ++ call ∷ []) (calls : List Exchange) (noted : AreNoted config old calls None)
      (n : ℕ) (below : n < config.stripes) where
    kept_places : places_in n new.calls ≡ places_in n old.calls
    kept_places = ap (places_in n) noted_as ∙ places_in-call n old.calls call turn

    kept_at : AreAt (stripe_events (list_at new.sight.seen n)) new.caller (places_in n new.calls) (calls_at config.stripes n calls)
    kept_at =
        subst (λ (l : List ℕ). AreAt (stripe_events (list_at new.sight.seen n)) new.caller l (calls_at config.stripes n calls)) (sym kept_places)
        (subst (λ (k : ℕ). AreAt (stripe_events (list_at new.sight.seen n)) k (places_in n old.calls) (calls_at config.stripes n calls)) (sym same)
        (at_later _ _ old.caller _ _ ((seen_grow config old.sight new.sight grows).stripes n below) (noted.at n below)))

    kept_rising : AreRising 0 (places_in n new.calls)
    kept_rising = subst (AreRising 0) (sym kept_places) (noted.rising n below)

  -- a call on a class is noted
  class_adds : (call : Exchange) → call.who ≡ next_who old → new.calls ≡ old.calls ++ event_for call ∷ [] → ((n : ℕ) → calls_at config.stripes n (call ∷ []) ≡ [])
      → (IsBefore old.turn old.made → StandsBetween (EntersOnly new) config (histories_seen config old.sight) (histories_seen config new.sight) call)
      → AddsCalls (AreNoted config old) (AreNoted config new) (call ∷ [])
  class_adds call who noted_as none between =
      let turn = call_event_of-turn call.call call.moment in
      let more = ap turns_of noted_as ∙ turns_of-call old.calls (event_for call) turn in
      record {
        at = λ calls noted. record {
          stand = stand_more (EntersOnly new) config nothing_seen (histories_seen config old.sight) (histories_seen config new.sight) calls call (stand_still calls noted) (between (earlier calls noted));
          at = λ n below.
              let all = filter-append (λ (c : Exchange). is_command_at config.stripes n c.call) calls (call ∷ [])
              ∙ (ap (λ (l : List Exchange). calls_at config.stripes n calls ++ l) (none n) ∙ append-nil (calls_at config.stripes n calls)) in
              subst (λ (l : List Exchange). AreAt (stripe_events (list_at new.sight.seen n)) new.caller (places_in n new.calls) l) (sym all)
              (kept_at (event_for call) turn noted_as calls noted n below);
          rising = λ n below. kept_rising (event_for call) turn noted_as calls noted n below;
          own = subst (λ (k : ℕ). AreInTurn k (calls ++ call ∷ [])) (sym same) (in_turn_more old calls call noted.own who may.turns noted.turns);
          turns = turns_more old.calls new.calls calls call more noted.turns;
          before = before_next calls noted (event_for call) more;
        };
      }

  abbrev next_of : List Exchange → Who
  next_of calls = record { caller = new.caller; turn = length calls }

  next_is : (calls : List Exchange) → AreNoted config old calls None → next_who old ≡ next_of calls
  next_is calls noted =
      let turn : old.turn ≡ length calls = omega (arith, may.turns, ap length noted.turns, turns_for-length calls) in
      ap (λ (n : ℕ). record { caller = old.caller; turn = n }) turn ∙ ap (λ (k : ℕ). record { caller = k; turn = length calls }) (sym same)

  -- a call that failed was begun, or nothing happened
  breaks_off : (made : ScriptCall) (moment : ℕ) (fault : Fault) → IsUnbegun config old new fault ⊎ IsBegun config old new made moment fault
      → BreaksOff fault made moment (view_of config old) (view_of config new)
  breaks_off made moment fault (inl early) = record {
    at = λ calls noted. (
      Unbegun fault,
      inl refl,
      subst (λ (p : PassView). AreNoted config p calls (Some (Unbegun fault))) (sym early.0) (record {
        stand = stand_rest (EntersOnly old) config nothing_seen calls (λ reached. Grow config reached (histories_seen config old.sight))
            (StandsLast (EntersOnly old) (λ sight. sight ≡ old.sight) config (histories_seen config old.sight) (record { caller = old.caller; turn = length calls }) (Some (Unbegun fault)))
            (λ reached grown. (grown, λ full. let most = early.1 full in omega (arith, most, may.turns, ap length noted.turns, turns_for-length calls)))
            noted.stand;
        at = noted.at;
        rising = noted.rising;
        own = noted.own;
        turns = noted.turns;
        before = noted.before;
      }),
    );
  }
  breaks_off made moment fault (inr more) =
      let event = call_event_of made moment in
      let turn = call_event_of-turn made moment in
      let seen = histories_seen config old.sight in
      let now = histories_seen config new.sight in
      record {
        at = λ calls noted. (
          Begun made moment fault,
          inr refl,
          record {
            stand = stand_rest (EntersOnly new) config nothing_seen calls (λ reached. Grow config reached seen)
                (λ reached. BreaksOffAfter (EntersOnly new) (λ sight. sight ≡ new.sight) config reached now (next_of calls) made moment fault)
                (λ reached grown. subst (λ (w : Who). BreaksOffAfter (EntersOnly new) (λ sight. sight ≡ new.sight) config reached now w made moment fault) (next_is calls noted)
                (breaks_after (EntersOnly new) (λ sight. sight ≡ new.sight) config reached seen now now (next_who old) made moment fault grown (grow_self config now) (more.1 (earlier calls noted))))
                (stand_still calls noted);
            at = λ n below. kept_at event turn more.0 calls noted n below;
            rising = λ n below. kept_rising event turn more.0 calls noted n below;
            own = subst (λ (k : ℕ). AreInTurn k calls) (sym same) noted.own;
            turns = turns_begun old.calls new.calls calls made moment fault more.0 noted.turns;
            before = before_next calls noted event (ap turns_of more.0 ∙ turns_of-call old.calls event turn);
          },
        );
      }

  -- one call was made
  made_one : (call : ScriptCall) (answer : Answer) (moment : ℕ) → IsOfKind call answer → new.turn ≡ old.turn + 1
      → AddsCalls (AreNoted config old) (AreNoted config new) (exchange old.caller old.turn call moment answer ∷ [])
      → MakesCalls (call ∷ []) (answer ∷ []) moment (view_of config old) (view_of config new)
  made_one which answer moment kind turn adds = record { long = refl; kinds = (kind, tt); noted = adds; turns = turn; caller = same }

  -- as a call answers it: a reply is noted
  pub replied_ok : (command : Command) (moment : ℕ) (r : Result Reply Fault) → OnOk r (new.turn ≡ old.turn + 1)
      → IfOk r (IsRepliedBy config (stripe_number config.stripes command) old new command moment)
      → IfOk r (λ reply. MakesCalls (Asks command ∷ []) (Replied reply ∷ []) moment (view_of config old) (view_of config new))
  replied_ok command moment (Ok reply) turn by = made_one _ _ moment (reply_fits config old new command moment reply by) turn (replied_adds command moment reply by)
  replied_ok command moment (Err fault) turn by = tt

  -- juggling is noted where it was done
  pub juggled_ok : (class : ClassNo) (moment : ℕ) (r : Result Moves Fault) → OnOk r (new.turn ≡ old.turn + 1) → IsClass (setting_of config) class
      → IfOk r (IsJuggledBy config class old new moment)
      → IfOk r (λ moves. MakesCalls (Juggles class ∷ []) (Moved moves ∷ []) moment (view_of config old) (view_of config new))
  juggled_ok class moment (Ok moves) turn is by =
      made_one _ _ moment tt turn (class_adds _ refl by.noted (λ n. refl) (λ before. juggled_between config class old new moment moves is grows before by))
  juggled_ok class moment (Err fault) turn is by = tt

  -- and a crawl where it was made
  pub crawled_ok : (class : ClassNo) (moment : ℕ) (r : Result Histogram Fault) → OnOk r (new.turn ≡ old.turn + 1) → IsClass (setting_of config) class
      → IfOk r (IsCrawledBy config class old new moment)
      → IfOk r (λ histogram. MakesCalls (Crawls class ∷ []) (Counted histogram ∷ []) moment (view_of config old) (view_of config new))
  crawled_ok class moment (Ok histogram) turn is by =
      made_one _ _ moment tt turn (class_adds _ refl by.noted (λ n. refl) (λ before. crawled_between config class old new moment histogram is grows before by))
  crawled_ok class moment (Err fault) turn is by = tt

  -- and a new limit where it was set
  pub limited_ok : {T : Type 0} (class : ClassNo) (chunks moment : ℕ) (r : Result T Fault) → OnOk r (new.turn ≡ old.turn + 1) → IsClass (setting_of config) class
      → OnOk r (IsLimitedBy config class old new chunks (limited_event (next_who old) chunks ∷ []))
      → OnOk r (MakesCalls (Limits class chunks ∷ []) (Limited ∷ []) moment (view_of config old) (view_of config new))
  limited_ok class chunks moment (Ok x) turn is by =
      made_one _ _ moment tt turn (class_adds _ refl by.noted (λ n. refl) (λ before. limited_between config class old new chunks moment is grows before by))
  limited_ok class chunks moment (Err fault) turn is by = tt

  -- and what went wrong breaks off
  pub call_failed : {T : Type 0} (made : ScriptCall) (moment : ℕ) (r : Result T Fault) {Till : Fault → Type 0} → IfErr r (λ fault. IsUnbegun config old new fault ⊎ Till fault)
      → ((fault : Fault) → Till fault → IsBegun config old new made moment fault) → IfErr r (λ fault. BreaksOff fault made moment (view_of config old) (view_of config new))
  call_failed made moment (Ok x) cut begun = tt
  call_failed made moment (Err fault) cut begun = breaks_off made moment fault (⊎_elim (λ early. inl early) (λ till. inr (begun fault till)) cut)

-- a call leaves its caller, which may call again after it
pub goes_on : {T : Type 0} (config : Config) (old new : PassView) (r : Result T Fault) → MayCall config old → new.caller ≡ old.caller → new.turn ≡ length (turns_of new.calls)
    → GoesOn (view_of config old) (view_of config new) r
goes_on config old new r may same turn = record {
  same = record { caller = same; classes = λ class. (λ has. has, λ has. has) };
  may = may_again config old new r may turn;
}

-- where a class was crawled, each entry that was seen is counted as one kind
pub crawled_kinds : (config : Config) (class : ClassNo) (before after : PassView) (moment : ℕ) (r : Result Histogram Fault) → IfOk r (IsCrawledBy config class before after moment) → IfOk r AddsUp
crawled_kinds config class before after moment (Ok histogram) by = by.balanced
crawled_kinds config class before after moment (Err fault) by = tt
