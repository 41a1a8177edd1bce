-- By a call its caller's pass comes from what it had seen to what it has seen then, and the call stands between.
use Rattle.std.proofs.Common.{◌≡◌, ◌<◌, ℕ, List, [], ◌∷◌, ◌++◌, length, slice_get, refl, sym, ap, ◌∙◌, append-nil, append_assoc, length-append, subst, arith, inl, inr, ⊎_elim}
use mathlib.Core.List.{IsPrefix}
use Rattle.std.specs.Prelude.{Bool, true, false, if◌then◌else◌, nat_eq}
use Rattle.std.proofs.Math.Nat.{mod-lt}
use Rattle.mc_item.specs.{Command.key_of, Measure.fnv1a, Counts.no_counts, Stripe.cache_of}
use Rattle.mc_item.specs.declared.{answer.Site.Site, class_event.ClassEvent.ClassEvent, command.Command.Command}
use Rattle.mc_item.specs.declared.{config.Config.Config, counts.Moves.Moves, event.Event.Event, item.ClassNo.ClassNo, item.Who.Who, reply.Reply.Reply}
use Rattle.mc_item.specs.declared.{answer.Need.Need, stripe_event.StripeEvent.StripeEvent, counts.Histogram.Histogram, item.Link.Link}
use Rattle.mc_item.specs.declared.event.Event.TheVariants as board_events
use Rattle.mc_board.specs.{Accounts.maker_of, Accounts.who_of, Histories.Grows, Histories.list_at, Histories.with_seen}
use Rattle.mc_board.specs.declared.rule.Sight.{Sight}
use Rattle.mc_board.proofs.{PrefixLemmas.prefix_self, SeenLemmas.list_at_other}
use Rattle.mc_evidence.specs.{Seen.class_events, Seen.classes_seen, Seen.stripe_events, Refusals.WasTried, Setting.IsClass, Setting.site_in, Locks.ClassKeeps, Locks.StripeKeeps}
use Rattle.mc_evidence.proofs.SeenLemmas.{class_events-append, class_events-map, classes_grow, stripe_events-map, stripes_grow}
use Rattle.mc_proto.specs.Answers.{Counted, Limited, Moved, Replied}
use Rattle.mc_pull.specs.Rounds.{Rounds, rounds}
use Rattle.mc_script.specs.Exchanges.{Asks, Crawls, Juggles, Limits, exchange}
use Rattle.mc_segment.specs.{ClassCalls.limited_event, ClassState.ClassView}
use Rattle.mc_stripe.specs.{Plan.dead_link, Plan.visible_row, StripeState.Stripe, StripeState.stripe}
use Rattle.mc_store.specs.{Accounts.IsOfCommand, Accounts.Stretch, Commands.IsSearch, Commands.LeadsUp, Commands.burial, Searches.IsSearchFor}
use Rattle.mc_store.specs.Searches.{Searcher, rounds_in, searcher, sight_of}
use Rattle.mc_store.specs.{Calls.IsJuggledBy, Calls.IsJuggledWith, Calls.IsLimitedBy, Calls.IsRepliedBy, Locked.setting_of, Locked.class_lock, Sides.class_told, Sides.stripe_told, Crawls.AreLinksCounted}
use Rattle.mc_store.specs.Hits.{AreAdvanced}
use Rattle.mc_store.specs.{Crawls.HasReclaims, Crawls.IsCrawledBy, Earned.IsLastResort, Headline.answered_did, Passes.PassView, Passes.next_who, Reached.IsSeenState, Reached.IsStateBetween, Reached.seen_stripes}
use Rattle.mc_store.proofs.{EarnedRefusalLemmas.once_more, EarnedRefusalLemmas.opened_again, LockKeepsLemmas.heard_stripe, LockKeepsLemmas.site_of_number, ReachedLemmas.state_wider}
use Rattle.mc_driver.specs.{Caller.EntersOnly, Caller.IsBefore, Stand.histories_seen, Noted.answered_event, Noted.stripe_with, Searched.NotesSearchFor, Searched.with_stripe}
use Rattle.mc_driver.specs.Stand.{Grow, StandsBetween, stripe_number}
use Rattle.mc_driver.proofs.{EnteredCallLemmas.entered_only, EnteredCallLemmas.stands_within, NotedPlaceLemmas.class_begins, NotedPlaceLemmas.stripe_begins}
use Rattle.mc_driver.proofs.OnlyCallsLemmas.{is_same, is_yes}

-- what a pass has seen grows
pub seen_grow : (config : Config) (old new : Sight) → Grows old new → Grow config (histories_seen config old) (histories_seen config new)
seen_grow config old new grows = record {
  stripes = λ number below. stripes_grow (list_at old.seen) (list_at new.seen) grows.at number;
  classes = λ class is. classes_grow config.stripes (list_at old.seen) (list_at new.seen) grows.at class;
}

-- what led up to a command on a stripe did so on that of its number, with its history
pub led_up_there : (config : Config) (number : ℕ) (who : Who) (command : Command) (moment : ℕ) (s : Stripe) (made : List StripeEvent) → s.site ≡ site_in (setting_of config) number
    → LeadsUp config who command moment s made → LeadsUp config who command moment (stripe_with config number s.history) made
led_up_there config number who command moment s made site led = record {
  walked = led.walked;
  split = subst (λ (t : Site). made ≡ burial who (key_of command) moment (dead_link ((cache_of t s.history).items (key_of command)) moment) ++ led.walked) site led.split;
  search = subst (λ (t : Site). IsSearch config who moment (visible_row (stripe t config.max_events config.keeps_events s.history 0) command moment).need led.walked) site led.search;
}

-- what was seen of the stripes, with one's whole history
module _ (number : ℕ) (history : List StripeEvent) (sight : Sight) where
  abbrev pub OwnFirst : Sight
  OwnFirst = with_seen sight number (stripe_told history)

  own_first : (n : ℕ) → IsPrefix (with_stripe number history (seen_stripes sight) n) (seen_stripes OwnFirst n)
  own_first n = by (nat_eq n number) refl
    where
      by : (b : Bool) → nat_eq n number ≡ b → IsPrefix (if b then history else seen_stripes sight n) (seen_stripes OwnFirst n)
      by true same = subst (IsPrefix history) (sym (heard_stripe sight number n history (sym (is_same n number same)))) (prefix_self history)
      by false other = subst (λ (l : List Event). IsPrefix (seen_stripes sight n) (stripe_events l))
          (sym (list_at_other sight.seen number n (stripe_told history) (λ is. cc (sym (is_yes n number is) ∙ other)))) (prefix_self (seen_stripes sight n))

  -- what holds of the states after that
  pub own_states : (stripes : ℕ) (later : Sight) (s : Stripe) → IsSeenState stripes OwnFirst later s
      → IsStateBetween stripes (with_stripe number history (seen_stripes sight)) (seen_stripes later) s
  own_states stripes later = state_wider stripes (with_stripe number history (seen_stripes sight)) (seen_stripes OwnFirst) (seen_stripes later) (seen_stripes later) (λ n of. own_first n)
      (λ n of. prefix_self (seen_stripes later n))

-- a search for a chunk that a pass has seen stands in what it has seen
pub search_there : (by : Searcher) (need : Need) (s : Stripe) (seen sight : Sight) (stretch : Stretch) → IsSearchFor by need (sight_of by seen s) sight stretch
    → NotesSearchFor by need (with_stripe by.number.0 s.history (seen_stripes seen)) (seen_stripes sight) (classes_seen by.config.stripes (list_at sight.seen)) stretch
search_there by need s seen sight stretch (inl none) = inl none
search_there by need s seen sight stretch (inr some) =
    let one = some.2 in
    let history = one.searched ++ one.refusal in
    let lock = class_lock by.config some.0 in
    let begins = classes_grow by.config.stripes (λ at. class_told history) (λ at. list_at sight.seen lock) (λ at. one.seen) some.0 in
    inr (
      some.0,
      some.1,
      λ is. record {
        before = one.before;
        searched = one.searched;
        once = once_more (rounds_in by some.0) by.number (IsSeenState by.config.stripes (sight_of by seen s) sight)
            (IsStateBetween by.config.stripes (with_stripe by.number.0 s.history (seen_stripes seen)) (seen_stripes sight))
            (own_states by.number.0 s.history seen by.config.stripes sight) one.before one.searched one.once;
        refusal = one.refusal;
        refusal_is = one.refusal_is;
        from_is = one.from_is;
        until_is = one.until_is;
        begins = subst (λ (h : List ClassEvent). IsPrefix h (class_events (list_at sight.seen lock))) (class_events-map history) begins;
      },
    )

-- by a command that was replied to the pass came from what it had seen to what it has seen now
pub replied_between : (config : Config) (before after : PassView) (command : Command) (moment : ℕ) (reply : Reply) → 0 < config.stripes → Grows before.sight after.sight → IsBefore before.turn before.made
    → IsRepliedBy config (stripe_number config.stripes command) before after command moment reply
    → StandsBetween (EntersOnly after) config (histories_seen config before.sight) (histories_seen config after.sight) (exchange before.caller before.turn (Asks command) moment (Replied reply))
replied_between config before after command moment reply some grows earlier by =
    let answered = by.replied.answered in
    let account = by.account in
    let who = next_who before in
    let number = stripe_number config.stripes command in
    let now : stripe_events (list_at after.sight.seen number) ≡ by.new.history = ap stripe_events by.grew.now ∙ stripe_events-map by.new.history in
    let site : by.old.site ≡ site_in (setting_of config) number = sym (site_of_number config by.old by.grew.made_with) ∙ ap (site_in (setting_of config)) by.grew.number_is in
    record {
      grew = seen_grow config before.sight after.sight grows;
      placed = mod-lt (fnv1a (key_of command)) some;
      stands = (
        record {
          older = by.old.history;
          made = answered.before;
          room = answered.room;
          behind = [];
          past = stripe_begins (list_at before.sight.seen number) by.old.history by.grew.seen;
          first = by.first;
          led_up = led_up_there config number who command moment by.old answered.before site answered.led_up;
          split = now ∙ (answered.history_is
              ∙ ap (λ (r : Reply). (by.old.history ++ answered.before) ++ answered_event who command moment r answered.room ∷ []) by.replied.reply_is);
          earned = λ class is.
              subst (λ (r : Reply). WasTried (site_in (setting_of config) number) class ((histories_seen config after.sight).classes class) (answered_did who command moment r answered.room)) by.replied.reply_is
              (subst (λ (t : Site). WasTried t class ((histories_seen config after.sight).classes class) (answered_did who command moment answered.reply answered.room)) site (by.replied.earned.tried class));
          last = λ class place is room.
              let at : by.old.site.stripe ≡ number = by.grew.number_is in
              subst (λ (r : Reply). IsLastResort config (record { 0 = number }) class place ((histories_seen config after.sight).classes class) (answered_did who command moment r answered.room)) by.replied.reply_is
              (subst (λ (n : ℕ). IsLastResort config (record { 0 = n }) class place ((histories_seen config after.sight).classes class)
              (answered_did who command moment answered.reply answered.room)) at (by.replied.earned.last class place room));
          stretch = account.stretch;
          search = subst (λ (t : Site). NotesSearchFor (searcher config number who moment) (visible_row (stripe t config.max_events config.keeps_events by.old.history 0) command moment).need
              (with_stripe number by.old.history (seen_stripes before.sight)) (seen_stripes after.sight) (histories_seen config after.sight).classes account.stretch) site
              (search_there (searcher config number who moment) (visible_row by.old command moment).need by.old before.sight after.sight account.stretch account.search);
        },
        entered_only before after _ _ earlier account.enters (λ lock place event at mine suits. (
          subst (λ (t : Site). IsOfCommand config (stripe t config.max_events config.keeps_events by.old.history 0) command moment account.stretch lock place event) site suits,
          λ own.
              let seen : list_at after.sight.seen lock ≡ stripe_told by.new.history = ap (list_at after.sight.seen) own ∙ by.grew.now in
              let within = stands_within board_events.Stripe who_of who by.old.history (answered.before ++ answered_event who command moment answered.reply answered.room ∷ []) by.new.history place event (λ e. refl)
              by.first.each (answered.history_is ∙ append_assoc by.old.history answered.before (answered_event who command moment answered.reply answered.room ∷ []))
              (ap (λ (l : List Event). slice_get l place) (sym seen) ∙ at) mine in
              let long = ap length answered.history_is ∙ length-append (by.old.history ++ answered.before) (answered_event who command moment answered.reply answered.room ∷ []) in
              (within.0, subst (λ (n : ℕ). place < n) long within.1),
        )),
      );
      evidence = subst (λ (h : List StripeEvent). StripeKeeps (setting_of config) number h (histories_seen config after.sight).classes) (sym now) by.grew.sound;
    }

-- and by juggling
pub juggled_between : (config : Config) (class : ClassNo) (before after : PassView) (moment : ℕ) (moves : Moves) → IsClass (setting_of config) class → Grows before.sight after.sight
    → IsBefore before.turn before.made → IsJuggledBy config class before after moment moves
    → StandsBetween (EntersOnly after) config (histories_seen config before.sight) (histories_seen config after.sight) (exchange before.caller before.turn (Juggles class) moment (Moved moves))
juggled_between config class before after moment moves is grows earlier by =
    let c = by.old in
    let upkept = by.upkept in
    let advanced = c.history ++ upkept.advances in
    let now : (histories_seen config after.sight).classes class ≡ by.history_new = ap class_events by.grew.now ∙ class_events-map by.history_new in
    let rounds_are = ap (λ (v : ClassView). rounds v (next_who before) moment config) (opened_again config c class by.grew.made_with by.grew.number_is) in
    let States = IsSeenState config.stripes before.sight after.sight in
    record {
      grew = seen_grow config before.sight after.sight grows;
      placed = is;
      stands = (
        record {
          before = c.history;
          past = class_begins (list_at before.sight.seen (class_lock config class)) c.history by.grew.seen;
          first = by.first;
          hits = upkept.advanced.hits;
          few = upkept.advanced.few;
          advances = upkept.advances;
          advanced = subst (λ (r : Rounds). AreAdvanced States r upkept.advanced.hits c.history advanced) rounds_are upkept.advanced.advanced;
          own = upkept.own;
          behind = [];
          split = now ∙ (upkept.history_is ∙ sym (append-nil (advanced ++ upkept.own)));
          juggled = subst (λ (r : Rounds). IsJuggledWith States r advanced (advanced ++ upkept.own) moves) rounds_are upkept.juggled;
        },
        entered_only before after _ _ earlier by.account (λ lock place event at mine suits. ⊎_elim
            (λ own.
            let seen : list_at after.sight.seen lock ≡ class_told by.history_new = ap (list_at after.sight.seen) own ∙ by.grew.now in
            let within = stands_within board_events.Class maker_of (next_who before) c.history (upkept.advances ++ upkept.own) by.history_new place event (λ e. refl)
            by.first.each (upkept.history_is ∙ append_assoc c.history upkept.advances upkept.own) (ap (λ (l : List Event). slice_get l place) (sym seen) ∙ at) mine in
            inl (own, (within.0, subst (λ (h : List ClassEvent). place < length h) upkept.history_is within.1)))
            (λ stripe. inr stripe)
            suits),
      );
      evidence = subst (λ (h : List ClassEvent). ClassKeeps (setting_of config) class h (histories_seen config after.sight).stripes) (sym now) by.grew.sound;
    }

-- what was seen of a class alone has the same reclaims
reclaims_told : (who : Who) (moment many : ℕ) (es : List Event) → HasReclaims who moment many es → HasReclaims who moment many (class_told (class_events es))
reclaims_told who moment many [] none = none
reclaims_told who moment many (board_events.Stripe e ∷ es) some = reclaims_told who moment many es some
reclaims_told who moment many (board_events.Call e ∷ es) some = reclaims_told who moment many es some
reclaims_told who moment many (board_events.Class e ∷ es) (inl some) = inl (reclaims_told who moment many es some)
reclaims_told who moment many (board_events.Class e ∷ es) (inr t) = inr (t.0, (t.1.0, t.1.1, reclaims_told who moment t.1.0 es t.1.2))

-- and by a crawl
pub crawled_between : (config : Config) (class : ClassNo) (before after : PassView) (moment : ℕ) (histogram : Histogram) → IsClass (setting_of config) class → Grows before.sight after.sight
    → IsBefore before.turn before.made → IsCrawledBy config class before after moment histogram
    → StandsBetween (EntersOnly after) config (histories_seen config before.sight) (histories_seen config after.sight) (exchange before.caller before.turn (Crawls class) moment (Counted histogram))
crawled_between config class before after moment histogram is grows earlier by =
    let who = next_who before in
    let snapshot = by.snapshot in
    let shown = by.reclaims in
    let old = list_at before.sight.seen (class_lock config class) in
    let new = list_at after.sight.seen (class_lock config class) in
    let begins : IsPrefix (class_events (class_told snapshot.history)) (class_events new) = classes_grow config.stripes (λ lock. class_told snapshot.history) (λ lock. new) (λ lock. snapshot.now) class in
    let many : histogram.reclaimed ≡ shown.many = shown.count_is ∙ omega arith in
    let whole = by.sound in
    let now : (histories_seen config after.sight).classes class ≡ whole.history = ap class_events whole.now ∙ class_events-map whole.history in
    record {
      grew = seen_grow config before.sight after.sight grows;
      placed = is;
      stands = (
        record {
          at = snapshot.history;
          behind = begins.0;
          past = class_begins old snapshot.history snapshot.begins;
          split = sym (ap (λ (h : List ClassEvent). h ++ begins.0) (sym (class_events-map snapshot.history)) ∙ begins.1);
          entries = snapshot.count_is;
          end = whole.history;
          rest = [];
          ends = now ∙ sym (append-nil whole.history);
          stretches = by.stretches;
          counted = subst (λ (ls : List Link). AreLinksCounted config class (seen_stripes before.sight) (seen_stripes after.sight) (class_told snapshot.history) (class_told whole.history) who moment ls
              by.stretches no_counts histogram) snapshot.links_are
              (subst (λ (es : List Event). AreLinksCounted config class (seen_stripes before.sight) (seen_stripes after.sight) (class_told snapshot.history) es who moment snapshot.links by.stretches no_counts
              histogram) whole.now by.counted);
          balanced = by.balanced;
          since = class_events shown.events;
          since_is = ap class_events (sym shown.events_are) ∙ class_events-append old shown.events;
          reclaims = reclaims_told who moment histogram.reclaimed shown.events (subst (λ (k : ℕ). HasReclaims who moment k shown.events) (sym many) shown.reclaims);
        },
        entered_only before after _ _ earlier by.account (λ lock place event at mine suits. suits),
      );
      evidence = subst (λ (h : List ClassEvent). ClassKeeps (setting_of config) class h (histories_seen config after.sight).stripes) (sym now) whole.sound;
    }

-- and by a new limit
pub limited_between : (config : Config) (class : ClassNo) (before after : PassView) (chunks moment : ℕ) → IsClass (setting_of config) class → Grows before.sight after.sight → IsBefore before.turn before.made
    → IsLimitedBy config class before after chunks (limited_event (next_who before) chunks ∷ [])
    → StandsBetween (EntersOnly after) config (histories_seen config before.sight) (histories_seen config after.sight) (exchange before.caller before.turn (Limits class chunks) moment Limited)
limited_between config class before after chunks moment is grows earlier made =
    let by = made.gained in
    let limited = limited_event (next_who before) chunks ∷ [] in
    let longer : List ClassEvent = by.old.history ++ limited in
    let now : (histories_seen config after.sight).classes class ≡ longer = ap class_events by.grew.now ∙ class_events-map longer in
    record {
      grew = seen_grow config before.sight after.sight grows;
      placed = is;
      stands = (
        record {
          before = by.old.history;
          behind = [];
          past = class_begins (list_at before.sight.seen (class_lock config class)) by.old.history by.grew.seen;
          first = by.first;
          split = now;
        },
        entered_only before after _ _ earlier made.account (λ lock place event at mine own.
            let seen : list_at after.sight.seen lock ≡ class_told longer = ap (list_at after.sight.seen) own ∙ by.grew.now in
            let within = stands_within board_events.Class maker_of (next_who before) by.old.history limited longer place event (λ e. refl) by.first.each refl
            (ap (λ (l : List Event). slice_get l place) (sym seen) ∙ at) mine in
            (own, omega (arith, within.0, within.1, length-append by.old.history limited))),
      );
      evidence = subst (λ (h : List ClassEvent). ClassKeeps (setting_of config) class h (histories_seen config after.sight).stripes) (sym now) by.grew.sound;
    }
