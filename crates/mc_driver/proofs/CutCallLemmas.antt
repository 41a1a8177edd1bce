-- A call that a fault broke off left its beginning in what its caller's pass has seen, after what it had seen before.
use Rattle.std.proofs.Common.{◌≡◌, ◌<◌, ℕ, List, [], ◌∷◌, ◌++◌, length, slice_get, refl, sym, ap, ◌∙◌, append-nil, subst, arith, inl, inr, ⊎_elim}
use mathlib.Core.List.{IsPrefix}
use Rattle.std.proofs.Math.Nat.{mod-lt}
use Rattle.std.proofs.lemmas.Option.{slice_get_within}
use Rattle.mc_item.specs.{Command.key_of, Measure.fnv1a}
use Rattle.mc_item.specs.declared.{answer.Need.Need, answer.Site.Site, class_event.ClassEvent.ClassEvent, command.Command.Command, config.Config.Config}
use Rattle.mc_item.specs.declared.{counts.Histogram.Histogram, event.Event.Event, fault.Fault.Fault, item.ClassNo.ClassNo, item.Link.Link, item.Who.Who, stripe_event.StripeEvent.StripeEvent}
use Rattle.mc_item.specs.declared.event.Event.TheVariants as board_events
use Rattle.mc_board.specs.{Accounts.maker_of, Accounts.who_of, Histories.Grows, Histories.list_at}
use Rattle.mc_board.specs.declared.rule.Sight.{Sight}
use Rattle.mc_board.proofs.PrefixLemmas.{prefix_self}
use Rattle.mc_evidence.specs.{Seen.class_events, Seen.classes_seen, Seen.stripe_events, Setting.IsClass, Setting.site_in}
use Rattle.mc_evidence.proofs.SeenLemmas.{class_events-map, classes_grow, stripe_events-map}
use Rattle.mc_pull.specs.Rounds.{Rounds, rounds}
use Rattle.mc_script.specs.Exchanges.{Asks, Crawls, Juggles, Limits}
use Rattle.mc_segment.specs.ClassState.{ClassView}
use Rattle.mc_stripe.specs.{Plan.visible_row, StripeCalls.KeepsSite, StripeState.Stripe, StripeState.stripe}
use Rattle.mc_store.specs.Full.{IsFullFor}
use Rattle.mc_store.proofs.FullLemmas.{entries_later, full_same}
use Rattle.mc_store.specs.{Accounts.IsOfCommand, Accounts.Stretch, Calls.IsCutBy, Calls.IsJuggleCut, Calls.IsJuggledTill, Calls.IsLimitedTill, Calls.IsUpkeepCut}
use Rattle.mc_segment.specs.ClassState.{opened}
use Rattle.mc_store.specs.{Crawls.AreLinksCounted, Crawls.IsCrawledTill, Hits.AreAdvanced, Locked.class_lock, Locked.setting_of, Passes.PassView}
use Rattle.mc_store.specs.{Passes.next_who, Reached.IsSeenState, Reached.IsStateBetween, Reached.seen_stripes, Sides.class_told, Sides.stripe_told}
use Rattle.mc_store.specs.Searches.{IsSearchUpTo, Searcher, rounds_in, searcher, sight_of}
use Rattle.mc_store.proofs.{EarnedRefusalLemmas.broken_more, EarnedRefusalLemmas.opened_again, LockKeepsLemmas.site_of_number, SyncedStepLemmas.map_length}
use Rattle.mc_driver.specs.{Caller.EntersOnly, Caller.IsBefore, Cut.NotesJugglingCut, Cut.NotesSearchUpTo, Noted.stripe_with, Searched.with_stripe}
use Rattle.mc_driver.specs.Stand.{BreaksOffAfter, histories_seen, stripe_number}
use Rattle.mc_driver.proofs.{EnteredCallLemmas.entered_only, EnteredCallLemmas.stands_within, NotedPlaceLemmas.class_begins, NotedPlaceLemmas.stripe_begins}
use Rattle.mc_driver.proofs.SeenByCallLemmas.{led_up_there, own_states, search_there, seen_grow}

-- of the stripe that a command left, another with the same history will do
full_later : (config : Config) (s s_new t : Stripe) (sight : Sight) (command : Command) (moment : ℕ) → KeepsSite s_new t → t.history ≡ s_new.history
    → IsFullFor config s s_new sight command moment → IsFullFor config s t sight command moment
full_later config s s_new t sight command moment site same (inl full) = inl (omega (arith, site.limit, ap length same, full))
full_later config s s_new t sight command moment site same (inr (inl burial)) = inr (inl (record {
  link = burial.link;
  dead = burial.dead;
  lacks = ⊎_elim (λ own. inl (omega (arith, site.limit, ap length same, own))) (λ of. inr of) burial.lacks;
}))
full_later config s s_new t sight command moment site same (inr (inr (inl entries))) = inr (inr (inl entries))
full_later config s s_new t sight command moment site same (inr (inr (inr search))) = inr (inr (inr (record {
  class = search.class;
  fresh = search.fresh;
  full = search.full;
  short = ⊎_elim (λ short. inl short) (λ entries. inr (entries_later config s_new t sight command moment site same entries)) search.short;
})))

-- what was seen to begin a class's history begins what was seen of it
class_seen_begins : (config : Config) (sight : Sight) (class : ClassNo) (history : List ClassEvent) → IsPrefix (class_told history) (list_at sight.seen (class_lock config class))
    → IsPrefix history (classes_seen config.stripes (list_at sight.seen) class)
class_seen_begins config sight class history begins =
    subst (λ (h : List ClassEvent). IsPrefix h (class_events (list_at sight.seen (class_lock config class)))) (class_events-map history)
    (classes_grow config.stripes (λ lock. class_told history) (λ lock. list_at sight.seen (class_lock config class)) (λ lock. begins) class)

-- a search for a chunk that a fault may have broken off, as a pass has seen it, stands in what it has seen
search_up_to_there : (by : Searcher) (need : Need) (s : Stripe) (seen sight : Sight) (stretch : Stretch) → IsSearchUpTo by need (sight_of by seen s) sight stretch
    → NotesSearchUpTo by need (with_stripe by.number.0 s.history (seen_stripes seen)) (seen_stripes sight) (classes_seen by.config.stripes (list_at sight.seen)) stretch
search_up_to_there by need s seen sight stretch (inl one) = inl (search_there by need s seen sight stretch one)
search_up_to_there by need s seen sight stretch (inr some) =
    let cut = some.2 in
    inr (
      some.0,
      some.1,
      λ is. record {
        before = cut.before;
        searched = cut.searched;
        broken = broken_more (rounds_in by some.0) by.number (IsSeenState by.config.stripes (sight_of by seen s) sight)
            (IsStateBetween by.config.stripes (with_stripe by.number.0 s.history (seen_stripes seen)) (seen_stripes sight))
            (own_states by.number.0 s.history seen by.config.stripes sight) cut.before cut.searched cut.broken;
        from_is = cut.from_is;
        until_is = cut.until_is;
        begins = class_seen_begins by.config sight some.0 cut.searched cut.seen;
      },
    )

-- of a command
pub command_broke : (config : Config) (before after : PassView) (command : Command) (moment : ℕ) (fault : Fault) → 0 < config.stripes → Grows before.sight after.sight → IsBefore before.turn before.made
    → IsCutBy config (stripe_number config.stripes command) before after command moment fault
    → BreaksOffAfter (EntersOnly after) (λ sight. sight ≡ after.sight) config (histories_seen config before.sight) (histories_seen config after.sight) (next_who before) (Asks command) moment fault
command_broke config before after command moment fault some grows earlier by =
    let who = next_who before in
    let number = stripe_number config.stripes command in
    let longer = by.old.history ++ by.cut.before in
    let now : stripe_events (list_at after.sight.seen number) ≡ by.new.history = ap stripe_events by.grew.now ∙ stripe_events-map by.new.history in
    let site : by.old.site ≡ site_in (setting_of config) number = sym (site_of_number config by.old by.grew.made_with) ∙ ap (site_in (setting_of config)) by.grew.number_is in
    let limit = by.grew.made_with.limit in
    let keeps = by.grew.made_with.keeps_events in
    record {
      grew = seen_grow config before.sight after.sight grows;
      placed = mod-lt (fnv1a (key_of command)) some;
      left = (
        record {
          older = by.old.history;
          made = by.cut.before;
          behind = [];
          past = stripe_begins (list_at before.sight.seen number) by.old.history by.grew.seen;
          first = by.first;
          led_up = ⊎_elim (λ none. inl none) (λ led. inr (led_up_there config number who command moment by.old by.cut.before site led)) by.cut.led_up;
          split = now ∙ (by.cut.history_is ∙ sym (append-nil longer));
          stretch = by.stretch;
          search = subst (λ (t : Site). NotesSearchUpTo (searcher config number who moment) (visible_row (stripe t config.max_events config.keeps_events by.old.history 0) command moment).need
              (with_stripe number by.old.history (seen_stripes before.sight)) (seen_stripes after.sight) (histories_seen config after.sight).classes by.stretch) site
              (search_up_to_there (searcher config number who moment) (visible_row by.old command moment).need by.old before.sight after.sight by.stretch by.search);
        },
        entered_only before after _ _ earlier by.account (λ lock place event at mine suits. (
          subst (λ (t : Site). IsOfCommand config (stripe t config.max_events config.keeps_events by.old.history 0) command moment by.stretch lock place event) site suits,
          λ own.
              let seen : list_at after.sight.seen lock ≡ stripe_told by.new.history = ap (list_at after.sight.seen) own ∙ by.grew.now in
              let within = stands_within board_events.Stripe who_of who by.old.history by.cut.before by.new.history place event (λ e. refl) by.first.each by.cut.history_is
              (ap (λ (l : List Event). slice_get l place) (sym seen) ∙ at) mine in
              (within.0, subst (λ (h : List StripeEvent). place < length h) by.cut.history_is within.1),
        )),
        λ full. (
          after.sight,
          refl,
          full_same config (stripe_with config number by.old.history) by.old (stripe_with config number longer) after.sight command moment (record { site = site; limit = limit; keeps_events = keeps })
              refl
              (full_later config by.old by.new (stripe_with config number longer) after.sight command moment
              (record { site = sym (by.grew.site.site ∙ site); limit = sym (by.grew.site.limit ∙ limit); keeps_events = sym (by.grew.site.keeps_events ∙ keeps) })
              (sym by.cut.history_is) (by.full full)),
        ),
      );
    }

-- of juggling: it broke off at a hit, or in the rounds after all hits
module _ (config : Config) (class : ClassNo) (before after : PassView) (moment : ℕ) (fault : Fault) (till : IsJuggledTill config class before after moment fault) where
  abbrev CutAt : Type 0
  CutAt = IsUpkeepCut (IsSeenState config.stripes before.sight after.sight) (rounds till.old (next_who before) moment config) before.hands after.hands till.old.history till.history_new fault

  rounds_are : rounds till.old (next_who before) moment config ≡ rounds (opened config class) (next_who before) moment config
  rounds_are = ap (λ (v : ClassView). rounds v (next_who before) moment config) (opened_again config till.old class till.grew.made_with till.grew.number_is)

  begins : IsPrefix till.history_new ((histories_seen config after.sight).classes class)
  begins = subst (IsPrefix till.history_new) (sym (ap class_events till.grew.now ∙ class_events-map till.history_new)) (prefix_self till.history_new)

  past : IsPrefix ((histories_seen config before.sight).classes class) till.old.history
  past = class_begins (list_at before.sight.seen (class_lock config class)) till.old.history till.grew.seen

  noted : CutAt → NotesJugglingCut config (seen_stripes before.sight) (seen_stripes after.sight)
      ((histories_seen config before.sight).classes class) ((histories_seen config after.sight).classes class) (next_who before) class moment
  noted (inl at) =
      let few = at.few in
      record {
        before = till.old.history;
        past = past;
        first = till.first;
        hits = at.hits;
        few = omega (arith, few);
        advanced = till.history_new;
        moved = subst (λ (r : Rounds). AreAdvanced (IsSeenState config.stripes before.sight after.sight) r at.hits till.old.history till.history_new) rounds_are at.advanced;
        after = till.history_new;
        cut = inl refl;
        begins = begins;
      }
  noted (inr rest) = record {
    before = till.old.history;
    past = past;
    first = till.first;
    hits = rest.1.hits;
    few = rest.1.few;
    advanced = rest.0;
    moved = subst (λ (r : Rounds). AreAdvanced (IsSeenState config.stripes before.sight after.sight) r rest.1.hits till.old.history rest.0) rounds_are rest.1.advanced;
    after = till.history_new;
    cut = inr (fault, subst (λ (r : Rounds). IsJuggleCut (IsSeenState config.stripes before.sight after.sight) r fault rest.0 till.history_new) rounds_are rest.2);
    begins = begins;
  }

  after_is : (cut : CutAt) → (noted cut).after ≡ till.history_new
  unfolding noted
  after_is (inl at) = refl
  after_is (inr rest) = refl

  pub juggling_broke : IsClass (setting_of config) class → Grows before.sight after.sight → IsBefore before.turn before.made
      → BreaksOffAfter (EntersOnly after) (λ sight. sight ≡ after.sight) config (histories_seen config before.sight) (histories_seen config after.sight) (next_who before) (Juggles class) moment fault
  juggling_broke is grows earlier = record {
    grew = seen_grow config before.sight after.sight grows;
    placed = is;
    left = (
      noted till.cut,
      entered_only before after _ _ earlier till.account (λ lock place event at mine suits. ⊎_elim
          (λ own.
          let seen : list_at after.sight.seen lock ≡ class_told till.history_new = ap (list_at after.sight.seen) own ∙ till.grew.now in
          let below : place < length (class_told till.history_new) = slice_get_within (class_told till.history_new) place event (ap (λ (l : List Event). slice_get l place) (sym seen) ∙ at) in
          inl (own, (omega arith, subst (λ (n : ℕ). place < n) (map_length board_events.Class till.history_new ∙ ap length (sym (after_is till.cut))) below)))
          (λ stripe. inr stripe)
          suits),
      λ full. (after.sight, refl, till.full full),
    );
  }

-- what was seen when links were counted is a class's history told
counted_told : (config : Config) (class : ClassNo) (older newer : ℕ → List StripeEvent) (at : List ClassEvent) (seen until : List Event) (who : Who) (moment : ℕ)
    (links : List Link) (stretches : List Stretch) (h h_new : Histogram)
    → seen ≡ class_told at → AreLinksCounted config class older newer seen until who moment links stretches h h_new → (end : List ClassEvent) × (until ≡ class_told end)
counted_told config class older newer at seen until who moment [] [] h h_new is counted = (at, counted.0 ∙ is)
counted_told config class older newer at seen until who moment [] (stretch ∷ stretches) h h_new is counted = absurd counted
counted_told config class older newer at seen until who moment (link ∷ links) [] h h_new is counted = absurd counted
counted_told config class older newer at seen until who moment (link ∷ links) (stretch ∷ stretches) h h_new is counted =
    counted_told config class older newer counted.2.new.history counted.0 until who moment links stretches counted.1 h_new counted.2.now counted.3

-- of a crawl
pub crawl_broke : (config : Config) (class : ClassNo) (before after : PassView) (moment : ℕ) (fault : Fault) → IsClass (setting_of config) class → Grows before.sight after.sight → IsBefore before.turn before.made
    → IsCrawledTill config class before after moment fault
    → BreaksOffAfter (EntersOnly after) (λ sight. sight ≡ after.sight) config (histories_seen config before.sight) (histories_seen config after.sight) (next_who before) (Crawls class) moment fault
crawl_broke config class before after moment fault is grows earlier till =
    let older = seen_stripes before.sight in
    let newer = seen_stripes after.sight in
    let told = counted_told config class older newer till.history (class_told till.history) till.until (next_who before) moment till.links till.stretches _ till.histogram refl till.counted in
    record {
      grew = seen_grow config before.sight after.sight grows;
      placed = is;
      left = (
        record {
          at = till.history;
          past = class_begins (list_at before.sight.seen (class_lock config class)) till.history till.begins;
          links = till.links;
          some = till.some;
          stretches = till.stretches;
          histogram = till.histogram;
          end = told.0;
          counted = subst (λ (es : List Event). AreLinksCounted config class older newer (class_told till.history) es (next_who before) moment till.links till.stretches _ till.histogram) told.1 till.counted;
          begins = class_seen_begins config after.sight class told.0 (subst (λ (es : List Event). IsPrefix es (list_at after.sight.seen (class_lock config class))) told.1 till.now);
        },
        entered_only before after _ _ earlier till.account (λ lock place event at mine suits. suits),
        λ full. (after.sight, refl, till.full full),
      );
    }

-- a call that sets a limit made no event
pub limit_broke : (config : Config) (class : ClassNo) (before after : PassView) (chunks moment : ℕ) (fault : Fault) → IsClass (setting_of config) class → Grows before.sight after.sight → IsBefore before.turn before.made
    → IsLimitedTill config class before after chunks fault
    → BreaksOffAfter (EntersOnly after) (λ sight. sight ≡ after.sight) config (histories_seen config before.sight) (histories_seen config after.sight) (next_who before) (Limits class chunks) moment fault
limit_broke config class before after chunks moment fault is grows earlier till =
    let by = till.limited.gained in
    let same = append-nil by.old.history in
    record {
      grew = seen_grow config before.sight after.sight grows;
      placed = is;
      left = (
        entered_only before after _ _ earlier till.limited.account (λ lock place event at mine own.
            let seen : list_at after.sight.seen lock ≡ class_told (by.old.history ++ []) = ap (list_at after.sight.seen) own ∙ by.grew.now in
            let within = stands_within board_events.Class maker_of (next_who before) by.old.history [] (by.old.history ++ []) place event (λ e. refl) by.first.each refl
            (ap (λ (l : List Event). slice_get l place) (sym seen) ∙ at) mine in
            omega (arith, within.0, within.1, ap length same)),
        λ full. (after.sight, refl, till.full full),
      );
    }
