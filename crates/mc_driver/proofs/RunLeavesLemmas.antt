-- What a run leaves: the closed store, and what the caller's pass has seen of it.
use Rattle.std.proofs.Common.{◌≡◌, ◌<◌, ◌+◌, ◌-◌, ℕ, List, Option, Some, length, option_map, slice_get, refl, sym, ap, ◌∙◌, subst, arith}
use Rattle.std.proofs.lemmas.{Option.slice_get-map}
use mathlib.Core.List.{IsPrefix}
use Rattle.mc_item.specs.declared.{answer.Site.Site, class_event.ClassEvent.ClassEvent, config.Config.Config, event.Event.Event, event.Event.TheVariants.Class}
use Rattle.mc_item.specs.declared.{event.Event.TheVariants.Stripe, item.ClassNo.ClassNo, item.Who.Who, stripe_event.StripeEvent.StripeEvent}
use Rattle.mc_item.specs.declared.stripe_event.StripeEvent.TheVariants as events
use Rattle.mc_board.specs.{Accounts.IsEntered, Accounts.maker_in, Histories.list_at}
use Rattle.mc_board.specs.declared.rule.Sight.{Sight}
use Rattle.mc_board.proofs.{AccountLemmas.get_longer}
use Rattle.mc_evidence.specs.{Setting.IsClass, Sound.IsSoundStore}
use Rattle.mc_item.specs.Stripe.{IsLegal}
use Rattle.mc_script.specs.Exchanges.{Exchange, Failure}
use Rattle.mc_store.specs.Finals.{AreClasses, AreExactlyEntries, AreStripes, FinalView, class_histories, class_history, stripe_histories, stripe_history}
use Rattle.mc_store.specs.{Locked.class_lock, Locked.setting_of, Passes.PassView, Sides.ClassSide, Sides.StripeSide, Sides.class_told}
use Rattle.mc_store.specs.{Sides.stripe_told}
use Rattle.mc_store.proofs.{NumberOrderLemmas.get_some}
use Rattle.mc_driver.specs.{Called.AreCalledBy, Called.AreItsCalls, Called.IsCompared, Caller.AreNoted, Caller.EntersOnly, Caller.places_in, Run.IsStore, Stand.HasSeen, Stand.histories_seen}
use Rattle.mc_driver.specs.{Run.histories_left, Stand.StandsLast, Stand.Grow, Stand.MakesOnly, Stand.calls_at, Stand.nothing_seen}
use Rattle.mc_driver.proofs.{NotedPlaceLemmas.at_later, NotedPlaceLemmas.called_place, NotedPlaceLemmas.class_begins, NotedPlaceLemmas.stripe_begins, OnlyCallsLemmas.only_these}
use Rattle.mc_driver.proofs.{EnteredCallLemmas.some_at, LeftEventLemmas.called_by, LeftEventLemmas.in_class, LeftEventLemmas.in_stripe}
use Rattle.mc_driver.proofs.StandingCallLemmas.{stand_by, stand_last_by, stand_last_later}

-- a site by its parts
site_is : (s : Site) (stripe stripes : ℕ) (sizes : List ℕ) → s.stripe ≡ stripe → s.stripes ≡ stripes → s.sizes ≡ sizes → s ≡ record { stripe = stripe; stripes = stripes; sizes = sizes }
site_is s stripe stripes sizes a b c = site_parts s.stripe stripe s.stripes stripes s.sizes sizes a b c
  where
    site_of_parts : ℕ → ℕ → List ℕ → Site
    site_of_parts x y z = record { stripe = x; stripes = y; sizes = z }

    site_parts : (x x' y y' : ℕ) (z z' : List ℕ) → x ≡ x' → y ≡ y' → z ≡ z' → site_of_parts x y z ≡ site_of_parts x' y' z'
    site_parts x x' y y' z z' xx yy zz = ap (λ q. site_of_parts q y z) xx ∙ ap (λ q. site_of_parts x' q z) yy ∙ ap (λ q. site_of_parts x' y' q) zz

module _ (config : Config) (final : FinalView) (all : AreStripes final.board config final.stripes) (all_classes : AreClasses final.board config final.classes) where
  -- the store is all of its stripes and classes
  pub store_left : IsSoundStore (setting_of config) (stripe_histories final.stripes) (class_histories final.classes)
      → AreExactlyEntries (setting_of config) (stripe_histories final.stripes) (class_histories final.classes) → IsStore config final
  store_left sound entries = record {
    count = all.many;
    each = λ number s found.
        let under = all.each number s found in
        let site = site_is s.stripe.site number config.stripes config.sizes under.number_is under.kept.made_with.stripes under.kept.made_with.sizes in
        record {
          site = site;
          limit = under.kept.made_with.limit;
          keeps_events = under.kept.made_with.keeps_events;
          legal = subst (λ (x : Site). IsLegal x s.stripe.history) (sym site)
              (subst (λ (k : ℕ). IsLegal (record { stripe = k; stripes = config.stripes; sizes = config.sizes }) s.stripe.history) under.number_is under.kept.keeps.legal);
        };
    classes = all_classes.many;
    each_class = λ place c found.
        let under = all_classes.each place c found in
        record { number_is = ap (λ (n : ℕ). record { 0 = n }) under.number_is; made_with = under.kept.held.made_with };
    sound = sound;
    entries = entries;
  }

  module _ (pass : PassView) (compared : IsCompared pass final) where
    abbrev sight : Sight
    sight = pass.sight

    stripe_seen : (number : ℕ) → number < config.stripes → IsPrefix (list_at sight.seen number) (stripe_told (stripe_histories final.stripes number))
    stripe_seen number below =
        let g = get_some final.stripes number (omega (arith, below, all.many)) in
        let under = all.each number g.0 g.1 in
        let lock : g.0.lock ≡ number = under.kept.lock_is ∙ under.number_is in
        subst (λ (o : Option StripeSide). IsPrefix (list_at sight.seen number) (stripe_told (stripe_history o))) (sym g.1)
        (subst (λ (k : ℕ). IsPrefix (list_at sight.seen k) (stripe_told g.0.stripe.history)) lock (compared.stripes.each number g.0 g.1).seen)

    class_seen : (class : ClassNo) → IsClass (setting_of config) class → IsPrefix (list_at sight.seen (class_lock config class)) (class_told (class_histories final.classes class))
    class_seen class is =
        let g = get_some final.classes (class.0 - 1) (omega (arith, is.0, is.1, all_classes.many)) in
        let under = all_classes.each (class.0 - 1) g.0 g.1 in
        let same : g.0.class.number.0 ≡ class.0 = under.number_is ∙ omega (arith, is.0) in
        let lock : g.0.lock ≡ class_lock config class = under.kept.held.lock_is ∙ ap (λ (n : ℕ). config.stripes + (n - 1)) same in
        subst (λ (o : Option ClassSide). IsPrefix (list_at sight.seen (class_lock config class)) (class_told (class_history o))) (sym g.1)
        (subst (λ (k : ℕ). IsPrefix (list_at sight.seen k) (class_told g.0.class.history)) lock (compared.classes.each (class.0 - 1) g.0 g.1).seen)

    -- what the pass has seen of it is a beginning
    pub left_grows : Grow config (histories_seen config sight) (histories_left final)
    left_grows = record {
      stripes = λ number below. stripe_begins (list_at sight.seen number) (stripe_histories final.stripes number) (stripe_seen number below);
      classes = λ class is. class_begins (list_at sight.seen (class_lock config class)) (class_histories final.classes class) (class_seen class is);
    }

    -- and what its account has of a call is all that the store has of it
    makes_only : (who : Who) → who.caller ≡ pass.caller → (Suits : (lock place : ℕ) → Event → Type 0) → EntersOnly pass who Suits → MakesOnly config (histories_left final) who Suits
    makes_only who of Suits has = record {
      stripes = λ number place event below found by.
          let s = in_stripe config final all all_classes number place event below found in
          let under = all.each number s.0 s.1 in
          let lock : s.0.lock ≡ number = under.kept.lock_is ∙ under.number_is in
          let entered = compared.account.stripes number s.0 place event s.1 s.2 (ap (λ (w : Who). w.caller) by ∙ of) in
          suited number place (stripe_told (stripe_histories final.stripes number)) (Stripe event) (stripe_seen number below)
          (slice_get-map (λ (e : StripeEvent). Stripe e) (stripe_histories final.stripes number) place ∙ ap (option_map (λ (e : StripeEvent). Stripe e)) found) (ap (λ (w : Who). Some w) by)
          (subst (λ (k : ℕ). IsEntered pass.made who.turn k place) lock (subst (λ (w : Who). IsEntered pass.made w.turn s.0.lock place) by entered));
      classes = λ class place event is found by.
          let c = in_class config final all all_classes class place event is found in
          let under = all_classes.each (class.0 - 1) c.0 c.1 in
          let same : c.0.class.number.0 ≡ class.0 = under.number_is ∙ omega (arith, is.0) in
          let lock : c.0.lock ≡ class_lock config class = under.kept.held.lock_is ∙ ap (λ (n : ℕ). config.stripes + (n - 1)) same in
          let entered = compared.account.classes (class.0 - 1) c.0 place event c.1 c.2 (ap (λ (w : Who). w.caller) by ∙ of) in
          suited (class_lock config class) place (class_told (class_histories final.classes class)) (Class event) (class_seen class is)
          (slice_get-map (λ (e : ClassEvent). Class e) (class_histories final.classes class) place ∙ ap (option_map (λ (e : ClassEvent). Class e)) found) (ap (λ (w : Who). Some w) by)
          (subst (λ (k : ℕ). IsEntered pass.made who.turn k place) lock (subst (λ (w : Who). IsEntered pass.made w.turn c.0.lock place) by entered));
    }
      where
        suited : (lock place : ℕ) (all : List Event) (event : Event) → IsPrefix (list_at sight.seen lock) all → slice_get all place ≡ Some event → maker_in event ≡ Some who
            → IsEntered pass.made who.turn lock place → Suits lock place event
        suited lock place all event begins there by entered =
            let Fits = λ (e : Event). maker_in e ≡ Some who → Suits lock place e in
            let e = some_at Fits (slice_get (list_at sight.seen lock) place) (has.each lock place entered) in
            let same : Some e.0 ≡ Some event = sym (get_longer (list_at sight.seen lock) all place e.0 begins e.1) ∙ there in
            subst Fits (cc same) e.2 by

    abbrev next : List Exchange → Who
    next calls = record { caller = pass.caller; turn = length calls }

    -- the calls that the pass has noted stand in it, and of the caller there are only these
    pub left_calls : (calls : List Exchange) (end : Option Failure) → AreNoted config pass calls end → AreItsCalls config pass.caller (histories_left final) calls end
    left_calls calls end noted = record {
      stand = stand_by (EntersOnly pass) (MakesOnly config (histories_left final)) config nothing_seen calls (StandsLast (EntersOnly pass) (λ has. has ≡ sight) config (histories_seen config sight) (next calls) end)
          (StandsLast (MakesOnly config (histories_left final)) (HasSeen config (histories_left final)) config (histories_left final) (next calls) end)
          (λ k call at Suits. makes_only call.who (ap (λ (w : Who). w.caller) (noted.own.each k call at)) Suits)
          (λ reached last. stand_last_by (EntersOnly pass) (MakesOnly config (histories_left final)) (λ has. has ≡ sight) (HasSeen config (histories_left final))
          (λ has is. subst (HasSeen config (histories_left final)) (sym is) (record { stripes = stripe_seen; classes = class_seen })) config (histories_left final) (next calls) end (makes_only (next calls) refl) reached
          (stand_last_later (EntersOnly pass) (λ has. has ≡ sight) config (histories_seen config sight) (histories_left final) (next calls) end left_grows reached last))
          noted.stand;
      only = record {
        at = λ number below.
            let at = at_later _ (stripe_histories final.stripes number) pass.caller _ _ (left_grows.stripes number below) (noted.at number below) in
            only_these pass.caller (stripe_histories final.stripes number) (places_in number pass.calls) (calls_at config.stripes number calls) (noted.rising number below) at
            (λ place did found by. called_place number place pass.calls did (left_events.called number place (events.Did did) below found by));
      };
      history = pass.calls;
      just = noted.turns;
      events = left_events;
    }
      where
        left_events : AreCalledBy config pass.caller (histories_left final) pass.calls
        left_events = called_by config final all all_classes pass compared
