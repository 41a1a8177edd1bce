-- How a command under the lock of its stripe ends, by how its steps end.
use Rattle.std.proofs.Common.{◌≡◌, ◌++◌, ◌∷◌, [], ℕ, List, Result, Ok, Err, inl, inr, ⊎_elim, length, append-nil, arith, refl, ap, ◌∙◌, subst, sym}
use Rattle.std.specs.Prelude.{◌≤◌, Option, Some, IsErrAnd, IsErrOf, IsSomeAnd}
use Rattle.mc_item.specs.{Answer.Row, Answer.row_of, Cache.Cache, Command.key_of, Stripe.IsAlive}
use Rattle.mc_item.specs.declared.{answer.Need.Need, answer.Site.Site, call_event.CallEvent.CallEvent, command.Command.Command, config.Config.Config}
use Rattle.mc_item.specs.declared.{fault.Fault.Fault, fault.Fault.TheVariants.HistoryFull, item.ClassNo.ClassNo, item.Link.Link, item.Who.Who}
use Rattle.mc_item.specs.declared.{stripe_event.Did.Did, stripe_event.StripeEvent.StripeEvent}
use Rattle.mc_item.specs.declared.answer.Need.TheVariants as needs
use Rattle.mc_item.specs.declared.stripe_event.StripeEvent.TheVariants as events
use Rattle.mc_board.specs.Histories.{Grows}
use Rattle.mc_board.specs.declared.rule.Sight.{Sight}
use Rattle.mc_board.proofs.SeenLemmas.{Grows-trans}
use Rattle.mc_stripe.specs.{Plan.dead_link, Plan.visible_row, StripeCalls.KeepsSite, StripeState.Stripe, StripeState.cache_now, Trying.item_of, Trying.row_at, Wanting.Holds}
use Rattle.mc_stripe.specs.{Wanting.IsWanting, Wanting.classes_for}
use Rattle.mc_stripe.specs.declared.{wanting.Want.Want, trying.Turn.Turn}
use Rattle.mc_pull.specs.{Perform.answer_to, Perform.call, Question.IsStripeOf}
use Rattle.mc_store.specs.{Accounts.Enters, Accounts.IsOfCommand, Accounts.Stretch, Callers.answered_at, Calls.IsRepliedAs, Commands.IsCut, Commands.IsSearch, Commands.burial, Earned.IsEarned, Earned.IsEarnedIn}
use Rattle.mc_store.specs.Held.{Ends, IsMadeIn, IsWalked, Suffice, nothing}
use Rattle.mc_store.specs.{Passes.CallerView, Full.IsFullFor, Searches.IsSearchFor, Searches.IsSearchUpTo, Searches.searcher, Searches.searcher_at, Sides.StripeSide, Sides.stripe_sight}
use Rattle.mc_store.proofs.CommandLemmas.{buried_alive, buried_row, cache_same, fresh_visible, led_same, not_dead, row_same}
use Rattle.mc_store.proofs.EarnedRefusalLemmas.{earned_told, search_wider, up_to_wider}
use Rattle.mc_store.proofs.FullLemmas.{full_buried, full_same}
use Rattle.mc_store.proofs.AccountLemmas.{enters_both, enters_more, grows_itself}
use Rattle.mc_store.proofs.EnteredLemmas.{StillMakes, command_as, makes_buried, makes_then_tried, makes_tried, no_stretch, noted_still}
use Rattle.mc_store.specs.Trying.{StillBuries, StillTries}
use Rattle.mc_pull.specs.declared.attempting.Replied.{Replied}
use Rattle.mc_store.proofs.UnderLockLemmas.{IsSearched, active_moves, cut_behind, cut_from, replied_behind, replied_from, site_both}

module _ (config : Config) (command : Command) (turn : Turn) where
  abbrev EndsBy : (own own_new : StripeSide) (caller caller_new : CallerView) → Result Replied Fault → Type 0
  EndsBy own own_new caller caller_new result = Ends config own own_new caller caller_new command turn result

  abbrev Makes : Stretch → (own own_new : StripeSide) (caller caller_new : CallerView) → Type 0
  Makes stretch own own_new caller caller_new = StillMakes config command turn stretch own own_new caller caller_new

  abbrev Sought : (own end : StripeSide) → Stretch → Type 0
  Sought own end stretch = IsSearchFor (searcher_at config own.stripe turn) (visible_row own.stripe command turn.moment).need (stripe_sight own) end.sight stretch

  abbrev SoughtUpTo : (own end : StripeSide) → Stretch → Type 0
  SoughtUpTo own end stretch = IsSearchUpTo (searcher_at config own.stripe turn) (visible_row own.stripe command turn.moment).need (stripe_sight own) end.sight stretch

  -- a walk in the class that is needed is a search
  pub searched_walk : (s s_new : Stripe) (class : ClassNo) → IsAlive (item_of s command) turn.moment → (row_at s command turn.moment).need ≡ needs.Fresh class
      → IsWalked config turn class s s_new → IsSearched config turn.who command turn.moment s s_new
  searched_walk s s_new class alive fresh walk =
      let need = fresh_visible s command turn.moment class alive fresh in
      (walk.walked, subst (λ (n : Need). IsSearch config turn.who turn.moment n walk.walked) (sym need) walk.each, walk.history_is)

  -- behind a search
  module _ (own mid : StripeSide) (alive : IsAlive (item_of own.stripe command) turn.moment) (searched : IsSearched config turn.who command turn.moment own.stripe mid.stripe)
      (site : KeepsSite own.stripe mid.stripe) where
    -- the command was made
    pub ends_made : (stretch : Stretch) (end : StripeSide) (caller caller_mid caller_new : CallerView) (reply : Replied) → IsStripeOf config own.stripe → KeepsSite mid.stripe end.stripe
        → Makes stretch own mid caller caller_mid → Sought own end stretch → IsMadeIn config mid end caller_mid caller_new command turn reply → EndsBy own end caller caller_new (Ok reply)
    ends_made stretch end caller caller_mid caller_new reply made_with more still sought made =
        let s = own.stripe in
        let last = mid.stripe in
        let noted = makes_then_tried config command turn stretch own mid end site.site (noted_still last still) made.noted in
        record {
          replied = replied_behind config turn.who command turn.moment s last alive searched end.stripe end.sight made.room reply caller.calls caller_new.calls site made.made_is noted.calls_are
              (earned_told config s.site end.sight turn.who command turn.moment (answer_to last (call turn.who command turn.moment made.room)).reply made.room made_with.stripes
              (subst (λ (t : Site). IsEarnedIn config t.stripe turn.who turn.moment (key_of command) end.sight made.room) site.site made.earned));
          cut = tt;
          unnoted = tt;
          number = noted.number_is;
          sees = noted.sees;
          stretch = stretch;
          enters = noted.enters;
          search = sought;
          cut_search = tt;
          site = site_both s last end.stripe site more;
          full = λ is. absurd (ok_full reply is);
        }
      where
        ok_full : (r : Replied) → IsErrOf (Ok r) HistoryFull → ⊥
        ok_full r is = cc is

    -- it was broken off
    pub ends_cut : (stretch : Stretch) (end : StripeSide) (caller caller_new : CallerView) (fault : Fault) → KeepsSite mid.stripe end.stripe → end.stripe.history ≡ mid.stripe.history
        → Makes stretch own end caller caller_new → SoughtUpTo own end stretch
        → (fault ≡ HistoryFull → IsFullFor config own.stripe end.stripe end.sight command turn.moment) → EndsBy own end caller caller_new (Err fault)
    ends_cut stretch end caller caller_new fault more same still sought full = record {
      replied = tt;
      cut = cut_behind config turn.who command turn.moment own.stripe mid.stripe alive searched end.stripe same;
      unnoted = still.calls_are;
      number = still.number_is;
      sees = still.sees;
      stretch = stretch;
      enters = still.enters;
      search = tt;
      cut_search = sought;
      site = site_both own.stripe mid.stripe end.stripe site more;
      full = λ is. full (err_fault fault HistoryFull is);
    }
      where
        err_fault : (a b : Fault) → IsErrOf {T = Replied} (Err a) b → a ≡ b
        err_fault a b is = cc is

    -- with a fault that was handed on
    pub ends_err : (stretch : Stretch) (end : StripeSide) (caller caller_new : CallerView) (r : Result Replied Fault) (fault : Fault) → IsErrAnd r (λ x. x ≡ fault)
        → KeepsSite mid.stripe end.stripe → end.stripe.history ≡ mid.stripe.history → Makes stretch own end caller caller_new → SoughtUpTo own end stretch
        → (fault ≡ HistoryFull → IsFullFor config own.stripe end.stripe end.sight command turn.moment) → EndsBy own end caller caller_new r
    ends_err stretch end caller caller_new (Ok reply) fault is more same still sought full = absurd is
    ends_err stretch end caller caller_new (Err e) fault is more same still sought full = ends_cut stretch end caller caller_new e more same still sought (λ at. full (sym is ∙ at))

  -- no search was made
  pub no_search : (own end : StripeSide) → Sought own end no_stretch
  no_search own end =
      let none : 0 ≤ 0 = omega arith in inl none

  -- before the command was made, with nothing left on its stripe
  pub ends_broken : (own end : StripeSide) (caller caller_new : CallerView) (r : Result Replied Fault) (fault : Fault) → IsErrAnd r (λ x. x ≡ fault)
      → KeepsSite own.stripe end.stripe → end.stripe.history ≡ own.stripe.history → Makes no_stretch own end caller caller_new
      → (fault ≡ HistoryFull → IsFullFor config own.stripe end.stripe end.sight command turn.moment) → EndsBy own end caller caller_new r
  ends_broken own end caller caller_new (Ok reply) fault is site same makes full = absurd is
  ends_broken own end caller caller_new (Err e) fault is site same makes full = record {
    replied = tt;
    cut = record { before = []; led_up = inl refl; history_is = same ∙ sym (append-nil own.stripe.history) };
    unnoted = makes.calls_are;
    number = makes.number_is;
    sees = makes.sees;
    stretch = no_stretch;
    enters = makes.enters;
    search = tt;
    cut_search = inl (no_search own end);
    site = site;
    full = λ at. full (sym is ∙ err_same e at);
  }
    where
      err_same : (e : Fault) → IsErrOf {T = Replied} (Err e) HistoryFull → e ≡ HistoryFull
      err_same e at = cc at

  -- before anything of it happened
  pub ends_early : (own end : StripeSide) (caller caller_new : CallerView) (r : Result Replied Fault) (fault : Fault) → IsErrAnd r (λ x. x ≡ fault)
      → KeepsSite own.stripe end.stripe → end.stripe.history ≡ own.stripe.history → StillTries config turn own end caller caller_new
      → (fault ≡ HistoryFull → IsFullFor config own.stripe end.stripe end.sight command turn.moment) → EndsBy own end caller caller_new r
  ends_early own end caller caller_new r fault is site same still full =
      ends_broken own end caller caller_new r fault is site same (makes_tried config command turn no_stretch own end still) full

  -- behind steps without a search the account is what it gained by them, and then
  entered_behind : (stretch : Stretch) (own mid end : StripeSide) (caller caller_mid caller_new : CallerView) → mid.stripe.site ≡ own.stripe.site
      → ((P : Link → Type 0) → IsSomeAnd (dead_link (item_of mid.stripe command) turn.moment) P → IsSomeAnd (dead_link (item_of own.stripe command) turn.moment) P)
      → visible_row mid.stripe command turn.moment ≡ visible_row own.stripe command turn.moment → Makes stretch own mid caller caller_mid → Grows (stripe_sight mid) (stripe_sight end)
      → Enters (IsOfCommand config mid.stripe command turn.moment stretch) turn.who.turn (stripe_sight end) caller_mid.made caller_new.made
      → Enters (IsOfCommand config own.stripe command turn.moment stretch) turn.who.turn (stripe_sight end) caller.made caller_new.made
  entered_behind stretch own mid end caller caller_mid caller_new site dead row still sees enters =
      let Here = IsOfCommand config own.stripe command turn.moment stretch in
      enters_both Here turn.who.turn caller.made caller_mid.made caller_new.made still.enters sees
      (enters_more (IsOfCommand config mid.stripe command turn.moment stretch) Here turn.who.turn caller_mid.made caller_new.made
      (command_as config own.stripe mid.stripe command turn.moment stretch site dead row) enters)

  -- and the search is for what is needed
  sought_behind : (stretch : Stretch) (own mid end : StripeSide) → KeepsSite own.stripe mid.stripe → Grows (stripe_sight own) (stripe_sight mid)
      → visible_row mid.stripe command turn.moment ≡ visible_row own.stripe command turn.moment → Sought mid end stretch → Sought own end stretch
  sought_behind stretch own mid end site begins row sought =
      let by = searcher_at config own.stripe turn in
      let need = (visible_row mid.stripe command turn.moment).need in
      search_wider by (visible_row own.stripe command turn.moment).need (stripe_sight own) (stripe_sight mid) end.sight end.sight stretch begins (grows_itself end.sight)
      (subst (λ (r : Row). IsSearchFor by r.need (stripe_sight mid) end.sight stretch) row
      (subst (λ (t : Site). IsSearchFor (searcher config t.stripe turn.who turn.moment) need (stripe_sight mid) end.sight stretch) site.site sought))

  up_to_behind : (stretch : Stretch) (own mid end : StripeSide) → KeepsSite own.stripe mid.stripe → Grows (stripe_sight own) (stripe_sight mid)
      → visible_row mid.stripe command turn.moment ≡ visible_row own.stripe command turn.moment → SoughtUpTo mid end stretch → SoughtUpTo own end stretch
  up_to_behind stretch own mid end site begins row sought =
      let by = searcher_at config own.stripe turn in
      let need = (visible_row mid.stripe command turn.moment).need in
      up_to_wider by (visible_row own.stripe command turn.moment).need (stripe_sight own) (stripe_sight mid) end.sight end.sight stretch begins (grows_itself end.sight)
      (subst (λ (r : Row). IsSearchUpTo by r.need (stripe_sight mid) end.sight stretch) row
      (subst (λ (t : Site). IsSearchUpTo (searcher config t.stripe turn.who turn.moment) need (stripe_sight mid) end.sight stretch) site.site sought))

  -- a stripe of the same history has the same item
  same_dead : (s mid : Stripe) → KeepsSite s mid → mid.history ≡ s.history → (P : Link → Type 0)
      → IsSomeAnd (dead_link (item_of mid command) turn.moment) P → IsSomeAnd (dead_link (item_of s command) turn.moment) P
  same_dead s mid site same P it = subst (λ (c : Cache). IsSomeAnd (dead_link (c.items (key_of command)) turn.moment) P) (cache_same s mid site same) it

  -- a living item isn't buried
  no_dead : (mid : Stripe) (s : Stripe) → IsAlive (item_of mid command) turn.moment → (P : Link → Type 0)
      → IsSomeAnd (dead_link (item_of mid command) turn.moment) P → IsSomeAnd (dead_link (item_of s command) turn.moment) P
  no_dead mid s alive P it = absurd (subst (λ (o : Option Link). IsSomeAnd o P) (not_dead (item_of mid command) turn.moment alive) it)

  -- on a stripe of the same history
  module _ (s mid : Stripe) (site : KeepsSite s mid) (same : mid.history ≡ s.history) where
    replied_same : (end : Stripe) (sight : Sight) (calls calls_new : List CallEvent) (replied : Replied)
        → IsRepliedAs config turn.who command turn.moment mid end sight calls calls_new replied
        → IsRepliedAs config turn.who command turn.moment s end sight calls calls_new replied
    replied_same end sight calls calls_new replied whole =
        let r = whole.replied_is in
        let a = r.answered in
        let did : Did = record { who = turn.who; command = command; moment = turn.moment; reply = a.reply; room = a.room } in
        record {
          replied_is = record {
            place = r.place;
            answered = record {
              before = a.before;
              led_up = led_same config turn.who command turn.moment s mid site same a.before a.led_up;
              reply = a.reply;
              room = a.room;
              history_is = subst (λ (h : List StripeEvent). end.history ≡ (h ++ a.before) ++ events.Did did ∷ []) same a.history_is;
              place_is = subst (λ (h : List StripeEvent). r.place ≡ length (h ++ a.before)) same a.place_is;
            };
            reply_is = r.reply_is;
            noted = r.noted ∙ ap (λ (t : Site). calls ++ answered_at t.stripe r.place ∷ []) site.site;
            earned = subst (λ (t : Site). IsEarned config t sight did) site.site r.earned;
          };
          woken = active_moves mid.site s.site (mid.history ++ a.before) (s.history ++ a.before) did replied.woken site.site (ap (λ (h : List StripeEvent). h ++ a.before) same) whole.woken;
        }

    cut_same : (end : Stripe) → IsCut config turn.who command turn.moment mid end → IsCut config turn.who command turn.moment s end
    cut_same end cut = record {
      before = cut.before;
      led_up = ⊎_elim (λ nothing. inl nothing) (λ led. inr (led_same config turn.who command turn.moment s mid site same cut.before led)) cut.led_up;
      history_is = cut.history_is ∙ ap (λ (h : List StripeEvent). h ++ cut.before) same;
    }

  -- of a caller that had noted nothing
  module _ (own mid : StripeSide) (site : KeepsSite own.stripe mid.stripe) (caller caller_mid : CallerView) where
    pub ends_same : StillTries config turn own mid caller caller_mid → mid.stripe.history ≡ own.stripe.history → (end : StripeSide) (caller_new : CallerView) (r : Result Replied Fault)
        → EndsBy mid end caller_mid caller_new r → EndsBy own end caller caller_new r
    ends_same still same end caller_new (Ok reply) ends =
        let s = own.stripe in
        let last = mid.stripe in
        record {
          replied = subst (λ (calls : List CallEvent). IsRepliedAs config turn.who command turn.moment s end.stripe end.sight calls caller_new.calls reply) still.calls_are
              (replied_same s last site same end.stripe end.sight caller_mid.calls caller_new.calls reply ends.replied);
          cut = tt;
          unnoted = tt;
          number = ends.number ∙ still.number_is;
          sees = Grows-trans (stripe_sight own) (stripe_sight mid) (stripe_sight end) still.sees ends.sees;
          stretch = ends.stretch;
          enters = entered_behind ends.stretch own mid end caller caller_mid caller_new site.site (same_dead s last site same) (row_same command turn.moment s last site same)
              (makes_tried config command turn ends.stretch own mid still) ends.sees ends.enters;
          search = sought_behind ends.stretch own mid end site still.sees (row_same command turn.moment s last site same) ends.search;
          cut_search = tt;
          site = site_both s last end.stripe site ends.site;
          full = λ is. full_same config s last end.stripe end.sight command turn.moment site same (ends.full is);
        }
    ends_same still same end caller_new (Err fault) ends =
        let s = own.stripe in
        let last = mid.stripe in
        record {
          replied = tt;
          cut = cut_same s last site same end.stripe ends.cut;
          unnoted = ends.unnoted ∙ still.calls_are;
          number = ends.number ∙ still.number_is;
          sees = Grows-trans (stripe_sight own) (stripe_sight mid) (stripe_sight end) still.sees ends.sees;
          stretch = ends.stretch;
          enters = entered_behind ends.stretch own mid end caller caller_mid caller_new site.site (same_dead s last site same) (row_same command turn.moment s last site same)
              (makes_tried config command turn ends.stretch own mid still) ends.sees ends.enters;
          search = tt;
          cut_search = up_to_behind ends.stretch own mid end site still.sees (row_same command turn.moment s last site same) ends.cut_search;
          site = site_both s last end.stripe site ends.site;
          full = λ is. full_same config s last end.stripe end.sight command turn.moment site same (ends.full is);
        }

    -- behind the burial of its key's dead item
    pub ends_buried : (link : Link) → dead_link (item_of own.stripe command) turn.moment ≡ Some link → StillBuries config link turn own mid caller caller_mid
        → mid.stripe.history ≡ own.stripe.history ++ burial turn.who (key_of command) turn.moment (dead_link ((cache_now own.stripe).items (key_of command)) turn.moment)
        → (end : StripeSide) (caller_new : CallerView) (r : Result Replied Fault) → EndsBy mid end caller_mid caller_new r → EndsBy own end caller caller_new r
    ends_buried link dead still buried end caller_new (Ok reply) ends =
        let s = own.stripe in
        let last = mid.stripe in
        record {
          replied = subst (λ (calls : List CallEvent). IsRepliedAs config turn.who command turn.moment s end.stripe end.sight calls caller_new.calls reply) still.calls_are
              (replied_from config turn.who command turn.moment s last site buried end.stripe end.sight caller_mid.calls caller_new.calls reply ends.replied);
          cut = tt;
          unnoted = tt;
          number = ends.number ∙ still.number_is;
          sees = Grows-trans (stripe_sight own) (stripe_sight mid) (stripe_sight end) still.sees ends.sees;
          stretch = ends.stretch;
          enters = entered_behind ends.stretch own mid end caller caller_mid caller_new site.site (no_dead last s (buried_alive s last turn.who command turn.moment site buried))
              (buried_row s last turn.who command turn.moment site buried) (makes_buried config command turn ends.stretch own mid link dead still) ends.sees ends.enters;
          search = sought_behind ends.stretch own mid end site still.sees (buried_row s last turn.who command turn.moment site buried) ends.search;
          cut_search = tt;
          site = site_both s last end.stripe site ends.site;
          full = λ is. full_buried config turn.who s last end.stripe end.sight command turn.moment site buried (ends.full is);
        }
    ends_buried link dead still buried end caller_new (Err fault) ends =
        let s = own.stripe in
        let last = mid.stripe in
        record {
          replied = tt;
          cut = cut_from config turn.who command turn.moment s last site buried end.stripe ends.cut;
          unnoted = ends.unnoted ∙ still.calls_are;
          number = ends.number ∙ still.number_is;
          sees = Grows-trans (stripe_sight own) (stripe_sight mid) (stripe_sight end) still.sees ends.sees;
          stretch = ends.stretch;
          enters = entered_behind ends.stretch own mid end caller caller_mid caller_new site.site (no_dead last s (buried_alive s last turn.who command turn.moment site buried))
              (buried_row s last turn.who command turn.moment site buried) (makes_buried config command turn ends.stretch own mid link dead still) ends.sees ends.enters;
          search = tt;
          cut_search = up_to_behind ends.stretch own mid end site still.sees (buried_row s last turn.who command turn.moment site buried) ends.cut_search;
          site = site_both s last end.stripe site ends.site;
          full = λ is. full_buried config turn.who s last end.stripe end.sight command turn.moment site buried (ends.full is);
        }

-- a stripe of the same history needs the same classes
module _ (s s_new : Stripe) (site : KeepsSite s s_new) (same : s_new.history ≡ s.history) (command : Command) (moment : ℕ) where
  abbrev Suffices : (home other : Option ClassNo) → Site → Cache → Type 0
  Suffices home other t c =
      IsAlive (c.items (key_of command)) moment × Holds home (classes_for (key_of command) (c.items (key_of command)) (row_of t c.versions (c.items (key_of command)) command moment)).home
      × Holds other (classes_for (key_of command) (c.items (key_of command)) (row_of t c.versions (c.items (key_of command)) command moment)).other

  pub suffice_same : (home other : Option ClassNo) → Suffice home other s command moment → Suffice home other s_new command moment
  suffice_same home other suffice =
      let moved = subst (λ (c : Cache). Suffices home other s.site c) (sym (cache_same s s_new site same)) (suffice.alive, suffice.for_version, suffice.for_item) in
      let all = subst (λ (t : Site). Suffices home other t (cache_now s_new)) (sym site.site) moved in
      record { alive = all.0; for_version = all.1; for_item = all.2 }

  abbrev Wants : Want → Site → Cache → Type 0
  Wants want t c = IsWanting nothing (key_of command) (c.items (key_of command)) moment (row_of t c.versions (c.items (key_of command)) command moment) want

  pub searched_same : (config : Config) (who : Who) (t : Stripe) → IsSearched config who command moment t s → IsSearched config who command moment t s_new
  searched_same config who t searched = (searched.0, searched.1, same ∙ searched.2)

-- what was buried, as the stripe was before it had seen more
pub buried_now : (s told mid : Stripe) (who : Who) (command : Command) (moment : ℕ) (link : Link) (key : List ℕ) → told ≡ s → key ≡ key_of command
    → dead_link (item_of s command) moment ≡ Some link → mid.history ≡ told.history ++ burial who key moment (Some link)
    → mid.history ≡ s.history ++ burial who (key_of command) moment (dead_link (item_of s command) moment)
buried_now s told mid who command moment link key same key_is dead lost =
    lost
    ∙ (ap (λ (t : Stripe). t.history ++ burial who key moment (Some link)) same
    ∙ (ap (λ (k : List ℕ). s.history ++ burial who k moment (Some link)) key_is
    ∙ ap (λ (o : Option Link). s.history ++ burial who (key_of command) moment o) (sym dead)))
