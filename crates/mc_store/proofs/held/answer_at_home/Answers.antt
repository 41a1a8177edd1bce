use Rattle.std.proofs.Common.{◌≡◌, ◌⊎◌, ◌++◌, ◌∷◌, [], ◌∙◌, List, Result, Err, ap, inl, inr, length, refl, sym, subst, ⊎_elim}
use Rattle.std.specs.Prelude.{◌≤◌, IsErrAnd, None, Option, Some}
use Rattle.mc_item.specs.{Command.key_of}
use Rattle.mc_item.specs.declared.{answer.Site.Site, class_event.ClassEvent.ClassEvent, fault.Fault.Fault, fault.Fault.TheVariants.HistoryFull, item.ClassNo.ClassNo, item.StripeNo.StripeNo}
use Rattle.mc_board.specs.{Histories.Grows}
use Rattle.mc_segment.specs.{ClassCalls.Makes, ClassCalls.refused_event, ClassState.ClassView}
use Rattle.mc_stripe.specs.{Plan.visible_row, StripeCalls.KeepsSite, StripeState.Stripe}
use Rattle.mc_store.specs.{Accounts.stretch_of, Earned.HasGivenUp, Earned.IsEarnedAt, Full.HasSeenFull, Full.IsFullFor, Full.LacksEntries, Held.Ends, Held.IsStillFull, Held.Suffice, Held.class_held, Passes.CallerView}
use Rattle.mc_store.specs.{Searches.HasSeenOf, Searches.IsSearchFor, Searches.IsSearchedIf, Searches.searcher_at, Serving.IsShortFor, Sides.StripeSide, Sides.stripe_sight, Trying.StillSearches, Trying.StillTries}
use Rattle.mc_store.proofs.{AccountLemmas.grows_itself, AccountLemmas.still_longer, CallerLemmas.search_sees}
use Rattle.mc_store.proofs.CommandEndLemmas.{ends_err, ends_made, searched_same, searched_walk}
use Rattle.mc_store.proofs.{CommandEndLemmas.suffice_same, CommandLemmas.fresh_visible, EarnedRefusalLemmas.made_longer, EarnedRefusalLemmas.refused_bounds, UnderLockLemmas.site_itself}
use Rattle.mc_store.proofs.{EarnedRefusalLemmas.search_alone, EarnedRefusalLemmas.search_wider, EarnedRefusalLemmas.search_refused, EarnedRefusalLemmas.seen_of_grows, EarnedRefusalLemmas.stayed_longer}
use Rattle.mc_store.proofs.{EnteredLemmas.StillMakes, EnteredLemmas.makes_searched, EnteredLemmas.makes_then_searched, EnteredLemmas.makes_then_tried, EnteredLemmas.tries_asked, FullLemmas.entries_later}
use Rattle.mc_store.proofs.{FullLemmas.full_search, FullLemmas.seen_full_grows, HeldTryLemmas.earned_now, HeldTryLemmas.no_burial, HeldTryLemmas.refuse_short, HeldTryLemmas.some_none, HeldTryLemmas.wants_place}
use Rattle.mc_store.proofs.{LockKeepsLemmas.grows_trans, NeededClassLemmas.begun_search, NeededClassLemmas.suffice_behind, ShortHistoryLemmas.short_grows, UnderLockLemmas.IsSearched, UnderLockLemmas.site_both}
use Rattle.mc_item.specs.declared.answer.Need.TheVariants as needs
use Rattle.mc_pull.specs.declared.attempting.Replied.{Replied}
use Rattle.mc_store.proofs.held.answer_at_home.Given.{Over}
use Rattle.mc_store.proofs.held.answer_at_home.Goals as goal
use Rattle.mc_store.proofs.held.answer_at_home.Goals.{After-search, After-refuse}

-- behind the search: it was for the class that the command needs, it entered only what it may, and the held classes still suffice
module _ (g : Over) (c : After-search g) where
  need : (visible_row c.args.own.now.stripe c.args.task.command.now c.args.task.turn.moment).need ≡ needs.Fresh c.args.home.now.class.number
  need = fresh_visible c.args.own.now.stripe c.args.task.command.now c.args.task.turn.moment c.args.home.now.class.number c.requires.wants.suffice.alive c.requires.wants.fresh

  searched : IsSearched g.N.Named.config c.args.task.turn.who c.args.task.command.now c.args.task.turn.moment c.args.own.now.stripe c.search.new.own.stripe
  searched = searched_walk g.N.Named.config c.args.task.command.now c.args.task.turn c.args.own.now.stripe c.search.new.own.stripe c.args.home.now.class.number c.requires.wants.suffice.alive
      c.requires.wants.fresh c.search.ensures.walked

  found : StillMakes g.N.Named.config c.args.task.command.now c.args.task.turn (stretch_of c.args.home.now.class c.search.new.home.class) c.args.own.now c.search.new.own c.args.caller.now
      c.search.new.caller
  found = makes_searched g.N.Named.config c.args.task.command.now c.args.task.turn (stretch_of c.args.home.now.class c.search.new.home.class) c.args.own.now c.search.new.own
      c.args.home.now.class.number need c.search.ensures.same.1

  suffices : Suffice (Some c.search.new.home.class.number) (class_held c.args.other.now) c.search.new.own.stripe c.args.task.command.now c.args.task.turn.moment
  suffices = subst (λ (n : ClassNo). Suffice (Some n) (class_held c.args.other.now) c.search.new.own.stripe c.args.task.command.now c.args.task.turn.moment) (sym c.search.ensures.same.0)
      (suffice_behind g.N.Named.config c.args.task.turn c.args.home.now.class.number c.args.own.now.stripe c.search.new.own.stripe c.search.ensures.site c.search.ensures.walked
      (Some c.args.home.now.class.number) (class_held c.args.other.now) c.args.task.command.now refl c.requires.wants.fresh c.requires.wants.suffice)

  -- a history lacks places for the command
  lacks : (end : StripeSide) → HasSeenFull g.N.Named.config end.sight c.args.home.now.class.number
      → IsShortFor g.N.Named.config c.args.home.now.class.number end.sight ⊎ LacksEntries g.N.Named.config end.stripe end.sight c.args.task.command.now c.args.task.turn.moment
      → IsFullFor g.N.Named.config c.args.own.now.stripe end.stripe end.sight c.args.task.command.now c.args.task.turn.moment
  lacks end = full_search g.N.Named.config c.args.own.now.stripe end.stripe end.sight c.args.task.command.now c.args.task.turn.moment c.args.home.now.class.number c.requires.wants.suffice.alive
      c.requires.wants.fresh

  -- the search was whole, and who saw more sees that too
  module _ (whole : IsSearchedIf (searcher_at g.N.Named.config c.args.own.now.stripe c.args.task.turn) (stripe_sight c.args.own.now) c.search.new.own.sight c.args.home.now.class
      c.search.new.home.class) (end : StripeSide) (sees : Grows c.search.new.own.sight end.sight) where
    sought : IsSearchFor (searcher_at g.N.Named.config c.args.own.now.stripe c.args.task.turn) (visible_row c.args.own.now.stripe c.args.task.command.now c.args.task.turn.moment).need
        (stripe_sight c.args.own.now) end.sight (stretch_of c.args.home.now.class c.search.new.home.class)
    sought =
        let by = searcher_at g.N.Named.config c.args.own.now.stripe c.args.task.turn in
        let wanted = (visible_row c.args.own.now.stripe c.args.task.command.now c.args.task.turn.moment).need in
        let first = stripe_sight c.args.own.now in
        search_wider by wanted first first c.search.new.own.sight end.sight (stretch_of c.args.home.now.class c.search.new.home.class) (grows_itself first) sees
        (search_alone by wanted first c.search.new.own.sight c.args.home.now.class c.search.new.home.class need whole)

    -- so the command ends with a fault if a try behind that made nothing
    ends_tried : (caller : CallerView) (r : Result Replied Fault) (fault : Fault) → IsErrAnd r (λ x. x ≡ fault) → KeepsSite c.search.new.own.stripe end.stripe
        → (end.stripe.history ≡ c.search.new.own.stripe.history) × StillTries g.N.Named.config c.args.task.turn c.search.new.own end c.search.new.caller caller
        → (fault ≡ HistoryFull → IsFullFor g.N.Named.config c.args.own.now.stripe end.stripe end.sight c.args.task.command.now c.args.task.turn.moment)
        → Ends g.N.Named.config c.args.own.now end c.args.caller.now caller c.args.task.command.now c.args.task.turn r
    ends_tried caller r fault is site tried full =
        let stretch = stretch_of c.args.home.now.class c.search.new.home.class in
        ends_err g.N.Named.config c.args.task.command.now c.args.task.turn c.args.own.now c.search.new.own c.requires.wants.suffice.alive searched c.search.ensures.site stretch end c.args.caller.now caller
        r fault is site tried.0 (makes_then_tried g.N.Named.config c.args.task.command.now c.args.task.turn stretch c.args.own.now c.search.new.own end c.search.ensures.site.site found tried.1) (inl sought) full

-- behind the step of the class: the first try made nothing, since the class was full, and the stripe is as the search left it
module _ (g : Over) (c : After-refuse g) where
  tries : StillTries g.N.Named.config c.args.task.turn c.search.new.own c.try_home.new.own c.search.new.caller c.try_home.new.caller
  tries = (rw c.in-Wants.is at c.in_ok-replied.ensures.tried).1

  full : IsStillFull g.N.Named.config c.try_home.new.own.sight None c.search.new.home.class c.try_home.new.home.class
  full = (rw c.in-Room.is at (rw c.in-Wants.is at c.in_ok-replied.ensures.tried).2).0

  number : c.try_home.new.home.class.number ≡ c.args.home.now.class.number
  number = full.number_is ∙ c.search.ensures.same.0

  seen_full : HasSeenFull g.N.Named.config c.try_home.new.own.sight c.args.home.now.class.number
  seen_full = subst (HasSeenFull g.N.Named.config c.try_home.new.own.sight) number full.seen

  site : KeepsSite c.search.new.own.stripe c.refuse.new.own.stripe
  site = subst (λ (t : Stripe). KeepsSite c.search.new.own.stripe t) (sym (ap (λ (x : StripeSide). x.stripe) c.refuse.ensures.own.0)) c.try_home.ensures.site

  same : c.refuse.new.own.stripe.history ≡ c.search.new.own.stripe.history
  same = ap (λ (x : StripeSide). x.stripe.history) c.refuse.ensures.own.0 ∙ (rw c.in-Wants.is at c.in_ok-replied.ensures.tried).0

  -- what was entered in the account up to here, if the class's history didn't shrink
  entered : length c.try_home.new.home.class.history ≤ length c.refuse.new.lent.class.history
      → StillMakes g.N.Named.config c.args.task.command.now c.args.task.turn (stretch_of c.args.home.now.class c.refuse.new.lent.class) c.args.own.now c.refuse.new.own c.args.caller.now
      c.refuse.new.caller
  entered longer =
      let config = g.N.Named.config in
      let command = c.args.task.command.now in
      let turn = c.args.task.turn in
      let was = c.args.home.now.class in
      let stretch = stretch_of was c.refuse.new.lent.class in
      let here = stretch_of c.try_home.new.home.class c.refuse.new.lent.class in
      let need = fresh_visible c.args.own.now.stripe command turn.moment was.number c.requires.wants.suffice.alive c.requires.wants.fresh in
      let bounds = refused_bounds (searcher_at config c.args.own.now.stripe turn) (stripe_sight c.args.own.now) c.search.new.own.sight was c.search.new.home.class c.try_home.new.home.class
      c.refuse.new.lent.class c.in_ok-search.ensures.tried.1 full.history_is longer in
      makes_then_searched config command turn stretch c.args.own.now c.try_home.new.own c.refuse.new.own was.number need
      (makes_then_tried config command turn stretch c.args.own.now c.search.new.own c.try_home.new.own c.search.ensures.site.site
      (makes_searched config command turn stretch c.args.own.now c.search.new.own was.number need
      (still_longer config was.number (stretch_of was c.search.new.home.class) stretch turn.who.turn c.args.caller.now c.search.new.caller bounds.0 c.search.ensures.same.1)) tries)
      (still_longer config was.number here stretch turn.who.turn c.try_home.new.caller c.refuse.new.caller bounds.1
      (subst (λ (k : ClassNo). StillSearches config k here turn c.try_home.new.own c.refuse.new.own c.try_home.new.caller c.refuse.new.caller) number c.refuse.ensures.still))

  searched_here : IsSearched g.N.Named.config c.args.task.turn.who c.args.task.command.now c.args.task.turn.moment c.args.own.now.stripe c.refuse.new.own.stripe
  searched_here = searched_same c.search.new.own.stripe c.refuse.new.own.stripe site same c.args.task.command.now c.args.task.turn.moment g.N.Named.config c.args.task.turn.who c.args.own.now.stripe
      (searched_walk g.N.Named.config c.args.task.command.now c.args.task.turn c.args.own.now.stripe c.search.new.own.stripe c.args.home.now.class.number c.requires.wants.suffice.alive
      c.requires.wants.fresh c.search.ensures.walked)

  site_here : KeepsSite c.args.own.now.stripe c.refuse.new.own.stripe
  site_here = site_both c.args.own.now.stripe c.search.new.own.stripe c.refuse.new.own.stripe c.search.ensures.site site

  -- if the class noted its refusal, the search was whole with that, and who saw more sees it too
  module _ (made : Makes c.try_home.new.home.class c.refuse.new.lent.class (refused_event c.args.task.turn.who)) (end : StripeSide) (sees : Grows c.refuse.new.own.sight end.sight) where
    sought_here : IsSearchFor (searcher_at g.N.Named.config c.args.own.now.stripe c.args.task.turn) (visible_row c.args.own.now.stripe c.args.task.command.now c.args.task.turn.moment).need
        (stripe_sight c.args.own.now) end.sight (stretch_of c.args.home.now.class c.refuse.new.lent.class)
    sought_here =
        let config = g.N.Named.config in
        let turn = c.args.task.turn in
        let was = c.args.home.now.class in
        let lent = c.refuse.new.lent.class in
        let history = ap (λ (v : ClassView). v.history) made ∙ ap (λ (h : List ClassEvent). h ++ refused_event turn.who ∷ []) full.history_is in
        let seen = subst (λ (k : ClassNo). HasSeenOf config c.refuse.new.own.sight k lent.history) number c.refuse.ensures.own.2 in
        search_refused (searcher_at config c.args.own.now.stripe turn) (visible_row c.args.own.now.stripe c.args.task.command.now turn.moment).need (stripe_sight c.args.own.now) c.search.new.own.sight
        end.sight was c.search.new.home.class lent
        (grows_trans c.search.new.own.sight c.try_home.new.own.sight end.sight c.try_home.ensures.sees (grows_trans c.try_home.new.own.sight c.refuse.new.own.sight end.sight c.refuse.ensures.own.1 sees))
        (fresh_visible c.args.own.now.stripe c.args.task.command.now turn.moment was.number c.requires.wants.suffice.alive c.requires.wants.fresh) full.was_full c.in_ok-search.ensures.tried.1 history
        (seen_of_grows config was.number lent.history c.refuse.new.own.sight end.sight sees seen)

    -- so the command ends with a fault if a try behind that made nothing
    ends_again : (caller : CallerView) (r : Result Replied Fault) (fault : Fault) → IsErrAnd r (λ x. x ≡ fault) → KeepsSite c.refuse.new.own.stripe end.stripe
        → (end.stripe.history ≡ c.refuse.new.own.stripe.history) × StillTries g.N.Named.config c.args.task.turn c.refuse.new.own end c.refuse.new.caller caller
        → (fault ≡ HistoryFull → IsFullFor g.N.Named.config c.args.own.now.stripe end.stripe end.sight c.args.task.command.now c.args.task.turn.moment)
        → Ends g.N.Named.config c.args.own.now end c.args.caller.now caller c.args.task.command.now c.args.task.turn r
    ends_again caller r fault is more tried lacks =
        let stretch = stretch_of c.args.home.now.class c.refuse.new.lent.class in
        ends_err g.N.Named.config c.args.task.command.now c.args.task.turn c.args.own.now c.refuse.new.own c.requires.wants.suffice.alive searched_here site_here stretch end c.args.caller.now caller
        r fault is more tried.0 (makes_then_tried g.N.Named.config c.args.task.command.now c.args.task.turn stretch c.args.own.now c.refuse.new.own end site_here.site
        (entered (made_longer c.try_home.new.home.class c.refuse.new.lent.class (refused_event c.args.task.turn.who) made)) tried.1) (inl sought_here) lacks

pub unreachable-requires : goal.unreachable-requires
unreachable-requires g c =
    no_burial c.search.new.own.stripe c.args.task.command.now c.args.task.turn.moment (Some c.search.new.home.class.number) (class_held c.args.other.now)
    (suffices g (goal.at.unreachable-requires g c).After-search) c.in-Burial.field-0 (rw c.in-Burial.is at (rw c.in-Wants.is at c.in_ok-replied.ensures.tried).2)

pub unreachable-requires-in-Classes : goal.unreachable-requires-in-Classes
unreachable-requires-in-Classes g c =
    absurd ((rw c.in-Classes.is at (rw c.in-Wants.is at c.in_ok-replied.ensures.tried).2).1 (suffices g (goal.at.unreachable-requires-in-Classes g c).After-search))

pub returns-in_err-replied : goal.returns-in_err-replied
returns-in_err-replied g c =
    ends_tried g (goal.at.returns-in_err-replied g c).After-search c.in_ok-search.ensures.tried.1 c.try_home.new.own c.try_home.ensures.sees c.try_home.new.caller
    c.from_residual-in_err-replied.result c.in_err-replied.field-0.0 c.from_residual-in_err-replied.ensures.1 c.try_home.ensures.site c.in_err-replied.ensures.err
    (λ is. inl (c.try_home.ensures.full (c.in_err-replied.was ∙ ap Err is)))

pub returns-in_err-search : goal.returns-in_err-search
returns-in_err-search g c =
    let at = (goal.at.returns-in_err-search g c).After-search in
    let mid = c.search.new.own in
    ends_err g.N.Named.config c.args.task.command.now c.args.task.turn c.args.own.now mid c.requires.wants.suffice.alive (searched g at) c.search.ensures.site
    (stretch_of c.args.home.now.class c.search.new.home.class) mid c.args.caller.now c.search.new.caller c.from_residual.result c.in_err-search.field-0.0 c.from_residual.ensures.1
    (site_itself mid.stripe) refl (found g at) (inr (c.args.home.now.class.number, need g at, c.in_err-search.ensures.tried))
    (λ is. let full = c.search.ensures.full (c.in_err-search.was ∙ ap Err is) in lacks g at mid full.0 (inl full.1))

pub returns-in-Made : goal.returns-in-Made
returns-in-Made g c =
    let at = (goal.at.returns-in-Made g c).After-search in
    ends_made g.N.Named.config c.args.task.command.now c.args.task.turn c.args.own.now c.search.new.own c.requires.wants.suffice.alive (searched g at) c.search.ensures.site
    (stretch_of c.args.home.now.class c.search.new.home.class) c.try_home.new.own c.args.caller.now c.search.new.caller c.try_home.new.caller c.in-Made.replied
    c.law.ensures.made_with c.try_home.ensures.site (found g at) (sought g at c.in_ok-search.ensures.tried.1 c.try_home.new.own c.try_home.ensures.sees)
    (rw c.in-Made.is at c.in_ok-replied.ensures.tried)

pub search-requires : goal.search-requires
search-requires g c = record {
  begun = (
    begun_search g.N.Named.config c.args.own.now.sight c.args.task.turn.who c.args.task.command.now c.args.task.turn.moment c.args.own.now.stripe c.args.home.now.class.number c.requires.wants.fresh
        c.requires.begun,
    c.requires.called.asked.number,
  );
}

pub try_home-requires-clause-called : goal.try_home-requires-clause-called
try_home-requires-clause-called g c =
    let turn = c.args.task.turn in
    record {
      own = c.requires.called.own ∙ ap (λ (t : Site). record { 0 = t.stripe }) (sym c.search.ensures.site.site);
      asked = tries_asked g.N.Named.config turn c.args.task.command.now c.search.ensures.same.1 c.requires.called.asked;
      early = c.requires.called.early;
    }

pub refuse-requires-clause-begun : goal.refuse-requires-clause-begun
refuse-requires-clause-begun g c =
    let turn = c.args.task.turn in
    let tried = rw c.in-Wants.is at c.in_ok-replied.ensures.tried in (
      (turn.moment, search_sees g.N.Named.config c.search.new.own.sight c.try_home.new.own.sight turn.who turn.moment c.try_home.ensures.sees c.search.ensures.begun),
      c.requires.called.asked.number ∙ sym (tried.1.number_is ∙ c.search.ensures.same.1.number_is),
    )

pub returns-in_err-place-in-Room : goal.returns-in_err-place-in-Room
returns-in_err-place-in-Room g c =
    let behind = (goal.at.returns-in_err-place-in-Room g c).After-search in
    let at = (goal.at.returns-in_err-place-in-Room g c).After-refuse in
    let config = g.N.Named.config in
    let turn = c.args.task.turn in
    let first = c.try_home.new.own.sight in
    let end = c.refuse.new.own in
    let more = c.refuse.ensures.own.1 in
    let err = c.in_err-place-in-Room.ensures.err in
    let wanted = (visible_row c.args.own.now.stripe c.args.task.command.now turn.moment).need in
    let whole = subst (λ (h : List ClassEvent). IsSearchFor (searcher_at config c.args.own.now.stripe turn) wanted (stripe_sight c.args.own.now) end.sight
    (record { from = length c.args.home.now.class.history; until = length h }))
    (sym (ap (λ (v : ClassView). v.history) err.0 ∙ (full g at).history_is))
    (sought g behind c.in_ok-search.ensures.tried.1 end (grows_trans c.search.new.own.sight first end.sight c.try_home.ensures.sees more)) in
    ends_err config c.args.task.command.now turn c.args.own.now c.search.new.own c.requires.wants.suffice.alive (searched g behind) c.search.ensures.site
    (stretch_of c.args.home.now.class c.refuse.new.lent.class) end c.args.caller.now c.refuse.new.caller c.from_residual-in_err-place-in-Room.result c.in_err-place-in-Room.field-0.0
    c.from_residual-in_err-place-in-Room.ensures.1 (site g at) (same g at) (entered g at (stayed_longer c.try_home.new.home.class c.refuse.new.lent.class err)) (inl whole)
    (λ is. lacks g behind end (seen_full_grows config first end.sight more (seen_full g at))
    (inl (short_grows config first end.sight more (subst (λ (n : ClassNo). IsShortFor config n first) (number g at)
    (refuse_short config first c.try_home.new.home.class c.refuse.new.lent.class (full g at).short err.0 (c.refuse.ensures.full (c.in_err-place-in-Room.was ∙ ap Err is)))))))

pub try_home-requires-in-Room-clause-refused : goal.try_home-requires-in-Room-clause-refused
try_home-requires-in-Room-clause-refused g c =
    let at = (goal.at.try_home-requires-in-Room-clause-refused g c).After-refuse in
    let config = g.N.Named.config in
    let turn = c.args.task.turn in
    let key = key_of c.args.task.command.now in
    let lent = c.refuse.new.lent.class in
    let mine : StripeNo = record { 0 = c.args.own.now.stripe.site.stripe } in
    let given_up = c.in_ok-search.ensures.tried.0 (full g at).was_full key c.requires.called.own c.requires.wants.suffice.alive in
    let here = subst (λ (h : List ClassEvent). HasGivenUp config mine c.try_home.new.home.class.number turn.who turn.moment key h) (sym (full g at).history_is)
    (subst (λ (n : ClassNo). HasGivenUp config mine n turn.who turn.moment key c.search.new.home.class.history) (sym (full g at).number_is) given_up) in
    subst (λ (t : Site). IsEarnedAt config (record { 0 = t.stripe }) lent.number turn.who turn.moment key c.in_ok-place-in-Room.place lent.history) (sym (site_here g at).site)
    (earned_now config mine turn key c.try_home.new.home.class lent c.in_ok-place-in-Room.place c.in_ok-place-in-Room.ensures.refused.1 c.in_ok-place-in-Room.ensures.refused.0 here)

pub try_home-requires-in-Room-clause-called : goal.try_home-requires-in-Room-clause-called
try_home-requires-in-Room-clause-called g c =
    let at = (goal.at.try_home-requires-in-Room-clause-called g c).After-refuse in
    let config = g.N.Named.config in
    let turn = c.args.task.turn in
    let command = c.args.task.command.now in
    let tried = tries_asked config turn command (tries g at) (tries_asked config turn command c.search.ensures.same.1 c.requires.called.asked) in
    record {
      own = c.requires.called.own ∙ ap (λ (t : Site). record { 0 = t.stripe }) (sym (site_here g at).site);
      asked = tries_asked config turn command c.refuse.ensures.still tried;
      early = c.requires.called.early;
    }

pub returns-in-Made-2 : goal.returns-in-Made-2
returns-in-Made-2 g c =
    let at = (goal.at.returns-in-Made-2 g c).After-refuse in
    let made = c.in_ok-place-in-Room.ensures.refused.1 in
    let end = c.try_home-in-Room.new.own in
    ends_made g.N.Named.config c.args.task.command.now c.args.task.turn c.args.own.now c.refuse.new.own c.requires.wants.suffice.alive (searched_here g at) (site_here g at)
    (stretch_of c.args.home.now.class c.refuse.new.lent.class) end c.args.caller.now c.refuse.new.caller c.try_home-in-Room.new.caller
    c.in-Made-2.replied c.law.ensures.made_with c.try_home-in-Room.ensures.site
    (entered g at (made_longer c.try_home.new.home.class c.refuse.new.lent.class (refused_event c.args.task.turn.who) made)) (sought_here g at made end c.try_home-in-Room.ensures.sees)
    (rw c.in-Made-2.is at c.in_ok-replied-in-Room.ensures.tried)

pub returns-in_err-replied-in-Room : goal.returns-in_err-replied-in-Room
returns-in_err-replied-in-Room g c =
    ends_again g (goal.at.returns-in_err-replied-in-Room g c).After-refuse c.in_ok-place-in-Room.ensures.refused.1 c.try_home-in-Room.new.own c.try_home-in-Room.ensures.sees
    c.try_home-in-Room.new.caller c.from_residual-in_err-replied-in-Room.result c.in_err-replied-in-Room.field-0.0 c.from_residual-in_err-replied-in-Room.ensures.1 c.try_home-in-Room.ensures.site
    c.in_err-replied-in-Room.ensures.err (λ is. inl (c.try_home-in-Room.ensures.full (c.in_err-replied-in-Room.was ∙ ap Err is)))

pub returns-in-Place : goal.returns-in-Place
returns-in-Place g c =
    let at = (goal.at.returns-in-Place g c).After-search in
    let config = g.N.Named.config in
    let command = c.args.task.command.now in
    let moment = c.args.task.turn.moment in
    let end = c.try_home.new.own in
    let tried = rw c.in-Wants.is at c.in_ok-replied.ensures.tried in
    let entries = rw c.in-Place.is at tried.2 in
    ends_tried g at c.in_ok-search.ensures.tried.1 end c.try_home.ensures.sees c.try_home.new.caller (Err HistoryFull) HistoryFull refl c.try_home.ensures.site (tried.0, tried.1)
    (λ is. ⊎_elim (λ idle. inr (inr (inl (subst (λ (x : StripeSide). LacksEntries config x.stripe end.sight command moment) idle entries))))
    (λ seen. lacks g at end (seen_full_grows config c.search.new.own.sight end.sight c.try_home.ensures.sees seen)
    (inr (entries_later config c.search.new.own.stripe end.stripe end.sight command moment c.try_home.ensures.site tried.0 entries))) c.search.ensures.seen)

pub returns-in-Wants-2 : goal.returns-in-Wants-2
returns-in-Wants-2 g c =
    let behind = (goal.at.returns-in-Wants-2 g c).After-search in
    let at = (goal.at.returns-in-Wants-2 g c).After-refuse in
    let config = g.N.Named.config in
    let command = c.args.task.command.now in
    let moment = c.args.task.turn.moment in
    let first = c.try_home.new.own.sight in
    let last = c.refuse.new.own in
    let end = c.try_home-in-Room.new.own in
    let sees = c.try_home-in-Room.ensures.sees in
    let home = c.search.new.home.class.number in
    let held = class_held c.try_home.new.other in
    let tried = rw c.in-Wants.is at c.in_ok-replied.ensures.tried in
    let again = rw c.in-Wants-2.is at c.in_ok-replied-in-Room.ensures.tried in
    let suffice = subst (λ (n : ClassNo). Suffice (Some n) held last.stripe command moment) (sym (ap (λ (v : ClassView). v.number) c.in_ok-place-in-Room.ensures.refused.1 ∙ (full g at).number_is))
    (subst (λ (o : Option ClassNo). Suffice (Some home) o last.stripe command moment) (sym (rw c.in-Room.is at tried.2).1)
    (suffice_same c.search.new.own.stripe last.stripe (site g at) (same g at) command moment (Some home) (class_held c.args.other.now) (suffices g behind))) in
    ends_again g at c.in_ok-place-in-Room.ensures.refused.1 end sees c.try_home-in-Room.new.caller (Err HistoryFull) HistoryFull refl c.try_home-in-Room.ensures.site (again.0, again.1)
    (λ is. lacks g behind end (seen_full_grows config first end.sight (grows_trans first last.sight end.sight c.refuse.ensures.own.1 sees) (seen_full g at))
    (inr (entries_later config last.stripe end.stripe end.sight command moment c.try_home-in-Room.ensures.site again.0
    (wants_place config last.stripe end command moment (Some c.refuse.new.lent.class.number) held _ suffice c.in-Wants-2.field-0 again.2
    (λ room. some_none c.in_ok-place-in-Room.place _ refl (rw room at again.2).0.none)))))
