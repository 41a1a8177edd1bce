use Rattle.std.proofs.Common.{◌≡◌, ◌≤◌, ◌<◌, ℕ, List, true, ap, ◌∙◌, arith, length, refl, subst, sym}
use Rattle.std.specs.Prelude.{MatchResult}
use mathlib.Core.List.{IsPrefix}
use Rattle.mc_item.specs.declared.{answer.Site.Site, event.Event.Event, item.ClassNo.ClassNo, item.StripeNo.StripeNo}
use Rattle.mc_segment.specs.ClassState.{ClassView}
use Rattle.mc_stripe.specs.StripeState.{Stripe}
use Rattle.mc_board.proofs.{PrefixLemmas.prefix_self, SeenLemmas.list_at_same}
use Rattle.mc_board.specs.{Histories.Grows, Histories.list_at, Views.OwnerView, Views.SeenView}
use Rattle.mc_pull.specs.{Lone.StripeGrows, Rounds.rounds, Walker.walker_of}
use Rattle.mc_store.specs.{Accounts.stretch_of, Locked.HasBegunSearch, Locked.IsLockedClass, Locked.class_lock, Serving.IsShortFor, Serving.class_side}
use Rattle.mc_store.specs.{Reached.IsSeenState, Searches.IsSearchBroken, Searches.IsSearchedWith}
use Rattle.mc_store.specs.{Sides.ClassSide, Sides.StripeSide, Sides.class_told, Sides.stripe_sight, Sides.stripe_told, Trying.StillSearches}
use Rattle.mc_store.specs.declared.locked.LockedStripe.TheInside.{Inside}
use Rattle.mc_store.proofs.{EarnedRefusalLemmas.room_wider, ReachedLemmas.state_sees}
use Rattle.mc_store.proofs.GateLemmas.{room_full, still_caught_up, still_searched}
use Rattle.mc_store.proofs.{LockKeepsLemmas.grows_trans, SyncedStepLemmas.stripe_heard, SyncedStepLemmas.stripe_side, OwnEventLemmas.locked_commanded, OwnEventLemmas.suited_search, OwnEventLemmas.suits_own}
use Rattle.mc_store.proofs.{AccountLemmas.still_longer, CallerLemmas.search_any, CallerLemmas.search_sees, OwnCallLemmas.served_whole, ShortHistoryLemmas.class_length}
use Rattle.mc_store.proofs.walking.make_room_under.Given.{Over}
use Rattle.mc_store.proofs.walking.make_room_under.Goals as goal
use Rattle.mc_store.proofs.walking.make_room_under.Goals.{After-hear, After-side}

-- the class before the search, which has learned from the stripe that it was begun
module _ (g : Over) (c : After-side g) where
  class_is : c.side.inside.state ≡ c.args.class.now.class
  class_is = ap (λ (x : ClassSide). x.class) (c.side.view_is ∙ (c.class.view_is ∙ c.learn_from.ensures.class))

  begun : HasBegunSearch g.N.Named.config c.side.inside.seen.sight c.args.task.turn.who c.args.task.turn.moment
  begun =
      subst (λ (x : ClassSide). HasBegunSearch g.N.Named.config x.sight c.args.task.turn.who c.args.task.turn.moment) (sym (c.side.view_is ∙ c.class.view_is))
      (search_sees _ _ _ _ _ c.learn_from.ensures.learnt c.requires.begun.0)

-- the stripe, which has learned from the class behind the search
module _ (g : Over) (c : After-hear g) where
  own_is : stripe_side c.own-inside.inside.0.0.owner c.own-inside.inside.0.0.seen c.own-inside.inside.0.0.state ≡ c.own.inside.side
  own_is = ap (λ (l : Inside g.row.N.Denot). l.side) c.own-inside.view_is ∙ c.compare.ensures.same.0

  class_last : c.hear.new.class.class ≡ c.make_room_with-found.new.class
  class_last = ap (λ (x : ClassSide). x.class) c.hear.ensures.class

  learnt : Grows c.make_room_with-found.new.seen.sight c.hear.new.self.sight
  learnt = grows_trans _ _ _ (subst (λ (v : SeenView). Grows v.sight c.learn.new.self.sight) c.compare.ensures.same.1 c.learn.ensures.theirs) c.hear.ensures.grows

  number : c.make_room_with-found.new.class.number ≡ c.side.inside.state.number
  number = ap (λ (v : ClassView). v.number) c.make_room_with-found.ensures.gains.grows.same

  -- it was told the whole history of the class
  told : list_at c.hear.new.self.sight.seen c.make_room_with-found.new.owner.lock ≡ class_told c.make_room_with-found.new.class.history
  told = ap (λ (o : OwnerView). list_at c.hear.new.self.sight.seen o.lock) (sym c.catch_up_class.ensures.told)
      ∙ (ap (λ (x : StripeSide). list_at x.sight.seen c.catch_up_class.new.owner.lock) c.hear.ensures.told ∙ list_at_same c.learn.new.self.sight.seen c.catch_up_class.new.owner.lock _)

  heard : list_at c.hear.new.self.sight.seen (class_lock g.N.Named.config c.side.inside.state.number) ≡ class_told c.make_room_with-found.new.class.history
  heard =
      let place = c.make_room_with-found.ensures.left.served.kept.lock_is ∙ ap (λ (n : ClassNo). class_lock g.N.Named.config n) number in
      ap (λ (n : ℕ). list_at c.hear.new.self.sight.seen n) (sym place) ∙ told

pub invariant_of-own : goal.invariant_of-own
invariant_of-own g c =
    stripe_heard g.N.Named.board.table g.N.Named.config c.own.inside.side c.own.invariant _ c.own-inside.inside.0.0.owner c.own-inside.inside.0.0.seen c.learn.new.self
    (own_is g (goal.at.invariant_of-own g c).After-hear) c.hear.new.self _ c.hear.ensures.told (grows_trans _ _ _ c.learn.ensures.mine c.hear.ensures.grows)

pub returns-clause-room : goal.returns-clause-room
returns-clause-room g c =
    let at = goal.at.returns-clause-room g c in
    let config = g.N.Named.config in
    let turn = c.args.task.turn in
    let side = c.side.inside in
    let new = c.make_room_with-found.new in
    let own = c.args.own.now in
    let r = rounds side.state turn.who turn.moment config in
    let number : StripeNo = record { 0 = own.stripe.site.stripe } in
    let Here = IsSeenState config.stripes side.seen.sight new.seen.sight in
    let There = IsSeenState config.stripes (stripe_sight own) c.hear.new.self.sight in
    let first : Grows (stripe_sight own) side.seen.sight =
    subst (λ (x : ClassSide). Grows (stripe_sight own) x.sight) (sym (c.side.view_is ∙ c.class.view_is)) c.learn_from.ensures.heard in
    let more = state_sees config.stripes (stripe_sight own) side.seen.sight new.seen.sight c.hear.new.self.sight first (learnt g at.After-hear) in
    let before = side.state.history in
    let after = new.class.history in
    let result = c.make_room_with-found.result in
    let room : MatchResult result (IsSearchedWith r number Here before after) (λ fault. IsSearchBroken r number Here before after) =
    rw (sym c.learn_from.ensures.same) c.make_room_with-found.ensures.room in
    let wide : MatchResult result (IsSearchedWith r number There before after) (λ fault. IsSearchBroken r number There before after) =
    room_wider r number Here There more before after result room in
    rw (class_last g at.After-hear, sym (class_is g at.After-side)) wide

pub returns-clause-leaves : goal.returns-clause-leaves
returns-clause-leaves g c =
    let at = goal.at.returns-clause-leaves g c in
    let config = g.N.Named.config in
    let turn = c.args.task.turn in
    let was = c.args.class.now.class in
    let end = c.hear.new.class.class in
    let own = c.args.own.now in
    let last = c.hear.new.self in
    let side = c.side.inside in
    let found = c.make_room_with-found in
    let new = found.new in
    let walker = walker_of was turn.who turn.moment in
    let lock_is : last.lock ≡ c.own.inside.side.lock = ap (λ (x : StripeSide). x.lock) c.hear.ensures.told ∙ ap (λ (x : StripeSide). x.lock) (own_is g at.After-hear) in
    let stripe_is : last.stripe ≡ c.own.inside.side.stripe = ap (λ (x : StripeSide). x.stripe) c.hear.ensures.told ∙ ap (λ (x : StripeSide). x.stripe) (own_is g at.After-hear) in
    let grows : StripeGrows walker own.stripe last.stripe =
    rw (stripe_is ∙ ap (λ (x : StripeSide). x.stripe) c.own.view_is, sym (class_is g at.After-side), sym c.learn_from.ensures.same) found.ensures.left.stripe in
    let lock : last.lock ≡ own.lock =
    lock_is ∙ (c.own.invariant.lock_is ∙ (ap (λ (s : Stripe). s.site.stripe) (sym stripe_is) ∙ (ap (λ (t : Site). t.stripe) grows.site.site ∙ sym c.law.ensures.lock_is))) in
    let below : own.lock < config.stripes = rw c.law.ensures.lock_is c.law.ensures.of in
    let first : Grows own.sight side.seen.sight = subst (λ (x : ClassSide). Grows own.sight x.sight) (sym (c.side.view_is ∙ c.class.view_is)) c.learn_from.ensures.learnt in
    let sees = grows_trans _ _ _ first (grows_trans _ _ _ found.ensures.left.walked.sees (learnt g at.After-hear)) in
    let behind : IsPrefix (list_at new.seen.sight.seen last.lock) (stripe_told last.stripe.history) = rw (lock_is, stripe_is) c.compare.ensures.behind.seen in
    let start = length side.owner.history in
    let still = still_caught_up _ config turn.who turn.who new.owner new.seen side.state new.class c.args.caller.now new.caller c.catch_up_class.new.self
    start (length new.owner.history) found.ensures.still.0 found.ensures.still.1 found.ensures.left.served (number g at.After-hear) refl c.catch_up_class.ensures.entered in
    let searched = still_searched config start turn.who.turn walker own last side.state.number side.seen.sight new.seen.sight side.state.history new.class.history
    c.args.caller.now c.catch_up_class.new.self lock below grows sees (learnt g at.After-hear) (heard g at.After-hear) behind still in
    let first_is = ap (λ (l : List Event). length l) c.side.invariant.0 ∙ (class_length side.state.history ∙ ap (λ (v : ClassView). length v.history) (class_is g at.After-side)) in
    let last_is = ap (λ (v : ClassView). length v.history) (class_last g at.After-hear) in
    let bounds : (length was.history ≤ start) × (length new.class.history ≤ length end.history) = (omega (arith, first_is), omega (arith, last_is)) in
    let all = still_longer config side.state.number (record { from = start; until = length new.class.history }) (stretch_of was end) turn.who.turn
    {x = stripe_sight own} {y = stripe_sight last} c.args.caller.now c.catch_up_class.new.self bounds searched in
    (grows, subst (λ (v : ClassView). StillSearches config v.number (stretch_of was end) turn own last c.args.caller.now c.catch_up_class.new.self) (class_is g at.After-side) all)

pub returns-clause-tried : goal.returns-clause-tried
returns-clause-tried g c =
    let at = goal.at.returns-clause-tried g c in
    rw (class_last g at.After-hear, sym c.learn_from.ensures.same) c.make_room_with-found.ensures.tried

pub returns-clause-full : goal.returns-clause-full
returns-clause-full g c = λ is.
    let at = goal.at.returns-clause-full g c in
    let new = c.make_room_with-found.new in
    subst (λ (n : ClassNo). IsShortFor g.N.Named.config n c.hear.new.self.sight) (number g at.After-hear ∙ ap (λ (v : ClassView). v.number) (class_is g at.After-side))
    (room_full g.N.Named.board.table g.N.Named.config c.args.task.turn.who new.owner new.seen new.class c.make_room_with-found.ensures.left.served c.hear.new.self.sight new.owner.lock refl
    (told g at.After-hear) (learnt g at.After-hear) c.make_room_with-found.result c.make_room_with-found.ensures.fault is)

pub returns-clause-seen : goal.returns-clause-seen
returns-clause-seen g c =
    let at = goal.at.returns-clause-seen g c in
    rw (class_last g at.After-hear, sym (class_is g at.After-side), heard g at.After-hear) (prefix_self _)

pub make_room_with-found-requires : goal.make_room_with-found-requires
make_room_with-found-requires g c =
    let side = c.side.inside in
    let kept = subst (IsLockedClass g.N.Named.board.table g.N.Named.config) (sym c.side.view_is) c.class.invariant in
    let served = served_whole _ _ c.args.task.turn.who side.owner side.seen side.state kept.held c.side.invariant.0 c.side.invariant.1 in
    let known = begun g (goal.at.make_room_with-found-requires g c).After-side in
    record { tokens = record { served = served; begun = search_any _ _ _ _ known; number = c.requires.begun.1 } }

pub catch_up_class-requires-clause-caller : goal.catch_up_class-requires-clause-caller
catch_up_class-requires-clause-caller g c = c.requires.begun.1 ∙ sym c.make_room_with-found.ensures.still.1.number_is

pub invariant_of-class : goal.invariant_of-class
invariant_of-class g c =
    let at = goal.at.invariant_of-class g c in
    let turn = c.args.task.turn in
    let new = c.make_room_with-found.new in
    let left = c.make_room_with-found.ensures.left in
    let walked = left.walked in
    let old : ClassSide = class_side c.side.inside.owner c.side.inside.seen c.side.inside.state in
    let mid : ClassSide = class_side new.owner new.seen new.class in
    let last : c.hear.new.class ≡ mid = c.hear.ensures.class
    ∙ (ap (λ (x : SeenView). class_side c.catch_up_class.new.owner x new.class) (c.learn.ensures.other ∙ c.compare.ensures.same.1)
    ∙ ap (λ (o : OwnerView). class_side o new.seen new.class) c.catch_up_class.ensures.told) in
    let searched = search_sees _ old.sight mid.sight turn.who turn.moment walked.sees (begun g at.After-side) in
    let suited = suited_search searched.command searched.needs walked.gains.events
    (suits_own true turn.who turn.moment c.side.inside.state new.class walked.gains c.make_room_with-found.ensures.gains) in
    let kept = subst (IsLockedClass g.N.Named.board.table g.N.Named.config) (sym c.side.view_is) c.class.invariant in
    subst (IsLockedClass g.N.Named.board.table g.N.Named.config) (sym last)
    (locked_commanded _ _ old mid turn.who turn.moment kept left.served.kept (number g at.After-hear) (record { command = searched.command; begun = searched.begun }) walked.sees (walked.gains, suited))

pub returns-clause-begun : goal.returns-clause-begun
returns-clause-begun g c =
    let at = goal.at.returns-clause-begun g c in
    search_sees _ _ _ _ _ (grows_trans _ _ _ c.make_room_with-found.ensures.left.walked.sees (learnt g at.After-hear)) (begun g at.After-side)
