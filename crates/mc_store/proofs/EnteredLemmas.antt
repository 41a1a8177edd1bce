-- What a command enters in its caller's account, on its stripe, on classes, and by a search for a chunk.
use Rattle.std.proofs.Common.{◌≡◌, ◌==◌, ◌<◌, ◌++◌, true, ◌∷◌, [], ℕ, zero, suc, List, Option, None, Some, Result, Ok, Err, slice_get, inl, inr, length, refl, ap, ◌∙◌, arith, subst, sym}
use Rattle.std.specs.Prelude.{◌≤◌, IfOk, OnOk, OnErr, IsSomeAnd}
use Rattle.std.proofs.lemmas.List.{append-nil}
use Rattle.std.proofs.lemmas.Bool.Decides.{nat_tests}
use mathlib.Core.List.{IsPrefix}
use Rattle.mc_item.specs.Answer.{Row}
use Rattle.mc_item.specs.declared.{answer.Need.Need, answer.Site.Site, call_event.CallEvent.CallEvent, class_event.ClassEvent.ClassEvent, command.Command.Command, config.Config.Config}
use Rattle.mc_item.specs.declared.{event.Event.Event, event.Event.TheVariants.Class, event.Event.TheVariants.Stripe, fault.Fault.Fault, item.ClassNo.ClassNo, item.Link.Link, item.Who.Who}
use Rattle.mc_item.specs.declared.stripe_event.StripeEvent.{StripeEvent}
use Rattle.mc_item.specs.Cache.{Cache}
use Rattle.mc_item.specs.declared.answer.Need.TheVariants as needs
use Rattle.mc_board.specs.{Accounts.with_new, Histories.Grows, Histories.list_at, Histories.with_seen}
use Rattle.mc_board.specs.declared.rule.Sight.{Sight}
use Rattle.mc_board.proofs.{AccountLemmas.get_longer, PrefixLemmas.prefix_self, SeenLemmas.list_at_other, SeenLemmas.list_at_same}
use Rattle.mc_evidence.specs.Setting.{IsClass}
use Rattle.mc_segment.specs.ClassState.{ClassView, with_room}
use Rattle.mc_stripe.specs.{Plan.dead_link, Plan.visible_row, StripeState.cache_now, Trying.item_of}
use Rattle.mc_stripe.specs.StripeState as states
use Rattle.mc_stripe.specs.declared.trying.Turn.{Turn}
use Rattle.mc_pull.specs.declared.{judge.Done.Done, judge.Judge.TheVariants.Dead}
use Rattle.mc_pull.specs.declared.judge.Done.TheVariants as done
use Rattle.mc_pull.specs.{Judgement.done_of, Lent.EachPair, Perform.Call, Performed.GainsPart, Performed.IsPerformed, Performed.IsUntouched, Question.question}
use Rattle.mc_pull.specs.Performed as performed
use Rattle.mc_pull.specs.Settled.{IsSettled, done_class_events}
use Rattle.mc_pull.proofs.{ChunkEventLemmas.evicts_nothing, EventsLemmas.events_so}
use Rattle.mc_store.specs.Accounts.{FollowsItem, IsClassLock, IsInClass, IsOfBurial, IsOfCommand, IsOfSearch, IsOfStretch, IsOfTry, RemovesDead, StillCalls, Stretch}
use Rattle.mc_store.specs.{Callers.answered_at, Locked.class_lock, Locked.setting_of, Passes.CallerView, Passes.HasAsked, Sides.ClassSide, Sides.StripeSide}
use Rattle.mc_store.specs.{Sides.class_told, Sides.stripe_sight, Sides.stripe_told, Trying.StillBuries, Trying.StillSearches, Trying.StillTries, Trying.noted_on}
use Rattle.mc_store.proofs.AccountLemmas.{grows_itself, seen_all, seen_each, still_asked, still_both, still_more, still_new, still_none, still_same, whole_grows}
use Rattle.mc_store.proofs.SyncedStepLemmas.{map_length}

-- a class's lock is one of those of the classes
pub is_class_lock : (config : Config) (class : ClassNo) → IsClass (setting_of config) class → IsClassLock config (class_lock config class)
is_class_lock config class is =
    let first = is.0 in
    let last = is.1 in (omega arith, omega (arith, first, last))

-- and none of the stripes'
pub lock_apart : (config : Config) (lock other number : ℕ) → IsClassLock config lock → other ≡ number → number < config.stripes → lock ≡ other → ⊥
lock_apart config lock other number is at below same =
    let first = is.0 in omega (arith, first, at, below, same)

-- ---- events of one kind

-- `P` holds of each of these events of a class
abbrev pub AreAll : (ClassEvent → Type 0) → List ClassEvent → Type 0
AreAll P [] = Unit {0}
AreAll P (e ∷ es) = P e × AreAll P es

-- a class's history gained only such
pub record GainsAll (P : ClassEvent → Type 0) (history history_new : List ClassEvent) : Type 0 where
  pub gained : List ClassEvent
  pub history_is : history_new ≡ history ++ gained
  pub each : AreAll P gained

number_itself : (n : ℕ) → (n == n) ≡ true
number_itself n = grind (arith, nat_tests)

-- if it is asked whether an item is dead, at most its entry is reclaimed
removes_dead : (c : ClassView) (cache : Cache) (who : Who) (number moment at : ℕ) (d : Done) → d ≡ done_of c cache (question who number Dead moment)
    → AreAll (RemovesDead number) (done_class_events c (question who number Dead moment) at d)
removes_dead c cache who number moment at done.Reclaimed is = ((tt, number_itself number), tt)
removes_dead c cache who number moment at done.ToWarm is = tt
removes_dead c cache who number moment at done.WithinWarm is = tt
removes_dead c cache who number moment at done.ToCold is = tt
removes_dead c cache who number moment at done.Evicted is = absurd (evicts_nothing c (question who number Dead moment) cache refl is)
removes_dead c cache who number moment at done.Stayed is = tt
removes_dead c cache who number moment at (done.Alive expiry) is = tt
removes_dead c cache who number moment at done.Stranger is = tt

-- a class after that judgement, however it ended
pub removes_settled : (c c_new : ClassView) (s s_new : states.Stripe) (who : Who) (number moment : ℕ) → let q = question who number Dead moment in
    (r : Result Done Fault) → IfOk r (λ made. made ≡ done_of c (cache_now s) q) → IfOk r (λ made. IsSettled c c_new s s_new q made)
    → OnErr r ((c_new ≡ with_room c c_new.room) × (s_new.history ≡ s.history)) → GainsAll (RemovesDead number) c.history c_new.history
removes_settled c c_new s s_new who number moment (Ok made) is settled err =
    let q = question who number Dead moment in
    record {
      gained = done_class_events c q (length s.history) made;
      history_is = ap (λ (v : ClassView). v.history) settled.class;
      each = removes_dead c (cache_now s) who number moment (length s.history) made is;
    }
removes_settled c c_new s s_new who number moment (Err fault) is settled err =
    record { gained = []; history_is = ap (λ (v : ClassView). v.history) err.0 ∙ sym (append-nil c.history); each = tt }

module _ (s s_new : states.Stripe) (c : Call) where
  -- a command's events in a class follow its item
  following_part : (v : ClassView) → AreAll FollowsItem (performed.events_in s c v)
  following_part v = events_so (AreAll FollowsItem) s c v tt (λ key cost expiry. (tt, tt)) (λ key cost expiry number. (tt, (tt, tt))) (λ number. (tt, tt))

  part_following : (v w : ClassView) → GainsPart s c v w → GainsAll FollowsItem v.history w.history
  part_following v w gains = record { gained = performed.events_in s c v; history_is = ap (λ (x : ClassView). x.history) gains; each = following_part v }

  stays_following : (v w : ClassView) → performed.ClassStays v w → GainsAll FollowsItem v.history w.history
  stays_following v w stays = record { gained = []; history_is = ap (λ (x : ClassView). x.history) stays ∙ sym (append-nil v.history); each = tt }

  each_following : (R : ClassView → ClassView → Type 0) → ((v w : ClassView) → R v w → GainsAll FollowsItem v.history w.history) → (xs ys : List ClassView) → EachPair R xs ys
      → EachPair (λ v w. GainsAll FollowsItem v.history w.history) xs ys
  each_following R more [] [] each = tt
  each_following R more [] (y ∷ ys) each = absurd each
  each_following R more (x ∷ xs) [] each = absurd each
  each_following R more (x ∷ xs) (y ∷ ys) each = (more x y each.0, each_following R more xs ys each.1)

  -- classes that were lent to a command, whether it was made or not
  pub following_performed : {T : Type 0} (vs ws : List ClassView) (r : Result T Fault) → OnOk r (IsPerformed s s_new c vs ws) → OnErr r (IsUntouched s s_new vs ws)
      → EachPair (λ v w. GainsAll FollowsItem v.history w.history) vs ws
  following_performed vs ws (Ok x) made err = each_following (λ v w. GainsPart s c v w) (λ v w g. part_following v w g) vs ws made.classes
  following_performed vs ws (Err f) made err = each_following (λ v w. performed.ClassStays v w) (λ v w g. stays_following v w g) vs ws err.classes

-- an event that is at a place is one
none_there : (event : Event) → None ≡ Some event → ⊥
none_there event at = cc at

one_there : (a b : Event) → Some a ≡ Some b → a ≡ b
one_there a b at = cc at

module _ (P : ClassEvent → Type 0) where
  all_at : (es : List ClassEvent) → AreAll P es → (place : ℕ) (event : Event) → slice_get (class_told es) place ≡ Some event → IsInClass P event
  all_at [] are place event at = absurd (none_there event at)
  all_at (e ∷ es) are zero event at = subst (IsInClass P) (one_there (Class e) event at) are.0
  all_at (e ∷ es) are (suc place) event at = all_at es are.1 place event at

  -- behind what its history was
  all_behind : (history es : List ClassEvent) → AreAll P es → (place : ℕ) (event : Event) → length history ≤ place → slice_get (class_told (history ++ es)) place ≡ Some event → IsInClass P event
  all_behind [] es are place event low at = all_at es are place event at
  all_behind (e ∷ history) es are zero event low at = absurd (omega (arith, low))
  all_behind (e ∷ history) es are (suc place) event low at = all_behind history es are place event (omega (arith, low)) at

  -- behind what its owner told
  pub all_from : (history history_new : List ClassEvent) → GainsAll P history history_new → (told : List Event) → told ≡ class_told history
      → (place : ℕ) (event : Event) → length told ≤ place → slice_get (class_told history_new) place ≡ Some event → IsInClass P event
  all_from history history_new gains told is place event low at =
      let long : length told ≡ length history = ap (λ (l : List Event). length l) is ∙ map_length Class history in
      all_behind history gains.gained gains.each place event (omega (arith, long, low)) (subst (λ (h : List ClassEvent). slice_get (class_told h) place ≡ Some event) gains.history_is at)

-- ---- what was seen

-- a list that was told was seen
pub told_has : (sight : Sight) (lock : ℕ) (told : List Event) → IsPrefix told (list_at (with_seen sight lock told).seen lock)
told_has sight lock told = subst (λ (l : List Event). IsPrefix told l) (sym (list_at_same sight.seen lock told)) (prefix_self told)

-- also where another lock's was told then
pub has_beside : (sight : Sight) (lock other : ℕ) (told list : List Event) → (other ≡ lock → ⊥) → IsPrefix list (list_at sight.seen other) → IsPrefix list (list_at (with_seen sight lock told).seen other)
has_beside sight lock other told list apart has = subst (λ (l : List Event). IsPrefix list l) (sym (list_at_other sight.seen lock other told apart)) has

-- the events of a lock from one place to the end of a list were seen, and each may be there
seen_within : (Suits : (lock place : ℕ) → Event → Type 0) (after : Sight) (lock from until : ℕ) (told : List Event) → IsPrefix told (list_at after.seen lock) → until ≡ length told
    → ((place : ℕ) (event : Event) → from ≤ place → slice_get told place ≡ Some event → Suits lock place event)
    → (place : ℕ) → from ≤ place → place < until → IsSomeAnd (slice_get (list_at after.seen lock) place) (Suits lock place)
seen_within Suits after lock from until told has end each place low high =
    by (slice_get told place) refl
    (subst (λ (l : List Event). IsSomeAnd (slice_get l place) (Suits lock place)) (list_at_same after.seen lock told)
    (seen_each Suits (with_seen after lock told) lock from until told (list_at_same after.seen lock told) end each place low high))
  where
    by : (o : Option Event) → slice_get told place ≡ o → IsSomeAnd o (Suits lock place) → IsSomeAnd (slice_get (list_at after.seen lock) place) (Suits lock place)
    by (Some event) at it = subst (λ (o : Option Event). IsSomeAnd o (Suits lock place)) (sym (get_longer told (list_at after.seen lock) place event has at)) it
    by None at it = absurd it

-- a stripe that was told a class's history has it all, with its own
pub heard_long : (own own_new : StripeSide) (lent : ClassSide) (lock : ℕ) (history : List ClassEvent) → own_new ≡ record own { sight = with_seen own.sight lent.lock (class_told lent.class.history) }
    → lent.lock ≡ lock → lent.class.history ≡ history → (lock ≡ own.lock → ⊥) → length history ≤ length (list_at (stripe_sight own_new).seen lock)
heard_long own own_new lent lock history told at is apart =
    let now : own_new ≡ record own { sight = with_seen own.sight lock (class_told history) } = told
    ∙ (ap (λ (k : ℕ). record own { sight = with_seen own.sight k (class_told lent.class.history) }) at
    ∙ ap (λ (h : List ClassEvent). record own { sight = with_seen own.sight lock (class_told h) }) is) in
    let list : list_at (stripe_sight own_new).seen lock ≡ class_told history = ap (λ (x : StripeSide). list_at (stripe_sight x).seen lock) now
    ∙ (list_at_other (with_seen own.sight lock (class_told history)).seen own.lock lock (stripe_told own.stripe.history) apart ∙ list_at_same own.sight.seen lock (class_told history)) in
    let long : length (list_at (stripe_sight own_new).seen lock) ≡ length history = ap (λ (l : List Event). length l) list ∙ map_length Class history in
    omega (arith, long)

-- a stripe that has only heard more, and one that has
pub heard_is : (own heard : StripeSide) (sight : Sight) → heard ≡ record own { sight = sight } → heard ≡ record own { sight = heard.sight }
heard_is own heard sight is = is ∙ ap (λ (t : Sight). record own { sight = t }) (sym (ap (λ (x : StripeSide). x.sight) is))

pub heard_grows : (own : StripeSide) (sight : Sight) → Grows own.sight sight → Grows (stripe_sight own) (stripe_sight (record own { sight = sight }))
heard_grows own sight more = whole_grows own.lock (stripe_told own.stripe.history) (stripe_told own.stripe.history) (prefix_self (stripe_told own.stripe.history)) more

pub heard_more : (own heard : StripeSide) → heard ≡ record own { sight = heard.sight } → Grows own.sight heard.sight → Grows (stripe_sight own) (stripe_sight heard)
heard_more own heard is more = subst (λ (x : StripeSide). Grows (stripe_sight own) (stripe_sight x)) (sym is) (heard_grows own heard.sight more)

-- ---- what the board lacked

module _ (config : Config) (number turn : ℕ) where
  -- the events of its stripe
  pub stripe_entered : {x y : Sight} (a b : CallerView) (lock from : ℕ) (history : List StripeEvent) → b ≡ record a { made = with_new a.made turn lock from (length history) } → lock ≡ number → Grows x y
      → list_at y.seen lock ≡ stripe_told history → StillCalls (IsOfTry config number) turn x y a b
  stripe_entered {x = x} {y = y} a b lock from history is at grows told =
      let long : length (list_at y.seen lock) ≡ length history = ap (λ (l : List Event). length l) told ∙ map_length Stripe history in
      still_new (IsOfTry config number) a b turn lock from (length history) is grows (seen_all (IsOfTry config number) y lock from (length history) (omega (arith, long)) (λ place event low high. inl at))

  -- those of a class, each of which follows its item
  pub class_entered : {x y : Sight} (a b : CallerView) (lock from : ℕ) (history : List ClassEvent) → b ≡ record a { made = with_new a.made turn lock from (length history) } → IsClassLock config lock → Grows x y
      → IsPrefix (class_told history) (list_at y.seen lock)
      → ((place : ℕ) (event : Event) → from ≤ place → slice_get (class_told history) place ≡ Some event → IsInClass FollowsItem event) → StillCalls (IsOfTry config number) turn x y a b
  class_entered {x = x} {y = y} a b lock from history is of grows told follows =
      still_new (IsOfTry config number) a b turn lock from (length history) is grows
      (seen_within (IsOfTry config number) y lock from (length history) (class_told history) told (sym (map_length Class history)) (λ place event low at. inr (of, follows place event low at)))

-- one that goes on goes on when it has noted the answer
pub noted_still : {Suits : (lock place : ℕ) → Event → Type 0} {turn : ℕ} {x y : Sight} {a b : CallerView} (s : states.Stripe) → StillCalls Suits turn x y a b
    → StillCalls Suits turn x y (noted_on s a) (noted_on s b)
noted_still s still = record {
  number_is = still.number_is;
  calls_are = ap (λ (calls : List CallEvent). calls ++ answered_at s.site.stripe (length s.history) ∷ []) still.calls_are;
  sees = still.sees;
  enters = still.enters;
}

-- ---- a command that goes on

module _ (config : Config) (turn : Turn) where
  -- what was asked for was asked for still
  pub tries_asked : {Suits : (lock place : ℕ) → Event → Type 0} {x y : Sight} {a b : CallerView} (command : Command) → StillCalls Suits turn.who.turn x y a b
      → HasAsked a turn.who command turn.moment → HasAsked b turn.who command turn.moment
  tries_asked {Suits = Suits} {a = a} {b = b} command still asked = still_asked Suits turn.who.turn a b turn.who command turn.moment still asked

  -- one step after another
  pub tries_both : (own mid end : StripeSide) {a b c : CallerView} → mid.stripe.site ≡ own.stripe.site → StillTries config turn own mid a b → StillTries config turn mid end b c
      → StillTries config turn own end a c
  tries_both own mid end {a = a} {b = b} {c = c} site first more =
      still_both (IsOfTry config own.stripe.site.stripe) turn.who.turn a b c first
      (subst (λ (t : Site). StillCalls (IsOfTry config t.stripe) turn.who.turn (stripe_sight mid) (stripe_sight end) b c) site more)

  -- the stripe has only heard more
  pub tries_heard : (own heard : StripeSide) {a b : CallerView} → heard ≡ record own { sight = heard.sight } → Grows own.sight heard.sight → b ≡ a → StillTries config turn own heard a b
  tries_heard own heard {a = a} {b = b} is more same = still_same (IsOfTry config own.stripe.site.stripe) turn.who.turn a b (heard_more own heard is more) same

  -- and then goes on
  pub heard_tried : (own heard end : StripeSide) {a k b : CallerView} → heard ≡ record own { sight = heard.sight } → Grows own.sight heard.sight → k ≡ a → StillTries config turn heard end k b
      → StillTries config turn own end a b
  heard_tried own heard end is more same still = tries_both own heard end (ap (λ (x : StripeSide). x.stripe.site) is) (tries_heard own heard is more same) still

  -- the stripe has only heard more, and then an item was buried
  pub heard_buried : (own heard end : StripeSide) (link : Link) {a k b : CallerView} → heard ≡ record own { sight = heard.sight } → Grows own.sight heard.sight → k ≡ a
      → StillBuries config link turn heard end k b → StillBuries config link turn own end a b
  heard_buried own heard end link {a = a} {k = k} {b = b} is more same still =
      let Suits = IsOfBurial config own.stripe.site.stripe link in
      still_both Suits turn.who.turn a k b (still_same Suits turn.who.turn a k (heard_more own heard is more) same)
      (subst (λ (t : Site). StillCalls (IsOfBurial config t.stripe link) turn.who.turn (stripe_sight heard) (stripe_sight end) k b) (ap (λ (x : StripeSide). x.stripe.site) is) still)

  -- a stripe and a class stepped for a burial, and the stripe was told the class's history
  pub pair_buried : (own end : StripeSide) (link : Link) {a k b : CallerView} (lock from : ℕ) (history : List StripeEvent) (lock_of from_of : ℕ) (history_of : List ClassEvent) (sight : Sight)
      → k ≡ record a { made = with_new a.made turn.who.turn lock from (length history) } → b ≡ record k { made = with_new k.made turn.who.turn lock_of from_of (length history_of) }
      → lock ≡ own.stripe.site.stripe → own.stripe.site.stripe < config.stripes → IsClassLock config lock_of → lock_of ≡ class_lock config link.class
      → stripe_sight end ≡ with_seen (with_seen sight lock_of (class_told history_of)) lock (stripe_told history) → Grows (stripe_sight own) (stripe_sight end)
      → ((place : ℕ) (event : Event) → from_of ≤ place → slice_get (class_told history_of) place ≡ Some event → IsInClass (RemovesDead link.number) event) → StillBuries config link turn own end a b
  pair_buried own end link {a = a} {k = k} {b = b} lock from history lock_of from_of history_of sight first more at below of of_link is grows removes =
      let number = own.stripe.site.stripe in
      let Suits = IsOfBurial config number link in
      let told = class_told history_of in
      let after = stripe_sight end in
      let has = subst (λ (t : Sight). IsPrefix told (list_at t.seen lock_of)) (sym is)
      (has_beside (with_seen sight lock_of told) lock lock_of (stripe_told history) told (lock_apart config lock_of lock number of at below) (told_has sight lock_of told)) in
      let long : length (list_at after.seen lock) ≡ length history =
      ap (λ (l : List Event). length l) (ap (λ (t : Sight). list_at t.seen lock) is ∙ list_at_same (with_seen sight lock_of told).seen lock (stripe_told history)) ∙ map_length Stripe history in
      still_both Suits turn.who.turn a k b
      (still_new Suits a k turn.who.turn lock from (length history) first grows (seen_all Suits after lock from (length history) (omega (arith, long)) (λ place event low high. inl at)))
      (still_new Suits k b turn.who.turn lock_of from_of (length history_of) more (grows_itself after)
      (seen_within Suits after lock_of from_of (length history_of) told has (sym (map_length Class history_of)) (λ place event low at. inr (of_link, removes place event low at))))

-- what a command may make on a stripe it may make on one on which it does the same, if its dead item, if there is one, is the same
pub command_as : (config : Config) (s mid : states.Stripe) (command : Command) (moment : ℕ) (stretch : Stretch) → mid.site ≡ s.site
    → ((P : Link → Type 0) → IsSomeAnd (dead_link (item_of mid command) moment) P → IsSomeAnd (dead_link (item_of s command) moment) P)
    → visible_row mid command moment ≡ visible_row s command moment
    → (lock place : ℕ) (event : Event) → IsOfCommand config mid command moment stretch lock place event → IsOfCommand config s command moment stretch lock place event
command_as config s mid command moment stretch site dead row lock place event (inl it) = inl (subst (λ (t : Site). IsOfTry config t.stripe lock place event) site it)
command_as config s mid command moment stretch site dead row lock place event (inr (inl it)) =
    inr (inl (dead (λ link. IsOfBurial config s.site.stripe link lock place event)
    (subst (λ (t : Site). IsSomeAnd (dead_link (item_of mid command) moment) (λ link. IsOfBurial config t.stripe link lock place event)) site it)))
command_as config s mid command moment stretch site dead row lock place event (inr (inr it)) =
    inr (inr (subst (λ (r : Row). IsOfSearch config r.need stretch lock place event) row it))

-- no place of a class's history
abbrev pub no_stretch : Stretch
no_stretch = record { from = 0; until = 0 }

module _ (config : Config) (command : Command) (turn : Turn) (stretch : Stretch) where
  -- a command's caller goes on in the command's turn, and its account gained only what the command may make, with a search in this stretch
  abbrev pub StillMakes : (own own_new : StripeSide) → (caller caller_new : CallerView) → Type 0
  StillMakes own own_new = StillCalls (IsOfCommand config own.stripe command turn.moment stretch) turn.who.turn (stripe_sight own) (stripe_sight own_new)

  -- nothing happened
  pub makes_none : (own : StripeSide) (caller : CallerView) → StillMakes own own caller caller
  makes_none own caller = still_none (IsOfCommand config own.stripe command turn.moment stretch) turn.who.turn caller

  -- what it made without a search
  pub makes_tried : (own end : StripeSide) {a b : CallerView} → StillTries config turn own end a b → StillMakes own end a b
  makes_tried own end {a = a} {b = b} still =
      still_more (IsOfTry config own.stripe.site.stripe) (IsOfCommand config own.stripe command turn.moment stretch) turn.who.turn a b (λ lock place event it. inl it) still

  -- what a search made in this stretch of the class that is needed
  pub makes_searched : (own end : StripeSide) {a b : CallerView} (class : ClassNo) → (visible_row own.stripe command turn.moment).need ≡ needs.Fresh class
      → StillSearches config class stretch turn own end a b → StillMakes own end a b
  makes_searched own end {a = a} {b = b} class fresh still =
      still_more (IsOfStretch config class stretch) (IsOfCommand config own.stripe command turn.moment stretch) turn.who.turn a b
      (λ lock place event it. inr (inr (subst (λ (n : Need). IsOfSearch config n stretch lock place event) (sym fresh) it))) still

  -- what it made when it buried its key's dead item
  pub makes_buried : (own end : StripeSide) {a b : CallerView} (link : Link) → dead_link (item_of own.stripe command) turn.moment ≡ Some link
      → StillBuries config link turn own end a b → StillMakes own end a b
  makes_buried own end {a = a} {b = b} link dead still =
      still_more (IsOfBurial config own.stripe.site.stripe link) (IsOfCommand config own.stripe command turn.moment stretch) turn.who.turn a b
      (λ lock place event it. inr (inl (subst (λ (o : Option Link). IsSomeAnd o (λ l. IsOfBurial config own.stripe.site.stripe l lock place event)) (sym dead) it))) still

  -- each of both behind others
  pub makes_then_tried : (own mid end : StripeSide) {a b c : CallerView} → mid.stripe.site ≡ own.stripe.site → StillMakes own mid a b → StillTries config turn mid end b c → StillMakes own end a c
  makes_then_tried own mid end {a = a} {b = b} {c = c} site first more =
      still_both (IsOfCommand config own.stripe command turn.moment stretch) turn.who.turn a b c first
      (still_more (IsOfTry config mid.stripe.site.stripe) (IsOfCommand config own.stripe command turn.moment stretch) turn.who.turn b c
      (λ lock place event it. inl (subst (λ (t : Site). IsOfTry config t.stripe lock place event) site it)) more)

  pub makes_then_searched : (own mid end : StripeSide) {a b c : CallerView} (class : ClassNo) → (visible_row own.stripe command turn.moment).need ≡ needs.Fresh class
      → StillMakes own mid a b → StillSearches config class stretch turn mid end b c → StillMakes own end a c
  makes_then_searched own mid end {a = a} {b = b} {c = c} class fresh first more =
      still_both (IsOfCommand config own.stripe command turn.moment stretch) turn.who.turn a b c first
      (still_more (IsOfStretch config class stretch) (IsOfCommand config own.stripe command turn.moment stretch) turn.who.turn b c
      (λ lock place event it. inr (inr (subst (λ (n : Need). IsOfSearch config n stretch lock place event) (sym fresh) it))) more)
