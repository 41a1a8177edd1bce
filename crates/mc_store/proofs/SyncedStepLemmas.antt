-- Steps on a class and a stripe that are told of each other before and behind them keep what both locks keep.
use Rattle.std.proofs.Common.{◌≡◌, ◌≤◌, ◌⊎◌, ℕ, suc, List, [], ◌∷◌, ◌++◌, Result, Ok, Err, refl, sym, ap, ◌∙◌, subst, inl, inr, arith, length, map}
use Rattle.std.specs.Prelude.{IfOk, OnErr}
use Rattle.std.proofs.lemmas.List.{append-nil}
use mathlib.Core.List.{IsPrefix}
use Rattle.atomic_table.specs.Seated.{TableId}
use Rattle.mc_item.specs.Stripe.{IsLegal}
use Rattle.mc_item.specs.declared.{class_event.ClassEvent.ClassEvent, config.Config.Config, event.Event.Event, fault.Fault.Fault}
use Rattle.mc_item.specs.declared.{fault.Fault.TheVariants.HistoryFull, fault.Fault.TheVariants.NoMemory, stripe_event.StripeEvent.StripeEvent}
use Rattle.mc_item.specs.declared.{item.ClassNo.ClassNo}
use Rattle.mc_item.specs.declared.event.Event.TheVariants as events
use Rattle.mc_rule.specs.Lawful.{IsLawfulHistoryByLists}
use Rattle.mc_evidence.specs.{Setting.IsClass, Seen.classes_seen, Seen.stripes_seen}
use Rattle.mc_board.specs.{Histories.Grows, Histories.list_at, Histories.with_seen, Views.OwnerView, Views.SeenView}
use Rattle.mc_board.specs.declared.rule.Sight.{Sight}
use Rattle.mc_board.proofs.SeenLemmas.{list_at_same}
use Rattle.mc_segment.specs.ClassState.{ClassView, with_room}
use Rattle.mc_stripe.specs.{StripeCalls.KeepsSite, StripeState.Stripe}
use Rattle.mc_pull.specs.{Agreeing.AgreeNow, Agreeing.KeepsAgreement, Lone.StripeGrows, Question.Question, Refusal.MayFail, Settled.IsSettled}
use Rattle.mc_pull.specs.{Settled.done_class_events, Settled.done_stripe_events, Sight.KeepsSight, Walker.Walker}
use Rattle.mc_pull.specs.Growth as classes
use Rattle.mc_pull.specs.declared.judge.Done.{Done}
use Rattle.mc_store.specs.{Locked.IsHeldClass, Locked.IsLockedStripe, Locked.class_lock, Locked.setting_of, Locked.HasBegun, Serving.IsShortFor}
use Rattle.mc_store.specs.{Full.LacksPlaces, Serving.MayFailSeen, Serving.class_side, Sides.ClassSide, Sides.StripeSide, Sides.class_told, Sides.stripe_sight, Sides.stripe_told}
use Rattle.mc_store.proofs.{AccountLemmas.whole_grows, CallerLemmas.called_walked}
use Rattle.mc_store.proofs.LockKeepsLemmas.{class_after, class_sees, heard_class, heard_stripe, met, stripe_after, stripe_sees}

-- what grew is told as more
pub map_append : {A B : Type 0} (f : A → B) (xs ys : List A) → map f (xs ++ ys) ≡ map f xs ++ map f ys
map_append f [] ys = refl
map_append {B = B} f (x ∷ xs) ys = ap (λ (t : List B). f x ∷ t) (map_append f xs ys)

pub map_length : {A B : Type 0} (f : A → B) (xs : List A) → length (map f xs) ≡ length xs
map_length f [] = refl
map_length f (x ∷ xs) = ap suc (map_length f xs)

-- a class that only grew tells a history that its owner's begins
pub class_told_more : (c c_new : ClassView) (told : List Event) → classes.GainsEvents c c_new → told ≡ class_told c.history → IsPrefix told (class_told c_new.history)
class_told_more c c_new told grows is = (
  class_told grows.events,
  ap (λ (t : List Event). t ++ class_told grows.events) is
      ∙ (sym (map_append events.Class c.history grows.events) ∙ sym (ap class_told grows.history_is)),
)

-- and so does a stripe
pub stripe_told_more : (h h_new es : List StripeEvent) (told : List Event) → h_new ≡ h ++ es → told ≡ stripe_told h → IsPrefix told (stripe_told h_new)
stripe_told_more h h_new es told grows is =
    (stripe_told es, ap (λ (t : List Event). t ++ stripe_told es) is ∙ (sym (map_append events.Stripe h es) ∙ sym (ap stripe_told grows)))

-- a class is the same but for its events and its room, whichever way a judgement of it ended
pub settled_grows : {T : Type 0} (made : T → Done) (c c_new : ClassView) (s s_new : Stripe) (q : Question) (result : Result T Fault) → IfOk result (λ x. IsSettled c c_new s s_new q (made x))
    → OnErr result ((c_new ≡ with_room c c_new.room) × (s_new.history ≡ s.history)) → classes.GainsEvents c c_new
settled_grows made c c_new s s_new q (Ok x) settled err = record {
  same = settled.class ∙ ap (λ (h : List ClassEvent). record c { history = h; room = c_new.room }) (sym (ap (λ (v : ClassView). v.history) settled.class));
  events = done_class_events c q (length s.history) (made x);
  history_is = ap (λ (v : ClassView). v.history) settled.class;
}
settled_grows made c c_new s s_new q (Err fault) settled err = record {
  same = err.0 ∙ ap (λ (h : List ClassEvent). record c { history = h; room = c_new.room }) (sym (ap (λ (v : ClassView). v.history) err.0));
  events = [];
  history_is = ap (λ (v : ClassView). v.history) err.0 ∙ sym (append-nil c.history);
}

-- and its stripe tells more
pub settled_told : {T : Type 0} (made : T → Done) (c c_new : ClassView) (s s_new : Stripe) (q : Question) (result : Result T Fault) → IfOk result (λ x. IsSettled c c_new s s_new q (made x))
    → OnErr result ((c_new ≡ with_room c c_new.room) × (s_new.history ≡ s.history)) → (told : List Event) → told ≡ stripe_told s.history → IsPrefix told (stripe_told s_new.history)
settled_told made c c_new s s_new q (Ok x) settled err told is = stripe_told_more s.history s_new.history (done_stripe_events c q (made x)) told settled.stripe is
settled_told made c c_new s s_new q (Err fault) settled err told is = stripe_told_more s.history s_new.history [] told (err.1 ∙ sym (append-nil s.history)) is

-- a stripe with its tokens
abbrev pub stripe_side : OwnerView → SeenView → Stripe → StripeSide
stripe_side owner seen s = record { board = owner.board; lock = owner.lock; stripe = s; sight = seen.sight }

-- a stripe on the board by its parts
abbrev pub stripe_at : StripeSide → Stripe → Sight → StripeSide
stripe_at own s sight = record { board = own.board; lock = own.lock; stripe = s; sight = sight }

-- a class on the board by its parts
abbrev pub class_at : ClassSide → ClassView → Sight → ClassSide
class_at lent c sight = record { board = lent.board; lock = lent.lock; class = c; sight = sight }

-- a class's history that was told whole, and has no place left
pub short_of : (config : Config) (sight : Sight) (lock : ℕ) (class : ClassNo) (history : List ClassEvent) → lock ≡ class_lock config class → IsClass (setting_of config) class
    → list_at sight.seen lock ≡ class_told history → config.max_events ≤ length history → LacksPlaces config sight class 1
short_of config sight lock class history at is list lack =
    let long : length (list_at sight.seen (class_lock config class)) ≡ length history =
    ap (λ (n : ℕ). length (list_at sight.seen n)) (sym at) ∙ (ap (λ (t : List Event). length t) list ∙ map_length events.Class history) in
    record { is = is; short = omega (arith, long, lack) }

-- a class's full history is short for it
pub any_short : (config : Config) (sight : Sight) {class : ClassNo} → LacksPlaces config sight class 1 → IsShortFor config class sight
any_short config sight {class = class} lacks =
    record { is = lacks.is; lock = class_lock config class; of = inl refl; full = let short = lacks.short in omega (arith, short) }

-- a stripe and a class that agreed stepped together, and were told of each other
module _ (table : TableId) (config : Config) (own : StripeSide) (lent : ClassSide) (own_kept : IsLockedStripe table config own) (lent_kept : IsHeldClass table config lent) (agree : AgreeNow lent.class own.stripe)
    (s : Stripe) (c : ClassView) (site : KeepsSite own.stripe s) (grows : classes.GainsEvents lent.class c) (legal : IsLegal s.site s.history) (lawful : IsLawfulHistoryByLists c.chunks c.rule c.history)
    (agreement : KeepsAgreement lent.class c own.stripe s) (still : KeepsSight lent.class c own.stripe s) (sight seen : Sight)
    (told : sight ≡ with_seen own.sight lent.lock (class_told c.history)) (told_of : seen ≡ with_seen lent.sight own.lock (stripe_told s.history))
    (more : Grows own.sight sight) (more_of : Grows lent.sight seen) where
  agree_now : AgreeNow c s
  agree_now = agreement.own agree

  number_is : c.number ≡ lent.class.number
  number_is = ap (λ (v : ClassView). v.number) grows.same

  rule_is : c.rule ≡ lent.class.rule
  rule_is = ap (λ (v : ClassView). v.rule) grows.same

  lock_is : lent.lock ≡ class_lock config c.number
  lock_is = lent_kept.lock_is ∙ ap (class_lock config) (sym number_is)

  heard_now : classes_seen config.stripes (list_at sight.seen) c.number ≡ c.history
  heard_now =
      subst (λ (t : Sight). classes_seen config.stripes (list_at t.seen) c.number ≡ c.history) (sym told) (heard_class config own.sight lent.lock c.number c.history lock_is)

  heard_of_now : stripes_seen (list_at seen.seen) own.stripe.site.stripe ≡ s.history
  heard_of_now =
      subst (λ (t : Sight). stripes_seen (list_at t.seen) own.stripe.site.stripe ≡ s.history) (sym told_of)
      (heard_stripe lent.sight own.lock own.stripe.site.stripe s.history own_kept.lock_is)

  -- the stripe's lock keeps what it keeps
  pub stripe_stepped : (w : Walker) → HasBegun config own.sight w.who w.moment → StripeGrows w own.stripe s → IsLockedStripe table config (stripe_at own s sight)
  stripe_stepped w begun walked =
      stripe_after table config own (stripe_at own s sight) own_kept refl refl site more legal (called_walked config w own.stripe s own.sight sight walked more begun own_kept.called) (lent.class ∷ []) (c ∷ [])
      (record { number_is = number_is; rule_is = rule_is ∙ lent_kept.made_with.rule; agrees = agree_now; heard = heard_now }, tt)
      (λ other rule list apart. still.told other rule list apart.0)

  -- and so does the class's
  pub class_stepped : IsHeldClass table config (class_at lent c seen)
  class_stepped =
      class_after table config lent (class_at lent c seen) lent_kept refl refl grows more_of lawful own.stripe s own_kept.made_with site agree_now heard_of_now still.backed still.suited

  -- and where the step failed, the class has seen why
  pub fails_seen : (fault : Fault) → MayFail c s fault → MayFailSeen config seen c fault
  fails_seen HistoryFull (inl full) = inl full
  fails_seen HistoryFull (inr full) =
      let limit : s.limit ≡ config.max_events = site.limit ∙ own_kept.made_with.limit in
      let list : list_at seen.seen own.lock ≡ stripe_told s.history = ap (λ (t : Sight). list_at t.seen own.lock) told_of ∙ list_at_same lent.sight.seen own.lock (stripe_told s.history) in
      let long : length (list_at seen.seen own.lock) ≡ length s.history = ap (λ (t : List Event). length t) list ∙ map_length events.Stripe s.history in
      let lock = own_kept.lock_is in
      let of = own_kept.of in
      let is : IsClass (setting_of config) c.number = subst (λ (n : ClassNo). IsClass (setting_of config) n) (sym number_is) lent_kept.is in
      inr (record { is = is; lock = own.lock; of = inr (omega (arith, lock, of)); full = omega (arith, long, limit, full) })
  fails_seen NoMemory may = tt

  -- and the stripe too
  pub short_seen_of : MayFail c s HistoryFull → (s.limit ≤ length s.history) ⊎ LacksPlaces config sight lent.class.number 1
  short_seen_of (inl full) =
      let most : c.max_events ≡ config.max_events = ap (λ (v : ClassView). v.max_events) grows.same ∙ lent_kept.made_with.max_events in
      let list : list_at sight.seen lent.lock ≡ class_told c.history = ap (λ (t : Sight). list_at t.seen lent.lock) told ∙ list_at_same own.sight.seen lent.lock (class_told c.history) in
      inr (short_of config sight lent.lock lent.class.number c.history lent_kept.lock_is lent_kept.is list (omega (arith, most, full)))
  short_seen_of (inr full) = inl full

-- a stripe and a class were told of each other
module _ (table : TableId) (config : Config) (own : StripeSide) (lent : ClassSide) (own_kept : IsLockedStripe table config own) (lent_kept : IsHeldClass table config lent) (sight seen : Sight)
    (told : sight ≡ with_seen own.sight lent.lock (class_told lent.class.history)) (told_of : seen ≡ with_seen lent.sight own.lock (stripe_told own.stripe.history))
    (more : Grows own.sight sight) (more_of : Grows lent.sight seen) where
  -- they agree
  pub agree_told : AgreeNow lent.class own.stripe
  agree_told =
      met table config (record own { sight = sight }) (record lent { sight = seen }) (stripe_sees table config own sight more own_kept) (class_sees table config lent seen more_of lent_kept)
      (subst (λ (t : Sight). classes_seen config.stripes (list_at t.seen) lent.class.number ≡ lent.class.history) (sym told)
      (heard_class config own.sight lent.lock lent.class.number lent.class.history lent_kept.lock_is))
      (subst (λ (t : Sight). stripes_seen (list_at t.seen) own.stripe.site.stripe ≡ own.stripe.history) (sym told_of)
      (heard_stripe lent.sight own.lock own.stripe.site.stripe own.stripe.history own_kept.lock_is))

-- ---- a step of both, told behind it by the pair
module _ (table : TableId) (config : Config) (own : StripeSide) (lent : ClassSide) (own_kept : IsLockedStripe table config own) (lent_kept : IsHeldClass table config lent)
    (s : Stripe) (own_owner : OwnerView) (own_seen : SeenView) (own_is : stripe_side own_owner own_seen s ≡ own) (c : ClassView) (owner : OwnerView) (seen : SeenView) (lent_is : class_side owner seen c ≡ lent)
    (agree : AgreeNow c s) (s_new : Stripe) (c_new : ClassView) (site : KeepsSite s s_new) (grows : classes.GainsEvents c c_new) (legal : IsLegal s_new.site s_new.history)
    (lawful : IsLawfulHistoryByLists c_new.chunks c_new.rule c_new.history) (agreement : KeepsAgreement c c_new s s_new) (still : KeepsSight c c_new s s_new)
    (own_up : OwnerView) (stripe_up : own_up ≡ record own_owner { history = stripe_told s_new.history }) (owner_up : OwnerView) (class_up : owner_up ≡ record owner { history = class_told c_new.history })
    (own_new own_last : StripeSide) (lent_new lent_last : ClassSide) (same : lent_new ≡ class_side owner_up seen c_new)
    (told : own_new ≡ record (stripe_side own_up own_seen s_new) { sight = with_seen own_seen.sight owner_up.lock (class_told c_new.history) }) (more : Grows own_seen.sight own_new.sight)
    (same_of : own_last ≡ own_new) (told_of : lent_last ≡ record lent_new { sight = with_seen lent_new.sight own_new.lock (stripe_told own_new.stripe.history) }) (more_of : Grows lent_new.sight lent_last.sight) where
  own_first : IsLockedStripe table config (stripe_side own_owner own_seen s)
  own_first = subst (IsLockedStripe table config) (sym own_is) own_kept

  lent_first : IsHeldClass table config (class_side owner seen c)
  lent_first = subst (IsHeldClass table config) (sym lent_is) lent_kept

  pair_told_is : own_new.sight ≡ with_seen own_seen.sight owner.lock (class_told c_new.history)
  pair_told_is = ap (λ (x : StripeSide). x.sight) told ∙ ap (λ (o : OwnerView). with_seen own_seen.sight o.lock (class_told c_new.history)) class_up

  pair_told_of_is : lent_last.sight ≡ with_seen seen.sight own_owner.lock (stripe_told s_new.history)
  pair_told_of_is = ap (λ (x : ClassSide). x.sight) told_of
      ∙ (ap (λ (x : ClassSide). with_seen x.sight own_new.lock (stripe_told own_new.stripe.history)) same
      ∙ (ap (λ (x : StripeSide). with_seen seen.sight x.lock (stripe_told x.stripe.history)) told
      ∙ ap (λ (o : OwnerView). with_seen seen.sight o.lock (stripe_told s_new.history)) stripe_up))

  pair_more_of_is : Grows seen.sight lent_last.sight
  pair_more_of_is = subst (λ (t : Sight). Grows t lent_last.sight) (ap (λ (x : ClassSide). x.sight) same) more_of

  own_last_is : own_last ≡ stripe_at (stripe_side own_owner own_seen s) s_new own_new.sight
  own_last_is = same_of ∙ (told ∙ (ap (λ (o : OwnerView). record { board = o.board; lock = o.lock; stripe = s_new; sight = with_seen own_seen.sight owner_up.lock (class_told c_new.history) }) stripe_up
      ∙ ap (λ (t : Sight). record { board = own_owner.board; lock = own_owner.lock; stripe = s_new; sight = t }) (sym (ap (λ (x : StripeSide). x.sight) told))))

  lent_last_is : lent_last ≡ class_at (class_side owner seen c) c_new lent_last.sight
  lent_last_is = told_of ∙ (ap (λ (x : ClassSide). record x { sight = with_seen lent_new.sight own_new.lock (stripe_told own_new.stripe.history) }) same
      ∙ (ap (λ (o : OwnerView). record { board = o.board; lock = o.lock; class = c_new; sight = with_seen lent_new.sight own_new.lock (stripe_told own_new.stripe.history) }) class_up
      ∙ ap (λ (t : Sight). record { board = owner.board; lock = owner.lock; class = c_new; sight = t }) (sym (ap (λ (x : ClassSide). x.sight) told_of))))

  -- what the stripe has seen then, with all of its own history
  pub sight_paired : stripe_sight own_last ≡ with_seen (with_seen own_seen.sight owner.lock (class_told c_new.history)) own_owner.lock (stripe_told s_new.history)
  sight_paired = ap (λ (x : StripeSide). stripe_sight x) own_last_is ∙ ap (λ (t : Sight). with_seen t own_owner.lock (stripe_told s_new.history)) pair_told_is

  -- is no less than before
  pub grows_paired : IsPrefix (stripe_told s.history) (stripe_told s_new.history) → Grows (stripe_sight own) (stripe_sight own_last)
  grows_paired longer =
      subst (λ (x : StripeSide). Grows (stripe_sight x) (stripe_sight own_last)) own_is
      (subst (λ (x : StripeSide). Grows (stripe_sight (stripe_side own_owner own_seen s)) (stripe_sight x)) (sym own_last_is)
      (whole_grows own_owner.lock (stripe_told s.history) (stripe_told s_new.history) longer more))

  -- the stripe is as its lock keeps it
  pub stripe_paired : (w : Walker) → HasBegun config own_seen.sight w.who w.moment → StripeGrows w s s_new → IsLockedStripe table config own_last
  stripe_paired w begun walked =
      subst (IsLockedStripe table config) (sym own_last_is)
      (stripe_stepped table config (stripe_side own_owner own_seen s) (class_side owner seen c) own_first lent_first agree s_new c_new site grows legal lawful agreement still own_new.sight lent_last.sight
      pair_told_is pair_told_of_is more pair_more_of_is w begun walked)

  -- and so is the class
  pub class_paired : IsHeldClass table config lent_last
  class_paired =
      subst (IsHeldClass table config) (sym lent_last_is)
      (class_stepped table config (stripe_side own_owner own_seen s) (class_side owner seen c) own_first lent_first agree s_new c_new site grows legal lawful agreement still own_new.sight lent_last.sight
      pair_told_is pair_told_of_is more pair_more_of_is)

  -- where the step failed for a full history, the stripe has seen it
  pub short_paired : MayFail c_new s_new HistoryFull → (own_last.stripe.limit ≤ length own_last.stripe.history) ⊎ LacksPlaces config own_last.sight c.number 1
  short_paired may =
      subst (λ (x : StripeSide). (x.stripe.limit ≤ length x.stripe.history) ⊎ LacksPlaces config x.sight c.number 1) (sym own_last_is)
      (short_seen_of table config (stripe_side own_owner own_seen s) (class_side owner seen c) own_first lent_first agree s_new c_new site grows legal lawful agreement still own_new.sight lent_last.sight
      pair_told_is pair_told_of_is more pair_more_of_is may)

-- a stripe that was only told more is as its lock keeps it
pub stripe_heard : (table : TableId) (config : Config) (own : StripeSide) → IsLockedStripe table config own → (s : Stripe) (owner : OwnerView) (seen seen_new : SeenView) → stripe_side owner seen s ≡ own
    → (own_last : StripeSide) (sight : Sight) → own_last ≡ record (stripe_side owner seen_new s) { sight = sight } → Grows seen.sight own_last.sight → IsLockedStripe table config own_last
stripe_heard table config own kept s owner seen seen_new own_is own_last sight told more =
    let last : own_last ≡ record (stripe_side owner seen s) { sight = own_last.sight } = told
    ∙ ap (λ (t : Sight). record { board = owner.board; lock = owner.lock; stripe = s; sight = t }) (sym (ap (λ (x : StripeSide). x.sight) told)) in
    subst (IsLockedStripe table config) (sym last) (stripe_sees table config (stripe_side owner seen s) own_last.sight more (subst (IsLockedStripe table config) (sym own_is) kept))
