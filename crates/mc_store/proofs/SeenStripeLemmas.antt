-- What a pass has seen of a stripe behind a call.
use Rattle.std.proofs.Common.{◌≡◌, ℕ, List, inl, inr, Result, Ok, Err, refl, sym, ap, ◌∙◌, subst, ◌++◌, ◌∷◌, [], ◌+◌, length, Some}
use Rattle.std.specs.Prelude.{◌⊎◌, IfErr, IfOk, IfSome, IsSomeAnd, None, OnErr, Option}
use mathlib.Core.List.{IsPrefix}
use Rattle.atomic_table.specs.Seated.{TableId}
use Rattle.mc_item.specs.declared.{answer.Site.Site, call_event.CallEvent.CallEvent, command.Command.Command, config.Config.Config, fault.Fault.Fault}
use Rattle.mc_item.specs.declared.{item.Link.Link, item.Who.Who, reply.Reply.Reply, event.Event.Event, event.Event.TheVariants.Call, stripe_event.Did.Did}
use Rattle.mc_board.specs.Histories.{Grows, HasSeen, list_at, with_seen}
use Rattle.mc_board.specs.declared.{rule.Sight.Sight, rule.Span.Span}
use Rattle.mc_board.proofs.PrefixLemmas.{prefix_self}
use Rattle.mc_evidence.specs.{Locks.StripeKeeps, Seen.classes_seen, Setting.site_in}
use Rattle.mc_hits.specs.Views.{HandsView, hit_of}
use Rattle.mc_evidence.proofs.{LockLemmas.stripe_sees_more, SeenLemmas.classes_grow}
use Rattle.mc_stripe.specs.{Plan.visible_row, StripeCalls.KeepsSite}
use Rattle.mc_stripe.specs.declared.trying.Turn.{Turn}
use Rattle.mc_store.specs.Searches.{IsSearchFor, IsSearchUpTo, searcher, searcher_at, sight_of}
use Rattle.mc_store.specs.{Accounts.Enters, Accounts.IsOfCommand, Held.Ends, Locked.IsLockedStripe, Locked.setting_of, Sides.StripeSide, Sides.stripe_sight, Sides.stripe_told}
use Rattle.mc_store.specs.{Calls.IsCutBy, Calls.IsReplied, Calls.IsRepliedBy, Calls.IsSeenGrow, Commands.IsAnswered, Commands.IsCut, Headline.answered_did, Hits.IsOffered, Hits.OffersOne}
use Rattle.mc_store.specs.{Hits.queue_of, Hits.with_offer, Waking.MakesActive, Waking.reply_in, Waking.woken_in}
use Rattle.mc_store.proofs.{AccountLemmas.enters_later, AccountLemmas.whole_grows, AccountLemmas.whole_shared, LockKeepsLemmas.site_of_number}
use Rattle.mc_pull.specs.declared.attempting.Replied.{Replied}
use Rattle.mc_store.proofs.{EarnedRefusalLemmas.search_wider, EarnedRefusalLemmas.told_sees, EarnedRefusalLemmas.up_to_wider, FullLemmas.full_grows, SyncedStepLemmas.map_length}
use Rattle.mc_store.specs.Callers.{HasNoneOf, asked_for, answered_at, turns_of, calls_told, moment_of}
use Rattle.mc_store.specs.Passes.{CallerView, PassView, HasAsked, HasCalled, caller_of, next_who, pass_of}
use Rattle.mc_item.specs.declared.call_event.CallEvent.TheVariants.{Answered, Asked, Crawled, Juggled, Limits}

-- what a command shares with its pass: how it was answered or broken off, by the pass before it and behind it
pub record IsShared (config : Config) (number : ℕ) (before after : PassView) (command : Command) (moment : ℕ) (r : Result Reply Fault) : Type 0 where
  pub replied : IfOk r (IsRepliedBy config number before after command moment)
  pub cut : IfErr r (IsCutBy config number before after command moment)

module _ {table : TableId} {config : Config} {number : ℕ} {old new : StripeSide} (before : PassView) {after : Sight} (old_kept : IsLockedStripe table config old) (new_kept : IsLockedStripe table config new)
    (number_is : old.stripe.site.stripe ≡ number) (seen : HasSeen (stripe_told old.stripe.history) before.sight old.lock)
    (told : list_at after.seen new.lock ≡ stripe_told new.stripe.history) (learnt : Grows before.sight old.sight) (grows : Grows new.sight after) where
  seen_grow : KeepsSite old.stripe new.stripe → IsSeenGrow config number before.sight after old.stripe new.stripe
  seen_grow site =
      let number_new : new.stripe.site.stripe ≡ number = ap (λ (t : Site). t.stripe) site.site ∙ number_is in record {
        made_with = old_kept.made_with;
        number_is = number_is;
        site = site;
        seen = subst (λ (k : ℕ). IsPrefix (list_at before.sight.seen k) (stripe_told old.stripe.history)) (old_kept.lock_is ∙ number_is) seen;
        now = ap (λ (k : ℕ). list_at after.seen k) (sym (new_kept.lock_is ∙ number_new)) ∙ told;
        sound = subst (λ (k : ℕ). StripeKeeps (setting_of config) k new.stripe.history (classes_seen config.stripes (list_at after.seen))) number_new
            (stripe_sees_more (setting_of config) new.stripe.site.stripe new.stripe.history (classes_seen config.stripes (list_at new.sight.seen)) (classes_seen config.stripes (list_at after.seen))
            (classes_grow config.stripes (list_at new.sight.seen) (list_at after.seen) grows.at) new_kept.keeps);
      }

  -- all that the stripe has seen and had, the pass has seen behind the call
  all_shared : Grows (stripe_sight new) after
  all_shared = whole_shared new.sight {y = after} new.lock (stripe_told new.stripe.history)
      (subst (IsPrefix (stripe_told new.stripe.history)) (sym told) (prefix_self (stripe_told new.stripe.history))) (λ at other. grows.at at)

  -- and so all that was entered in the caller's account
  entered_by : {caller caller_new : CallerView} {command : Command} {turn : Turn} (r : Result Replied Fault) → (ends : Ends config old new caller caller_new command turn r)
      → turn.who ≡ next_who before → caller.made ≡ before.made → Enters (IsOfCommand config old.stripe command turn.moment ends.stretch) before.turn after before.made caller_new.made
  entered_by {caller = caller} {caller_new = caller_new} {command = command} {turn = turn} r ends who made =
      let Suits = IsOfCommand config old.stripe command turn.moment ends.stretch in
      subst (λ (n : ℕ). Enters Suits n after before.made caller_new.made) (ap (λ (w : Who). w.turn) who)
      (subst (λ (m : List Span). Enters Suits turn.who.turn after m caller_new.made) made
      (enters_later Suits turn.who.turn {mid = stripe_sight new} {after = after} caller.made caller_new.made all_shared ends.enters))

  -- what the pass had seen, and the whole history of the command's stripe
  abbrev first_sight : ℕ → Sight
  first_sight k = with_seen before.sight k (stripe_told old.stripe.history)

  first_grows : Grows (first_sight old.stripe.site.stripe) (stripe_sight old)
  first_grows =
      let told = stripe_told old.stripe.history in
      subst (λ (k : ℕ). Grows (first_sight k) (stripe_sight old)) old_kept.lock_is (whole_grows old.lock told told (prefix_self told) learnt)

  -- a command that ended under the lock of its stripe is shared so with its pass
  pub shared_by : {caller caller_new : CallerView} {command : Command} {turn : Turn} (r : Result Replied Fault) (hands : HandsView)
      → Ends config old new caller caller_new command turn r → turn.who ≡ next_who before → caller.calls ≡ before.calls ++ asked_for command turn.moment ∷ [] → caller.made ≡ before.made
      → HasNoneOf (next_who before) old.stripe.history → IsShared config number before (pass_of caller_new after hands) command turn.moment (reply_in r)
  shared_by {caller_new = caller_new} {command = command} {turn = turn} (Ok reply) hands ends who asked made first =
      let was = ends.replied.replied_is in
      let did : Did = record { who = turn.who; command = command; moment = turn.moment; reply = was.answered.reply; room = was.answered.room } in
      let calls = before.calls ++ asked_for command turn.moment ∷ [] in
      let need = (visible_row old.stripe command turn.moment).need in
      let replied : IsReplied config turn.who command turn.moment old.stripe new.stripe after calls caller_new.calls reply.reply = record {
        place = was.place;
        answered = was.answered;
        reply_is = was.reply_is;
        noted = was.noted ∙ ap (λ (l : List CallEvent). l ++ answered_at old.stripe.site.stripe was.place ∷ []) asked;
        earned = told_sees config old.stripe.site new.sight after did grows was.earned;
      } in record {
        replied = record {
          old = old.stripe;
          new = new.stripe;
          grew = seen_grow ends.site;
          first = first;
          replied = subst (λ (w : Who). IsReplied config w command turn.moment old.stripe new.stripe after calls caller_new.calls reply.reply) who replied;
          account = record {
            stretch = ends.stretch;
            enters = entered_by (Ok reply) ends who made;
            search = subst (λ (w : Who). IsSearchFor (searcher config number w turn.moment) need (sight_of (searcher config number w turn.moment) before.sight old.stripe) after ends.stretch) who
                (subst (λ (k : ℕ). IsSearchFor (searcher config k turn.who turn.moment) need (first_sight k) after ends.stretch) number_is
                (search_wider (searcher_at config old.stripe turn) need (first_sight old.stripe.site.stripe) (stripe_sight old) new.sight after ends.stretch first_grows grows ends.search));
          };
        };
        cut = tt;
      }
  shared_by {command = command} {turn = turn} (Err fault) hands ends who asked made first = record {
    replied = tt;
    cut = record {
      old = old.stripe;
      new = new.stripe;
      grew = seen_grow ends.site;
      first = first;
      cut = subst (λ (w : Who). IsCut config w command turn.moment old.stripe new.stripe) who ends.cut;
      noted = ends.unnoted ∙ asked;
      stretch = ends.stretch;
      account = entered_by (Err fault) ends who made;
      search =
          let need = (visible_row old.stripe command turn.moment).need in
          subst (λ (w : Who). IsSearchUpTo (searcher config number w turn.moment) need (sight_of (searcher config number w turn.moment) before.sight old.stripe) after ends.stretch) who
          (subst (λ (k : ℕ). IsSearchUpTo (searcher config k turn.who turn.moment) need (first_sight k) after ends.stretch) number_is
          (up_to_wider (searcher_at config old.stripe turn) need (first_sight old.stripe.site.stripe) (stripe_sight old) new.sight after ends.stretch first_grows grows ends.cut_search));
      full = λ e. full_grows config old.stripe new.stripe new.sight after command turn.moment grows (ends.full (ap Err e));
    };
  }

  -- a hit that it offered is of the item that its event made ACTIVE
  offered_of : (command : Command) (turn : Turn) (hands hands_new : HandsView) (place : ℕ) (answered : IsAnswered config turn.who command turn.moment old.stripe new.stripe place)
      → IsSeenGrow config number before.sight after old.stripe new.stripe → (link : Link)
      → MakesActive old.stripe.site (old.stripe.history ++ answered.before) (answered_did turn.who command turn.moment answered.reply answered.room) link
      → hands_new ≡ with_offer hands (queue_of link.class) (hit_of turn.who.caller turn.who.turn link.number) → IsOffered config number after turn.who command turn.moment hands hands_new
  offered_of command turn hands hands_new place answered grew link woke is = record {
    before = old.stripe.history ++ answered.before;
    reply = answered.reply;
    room = answered.room;
    link = link;
    seen = grew.now ∙ ap stripe_told answered.history_is;
    woke = subst (λ (k : ℕ). MakesActive (site_in (setting_of config) k) (old.stripe.history ++ answered.before) (answered_did turn.who command turn.moment answered.reply answered.room) link) number_is
        (subst (λ (t : Site). MakesActive t (old.stripe.history ++ answered.before) (answered_did turn.who command turn.moment answered.reply answered.room) link)
        (sym (site_of_number config old.stripe old_kept.made_with)) woke);
    hands = is;
  }

  pub offered_by : {caller caller_new : CallerView} {command : Command} {turn : Turn} (r : Result Replied Fault) → Ends config old new caller caller_new command turn r
      → (hands hands_new : HandsView) → hands.caller ≡ turn.who.caller → OffersOne turn.who.turn (woken_in r) hands hands_new
      → (hands_new ≡ hands) ⊎ IsOffered config number after turn.who command turn.moment hands hands_new
  offered_by r ends hands hands_new mine (inl same) = inl same
  offered_by {caller = caller} {caller_new = caller_new} {command = command} {turn = turn} (Ok replied) ends hands hands_new mine (inr offers) = inr (by replied.woken ends.replied.woken offers)
    where
      was : IsReplied config turn.who command turn.moment old.stripe new.stripe new.sight caller.calls caller_new.calls replied.reply
      was = ends.replied.replied_is

      by : (woken : Option Link) → IfSome woken (MakesActive old.stripe.site (old.stripe.history ++ was.answered.before) (answered_did turn.who command turn.moment was.answered.reply was.answered.room))
          → IsSomeAnd woken (λ link. hands_new ≡ with_offer hands (queue_of link.class) (hit_of hands.caller turn.who.turn link.number))
          → IsOffered config number after turn.who command turn.moment hands hands_new
      by None woke is = absurd is
      by (Some link) woke is =
          offered_of command turn hands hands_new was.place was.answered (seen_grow ends.site) link woke
          (is ∙ ap (λ (n : ℕ). with_offer hands (queue_of link.class) (hit_of n turn.who.turn link.number)) mine)
  offered_by (Err fault) ends hands hands_new mine (inr offers) = absurd offers

-- what is told of each failure, in other words
pub on_err_more : {X : Type 0} (r : Result X Fault) (P Q : Type 0) → (P → Q) → OnErr r P → OnErr r Q
on_err_more (Ok x) P Q more p = tt
on_err_more (Err f) P Q more p = more p

pub on_err_both : {X : Type 0} (r : Result X Fault) (P Q : Type 0) → OnErr r P → OnErr r Q → OnErr r (P × Q)
on_err_both (Ok x) P Q p q = tt
on_err_both (Err fault) P Q p q = (p, q)

pub if_err_more : {X : Type 0} (r : Result X Fault) (P Q : Fault → Type 0) → ((f : Fault) → P f → Q f) → IfErr r P → IfErr r Q
if_err_more (Ok x) P Q more p = tt
if_err_more (Err f) P Q more p = more f p

-- an answer is no turn
pub turns_answered : (calls : List CallEvent) (stripe place : ℕ) → turns_of (calls ++ answered_at stripe place ∷ []) ≡ turns_of calls
turns_answered [] stripe place = refl
turns_answered (Asked a ∷ calls) stripe place = ap (λ (l : List CallEvent). Asked a ∷ l) (turns_answered calls stripe place)
turns_answered (Juggled w ∷ calls) stripe place = ap (λ (l : List CallEvent). Juggled w ∷ l) (turns_answered calls stripe place)
turns_answered (Crawled w ∷ calls) stripe place = ap (λ (l : List CallEvent). Crawled w ∷ l) (turns_answered calls stripe place)
turns_answered (Answered a ∷ calls) stripe place = turns_answered calls stripe place
turns_answered (Limits l ∷ calls) stripe place = ap (λ (es : List CallEvent). Limits l ∷ es) (turns_answered calls stripe place)

-- a command adds no turn to its caller's history once it was asked for
pub turns_kept : {config : Config} {own own_new : StripeSide} {caller caller_new : CallerView} {command : Command} {turn : Turn} (r : Result Replied Fault)
    → Ends config own own_new caller caller_new command turn r
    → turns_of caller_new.calls ≡ turns_of caller.calls
turns_kept {own = own} {caller = caller} {caller_new = caller_new} (Ok reply) ends =
    let is = ends.replied.replied_is.noted in
    let place = ends.replied.replied_is.place in
    ap turns_of is ∙ turns_answered caller.calls own.stripe.site.stripe place
turns_kept (Err fault) ends = ap turns_of ends.unnoted

-- a call is one event, and takes one turn
pub one_event : (es : List CallEvent) (told : List Event) → calls_told es ≡ told → length told ≡ 1 → length es ≡ 1
one_event es told is single = sym (map_length Call es) ∙ (ap (λ (l : List Event). length l) is ∙ single)

-- what always holds holds of a failure
pub on_err_always : {X E P : Type 0} (r : Result X E) → P → OnErr r P
on_err_always (Ok x) p = tt
on_err_always (Err e) p = p

-- a call that a pass has just begun stands at the end of its caller's history
pub called_now : (old now : PassView) (call : CallEvent) (who : Who) (moment : ℕ) → now.caller ≡ old.caller → now.calls ≡ old.calls ++ call ∷ []
    → who ≡ next_who old → length (turns_of old.calls) ≡ old.turn → moment_of call ≡ Some moment
    → HasCalled (caller_of now) who moment call
called_now old now call who moment caller calls is turns handed = record {
  number = ap (λ (w : Who). w.caller) is ∙ sym caller;
  begun = record { begun = record { before = old.calls; call = call; behind = []; split = calls; turn_is = turns ∙ sym (ap (λ (w : Who). w.turn) is); handed = handed }; call_is = refl };
}

-- and a command is the last that it asked for
pub asked_now : (old now : PassView) (command : Command) (who : Who) (moment : ℕ)
    → now ≡ record old { turn = old.turn + 1; calls = old.calls ++ asked_for command moment ∷ [] } → who ≡ next_who old → length (turns_of old.calls) ≡ old.turn
    → HasAsked (caller_of now) who command moment
asked_now old now command who moment turn is turns = record {
  number = ap (λ (w : Who). w.caller) is ∙ sym (ap (λ (p : PassView). p.caller) turn);
  before = old.calls;
  last = ap (λ (p : PassView). p.calls) turn;
  turn = turns ∙ sym (ap (λ (w : Who). w.turn) is);
}
