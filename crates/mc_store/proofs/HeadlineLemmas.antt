-- A reply that was given stands in what a closed store leaves.
use Rattle.std.proofs.Common.{◌≡◌, ◌<◌, ℕ, List, [], ◌∷◌, ◌++◌, Some, refl, sym, ap, ◌∙◌, subst, arith, length, length-append, slice_get}
use mathlib.Core.List.{IsPrefix}
use Rattle.mc_item.specs.Stripe.{IsLegal}
use Rattle.mc_item.specs.declared.{command.Command.Command, config.Config.Config, event.Event.Event}
use Rattle.mc_item.specs.declared.{reply.Reply.Reply, stripe_event.StripeEvent.StripeEvent}
use Rattle.mc_item.specs.declared.stripe_event.StripeEvent.TheVariants as events
use Rattle.mc_board.specs.Histories.{Grows, list_at}
use Rattle.mc_board.specs.declared.rule.Sight.{Sight}
use Rattle.mc_board.proofs.PrefixLemmas.{prefix_length, prefix_trans}
use Rattle.mc_evidence.specs.{Seen.stripe_events, Setting.site_in}
use Rattle.mc_evidence.proofs.SeenLemmas.{stripe_events-map}
use Rattle.mc_store.specs.{Calls.IsRepliedBy, Headline.IsBorneOut, Headline.answered_did, Locked.setting_of, Passes.PassView, Passes.next_who, Sides.stripe_told}
use Rattle.mc_store.specs.Finals.{AreStripes, FinalView, IsBehindStripes, stripe_histories, stripe_history}
use Rattle.mc_store.proofs.{ClosedLemmas.stripe_begins, NumberOrderLemmas.get_some, SyncedStepLemmas.map_length}

-- behind a list, and whatever follows, stands what comes next
get_next : {X : Type 0} (xs ys more : List X) (x : X) → slice_get ((xs ++ x ∷ ys) ++ more) (length xs) ≡ Some x
get_next [] ys more x = refl
get_next (z ∷ zs) ys more x = get_next zs ys more x

-- a reply stands in what is left
pub borne_out : (config : Config) (final : FinalView) (number : ℕ) (before after : PassView) (last : Sight) (command : Command) (moment : ℕ) (reply : Reply)
    → number < config.stripes → AreStripes final.board config final.stripes → IsBehindStripes last final.stripes → Grows after.sight last
    → IsRepliedBy config number before after command moment reply → IsBorneOut config final.stripes number before.sight (next_who before) command moment reply
borne_out config final number before after last command moment reply below all behind grows by =
    let g = get_some final.stripes number (omega (arith, below, all.many)) in
    let under = all.each number g.0 g.1 in
    let lock : g.0.lock ≡ number = under.kept.lock_is ∙ under.number_is in
    let left : stripe_histories final.stripes number ≡ g.0.stripe.history = ap stripe_history g.1 in
    let seen : IsPrefix (list_at after.sight.seen number) (stripe_told g.0.stripe.history) =
    prefix_trans (list_at after.sight.seen number) (list_at last.seen number) (stripe_told g.0.stripe.history) (grows.at number)
    (subst (λ (k : ℕ). IsPrefix (list_at last.seen k) (stripe_told g.0.stripe.history)) lock (behind.each number g.0 g.1).seen) in
    let begins = stripe_begins (list_at after.sight.seen number) g.0.stripe.history seen in
    let now : IsPrefix by.new.history g.0.stripe.history = subst (λ (h : List StripeEvent). IsPrefix h g.0.stripe.history) (ap stripe_events by.grew.now ∙ stripe_events-map by.new.history) begins in
    let answered = by.replied.answered in
    let old : List StripeEvent = by.old.history ++ answered.before in
    let first : StripeEvent = events.Did (answered_did (next_who before) command moment answered.reply answered.room) in
    let final_is : stripe_histories final.stripes number ≡ (old ++ first ∷ []) ++ now.0 = left ∙ sym now.1 ∙ ap (λ (h : List StripeEvent). h ++ now.0) answered.history_is in
    let started = prefix_length (list_at before.sight.seen number) (stripe_told by.old.history) by.grew.seen in
    let long : length (stripe_told by.old.history) ≡ length by.old.history = map_length events-of by.old.history in
    record {
      legal = subst (λ (h : List StripeEvent). IsLegal (site_in (setting_of config) number) h) (sym left)
          (subst (λ (k : ℕ). IsLegal (site_in (setting_of config) k) g.0.stripe.history) under.number_is under.kept.keeps.legal);
      place = by.replied.place;
      room = answered.room;
      there = ap (λ (h : List StripeEvent). slice_get h by.replied.place) final_is ∙ ap (slice_get ((old ++ first ∷ []) ++ now.0)) answered.place_is ∙ get_next old [] now.0 first
          ∙ ap (λ (r : Reply). Some (events.Did (answered_did (next_who before) command moment r answered.room))) by.replied.reply_is;
      behind = omega (arith, started, long, answered.place_is, length-append by.old.history answered.before);
    }
  where
    events-of : StripeEvent → Event
    events-of e = Rattle.mc_item.specs.declared.event.Event.TheVariants.Stripe e
