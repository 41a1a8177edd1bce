use Rattle.std.proofs.Common.{rules, ◌≡◌, List, [], ap, ◌∙◌, subst, sym}
use Rattle.mc_item.specs.declared.stripe_event.StripeEvent.{StripeEvent}
use Rattle.mc_evidence.specs.{Locks.StripeKeeps, Seen.classes_seen}
use Rattle.mc_evidence.proofs.LockLemmas.{stripe_begins}
use Rattle.mc_board.specs.Histories.{list_at}
use Rattle.mc_store.specs.{Locked.setting_of, Sides.StripeSide}
use Rattle.mc_store.proofs.opening.open_stripe.Goals as goal

pub new-requires-2 : goal.new-requires-2
new-requires-2 g c =
    let config = g.N.Named.config in
    let s = c.new.result in
    let empty : s.stripe.history ≡ [] = ap (λ (x : StripeSide). x.stripe.history) c.new.ensures ∙ c.new-state.ensures.history in
    let seen = classes_seen config.stripes (list_at s.sight.seen) in
    record {
      board_is = search rules;
      lock_is = search rules;
      of = search rules;
      sound = search rules;
      made_with = search rules;
      keeps = subst (λ (h : List StripeEvent). StripeKeeps (setting_of config) s.stripe.site.stripe h seen) (sym empty) (stripe_begins (setting_of config) s.stripe.site.stripe seen);
      called = search rules;
    }
