use Rattle.std.proofs.Common.{◌≡◌, ◌∙◌, ◌⊎◌, ◌<◌, ◌+◌, ◌++◌, ◌∷◌, [], refl, ℕ, List, Result, ap, inr, length, subst, sym}
use Rattle.std.specs.Prelude.{IfSome, Option}
use Rattle.mc_item.specs.{Command.key_of, Measure.stripe_of}
use Rattle.mc_item.specs.declared.{config.Config.Config, fault.Fault.Fault, item.Link.Link, item.StripeNo.StripeNo, item.Who.Who, reply.Reply.Reply, stripe_event.StripeEvent.StripeEvent}
use Rattle.mc_evidence.specs.Setting.{IsClass}
use Rattle.mc_item.specs.declared.call_event.CallEvent.{CallEvent}
use Rattle.mc_hits.specs.{Rule.AreBefore, Views.HandsView}
use Rattle.mc_board.specs.{Histories.Grows, Histories.HasSeen, Histories.list_at, Views.SeenView}
use Rattle.mc_board.specs.declared.rule.Sight.{Sight}
use Rattle.mc_store.specs.{Hits.IsOffered, Hits.OffersOne, Locked.setting_of, Waking.woken_in}
use Rattle.mc_store.specs.{Callers.HasNoneOf, Held.Ends, Held.IsCallOn, Locked.IsLockedStripe, Passes.HasAsked, Passes.PassView, Passes.caller_of, Passes.next_who, Serving.IsLater, Sides.StripeSide, Sides.stripe_told}
use Rattle.mc_store.proofs.{SeenStripeLemmas.IsShared, SeenStripeLemmas.asked_now, SeenStripeLemmas.if_err_more, SeenStripeLemmas.shared_by, SeenStripeLemmas.turns_kept, CallerLemmas.on_ok_always}
use Rattle.mc_evidence.specs.Seen.{stripes_seen}
use Rattle.mc_store.specs.{Callers.asked_for, Callers.turns_of, Passes.ArePlaced, Passes.pass_of}
use Rattle.mc_store.proofs.{PlacedLemmas.placed_shared, OfferedHitLemmas.woken_class, SeenStripeLemmas.offered_by}
use Rattle.mc_store.proofs.store.Store.command.Given.{Over}
use Rattle.mc_store.proofs.store.Store.command.Goals as goal
use Rattle.mc_store.proofs.store.Store.command.Goals.{After-compare, After-share, in-None, in-Some}

-- the stripe under the lock is that of the command's key
own_is : (g : Over) (c : After-compare g) → stripe_of (key_of c.args.command) g.N.Named.config.stripes ≡ record { 0 = c.compare.new.self.stripe.site.stripe }
own_is g c =
    let number : c.stripe_of-number.result ≡ record { 0 = c.compare.new.self.stripe.site.stripe } = ap (λ (n : ℕ). record { 0 = n })
    (sym (ap (λ (x : StripeSide). x.stripe.site.stripe) (c.compare.ensures.same.0 ∙ c.own.view_is) ∙ (ap (λ (x : StripeSide). x.stripe.site.stripe) c.learn.ensures.stripe
    ∙ (ap (λ (x : StripeSide). x.stripe.site.stripe) (c.in_ok-who.ensures.stripe ∙ c.deref_mut-own.ensures.value) ∙ c.lock_stripe-guard.ensures)))) in
    ap (λ (key : List ℕ). stripe_of key g.N.Named.config.stripes) (sym c.key.ensures)
    ∙ (ap (λ (config : Config). stripe_of c.key.result.now config.stripes) (sym c.self.invariant.1) ∙ (sym c.stripe_of-number.ensures ∙ number))

-- and the command is called on it
called : (g : Over) (c : After-compare g) → IsCallOn g.N.Named.config c.compare.new.self.stripe c.pass.inside.caller c.args.command (record { who = c.in_ok-who.who; moment = c.args.moment })
called g c =
    let took = c.in_ok-who.ensures.took in record {
      own = own_is g c;
      asked = subst (λ (p : PassView). HasAsked (caller_of p) c.in_ok-who.who c.args.command c.args.moment) (sym c.pass.view_is)
          (asked_now c.args.pass.now c.take_turn_on.new.self c.args.command c.in_ok-who.who c.args.moment took.turn took.who c.in_ok-who.ensures.turns);
      early = c.requires.early;
    }

-- its token has seen what the pass had seen
told_sight : (g : Over) (c : After-compare g) → c.learn.new.seen.sight ≡ c.args.pass.now.sight
told_sight g c = ap (λ (v : SeenView). v.sight) c.learn.ensures.same ∙ ap (λ (p : PassView). p.sight) (c.pass.view_is ∙ c.in_ok-who.ensures.took.turn)

pub answer_for-replied-requires-clause-called : goal.answer_for-replied-requires-clause-called
answer_for-replied-requires-clause-called g c = called g (goal.at.answer_for-replied-requires-clause-called g c).After-compare

pub answer-replied-requires : goal.answer-replied-requires
answer-replied-requires g c = record { called = called g (goal.at.answer-replied-requires g c).After-compare }

-- how the command ended, by either way
ends : (g : Over) (c : After-share g) → Ends g.N.Named.config c.compare.new.self c.match-class_for.own c.pass.inside.caller
    c.match-class_for.pass-inside.caller c.args.command (record { who = c.in_ok-who.who; moment = c.args.moment }) c.match-class_for.replied
ends g c = elim c.match-class_for.branch [
  | in-Some w ↦ rw (w.own-is, w.pass-inside-is, w.replied-is) w.answer_for-replied.ensures
  | in-None w ↦ rw (w.own-is, w.pass-inside-is, w.replied-is) w.answer-replied.ensures
]

-- of the pass it changed its caller alone
rest : (g : Over) (c : After-share g) → c.match-class_for.pass-inside ≡ record { caller = c.match-class_for.pass-inside.caller; seen = c.compare.new.seen; hands = c.pass.inside.hands }
rest g c = elim c.match-class_for.branch [ in-Some w ↦ rw w.pass-inside-is | in-None w ↦ rw w.pass-inside-is ]

-- the stripe is one of the store's
below_stripes : (g : Over) (c : After-compare g) → c.compare.new.self.stripe.site.stripe < g.N.Named.config.stripes
below_stripes g c = (subst (IsLockedStripe g.N.Named.board.table g.N.Named.config) (sym c.compare.ensures.same.0) c.own.invariant).of

-- the pass behind the call
abbrev pass_then : (g : Over) (c : goal.After-reply_of g) → PassView
pass_then g c = pass_of c.match-class_for.pass-inside.caller c.share.new.seen.sight c.offer.new.hands

-- and what it has of the command
shared : (g : Over) (c : goal.After-reply_of g)
    → IsShared g.N.Named.config (stripe_of (key_of c.args.command) g.N.Named.config.stripes).0 c.args.pass.now (pass_then g c) c.args.command c.args.moment c.reply_of.result
shared g c =
    let config = g.N.Named.config in
    let old = c.args.pass.now in
    let after = c.share.new.seen.sight in
    let r = c.match-class_for.replied in
    let at = goal.at.returns-clause-replied g c in
    let number = ap (λ (n : StripeNo). n.0) (sym (own_is g at.After-compare)) in
    let pass = c.pass.view_is ∙ c.in_ok-who.ensures.took.turn in
    let old_kept = subst (IsLockedStripe g.N.Named.board.table config) (sym c.compare.ensures.same.0) c.own.invariant in
    let new_kept = subst (IsLockedStripe g.N.Named.board.table config) c.own-2.view_is c.own-2.invariant in
    let seen = subst (λ (x : Sight). HasSeen (stripe_told c.compare.new.self.stripe.history) x c.compare.new.self.lock) (told_sight g at.After-compare)
    (subst (λ (s : StripeSide). HasSeen (stripe_told s.stripe.history) c.learn.new.seen.sight s.lock) (sym c.compare.ensures.same.0) c.compare.ensures.behind.seen) in
    let learnt = subst (λ (s : StripeSide). Grows old.sight s.sight) (sym (c.compare.ensures.same.0 ∙ c.own.view_is))
    (subst (λ (x : Sight). Grows x c.learn.new.self.sight) (ap (λ (p : PassView). p.sight) pass) c.learn.ensures.learnt) in
    let told = subst (λ (s : StripeSide). list_at after.seen s.lock ≡ stripe_told s.stripe.history) c.own-2.view_is c.share.ensures.told in
    let grows = subst (λ (s : StripeSide). Grows s.sight after) c.own-2.view_is c.share.ensures.all in
    let first = subst (λ (h : List StripeEvent). HasNoneOf (next_who old) h)
    (sym (ap (λ (s : StripeSide). s.stripe.history) (c.compare.ensures.same.0 ∙ c.own.view_is) ∙ (ap (λ (s : StripeSide). s.stripe.history) c.learn.ensures.stripe
    ∙ ap (λ (s : StripeSide). s.stripe.history) c.in_ok-who.ensures.stripe))) c.in_ok-who.ensures.first in
    subst (λ (x : Result Reply Fault). IsShared config (stripe_of (key_of c.args.command) config.stripes).0 old (pass_then g c) c.args.command c.args.moment x) (sym c.reply_of.ensures)
    (shared_by old old_kept new_kept number seen told learnt grows r c.offer.new.hands (ends g at.After-share) c.in_ok-who.ensures.took.who (ap (λ (p : PassView). p.calls) pass)
    (ap (λ (p : PassView). p.made) pass) first)

pub returns-clause-replied : goal.returns-clause-replied
returns-clause-replied g c = (shared g c).replied

pub returns-clause-cut : goal.returns-clause-cut
returns-clause-cut g c = if_err_more c.reply_of.result _ _ (λ fault cut. inr cut) (shared g c).cut

pub returns-clause-grows : goal.returns-clause-grows
returns-clause-grows g c =
    let at = goal.at.returns-clause-grows g c in
    let seen = ap (λ p. p.seen) (rest g at.After-share) ∙ c.compare.ensures.same.1 in
    let sight = ap (λ (v : SeenView). v.sight) seen ∙ told_sight g at.After-compare in
    subst (λ (x : Sight). IsLater x c.share.new.seen.sight) sight c.share.ensures.grows

pub returns-clause-caller : goal.returns-clause-caller
returns-clause-caller g c = (ends g (goal.at.returns-clause-caller g c).After-share).number ∙ ap (λ (p : PassView). p.caller) (c.pass.view_is ∙ c.in_ok-who.ensures.took.turn)

pub returns-clause-turn : goal.returns-clause-turn
returns-clause-turn g c =
    let kept = turns_kept c.match-class_for.replied (ends g (goal.at.returns-clause-turn g c).After-share) in
    (refl, on_ok_always c.reply_of.result (ap (λ (l : List CallEvent). length l) kept ∙ ap (λ (p : PassView). p.turn) (c.pass.view_is ∙ c.in_ok-who.ensures.took.turn)))

-- ---- the hit

-- until it is offered the pass's hands are as the call found them
hands_are : (g : Over) (c : After-share g) → c.match-class_for.pass-inside.hands ≡ c.args.pass.now.hands
hands_are g c = ap (λ p. p.hands) (rest g c) ∙ ap (λ (p : PassView). p.hands) (c.pass.view_is ∙ c.in_ok-who.ensures.took.turn)

pub offer-requires-clause-class : goal.offer-requires-clause-class
offer-requires-clause-class g c =
    let table = g.N.Named.board.table in
    let config = g.N.Named.config in
    let at = (goal.at.offer-requires-clause-class g c).After-share in
    subst (λ (o : Option Link). IfSome o (λ link. IsClass (setting_of config) link.class)) (sym c.woken_of.ensures)
    (woken_class table config c.compare.new.self c.match-class_for.own c.pass.inside.caller c.match-class_for.pass-inside.caller c.args.command
    (record { who = c.in_ok-who.who; moment = c.args.moment }) c.match-class_for.replied (subst (IsLockedStripe table config) c.own-2.view_is c.own-2.invariant) (ends g at))

pub offer-requires-clause-hands : goal.offer-requires-clause-hands
offer-requires-clause-hands g c = ap (λ p. p.hands.tables) (rest g (goal.at.offer-requires-clause-hands g c).After-share) ∙ c.pass.invariant.2

pub offer-requires-clause-turn : goal.offer-requires-clause-turn
offer-requires-clause-turn g c =
    let at = (goal.at.offer-requires-clause-turn g c).After-share in
    let old = c.args.pass.now in
    subst (λ (n : ℕ). AreBefore n c.match-class_for.pass-inside.hands.offers) (sym (ap (λ (w : Who). w.turn) c.in_ok-who.ensures.took.who))
    (subst (λ (h : HandsView). AreBefore old.turn h.offers) (sym (hands_are g at))
    (subst (λ (p : PassView). AreBefore old.turn p.hands.offers) c.in_ok-who.ensures.took.turn c.in_ok-who.ensures.took.before))

pub returns-clause-offers : goal.returns-clause-offers
returns-clause-offers g c =
    let config = g.N.Named.config in
    let old = c.args.pass.now in
    let after = c.share.new.seen.sight in
    let r = c.match-class_for.replied in
    let who = c.in_ok-who.who in
    let at = goal.at.returns-clause-offers g c in
    let number = ap (λ (n : StripeNo). n.0) (sym (own_is g at.After-compare)) in
    let pass = c.pass.view_is ∙ c.in_ok-who.ensures.took.turn in
    let old_kept = subst (IsLockedStripe g.N.Named.board.table config) (sym c.compare.ensures.same.0) c.own.invariant in
    let new_kept = subst (IsLockedStripe g.N.Named.board.table config) c.own-2.view_is c.own-2.invariant in
    let seen = subst (λ (x : Sight). HasSeen (stripe_told c.compare.new.self.stripe.history) x c.compare.new.self.lock) (told_sight g at.After-compare)
    (subst (λ (s : StripeSide). HasSeen (stripe_told s.stripe.history) c.learn.new.seen.sight s.lock) (sym c.compare.ensures.same.0) c.compare.ensures.behind.seen) in
    let learnt = subst (λ (s : StripeSide). Grows old.sight s.sight) (sym (c.compare.ensures.same.0 ∙ c.own.view_is))
    (subst (λ (x : Sight). Grows x c.learn.new.self.sight) (ap (λ (p : PassView). p.sight) pass) c.learn.ensures.learnt) in
    let told = subst (λ (s : StripeSide). list_at after.seen s.lock ≡ stripe_told s.stripe.history) c.own-2.view_is c.share.ensures.told in
    let grows = subst (λ (s : StripeSide). Grows s.sight after) c.own-2.view_is c.share.ensures.all in
    let mine : old.hands.caller ≡ who.caller =
    sym (ap (λ (p : PassView). p.hands.caller) pass) ∙ (c.pass.invariant.3 ∙ (ap (λ (p : PassView). p.caller) pass ∙ sym (ap (λ (w : Who). w.caller) c.in_ok-who.ensures.took.who))) in
    let offers = subst (λ (h : HandsView). OffersOne who.turn (woken_in r) h c.offer.new.hands) (hands_are g at.After-share)
    (subst (λ (o : Option Link). OffersOne who.turn o c.match-class_for.pass-inside.hands c.offer.new.hands) c.woken_of.ensures c.offer.ensures.offers) in
    subst (λ (w : Who). (c.offer.new.hands ≡ old.hands)
    ⊎ IsOffered config (stripe_of (key_of c.args.command) config.stripes).0 after w c.args.command c.args.moment old.hands c.offer.new.hands) c.in_ok-who.ensures.took.who
    (offered_by old old_kept new_kept number seen told learnt grows r (ends g at.After-share) old.hands c.offer.new.hands mine offers)

pub invariant_of-pass : goal.invariant_of-pass
invariant_of-pass g c =
    let config = g.N.Named.config in
    let i = c.pass.invariant in
    let place = goal.at.invariant_of-pass g c in
    let at = place.After-share in
    let old = c.args.pass.now in
    let was : PassView = pass_of c.pass.inside.caller c.pass.inside.seen.sight c.pass.inside.hands in
    let ended = ends g at in
    let took : was ≡ record old { turn = old.turn + 1; calls = old.calls ++ asked_for c.args.command c.args.moment ∷ [] } = c.pass.view_is ∙ c.in_ok-who.ensures.took.turn in
    let turns : length (turns_of c.match-class_for.pass-inside.caller.calls) ≡ old.turn + 1 =
    ap (λ (l : List CallEvent). length l) (turns_kept c.match-class_for.replied ended) ∙ ap (λ (p : PassView). p.turn) took in
    let same = c.offer.ensures.same in
    let next : c.in_ok-who.who.turn + 1 ≡ length (turns_of c.match-class_for.pass-inside.caller.calls) = ap (λ (w : Who). w.turn + 1) c.in_ok-who.ensures.took.who ∙ sym turns in
    let below : (stripe_of (key_of c.args.command) config.stripes).0 < config.stripes = subst (λ (n : StripeNo). n.0 < config.stripes) (sym (own_is g place.After-compare)) (below_stripes g place.After-compare) in
    let seen = ap (λ (v : SeenView). v.sight) (ap (λ p. p.seen) (rest g at) ∙ c.compare.ensures.same.1) ∙ told_sight g place.After-compare in
    let grows = subst (λ (x : Sight). Grows x c.share.new.seen.sight) seen c.share.ensures.grows.seen in
    let number : c.match-class_for.pass-inside.caller.number ≡ old.caller = ended.number ∙ ap (λ (p : PassView). p.caller) took in
    let begun : ArePlaced config (record { number = old.caller; calls = old.calls ++ asked_for c.args.command c.args.moment ∷ []; made = old.made }) (stripes_seen (list_at old.sight.seen)) =
    subst (λ (p : PassView). ArePlaced config (caller_of p) (stripes_seen (list_at p.sight.seen))) took i.1 in
    let behind = shared g c in (
      c.share.ensures.board ∙ (ap (λ p. p.seen.board) (rest g at) ∙ (ap (λ (v : SeenView). v.board) (c.compare.ensures.same.1 ∙ c.learn.ensures.same) ∙ i.0)),
      placed_shared config (stripe_of (key_of c.args.command) config.stripes).0 old (pass_then g c) c.args.command c.args.moment below number c.in_ok-who.ensures.turns grows begun c.reply_of.result
          behind.replied behind.cut,
      ap (λ (h : HandsView). h.tables) same ∙ (ap (λ p. p.hands.tables) (rest g at) ∙ i.2),
      ap (λ (h : HandsView). h.caller) same ∙ (ap (λ p. p.hands.caller) (rest g at) ∙ (i.3 ∙ sym ended.number)),
      subst (λ (n : ℕ). AreBefore n c.offer.new.hands.offers) next c.offer.ensures.before,
    )
