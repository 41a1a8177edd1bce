use Rattle.std.proofs.Common.{◌≡◌, ap, length, sym, subst, ◌∙◌}
use Rattle.std.specs.Prelude.{◌≤◌}
use Rattle.mc_item.specs.declared.config.Config.{Config}
use Rattle.mc_item.specs.declared.item.StripeNo.{StripeNo}
use Rattle.mc_pull.specs.declared.looking.Judged.{Judged}
use Rattle.mc_pull.specs.{Judgement.done_of, Lone.StripeGrows, Looks.IsJudgedBy, Question.HasKeyOf, Question.question_of}
use Rattle.mc_pull.specs.{Settled.IsSettled, Settled.class_with, Settled.done_class_events, Walker.Walker, Walker.walker_of}
use Rattle.mc_segment.specs.ClassState.{with_room}
use Rattle.mc_pull.specs.Growth as classes
use Rattle.mc_pull.proofs.OneStripeGateLemmas.{settle_walked}
use Rattle.mc_board.specs.Views.{OwnerView}
use Rattle.mc_stripe.specs.StripeState.{Stripe, cache_now}
use Rattle.mc_store.specs.{Looked.IsKnown, Passes.CallerView, Sides.StripeSide, Locked.HasBegun, Locked.IsLockedStripe, Walking.IsJudgedUnder, Walking.LeavesJudged, Walking.StillWalksFrom}
use Rattle.mc_store.specs.declared.locked.LockedStripe.TheInside.{Inside}
use Rattle.mc_store.specs.declared.owned_stripe.OwnedStripe.TheInside as owned
use Rattle.mc_store.specs.Reached.{IsSeenState}
use Rattle.mc_store.proofs.JudgedEntryLemmas.{class_judged, fault_judged, known_judged, owner_judged, state_judged, still_judged, stripe_judged}
use Rattle.mc_store.proofs.{SyncedStepLemmas.class_told_more, SyncedStepLemmas.settled_grows, SyncedStepLemmas.settled_told, LockKeepsLemmas.grows_trans}
use Rattle.mc_store.proofs.{SeenStripeLemmas.if_err_more, ShortHistoryLemmas.if_ok_both, ShortHistoryLemmas.match_more, SyncedStepLemmas.stripe_side}
use Rattle.mc_store.proofs.OwnCallLemmas.{class_settled_by, stripe_walked_by}
use Rattle.mc_store.proofs.judging.judge.Given.{Over}
use Rattle.mc_store.proofs.judging.judge.Goals as goal
use Rattle.mc_store.proofs.judging.judge.Goals.{After-tell-4}

-- the stripe as it was locked, and as it was lent
module _ (g : Over) (c : After-tell-4 g) where
  abbrev own : owned.Inside
  own = c.stripe-inside.inside.0.0

  abbrev lent : owned.Inside
  lent = c.stripe-inside-2.inside.0.0

  own_is : stripe_side own.owner own.seen own.state ≡ c.stripe.inside.side
  own_is = ap (λ (l : Inside g.row.N.Denot). l.side) c.stripe-inside.view_is

  lent_is : stripe_side lent.owner lent.seen lent.state ≡ c.tell-2.new.self
  lent_is = ap (λ (l : Inside g.row.N.Denot). l.side) c.stripe-inside-2.view_is

  lent_state : lent.state ≡ c.args.stripe.now.stripe
  lent_state = ap (λ (x : StripeSide). x.stripe) (lent_is ∙ c.tell-2.ensures.same) ∙ ap (λ (x : StripeSide). x.stripe) (own_is ∙ c.stripe.view_is)

  -- the settling: the class gained events, and the stripe the walker's
  grew : classes.GainsEvents c.args.look.now.class.now c.settle-settled.new.self.class.now
  grew = settled_grows (λ (j : Judged). j.done) _ _ _ _ (question_of c.args.look.now.ask) c.settle-settled.result c.settle-settled.ensures.settled c.settle-settled.ensures.err

  abbrev walker : Walker
  walker = walker_of c.args.look.now.class.now c.args.look.now.ask.who c.args.look.now.ask.moment

  walked : StripeGrows walker lent.state c.settle-settled.new.stripe
  walked =
      let did = c.settle-settled.ensures in
      (settle_walked _ _ _ _ (question_of c.args.look.now.ask) did.keeps.site did.keeps.agreement (λ (j : Judged). j.done) c.settle-settled.result did.settled did.err).grows

  -- what the whole call came to, after a fault too
  still : StillWalksFrom g.N.Named.config c.args.look.now.class.now.number (length c.args.owner.now.history) c.args.look.now.ask.who.turn c.args.seen.now.sight c.tell-4.new.seen.sight
      c.args.look.now.class.now.history c.settle-settled.new.self.class.now.history c.args.caller.now c.catch_up_class-2.new.self
  still =
      let did = c.settle-settled.ensures in
      still_judged _ _ _ c.stripe.invariant _ own.owner _ own_is _ _ _ c.requires.look.served _ _ c.catch_up_class.ensures.told c.tell.ensures.same _ c.tell.ensures.whole c.tell.ensures.grows
      _ _ c.tell-2.ensures.same c.tell-2.ensures.told c.tell-2.ensures.grows _ lent.owner _ lent_is _ _ did.keeps.site grew c.history.ensures.legal c.law.ensures.lawful did.keeps.agreement did.keeps.sight
      _ c.catch_up_stripe.ensures.told _ _ c.catch_up_class-2.ensures.told c.tell-3.ensures.same _ c.tell-3.ensures.whole c.tell-3.ensures.grows
      _ _ c.tell-4.ensures.same c.tell-4.ensures.told c.tell-4.ensures.grows _ _ _ _ _ _ c.catch_up_class.ensures.entered c.catch_up_stripe.ensures.entered c.catch_up_class-2.ensures.entered

  owner_longer : length c.args.owner.now.history ≤ length c.tell-3.new.self.history
  owner_longer =
      let did = c.settle-settled.ensures in
      owner_judged _ _ _ c.stripe.invariant _ own.owner _ own_is _ _ _ c.requires.look.served _ _ c.catch_up_class.ensures.told c.tell.ensures.same _ c.tell.ensures.whole c.tell.ensures.grows
      _ _ c.tell-2.ensures.same c.tell-2.ensures.told c.tell-2.ensures.grows _ lent.owner _ lent_is _ _ did.keeps.site grew c.history.ensures.legal c.law.ensures.lawful did.keeps.agreement did.keeps.sight
      _ c.catch_up_stripe.ensures.told _ _ c.catch_up_class-2.ensures.told c.tell-3.ensures.same _ c.tell-3.ensures.whole c.tell-3.ensures.grows
      _ _ c.tell-4.ensures.same c.tell-4.ensures.told c.tell-4.ensures.grows

  stripe_kept : IsLockedStripe g.N.Named.board.table g.N.Named.config c.tell-4.new.self
  stripe_kept =
      let did = c.settle-settled.ensures in
      let begun = subst (λ (x : StripeSide). HasBegun g.N.Named.config x.sight c.args.look.now.ask.who c.args.look.now.ask.moment) (sym (own_is ∙ c.stripe.view_is)) c.requires.look.begun in
      stripe_judged _ _ _ c.stripe.invariant _ own.owner _ own_is _ _ _ c.requires.look.served _ _ c.catch_up_class.ensures.told c.tell.ensures.same _ c.tell.ensures.whole c.tell.ensures.grows
      _ _ c.tell-2.ensures.same c.tell-2.ensures.told c.tell-2.ensures.grows _ lent.owner _ lent_is _ _ did.keeps.site grew c.history.ensures.legal c.law.ensures.lawful did.keeps.agreement did.keeps.sight
      _ c.catch_up_stripe.ensures.told _ _ c.catch_up_class-2.ensures.told c.tell-3.ensures.same _ c.tell-3.ensures.whole c.tell-3.ensures.grows
      _ _ c.tell-4.ensures.same c.tell-4.ensures.told c.tell-4.ensures.grows _ begun walked

  left : LeavesJudged g.N.Named.board.table g.N.Named.config walker c.args.seen.now.sight c.args.stripe.now.stripe
      c.tell-3.new.self c.tell-4.new.seen c.settle-settled.new.self.class.now c.tell-4.new.self.stripe
  left =
      let did = c.settle-settled.ensures in
      let served =
      class_judged _ _ _ c.stripe.invariant _ own.owner _ own_is _ _ _ c.requires.look.served _ _ c.catch_up_class.ensures.told c.tell.ensures.same _ c.tell.ensures.whole c.tell.ensures.grows
      _ _ c.tell-2.ensures.same c.tell-2.ensures.told c.tell-2.ensures.grows _ lent.owner _ lent_is _ _ did.keeps.site grew c.history.ensures.legal c.law.ensures.lawful did.keeps.agreement did.keeps.sight
      _ c.catch_up_stripe.ensures.told _ _ c.catch_up_class-2.ensures.told c.tell-3.ensures.same _ c.tell-3.ensures.whole c.tell-3.ensures.grows
      _ _ c.tell-4.ensures.same c.tell-4.ensures.told c.tell-4.ensures.grows in
      record {
        served = served;
        stripe = subst (λ (x : StripeSide). StripeGrows walker c.args.stripe.now.stripe x.stripe) (sym c.tell-4.ensures.same)
            (subst (λ (x : Stripe). StripeGrows walker x c.settle-settled.new.stripe) lent_state walked);
        sees = grows_trans c.args.seen.now.sight c.tell-2.new.seen.sight c.tell-4.new.seen.sight c.tell-2.ensures.grows c.tell-4.ensures.grows;
        state = subst (IsSeenState g.N.Named.config.stripes c.args.seen.now.sight c.tell-4.new.seen.sight) lent_state
            (state_judged _ _ _ c.stripe.invariant _ own.owner _ own_is _ _ _ c.requires.look.served _ _ c.catch_up_class.ensures.told c.tell.ensures.same _ c.tell.ensures.whole c.tell.ensures.grows
            _ _ c.tell-2.ensures.same c.tell-2.ensures.told c.tell-2.ensures.grows _ lent.owner lent.seen lent_is c.tell-4.new.seen.sight c.tell-4.ensures.grows);
      }

pub catch_up_stripe-requires-clause-behind : goal.catch_up_stripe-requires-clause-behind
catch_up_stripe-requires-clause-behind g c =
    settled_told (λ (j : Judged). j.done) _ _ _ _ (question_of c.args.look.now.ask) c.settle-settled.result c.settle-settled.ensures.settled c.settle-settled.ensures.err
    c.stripe-inside-2.inside.0.0.owner.history c.stripe-inside-2.invariant.0

pub catch_up_stripe-requires-clause-by : goal.catch_up_stripe-requires-clause-by
catch_up_stripe-requires-clause-by g c =
    let did = c.settle-settled.ensures in
    let q = question_of c.args.look.now.ask in
    let walked = settle_walked _ _ _ _ q did.keeps.site did.keeps.agreement (λ (j : Judged). j.done) c.settle-settled.result did.settled did.err in
    stripe_walked_by (walker_of c.args.look.now.class.now q.who q.moment) c.stripe-inside-2.inside.0.0.owner.history _ _ c.stripe-inside-2.invariant.0 walked.grows

pub catch_up_stripe-requires-clause-caller : goal.catch_up_stripe-requires-clause-caller
catch_up_stripe-requires-clause-caller g c = c.requires.look.number ∙ sym (ap (λ (k : CallerView). k.number) c.catch_up_class.ensures.entered)

pub catch_up_class-requires-2-clause-by : goal.catch_up_class-requires-2-clause-by
catch_up_class-requires-2-clause-by g c =
    class_settled_by (λ (j : Judged). j.done) _ _ _ _ (question_of c.args.look.now.ask) c.settle-settled.result c.settle-settled.ensures.settled c.settle-settled.ensures.err c.tell.new.self.history
    (ap (λ (o : OwnerView). o.history) (c.tell.ensures.same ∙ c.catch_up_class.ensures.told))

pub catch_up_class-requires-2-clause-caller : goal.catch_up_class-requires-2-clause-caller
catch_up_class-requires-2-clause-caller g c =
    c.requires.look.number ∙ sym (ap (λ (k : CallerView). k.number) c.catch_up_stripe.ensures.entered ∙ ap (λ (k : CallerView). k.number) c.catch_up_class.ensures.entered)

pub catch_up_class-requires-2-clause-behind : goal.catch_up_class-requires-2-clause-behind
catch_up_class-requires-2-clause-behind g c =
    let grows = settled_grows (λ (j : Judged). j.done) _ _ _ _ (question_of c.args.look.now.ask) c.settle-settled.result c.settle-settled.ensures.settled c.settle-settled.ensures.err in
    class_told_more _ _ c.tell.new.self.history grows (ap (λ (o : OwnerView). o.history) (c.tell.ensures.same ∙ c.catch_up_class.ensures.told))

pub returns-clause-still : goal.returns-clause-still
returns-clause-still g c = (owner_longer g c, still g c)

pub invariant_of-stripe : goal.invariant_of-stripe
invariant_of-stripe g c = stripe_kept g c

pub returns-clause-left : goal.returns-clause-left
returns-clause-left g c = left g c

pub returns-clause-fault : goal.returns-clause-fault
returns-clause-fault g c =
    let own = c.stripe-inside.inside.0.0 in
    let lent = c.stripe-inside-2.inside.0.0 in
    let did = c.settle-settled.ensures in
    if_err_more c.settle-settled.result _ _ (λ fault refused.
    fault_judged _ _ _ c.stripe.invariant _ own.owner _ (own_is g c) _ _ _ c.requires.look.served _ _ c.catch_up_class.ensures.told c.tell.ensures.same _ c.tell.ensures.whole c.tell.ensures.grows
    _ _ c.tell-2.ensures.same c.tell-2.ensures.told c.tell-2.ensures.grows _ lent.owner _ (lent_is g c) _ _ did.keeps.site (grew g c) c.history.ensures.legal c.law.ensures.lawful did.keeps.agreement did.keeps.sight
    _ c.catch_up_stripe.ensures.told _ _ c.catch_up_class-2.ensures.told c.tell-3.ensures.same _ c.tell-3.ensures.whole c.tell-3.ensures.grows
    _ _ c.tell-4.ensures.same c.tell-4.ensures.told c.tell-4.ensures.grows fault refused.full) did.refusal

pub returns-clause-judged : goal.returns-clause-judged
returns-clause-judged g c =
    let own = c.stripe-inside.inside.0.0 in
    let lent = c.stripe-inside-2.inside.0.0 in
    let did = c.settle-settled.ensures in
    let r = c.settle-settled.result in
    let q = question_of c.args.look.now.ask in
    let s = c.args.stripe.now.stripe in
    let class = c.args.look.now.class.now in
    let after = c.settle-settled.new.self.class.now in
    let number : Stripe → StripeNo = λ s. record { 0 = s.site.stripe } in
    let Follows : Config → Stripe → Judged → Type 0 = λ config s j. IsJudgedBy (λ state. state ≡ s) config (number s) class q j in
    let known : (j : Judged) → Follows c.args.look.now.ask.config.now lent.state j → HasKeyOf (number lent.state) g.N.Named.config class q → IsKnown class lent.state q j =
    λ j follows keyed.
    known_judged _ _ _ c.stripe.invariant _ own.owner _ (own_is g c) _ _ _ c.requires.look.served _ _ c.catch_up_class.ensures.told c.tell.ensures.same _ c.tell.ensures.whole c.tell.ensures.grows
    _ _ c.tell-2.ensures.same c.tell-2.ensures.told c.tell-2.ensures.grows _ lent.owner lent.seen (lent_is g c)
    q j c.requires.look.may keyed (follows.0.done_is ∙ ap (λ (s : Stripe). done_of class (cache_now s) q) follows.1) in
    match_more r
    (λ j. Follows c.args.look.now.ask.config.now lent.state j × IsSettled class after lent.state c.settle-settled.new.stripe q j.done)
    (IsJudgedUnder g.N.Named.config s q class after) _ (after ≡ with_room class after.room)
    (λ j did. record {
      class = subst (λ (s : Stripe). after ≡ class_with class (done_class_events class q (length s.history) j.done) after.room) (sym did.0.1) did.1.class;
      reached = subst (λ (s : Stripe). Follows g.N.Named.config s j) (lent_state g c) (subst (λ (k : Config). Follows k lent.state j) c.requires.look.of did.0);
      known = subst (λ (s : Stripe). HasKeyOf (number s) g.N.Named.config class q → IsKnown class s q j) (lent_state g c) (known j did.0);
    })
    (λ err. err.0) (if_ok_both r _ _ did.follows did.settled) did.err
