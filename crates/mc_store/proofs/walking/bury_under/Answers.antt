use Rattle.std.proofs.Common.{◌≡◌, ◌≤◌, ◌⊎◌, length, ◌++◌, ◌∷◌, [], List, Some, ap, refl, sym, subst, ◌∙◌, rules}
use Rattle.mc_item.specs.Command.{key_of}
use Rattle.mc_item.specs.declared.{fault.Fault.TheVariants.HistoryFull, stripe_event.Cause.TheVariants.Expired, stripe_event.StripeEvent.StripeEvent}
use Rattle.mc_item.specs.declared.item.ClassNo.{ClassNo}
use Rattle.mc_segment.specs.ClassState.{ClassView}
use Rattle.mc_stripe.specs.{Plan.dead_link, StripeCalls.KeepsSite, StripeState.Stripe, StripeState.cache_now}
use Rattle.mc_pull.specs.Growth as growth
use Rattle.mc_pull.specs.{Agreeing.AgreeNow, Question.question, Refusal.MayFail, Settled.lost_event, Settled.done_stripe_events}
use Rattle.mc_pull.specs.declared.{judge.Done.Done, judge.Judge.TheVariants.Dead}
use Rattle.mc_pull.specs.declared.judge.Done.{Done}
use Rattle.mc_pull.proofs.OneStripeGateLemmas.{settle_walked}
use Rattle.mc_store.proofs.{DeadEntryLemmas.dead_listed, DeadEntryLemmas.dead_reclaimed, DeadEntryLemmas.told_dead, ShortHistoryLemmas.err_is, OwnEventLemmas.GainsFit, OwnEventLemmas.gains_settled}
use Rattle.mc_store.proofs.{OwnEventLemmas.locked_told, CallerLemmas.command_any, CallerLemmas.command_sees, LockKeepsLemmas.grows_trans}
use Rattle.mc_store.specs.{Accounts.IsClassLock, Accounts.RemovesDead, Passes.CallerView, Sides.ClassSide, Sides.StripeSide, Sides.stripe_told, Full.LacksPlaces, Serving.class_side, Trying.StillBuries}
use Rattle.mc_store.specs.Locked.{HasBegunCommand, IsHeldClass, IsLockedClass, IsLockedStripe, class_lock}
use Rattle.mc_store.proofs.EnteredLemmas.{all_from, heard_buried, is_class_lock, pair_buried, removes_settled}
use Rattle.mc_store.specs.declared.locked.LockedStripe.TheInside as stripes
use Rattle.mc_store.specs.declared.owned_class.OwnedClass.TheInside as owned_classes
use Rattle.mc_store.specs.declared.owned_stripe.OwnedStripe.TheInside as owned_stripes
use Rattle.mc_store.specs.declared.locked.LockedClass.TheInside as classes
use Rattle.mc_store.proofs.SyncedStepLemmas.{class_paired, class_told_more, grows_paired, settled_grows, settled_told, short_paired, sight_paired, stripe_paired, stripe_side}
use Rattle.mc_pull.specs.Walker.{walker_of}
use Rattle.mc_store.proofs.OwnCallLemmas.{class_settled_by, stripe_walked_by}
use Rattle.mc_board.specs.Histories.{Grows}
use Rattle.mc_store.proofs.walking.bury_under.Given.{Over}
use Rattle.mc_store.proofs.walking.bury_under.Goals as goal
use Rattle.mc_store.proofs.walking.bury_under.Goals.{After-learn}

-- the stripe and the class under their locks, by their parts
module _ (g : Over) (c : After-learn g) where
  abbrev own : owned_stripes.Inside
  own = c.own-inside.inside.0.0

  abbrev lent : owned_classes.Inside
  lent = c.class-inside.inside.0.0

  own_is : stripe_side own.owner own.seen own.state ≡ c.own.inside.side
  own_is = ap (λ (l : stripes.Inside g.row.N.Denot). l.side) c.own-inside.view_is

  class_is : class_side lent.owner lent.seen lent.state ≡ c.class.inside.side
  class_is = ap (λ (l : classes.Inside g.row.N.Denot). l.side) c.class-inside.view_is

  -- as they were once each had been told of the other
  met_own : stripe_side own.owner own.seen own.state ≡ c.meet.new.own
  met_own = own_is ∙ c.own.view_is

  met_class : class_side lent.owner lent.seen lent.state ≡ c.meet.new.lent
  met_class = class_is ∙ c.class.view_is

  agree : AgreeNow lent.state own.state
  agree =
      subst (λ (x : StripeSide). AgreeNow lent.state x.stripe) (sym met_own) (subst (λ (x : ClassSide). AgreeNow x.class c.meet.new.own.stripe) (sym met_class) c.meet.ensures.met)

  -- the class is the link's
  number : c.args.link.class ≡ lent.state.number
  number = sym c.requires.class ∙ sym (ap (λ (x : ClassSide). x.class.number) (met_class ∙ c.meet.ensures.lent))

  -- and the stripe knows that the command was begun
  begun : HasBegunCommand g.N.Named.config own.seen.sight c.args.task.turn.who c.args.task.turn.moment
  begun =
      subst (λ (x : StripeSide). HasBegunCommand g.N.Named.config x.sight c.args.task.turn.who c.args.task.turn.moment) (sym met_own)
      (command_sees _ _ _ _ _ c.meet.ensures.grows c.requires.begun.0)

  -- what the step did to the class
  grows : growth.GainsEvents lent.state c.settle-done.new.class
  grows = settled_grows (λ (d : Done). d) _ _ _ _ _ c.settle-done.result c.settle-done.ensures.settled c.settle-done.ensures.err

  own_last : c.learn.new.stripe ≡ c.hear.new.self
  own_last = c.learn.ensures.stripe ∙ c.hear-2.ensures.stripe

  -- told of each other once more, both are as their locks keep them
  class_held : IsHeldClass g.N.Named.board.table g.N.Named.config c.hear-2.new.self
  class_held =
      let did = c.settle-done.ensures in
      class_paired _ _ _ _ c.own.invariant c.class.invariant.held _ own.owner own.seen own_is _ lent.owner lent.seen class_is agree _ _ did.keeps.site grows c.history-2.ensures.legal c.law-2.ensures.lawful
      did.keeps.agreement did.keeps.sight _ c.catch_up_stripe.ensures.told _ c.catch_up_class.ensures.told _ _ _ _ c.hear.ensures.class c.hear.ensures.told c.hear.ensures.grows own_last c.hear-2.ensures.told
      c.hear-2.ensures.grows

  own_kept : IsLockedStripe g.N.Named.board.table g.N.Named.config c.learn.new.stripe
  own_kept =
      let did = c.settle-done.ensures in
      let walked = settle_walked _ _ _ _ _ did.keeps.site did.keeps.agreement (λ (d : Done). d) c.settle-done.result did.settled did.err in
      stripe_paired _ _ _ _ c.own.invariant c.class.invariant.held _ own.owner own.seen own_is _ lent.owner lent.seen class_is agree _ _ did.keeps.site grows c.history-2.ensures.legal c.law-2.ensures.lawful
      did.keeps.agreement did.keeps.sight _ c.catch_up_stripe.ensures.told _ c.catch_up_class.ensures.told _ _ _ _ c.hear.ensures.class c.hear.ensures.told c.hear.ensures.grows own_last c.hear-2.ensures.told
      c.hear-2.ensures.grows _ (command_any _ _ _ _ begun) walked.grows

  class_kept : IsLockedClass g.N.Named.board.table g.N.Named.config c.learn.new.self
  class_kept =
      let did = c.settle-done.ensures in
      let turn = c.args.task.turn in
      let told = grows_trans _ _ _ c.hear.ensures.grows (subst (λ (x : StripeSide). Grows x.sight c.learn.new.self.sight) c.hear-2.ensures.stripe c.learn.ensures.learnt) in
      let asked = command_sees _ own.seen.sight c.learn.new.self.sight turn.who turn.moment told begun in
      let gains = gains_settled asked.command _ _ _ _ turn.who c.args.link.number turn.moment c.settle-done.result did.done did.settled did.err in
      locked_told _ _ (class_side lent.owner lent.seen lent.state) c.hear.new.class c.hear-2.new.self c.learn.new.self turn.who turn.moment
      (subst (IsLockedClass g.N.Named.board.table g.N.Named.config) (sym class_is) c.class.invariant) asked
      (subst (λ (v : ClassView). GainsFit turn.who turn.moment asked.command lent.state.history v.history) (sym (ap (λ (x : ClassSide). x.class) c.hear.ensures.class)) gains)
      (ap (λ (x : ClassSide). x.class.number) c.hear.ensures.class ∙ ap (λ (v : ClassView). v.number) grows.same)
      (ap (λ (x : ClassSide). x.sight) c.hear.ensures.class) (ap (λ (x : ClassSide). x.class) c.hear-2.ensures.told) c.hear-2.ensures.grows class_held c.learn.ensures.class c.learn.ensures.grows

  -- the caller's account gained only events of this stripe, and that the item's entry was removed
  buries : KeepsSite c.args.own.now.stripe c.learn.new.stripe.stripe × StillBuries g.N.Named.config c.args.link c.args.task.turn c.args.own.now c.learn.new.stripe c.args.caller.now c.catch_up_class.new.self
  buries =
      let config = g.N.Named.config in
      let turn = c.args.task.turn in
      let did = c.settle-done.ensures in
      let link = c.args.link in
      let longer = settled_told (λ (d : Done). d) _ _ _ _ _ c.settle-done.result did.settled did.err (stripe_told own.state.history) refl in
      let sight = sight_paired _ _ _ _ c.own.invariant c.class.invariant.held _ own.owner own.seen own_is _ lent.owner lent.seen class_is agree _ _ did.keeps.site grows c.history-2.ensures.legal c.law-2.ensures.lawful
      did.keeps.agreement did.keeps.sight _ c.catch_up_stripe.ensures.told _ c.catch_up_class.ensures.told _ _ _ _ c.hear.ensures.class c.hear.ensures.told c.hear.ensures.grows own_last c.hear-2.ensures.told
      c.hear-2.ensures.grows in
      let larger = grows_paired _ _ _ _ c.own.invariant c.class.invariant.held _ own.owner own.seen own_is _ lent.owner lent.seen class_is agree _ _ did.keeps.site grows c.history-2.ensures.legal c.law-2.ensures.lawful
      did.keeps.agreement did.keeps.sight _ c.catch_up_stripe.ensures.told _ c.catch_up_class.ensures.told _ _ _ _ c.hear.ensures.class c.hear.ensures.told c.hear.ensures.grows own_last c.hear-2.ensures.told
      c.hear-2.ensures.grows longer in
      let held = subst (IsHeldClass g.N.Named.board.table config) (sym class_is) c.class.invariant.held in
      let of : IsClassLock config lent.owner.lock = subst (IsClassLock config) (sym held.lock_is) (is_class_lock config lent.state.number held.is) in
      let gains = removes_settled _ _ _ _ turn.who link.number turn.moment c.settle-done.result did.done did.settled did.err in
      let still = pair_buried config turn c.own.inside.side c.learn.new.stripe link own.owner.lock (length own.owner.history) c.settle-done.new.stripe.history lent.owner.lock (length lent.owner.history)
      c.settle-done.new.class.history own.seen.sight c.catch_up_stripe.ensures.entered c.catch_up_class.ensures.entered (ap (λ (x : StripeSide). x.lock) own_is ∙ c.own.invariant.lock_is) c.own.invariant.of of
      (held.lock_is ∙ ap (λ (n : ClassNo). class_lock config n) (sym number)) sight larger
      (all_from (RemovesDead link.number) lent.state.history c.settle-done.new.class.history gains lent.owner.history c.class-inside.invariant.0) in
      let met = subst (λ (x : StripeSide). StillBuries config link turn x c.learn.new.stripe c.args.caller.now c.catch_up_class.new.self) c.own.view_is still in
      (search rules, heard_buried config turn c.args.own.now c.meet.new.own c.learn.new.stripe link c.meet.ensures.own c.meet.ensures.grows refl met)

  -- and the stripe has seen no less than before
  sees : Grows c.args.own.now.sight c.learn.new.stripe.sight
  sees =
      subst (λ (x : StripeSide). Grows c.args.own.now.sight x.sight) (sym own_last)
      (grows_trans _ _ _ c.meet.ensures.grows (subst (λ (x : StripeSide). Grows x.sight c.hear.new.self.sight) met_own c.hear.ensures.grows))

pub settle-done-requires-clause-judge : goal.settle-done-requires-clause-judge
settle-done-requires-clause-judge g c =
    let own = c.own-inside.inside.0.0.state in
    let lent = c.class-inside.inside.0.0.state in
    let key = key_of c.args.task.command.now in
    let moment = c.args.task.turn.moment in
    let own_is : own ≡ c.meet.new.own.stripe = ap (λ (l : stripes.Inside g.row.N.Denot). l.side.stripe) c.own-inside.view_is ∙ ap (λ (x : StripeSide). x.stripe) c.own.view_is in
    let lent_is : lent ≡ c.meet.new.lent.class = ap (λ (l : classes.Inside g.row.N.Denot). l.side.class) c.class-inside.view_is ∙ ap (λ (x : ClassSide). x.class) c.class.view_is in
    let agree = subst (λ (s : Stripe). AgreeNow lent s) (sym own_is) (subst (λ (v : ClassView). AgreeNow v c.meet.new.own.stripe) (sym lent_is) c.meet.ensures.met) in
    let under = subst (λ (s : Stripe). dead_link ((cache_now s).items key) moment ≡ Some c.args.link) (sym (own_is ∙ ap (λ (x : StripeSide). x.stripe) c.meet.ensures.own)) c.requires.dead in
    let number = sym c.requires.class ∙ sym (ap (λ (v : ClassView). v.number) (lent_is ∙ ap (λ (x : ClassSide). x.class) c.meet.ensures.lent)) in
    dead_listed lent own key moment c.args.link (told_dead key own moment c.args.link under) number c.history.ensures.legal c.law.ensures.lawful agree

pub catch_up_stripe-requires-clause-behind : goal.catch_up_stripe-requires-clause-behind
catch_up_stripe-requires-clause-behind g c =
    settled_told (λ (d : Done). d) _ _ _ _ _ c.settle-done.result c.settle-done.ensures.settled c.settle-done.ensures.err c.own-inside.inside.0.0.owner.history c.own-inside.invariant.0

pub catch_up_class-requires-clause-behind : goal.catch_up_class-requires-clause-behind
catch_up_class-requires-clause-behind g c =
    let grows = settled_grows (λ (d : Done). d) _ _ _ _ _ c.settle-done.result c.settle-done.ensures.settled c.settle-done.ensures.err in
    class_told_more _ _ c.class-inside.inside.0.0.owner.history grows c.class-inside.invariant.0

pub catch_up_stripe-requires-clause-by : goal.catch_up_stripe-requires-clause-by
catch_up_stripe-requires-clause-by g c =
    let did = c.settle-done.ensures in
    let walked = settle_walked _ _ _ _ _ did.keeps.site did.keeps.agreement (λ (d : Done). d) c.settle-done.result did.settled did.err in
    stripe_walked_by (walker_of c.class-inside.inside.0.0.state c.args.task.turn.who c.args.task.turn.moment) c.own-inside.inside.0.0.owner.history _ _ c.own-inside.invariant.0 walked.grows

pub catch_up_class-requires-clause-by : goal.catch_up_class-requires-clause-by
catch_up_class-requires-clause-by g c =
    class_settled_by (λ (d : Done). d) _ _ _ _ _ c.settle-done.result c.settle-done.ensures.settled c.settle-done.ensures.err c.class-inside.inside.0.0.owner.history c.class-inside.invariant.0

pub catch_up_class-requires-clause-caller : goal.catch_up_class-requires-clause-caller
catch_up_class-requires-clause-caller g c = c.requires.begun.1 ∙ sym (ap (λ (k : CallerView). k.number) c.catch_up_stripe.ensures.entered)

pub returns-in_err-done-clause-same : goal.returns-in_err-done-clause-same
returns-in_err-done-clause-same g c = buries g (goal.at.returns-in_err-done-clause-same g c).After-learn

pub returns-clause-same : goal.returns-clause-same
returns-clause-same g c = buries g (goal.at.returns-clause-same g c).After-learn

pub invariant_of-own : goal.invariant_of-own
invariant_of-own g c = own_kept g (goal.at.invariant_of-own g c).After-learn

pub invariant_of-own-2 : goal.invariant_of-own-2
invariant_of-own-2 g c = own_kept g (goal.at.invariant_of-own-2 g c).After-learn

pub invariant_of-class : goal.invariant_of-class
invariant_of-class g c = class_kept g (goal.at.invariant_of-class g c).After-learn

pub invariant_of-class-2 : goal.invariant_of-class-2
invariant_of-class-2 g c = class_kept g (goal.at.invariant_of-class-2 g c).After-learn

pub returns-in_err-done-clause-sees : goal.returns-in_err-done-clause-sees
returns-in_err-done-clause-sees g c = sees g (goal.at.returns-in_err-done-clause-sees g c).After-learn

pub returns-clause-sees : goal.returns-clause-sees
returns-clause-sees g c = sees g (goal.at.returns-clause-sees g c).After-learn

pub returns-in_err-done-clause-full : goal.returns-in_err-done-clause-full
returns-in_err-done-clause-full g c = λ is.
    let at = (goal.at.returns-in_err-done-clause-full g c).After-learn in
    let kept = c.settle-done.ensures.keeps in
    let own = c.own-inside.inside.0.0 in
    let lent = c.class-inside.inside.0.0 in
    let same : c.in_err-done.field-0.0 ≡ HistoryFull = err_is c.in_err-done.field-0.0 _ c.from_residual.ensures.1 is in
    let end = c.learn.new.stripe in
    subst (λ (n : ClassNo). (end.stripe.limit ≤ length end.stripe.history) ⊎ LacksPlaces g.N.Named.config end.sight n 1) (sym (number g at))
    (short_paired _ _ _ _ c.own.invariant c.class.invariant.held _ own.owner own.seen (own_is g at) _ lent.owner lent.seen (class_is g at) (agree g at) _ _ kept.site (grows g at) c.history-2.ensures.legal
    c.law-2.ensures.lawful kept.agreement kept.sight _ c.catch_up_stripe.ensures.told _ c.catch_up_class.ensures.told _ _ _ _ c.hear.ensures.class c.hear.ensures.told c.hear.ensures.grows (own_last g at)
    c.hear-2.ensures.told c.hear-2.ensures.grows (subst (MayFail c.settle-done.new.class c.settle-done.new.stripe) same c.in_err-done.ensures.refusal.full))

pub returns-clause-lost : goal.returns-clause-lost
returns-clause-lost g c =
    let at = (goal.at.returns-clause-lost g c).After-learn in
    let key = key_of c.args.task.command.now in
    let turn = c.args.task.turn in
    let old : (own g at).state ≡ c.args.own.now.stripe = ap (λ (x : StripeSide). x.stripe) (met_own g at ∙ c.meet.ensures.own) in
    let under : dead_link ((cache_now (own g at).state).items key) turn.moment ≡ Some c.args.link = rw old c.requires.dead in
    let dead = told_dead key (own g at).state turn.moment c.args.link under in
    let made = dead_reclaimed (lent g at).state (own g at).state key turn.moment c.args.link dead (number g at) c.history.ensures.legal c.law.ensures.lawful (agree g at) turn.who in
    let last : c.learn.new.stripe.stripe ≡ c.settle-done.new.stripe = ap (λ (x : StripeSide). x.stripe) (own_last g at ∙ c.hear.ensures.told) in
    ap (λ (s : Stripe). s.history) last
    ∙ (c.in_ok-done.ensures.settled.stripe
    ∙ (ap (λ (es : List StripeEvent). (own g at).state.history ++ es)
    (ap (λ (d : Done). done_stripe_events (lent g at).state (question turn.who c.args.link.number Dead turn.moment) d) (c.in_ok-done.ensures.done ∙ made.0) ∙ made.1)
    ∙ ap (λ (s : Stripe). s.history ++ lost_event turn.who key (Expired turn.moment) ∷ []) old))
