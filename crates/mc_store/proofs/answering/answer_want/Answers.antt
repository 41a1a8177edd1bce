use Rattle.std.proofs.Common.{◌≡◌, ◌∙◌, ◌++◌, ℕ, Result, Err, Ok, ap, inl, inr, refl, sym, subst}
use Rattle.std.specs.Prelude.{None}
use Rattle.mc_item.specs.{Command.key_of, Measure.stripe_of, Stripe.IsAlive, declared.answer.Site.Site, declared.fault.Fault.Fault}
use Rattle.mc_stripe.specs.{Plan.dead_link, StripeCalls.KeepsSite, StripeState.Stripe, Trying.item_of}
use Rattle.mc_store.specs.{Callers.asked_for, Commands.burial, Held.Ends, Locked.HasBegunAs, Passes.CallerView, Passes.HasAsked, Sides.StripeSide}
use Rattle.mc_store.proofs.{CallerLemmas.asked_called, CallerLemmas.begun_as_sees, CommandLemmas.buried_alive, CommandLemmas.not_dead, HeldTryLemmas.made_alone}
use Rattle.mc_store.proofs.{HeldTryLemmas.some_none, ShortHistoryLemmas.stripe_made, UnderLockLemmas.searched_itself, UnderLockLemmas.site_itself}
use Rattle.mc_store.proofs.CommandEndLemmas.{buried_now, ends_broken, ends_buried, ends_early, ends_made, ends_same, no_search}
use Rattle.mc_store.proofs.EnteredLemmas.{heard_buried, makes_buried, makes_none, no_stretch, tries_asked, tries_heard}
use Rattle.mc_pull.specs.declared.attempting.Replied.{Replied}
use Rattle.mc_store.proofs.answering.answer_want.Given.{Over}
use Rattle.mc_store.proofs.answering.answer_want.Goals as goal
use Rattle.mc_store.proofs.answering.answer_want.Goals.{After-tell_stripe, After-try_alone}

-- what the caller called for, the stripe was told
begun : (g : Over) (c : After-tell_stripe g) → HasBegunAs g.N.Named.config c.tell_stripe.new.stripe.sight c.args.task.turn.who c.args.task.turn.moment (asked_for c.args.task.command.now c.args.task.turn.moment)
begun g c = c.tell_stripe.ensures.begun c.args.task.turn.who c.args.task.turn.moment (asked_for c.args.task.command.now c.args.task.turn.moment)
    (asked_called c.args.caller.now c.args.task.turn.who c.args.task.command.now c.args.task.turn.moment c.requires.called.asked)

asked : (g : Over) (c : After-tell_stripe g) → HasAsked c.tell_stripe.new.self c.args.task.turn.who c.args.task.command.now c.args.task.turn.moment
asked g c = subst (λ (k : CallerView). HasAsked k c.args.task.turn.who c.args.task.command.now c.args.task.turn.moment) (sym c.tell_stripe.ensures.same) c.requires.called.asked

-- the key's item was dead, and was buried
module _ (g : Over) (c : After-try_alone g) where
  site : KeepsSite c.args.own.now.stripe c.bury.new.own.stripe
  site = subst (λ (t : Stripe). KeepsSite t c.bury.new.own.stripe) (ap (λ (x : StripeSide). x.stripe) c.tell_stripe.ensures.stripe) c.bury.ensures.same.0

  buried : c.bury.new.own.stripe.history ≡ c.args.own.now.stripe.history
      ++ burial c.args.task.turn.who (key_of c.args.task.command.now) c.args.task.turn.moment (dead_link (item_of c.args.own.now.stripe c.args.task.command.now) c.args.task.turn.moment)
  buried = buried_now c.args.own.now.stripe c.tell_stripe.new.stripe.stripe c.bury.new.own.stripe c.args.task.turn.who c.args.task.command.now c.args.task.turn.moment c.in-Burial.link
      (key_of c.args.task.command.now) (ap (λ (x : StripeSide). x.stripe) c.tell_stripe.ensures.stripe) refl (rw c.in-Burial.is at c.requires.wants) c.in_ok-bury-in-Burial.ensures.lost

  alive : IsAlive (item_of c.bury.new.own.stripe c.args.task.command.now) c.args.task.turn.moment
  alive = buried_alive c.args.own.now.stripe c.bury.new.own.stripe c.args.task.turn.who c.args.task.command.now c.args.task.turn.moment site buried

  -- the command ends as it ends behind that
  ends : (end : StripeSide) (caller : CallerView) (r : Result Replied Fault) → Ends g.N.Named.config c.bury.new.own end c.bury.new.caller caller c.args.task.command.now c.args.task.turn r
      → Ends g.N.Named.config c.args.own.now end c.args.caller.now caller c.args.task.command.now c.args.task.turn r
  ends = ends_buried g.N.Named.config c.args.task.command.now c.args.task.turn c.args.own.now c.bury.new.own site c.args.caller.now c.bury.new.caller c.in-Burial.link
      (rw c.in-Burial.is at c.requires.wants) (heard_buried g.N.Named.config c.args.task.turn c.args.own.now c.tell_stripe.new.stripe c.bury.new.own c.in-Burial.link c.tell_stripe.ensures.stripe
      c.tell_stripe.ensures.grows c.tell_stripe.ensures.same c.bury.ensures.same.1) buried

pub answer_with-requires-clause-begun : goal.answer_with-requires-clause-begun
answer_with-requires-clause-begun g c = begun g (goal.at.answer_with-requires-clause-begun g c).After-tell_stripe

pub bury-requires-clause-begun : goal.bury-requires-clause-begun
bury-requires-clause-begun g c = record { command = c.args.task.command.now; begun = begun g (goal.at.bury-requires-clause-begun g c).After-tell_stripe }

pub bury-requires-clause-caller : goal.bury-requires-clause-caller
bury-requires-clause-caller g c = c.requires.called.asked.number ∙ ap (λ (k : CallerView). k.number) (sym c.tell_stripe.ensures.same)

pub try_alone-requires-clause-asked : goal.try_alone-requires-clause-asked
try_alone-requires-clause-asked g c = tries_asked g.N.Named.config c.args.task.turn c.args.task.command.now c.bury.ensures.same.1 (asked g (goal.at.try_alone-requires-clause-asked g c).After-tell_stripe)

pub try_alone-requires-clause-may : goal.try_alone-requires-clause-may
try_alone-requires-clause-may g c =
    let key = key_of c.args.task.command.now in
    let site : c.bury.new.own.stripe.site ≡ c.args.own.now.stripe.site = c.bury.ensures.same.0.site ∙ ap (λ (x : StripeSide). x.stripe.site) c.tell_stripe.ensures.stripe in
    record {
      stripe = subst (λ (t : Site). stripe_of key t.stripes ≡ record { 0 = t.stripe }) (sym site) (ap (λ (n : ℕ). stripe_of key n) c.law.ensures.made_with.stripes ∙ c.requires.called.own);
      moment = c.requires.called.early;
      distinct = tt;
      met = tt;
      refused = None;
      offered = record { home = tt; other = tt; each = tt };
    }

pub returns-in-Classes : goal.returns-in-Classes
returns-in-Classes g c =
    let own = c.args.own.now in
    let told = ap (λ (x : StripeSide). x.stripe) c.tell_stripe.ensures.stripe in
    let with = c.answer_with in
    ends_same g.N.Named.config c.args.task.command.now c.args.task.turn own c.tell_stripe.new.stripe (subst (λ (t : Stripe). KeepsSite own.stripe t) (sym told) (site_itself own.stripe))
    c.args.caller.now c.tell_stripe.new.self (tries_heard g.N.Named.config c.args.task.turn own c.tell_stripe.new.stripe c.tell_stripe.ensures.stripe c.tell_stripe.ensures.grows
    c.tell_stripe.ensures.same) (ap (λ (t : Stripe). t.history) told) with.new.own with.new.caller with.result with.ensures

pub returns-in_err-bury-in-Burial : goal.returns-in_err-bury-in-Burial
returns-in_err-bury-in-Burial g c =
    let own = c.args.own.now in
    let end = c.bury.new.own in
    let link = c.in-Burial.link in
    let told = ap (λ (x : StripeSide). x.stripe) c.tell_stripe.ensures.stripe in
    let dead = rw c.in-Burial.is at c.requires.wants in
    ends_broken g.N.Named.config c.args.task.command.now c.args.task.turn own end c.args.caller.now c.bury.new.caller c.from_residual.result c.in_err-bury-in-Burial.field-0.0 c.from_residual.ensures.1
    (subst (λ (t : Stripe). KeepsSite t end.stripe) told c.bury.ensures.same.0) (c.in_err-bury-in-Burial.ensures.err ∙ ap (λ (t : Stripe). t.history) told)
    (makes_buried g.N.Named.config c.args.task.command.now c.args.task.turn no_stretch own end link dead
    (heard_buried g.N.Named.config c.args.task.turn own c.tell_stripe.new.stripe end link c.tell_stripe.ensures.stripe c.tell_stripe.ensures.grows c.tell_stripe.ensures.same c.bury.ensures.same.1))
    (λ is. inr (inl (record { link = link; dead = dead; lacks = c.bury.ensures.full (c.in_err-bury-in-Burial.was ∙ ap Err is) })))

pub returns-in_err-replied-in-Burial : goal.returns-in_err-replied-in-Burial
returns-in_err-replied-in-Burial g c =
    let end = c.try_alone.new.own in
    let caller = c.try_alone.new.caller in
    let r = c.from_residual-in_err-replied-in-Burial.result in
    ends g (goal.at.returns-in_err-replied-in-Burial g c).After-try_alone end caller r
    (ends_early g.N.Named.config c.args.task.command.now c.args.task.turn c.bury.new.own end c.bury.new.caller caller r c.in_err-replied-in-Burial.field-0.0
    c.from_residual-in_err-replied-in-Burial.ensures.1 c.try_alone.ensures.site c.in_err-replied-in-Burial.ensures.err c.in_err-replied-in-Burial.ensures.unnoted
    (λ is. inl (c.try_alone.ensures.full (c.in_err-replied-in-Burial.was ∙ ap Err is))))

pub answer_with-requires-in-Classes-left-clause-begun : goal.answer_with-requires-in-Classes-left-clause-begun
answer_with-requires-in-Classes-left-clause-begun g c =
    let turn = c.args.task.turn in
    let call = asked_for c.args.task.command.now turn.moment in
    begun_as_sees g.N.Named.config c.bury.new.own.sight c.try_alone.new.own.sight turn.who turn.moment call c.try_alone.ensures.sees
    (begun_as_sees g.N.Named.config c.tell_stripe.new.stripe.sight c.bury.new.own.sight turn.who turn.moment call c.bury.ensures.sees
    (begun g (goal.at.answer_with-requires-in-Classes-left-clause-begun g c).After-tell_stripe))

pub answer_with-requires-in-Classes-left-clause-called : goal.answer_with-requires-in-Classes-left-clause-called
answer_with-requires-in-Classes-left-clause-called g c =
    let at = goal.at.answer_with-requires-in-Classes-left-clause-called g c in
    let behind = tries_asked g.N.Named.config c.args.task.turn c.args.task.command.now c.bury.ensures.same.1 (asked g at.After-tell_stripe) in
    record {
      own = c.requires.called.own ∙ ap (λ (t : Site). record { 0 = t.stripe }) (sym (c.try_alone.ensures.site.site ∙ (site g at.After-try_alone).site));
      asked = tries_asked g.N.Named.config c.args.task.turn c.args.task.command.now (rw c.in-Wants.is at c.in_ok-replied-in-Burial.ensures.tried).1 behind;
      early = c.requires.called.early;
    }

pub unreachable-requires : goal.unreachable-requires
unreachable-requires g c =
    some_none c.in-Burial-left.field-0 _ (rw c.in-Burial-left.is at (rw c.in-Wants.is at c.in_ok-replied-in-Burial.ensures.tried).3)
    (not_dead (item_of c.bury.new.own.stripe c.args.task.command.now) c.args.task.turn.moment (alive g (goal.at.unreachable-requires g c).After-try_alone))

pub returns-in-Made : goal.returns-in-Made
returns-in-Made g c =
    let at = (goal.at.returns-in-Made g c).After-try_alone in
    let config = g.N.Named.config in
    let command = c.args.task.command.now in
    let turn = c.args.task.turn in
    let own = c.bury.new.own in
    let end = c.try_alone.new.own in
    let k = c.bury.new.caller in
    ends g at end c.try_alone.new.caller (Ok c.in-Made.replied)
    (ends_made config command turn own own (alive g at) (searched_itself config turn.who command turn.moment own.stripe own.stripe refl) (site_itself own.stripe) no_stretch end k k
    c.try_alone.new.caller c.in-Made.replied (stripe_made config c.args.own.now.stripe own.stripe (site g at) c.law.ensures.made_with) c.try_alone.ensures.site (makes_none config command turn no_stretch own k)
    (no_search config command turn own end) (made_alone config own end k c.try_alone.new.caller command turn c.in-Made.replied (rw c.in-Made.is at c.in_ok-replied-in-Burial.ensures.tried)))

pub returns-in-Classes-left : goal.returns-in-Classes-left
returns-in-Classes-left g c =
    let tried = rw c.in-Wants.is at c.in_ok-replied-in-Burial.ensures.tried in
    let with = c.answer_with-in-Classes-left in
    ends g (goal.at.returns-in-Classes-left g c).After-try_alone with.new.own with.new.caller with.result
    (ends_same g.N.Named.config c.args.task.command.now c.args.task.turn c.bury.new.own c.try_alone.new.own c.try_alone.ensures.site c.bury.new.caller c.try_alone.new.caller tried.1 tried.0
    with.new.own with.new.caller with.result with.ensures)
