use Rattle.std.proofs.Common.{◌∙◌, Err, Result, ap, inl, inr, refl, subst, sym}
use Rattle.mc_stripe.specs.{StripeCalls.KeepsSite, StripeState.Stripe}
use Rattle.mc_store.specs.{Callers.asked_for, Passes.CallerView, Passes.HasAsked, Sides.StripeSide}
use Rattle.mc_item.specs.declared.{answer.Site.Site, fault.Fault.Fault, fault.Fault.TheVariants.HistoryFull}
use Rattle.mc_pull.specs.declared.attempting.Replied.{Replied}
use Rattle.mc_store.proofs.{CallerLemmas.asked_called, UnderLockLemmas.searched_itself, UnderLockLemmas.site_itself}
use Rattle.mc_store.proofs.CommandEndLemmas.{ends_early, ends_made, ends_same, no_search}
use Rattle.mc_store.proofs.EnteredLemmas.{makes_none, no_stretch, tries_asked, tries_both, tries_heard}
use Rattle.mc_store.proofs.answering.answer_for.Goals as goal

pub returns-in-Made : goal.returns-in-Made
returns-in-Made g c =
    let config = g.N.Named.config in
    let command = c.args.task.command.now in
    let turn = c.args.task.turn in
    let own = c.args.own.now in
    let s = own.stripe in
    let made = rw c.in-Made.is at c.in_ok-replied.ensures.tried in
    ends_made config command turn own own made.alive (searched_itself config turn.who command turn.moment s s refl) (site_itself s) no_stretch c.try_home.new.own
    c.args.caller.now c.args.caller.now c.try_home.new.caller c.in-Made.replied c.law.ensures.made_with c.try_home.ensures.site
    (makes_none config command turn no_stretch own c.args.caller.now) (no_search config command turn own c.try_home.new.own) made

pub answer_at_home-requires-clause-called : goal.answer_at_home-requires-clause-called
answer_at_home-requires-clause-called g c =
    let config = g.N.Named.config in
    let command = c.args.task.command.now in
    let turn = c.args.task.turn in
    let tried = rw c.in-Wants.is at c.in_ok-replied.ensures.tried in
    let site = ap (λ (x : StripeSide). x.stripe.site) c.tell_stripe.ensures.stripe ∙ c.try_home.ensures.site.site in
    record {
      own = c.requires.called.own ∙ ap (λ (t : Site). record { 0 = t.stripe }) (sym site);
      asked = subst (λ (k : CallerView). HasAsked k turn.who command turn.moment) (sym c.tell_stripe.ensures.same) (tries_asked config turn command tried.1 c.requires.called.asked);
      early = c.requires.called.early;
    }

pub answer_want-requires-clause-called : goal.answer_want-requires-clause-called
answer_want-requires-clause-called g c =
    let tried = rw c.in-Wants.is at c.in_ok-replied.ensures.tried in
    record {
      own = c.requires.called.own ∙ ap (λ (t : Site). record { 0 = t.stripe }) (sym c.try_home.ensures.site.site);
      asked = tries_asked g.N.Named.config c.args.task.turn c.args.task.command.now tried.1 c.requires.called.asked;
      early = c.requires.called.early;
    }

pub returns-in_err-replied : goal.returns-in_err-replied
returns-in_err-replied g c =
    ends_early g.N.Named.config c.args.task.command.now c.args.task.turn c.args.own.now c.try_home.new.own c.args.caller.now c.try_home.new.caller c.from_residual.result
    c.in_err-replied.field-0.0 c.from_residual.ensures.1 c.try_home.ensures.site c.in_err-replied.ensures.err.0 c.in_err-replied.ensures.err.1
    (λ is. inl (c.try_home.ensures.full (c.in_err-replied.was ∙ ap Err is)))

pub answer_at_home-requires-clause-begun : goal.answer_at_home-requires-clause-begun
answer_at_home-requires-clause-begun g c =
    let command = c.args.task.command.now in
    let turn = c.args.task.turn in
    let tried = rw c.in-Wants.is at c.in_ok-replied.ensures.tried in
    let asked = tries_asked g.N.Named.config turn command tried.1 c.requires.called.asked in
    c.tell_stripe.ensures.begun turn.who turn.moment (asked_for command turn.moment) (asked_called c.try_home.new.caller turn.who command turn.moment asked)

pub returns-in-Place : goal.returns-in-Place
returns-in-Place g c =
    let config = g.N.Named.config in
    let tried = rw c.in-Wants.is at c.in_ok-replied.ensures.tried in
    let lacks = rw c.in-Place.is at tried.2 in
    let broken : Result Replied Fault = Err HistoryFull in
    ends_early config c.args.task.command.now c.args.task.turn c.args.own.now c.try_home.new.own c.args.caller.now c.try_home.new.caller broken HistoryFull refl
    c.try_home.ensures.site tried.0 tried.1 (λ is. inr (inr (inl lacks)))

pub returns-in-Room : goal.returns-in-Room
returns-in-Room g c =
    let config = g.N.Named.config in
    let command = c.args.task.command.now in
    let turn = c.args.task.turn in
    let own = c.args.own.now in
    let mid = c.try_home.new.own in
    let told = c.tell_stripe.new.stripe in
    let tried = rw c.in-Wants.is at c.in_ok-replied.ensures.tried in
    let at = c.answer_at_home in
    let is = ap (λ (x : StripeSide). x.stripe) c.tell_stripe.ensures.stripe in
    let heard = tries_heard config turn mid told c.tell_stripe.ensures.stripe c.tell_stripe.ensures.grows c.tell_stripe.ensures.same in
    ends_same config command turn own told (subst (λ (t : Stripe). KeepsSite own.stripe t) (sym is) c.try_home.ensures.site)
    c.args.caller.now c.tell_stripe.new.self
    (tries_both config turn own mid told c.try_home.ensures.site.site tried.1 heard) (ap (λ (t : Stripe). t.history) is ∙ tried.0) at.new.own at.new.caller at.result at.ensures

pub returns : goal.returns
returns g c =
    let config = g.N.Named.config in
    let command = c.args.task.command.now in
    let turn = c.args.task.turn in
    let mid = c.try_home.new.own in
    let tried = rw c.in-Wants.is at c.in_ok-replied.ensures.tried in
    let want = c.answer_want in
    ends_same config command turn c.args.own.now mid c.try_home.ensures.site c.args.caller.now c.try_home.new.caller tried.1 tried.0 want.new.own want.new.caller want.result want.ensures
