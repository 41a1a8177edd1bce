use Rattle.std.proofs.Common.{◌∙◌, Err, ℕ, ap, inl, refl, sym}
use Rattle.std.specs.Prelude.{None}
use Rattle.mc_item.specs.{Command.key_of, Measure.stripe_of}
use Rattle.mc_item.specs.declared.answer.Site.{Site}
use Rattle.mc_store.proofs.CommandEndLemmas.{ends_early, ends_made, ends_same, no_search}
use Rattle.mc_store.proofs.{HeldTryLemmas.made_alone, UnderLockLemmas.searched_itself, UnderLockLemmas.site_itself}
use Rattle.mc_store.proofs.EnteredLemmas.{makes_none, no_stretch, tries_asked}
use Rattle.mc_store.proofs.answering.answer.Goals as goal

pub try_alone-requires-clause-may : goal.try_alone-requires-clause-may
try_alone-requires-clause-may g c = record {
  stripe = ap (λ (n : ℕ). stripe_of (key_of c.args.task.command.now) n) c.law.ensures.made_with.stripes ∙ c.requires.called.own;
  moment = c.requires.called.early;
  distinct = tt;
  met = tt;
  refused = None;
  offered = record { home = tt; other = tt; each = tt };
}

pub answer_want-requires-clause-called : goal.answer_want-requires-clause-called
answer_want-requires-clause-called g c =
    let tried = rw c.in-Wants.is at c.in_ok-replied.ensures.tried in
    record {
      own = c.requires.called.own ∙ ap (λ (t : Site). record { 0 = t.stripe }) (sym c.try_alone.ensures.site.site);
      asked = tries_asked g.N.Named.config c.args.task.turn c.args.task.command.now tried.1 c.requires.called.asked;
      early = c.requires.called.early;
    }

pub returns-in_err-replied : goal.returns-in_err-replied
returns-in_err-replied g c =
    ends_early g.N.Named.config c.args.task.command.now c.args.task.turn c.args.own.now c.try_alone.new.own c.args.caller.now c.try_alone.new.caller c.from_residual.result
    c.in_err-replied.field-0.0 c.from_residual.ensures.1 c.try_alone.ensures.site c.in_err-replied.ensures.err c.in_err-replied.ensures.unnoted
    (λ is. inl (c.try_alone.ensures.full (c.in_err-replied.was ∙ ap Err is)))

pub returns-in-Made : goal.returns-in-Made
returns-in-Made g c =
    let config = g.N.Named.config in
    let command = c.args.task.command.now in
    let turn = c.args.task.turn in
    let own = c.args.own.now in
    let s = own.stripe in
    let tried = rw c.in-Made.is at c.in_ok-replied.ensures.tried in
    ends_made config command turn own own tried.uses.alive (searched_itself config turn.who command turn.moment s s refl) (site_itself s) no_stretch c.try_alone.new.own
    c.args.caller.now c.args.caller.now c.try_alone.new.caller c.in-Made.replied c.law.ensures.made_with c.try_alone.ensures.site (makes_none config command turn no_stretch own c.args.caller.now)
    (no_search config command turn own c.try_alone.new.own)
    (made_alone config own c.try_alone.new.own c.args.caller.now c.try_alone.new.caller command turn c.in-Made.replied tried)

pub returns-in-Wants : goal.returns-in-Wants
returns-in-Wants g c =
    let config = g.N.Named.config in
    let command = c.args.task.command.now in
    let turn = c.args.task.turn in
    let mid = c.try_alone.new.own in
    let tried = rw c.in-Wants.is at c.in_ok-replied.ensures.tried in
    let want = c.answer_want in
    ends_same config command turn c.args.own.now mid c.try_alone.ensures.site c.args.caller.now c.try_alone.new.caller tried.1 tried.0 want.new.own want.new.caller want.result want.ensures
