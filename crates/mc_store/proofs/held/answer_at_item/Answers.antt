use Rattle.std.proofs.Common.{◌∙◌, Err, Result, ap, inl, inr, refl}
use Rattle.std.specs.Prelude.{None, Some}
use Rattle.mc_item.specs.declared.{fault.Fault.Fault, fault.Fault.TheVariants.HistoryFull}
use Rattle.mc_pull.specs.declared.attempting.Replied.{Replied}
use Rattle.mc_store.proofs.{EnteredLemmas.makes_none, EnteredLemmas.no_stretch, HeldTryLemmas.wants_place}
use Rattle.mc_store.proofs.{CommandEndLemmas.ends_early, CommandEndLemmas.ends_made, CommandEndLemmas.no_search, UnderLockLemmas.searched_itself, UnderLockLemmas.site_itself}
use Rattle.mc_store.proofs.held.answer_at_item.Goals as goal

pub returns-in-Made : goal.returns-in-Made
returns-in-Made g c =
    let config = g.N.Named.config in
    let command = c.args.task.command.now in
    let own = c.args.own.now in
    let s = own.stripe in
    ends_made config command c.args.task.turn own own c.requires.suffice.alive (searched_itself config c.args.task.turn.who command c.args.task.turn.moment s s refl) (site_itself s)
    no_stretch c.try_other.new.own c.args.caller.now c.args.caller.now c.try_other.new.caller c.in-Made.replied c.law.ensures.made_with
    c.try_other.ensures.site (makes_none config command c.args.task.turn no_stretch own c.args.caller.now)
    (no_search config command c.args.task.turn own c.try_other.new.own) (rw c.in-Made.is at c.in_ok-replied.ensures.tried)

pub returns-in_err-replied : goal.returns-in_err-replied
returns-in_err-replied g c =
    ends_early g.N.Named.config c.args.task.command.now c.args.task.turn c.args.own.now c.try_other.new.own c.args.caller.now c.try_other.new.caller c.from_residual.result
    c.in_err-replied.field-0.0 c.from_residual.ensures.1 c.try_other.ensures.site c.in_err-replied.ensures.err.0 c.in_err-replied.ensures.err.1
    (λ is. inl (c.try_other.ensures.full (c.in_err-replied.was ∙ ap Err is)))

pub returns-in-Wants : goal.returns-in-Wants
returns-in-Wants g c =
    let config = g.N.Named.config in
    let command = c.args.task.command.now in
    let s = c.args.own.now.stripe in
    let tried = rw c.in-Wants.is at c.in_ok-replied.ensures.tried in
    let broken : Result Replied Fault = Err HistoryFull in
    ends_early config command c.args.task.turn c.args.own.now c.try_other.new.own c.args.caller.now c.try_other.new.caller broken HistoryFull refl c.try_other.ensures.site tried.0 tried.1
    (λ is. inr (inr (inl (wants_place config s c.try_other.new.own command c.args.task.turn.moment None (Some c.args.other.now.class.number) ⊥ c.requires.suffice c.in-Wants.field-0 tried.2
    (λ room. rw room at tried.2)))))
