use Rattle.std.proofs.Common.{◌≡◌, List, ap, ◌∙◌, subst}
use Rattle.mc_item.specs.declared.event.Event.{Event}
use Rattle.mc_board.specs.{Accounts.IsAccount, Histories.list_at, Histories.with_seen, Views.SeenView}
use Rattle.mc_board.specs.declared.rule.Sight.{Sight}
use Rattle.mc_store.specs.{Finals.AreEntered, Locked.caller_place, Locked.locks_for, Passes.CallerView, Sides.ClassSide, Sides.class_told}
use Rattle.mc_store.proofs.ClosedCallLemmas.{entered_of}
use Rattle.mc_store.proofs.comparing.compare_class_call.Goals as goal

pub returns-clause-entered : goal.returns-clause-entered
returns-clause-entered g c =
    let config = g.N.Named.config in
    let caller = c.compare.new.self in
    let lock = c.class.inside.owner.lock in
    let history = class_told c.class.inside.state.history in
    let sight = c.split-whole.result.sight in
    let told : c.tell.new.seen.sight ≡ with_seen sight lock history =
    ap (λ (t : SeenView). t.sight) c.tell.ensures.whole ∙ ap (λ (h : List Event). with_seen sight lock h) c.class.invariant.0 in
    let account = subst (λ (s : Sight). IsAccount (locks_for config) (caller_place config caller.number) caller.made (list_at s.seen)) told c.compare-2.ensures.account in
    subst (λ (x : ClassSide). AreEntered c.args.caller.now x.lock (class_told x.class.history)) c.class.view_is
    (subst (λ (v : CallerView). AreEntered v lock history) c.compare.ensures.same.0 (entered_of config caller sight lock history account))
