use Rattle.std.proofs.Common.{◌≡◌, ◌+◌, ◌∙◌, ℕ, List, ap, drop, length, subst, sym}
use Rattle.mc_item.specs.declared.class_event.ClassEvent.{ClassEvent}
use Rattle.mc_board.specs.{Accounts.AreBy, Accounts.with_new, Figures.figures_of, Views.OwnerView}
use Rattle.mc_board.proofs.FigureLemmas.{figures_of-map}
use Rattle.mc_store.specs.{Callers.call_events, Locked.caller_place, Passes.CallerView, Sides.class_told}
use Rattle.mc_store.proofs.caller.Caller.catch_up_class.Goals as goal

pub publish-requires-clause-figures : goal.publish-requires-clause-figures
publish-requires-clause-figures g c =
    c.figures.ensures ∙ (sym (figures_of-map c.args.state.now.history) ∙ ap (λ (es : List ClassEvent). figures_of (class_told es)) (sym c.history.ensures.value))

pub publish-requires-clause-by : goal.publish-requires-clause-by
publish-requires-clause-by g c =
    let who = c.args.who in
    let number : c.self.inside.number ≡ c.args.self.now.number = ap (λ (v : CallerView). v.number) c.self.view_is in (
      subst (λ (es : List ClassEvent). AreBy who (drop (length c.args.owner.now.history) (class_told es))) (sym c.history.ensures.value) c.requires.by,
      ap (λ (n : ℕ). n + who.caller) c.self.invariant.2
          ∙ (ap (λ (n : ℕ). caller_place g.N.Named.config n) (c.requires.caller ∙ sym number) ∙ sym c.self.invariant.3),
    )

pub returns-clause-entered : goal.returns-clause-entered
returns-clause-entered g c =
    let was = c.self.inside in
    let turn = c.args.who.turn in
    let lock = c.args.owner.now.lock in
    let from = length c.args.owner.now.history in
    ap (λ (o : OwnerView). record { number = was.number; calls = call_events o.history; made = o.made }) c.publish.ensures.caller
    ∙ (ap (λ (es : List ClassEvent). record { number = was.number; calls = call_events was.owner.history; made = with_new was.owner.made turn lock from (length es) }) c.history.ensures.value
    ∙ ap (λ (v : CallerView). record v { made = with_new v.made turn lock from (length c.args.state.now.history) }) c.self.view_is)
