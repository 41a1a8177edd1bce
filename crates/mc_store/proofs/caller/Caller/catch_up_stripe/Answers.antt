use Rattle.std.proofs.Common.{◌≡◌, ◌+◌, ◌∙◌, ℕ, List, ap, drop, length, subst, sym}
use Rattle.mc_item.specs.declared.stripe_event.StripeEvent.{StripeEvent}
use Rattle.mc_board.specs.{Accounts.AreBy, Accounts.with_new, Views.OwnerView}
use Rattle.mc_board.proofs.FigureLemmas.{class_events-stripe}
use Rattle.mc_store.specs.{Callers.call_events, Locked.caller_place, Passes.CallerView, Sides.stripe_told}
use Rattle.mc_store.proofs.caller.Caller.catch_up_stripe.Goals as goal

pub catch_up-requires-clause-plain : goal.catch_up-requires-clause-plain
catch_up-requires-clause-plain g c = class_events-stripe c.history.result.now.items

pub catch_up-requires-clause-by : goal.catch_up-requires-clause-by
catch_up-requires-clause-by g c =
    let who = c.args.who in
    let number : c.self.inside.number ≡ c.args.self.now.number = ap (λ (v : CallerView). v.number) c.self.view_is in (
      subst (λ (es : List StripeEvent). AreBy who (drop (length c.args.owner.now.history) (stripe_told es))) (sym c.history.ensures.value) c.requires.by,
      ap (λ (n : ℕ). n + who.caller) c.self.invariant.2
          ∙ (ap (λ (n : ℕ). caller_place g.N.Named.config n) (c.requires.caller ∙ sym number) ∙ sym c.self.invariant.3),
    )

pub returns-clause-entered : goal.returns-clause-entered
returns-clause-entered g c =
    let was = c.self.inside in
    let turn = c.args.who.turn in
    let lock = c.args.owner.now.lock in
    let from = length c.args.owner.now.history in
    ap (λ (o : OwnerView). record { number = was.number; calls = call_events o.history; made = o.made }) c.catch_up.ensures.caller
    ∙ (ap (λ (es : List StripeEvent). record { number = was.number; calls = call_events was.owner.history; made = with_new was.owner.made turn lock from (length es) }) c.history.ensures.value
    ∙ ap (λ (v : CallerView). record v { made = with_new v.made turn lock from (length c.args.state.now.history) }) c.self.view_is)
