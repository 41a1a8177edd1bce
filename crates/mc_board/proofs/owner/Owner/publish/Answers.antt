use Rattle.std.proofs.Common.{◌≡◌, ◌<◌, ◌+◌, [], ◌∙◌, List, drop, length, map, sym, ap, subst, arith}
use Rattle.std.proofs.lemmas.List.{length-map}
use Rattle.atomic_table.specs.Table.{Me}
use Rattle.mc_item.specs.declared.event.Event.{Event}
use Rattle.mc_board.specs.declared.rule.Stage.TheVariants as stages
use Rattle.mc_board.specs.declared.rule.View.{View}
use Rattle.mc_board.specs.declared.rule.View.TheVariants as views
use Rattle.mc_board.specs.Accounts.{AreBy, AreShown}
use Rattle.mc_board.specs.{Figures.figures_of, Steps.owned_of, Writing.owned_in}
use Rattle.mc_board.proofs.AccountLemmas.{new_is, shown_new}
use Rattle.mc_board.proofs.owner.Owner.publish.Goals as goal

pub end-requires-clause-shown : goal.end-requires-clause-shown
end-requires-clause-shown g c =
    let items = c.args.events.now.items in
    let all = map g.E.Logged.entry items in
    let old = owned_of c.self.inside.place.me.0 in
    let caller = owned_of c.caller.inside.place.me.0 in
    let by : AreBy c.args.who (drop (length old.history) all) =
    subst (λ (xs : List Event). AreBy c.args.who (drop (length xs) all)) (sym (ap (λ o. o.history) c.self.view_is)) c.requires.by.0 in
    let its : caller.first + c.args.who.caller ≡ caller.lock =
    ap (λ o. o.first + c.args.who.caller) c.caller.view_is ∙ (c.requires.by.1 ∙ sym (ap (λ o. o.lock) c.caller.view_is)) in
    let shown = shown_new old caller c.args.who all (length items) by its (length-map items g.E.Logged.entry) in
    let written = c.write.ensures.written
    ∙ ap (λ (m : Me Unit View). (views.Owner (owned_in (owned_of m.0) (stages.Writing c.args.figures.now)), []))
    (c.begin.ensures.begun ∙ ap (λ (m : Me Unit View). (views.Owner (owned_in (owned_of m.0) (stages.Writing (figures_of (owned_of m.0).history))), [])) c.enter.ensures.shown) in
    subst (λ (m : Me Unit View). AreShown (owned_of m.0) (drop (length (owned_of m.0).history) all)) (sym written) (record { each = shown.each })

pub returns-then-count-gt0-clause-caller : goal.returns-then-count-gt0-clause-caller
returns-then-count-gt0-clause-caller g c =
    let entered = c.enter.ensures.entered in
    let old = owned_of c.self.inside.place.me.0 in
    let many : length old.history < length c.args.events.now.items = omega (arith, c.if-count-gt0.true, c.len.ensures, c.len-2.ensures, ap (λ o. length o.history) c.self.view_is) in
    let made = new_is _ _ c.args.who.turn _ _ _ _ (length c.args.events.now.items) (ap (λ o. o.made) c.caller.view_is) (ap (λ o. o.lock) c.self.view_is) (ap (λ o. length o.history) c.self.view_is) many in
    λ i. record {
      board = (c.enter.ensures.caller.0 ∙ ap (λ o. o.board) c.caller.view_is) i;
      lock = (ap (λ m. (owned_of m.0).lock) entered ∙ ap (λ o. o.lock) c.caller.view_is) i;
      history = (ap (λ m. (owned_of m.0).history) entered ∙ ap (λ o. o.history) c.caller.view_is) i;
      first = (ap (λ m. (owned_of m.0).first) entered ∙ ap (λ o. o.first) c.caller.view_is) i;
      made = (ap (λ m. (owned_of m.0).made) entered ∙ made) i;
    }
