use Rattle.std.proofs.Common.{◌≡◌, ◌<◌, ◌+◌, ◌^◌, ◌++◌, [], ◌∙◌, List, drop, length, map, sym, ap, subst, arith}
use Rattle.std.proofs.lemmas.List.{length-map}
use mathlib.Core.List.{IsPrefix}
use Rattle.atomic_table.specs.Table.{Me}
use Rattle.mc_item.specs.declared.event.Event.{Event}
use Rattle.mc_evidence.specs.Seen.{class_events}
use Rattle.mc_board.specs.declared.rule.View.{View}
use Rattle.mc_board.specs.declared.rule.View.TheVariants as views
use Rattle.mc_board.specs.Accounts.{AreBy, AreShown}
use Rattle.mc_board.specs.{Steps.owned_of, Writing.owned_with}
use Rattle.mc_board.proofs.{AccountLemmas.new_is, AccountLemmas.shown_new, FigureLemmas.class_events-rest, FigureLemmas.figures_of-plain}
use Rattle.mc_board.proofs.{OwnerLemmas.kept_in_memory, PrefixLemmas.prefix_rest}
use Rattle.mc_board.proofs.owner.Owner.catch_up.Goals as goal

pub add-requires-clause-plain : goal.add-requires-clause-plain
add-requires-clause-plain g c =
    let all = map g.E.Logged.entry c.args.events.now.items in
    let history = (owned_of c.self.inside.place.me.0).history in
    let begins : IsPrefix history all = subst (λ (xs : List Event). IsPrefix xs all) (sym (ap (λ o. o.history) c.self.view_is)) c.requires.behind in
    let plain = class_events-rest history (drop (length history) all) (ap class_events (prefix_rest history all begins) ∙ c.requires.plain) in
    subst (λ (m : Me Unit View). class_events (drop (length (owned_of m.0).history) all) ≡ []) (sym c.enter.ensures.shown) plain

pub add-requires-clause-shown : goal.add-requires-clause-shown
add-requires-clause-shown g c =
    let items = c.args.events.now.items in
    let all = map g.E.Logged.entry items in
    let old = owned_of c.self.inside.place.me.0 in
    let caller = owned_of c.caller.inside.place.me.0 in
    let by : AreBy c.args.who (drop (length old.history) all) =
    subst (λ (xs : List Event). AreBy c.args.who (drop (length xs) all)) (sym (ap (λ o. o.history) c.self.view_is)) c.requires.by.0 in
    let its : caller.first + c.args.who.caller ≡ caller.lock =
    ap (λ o. o.first + c.args.who.caller) c.caller.view_is ∙ (c.requires.by.1 ∙ sym (ap (λ o. o.lock) c.caller.view_is)) in
    subst (λ (m : Me Unit View). AreShown (owned_of m.0) (drop (length (owned_of m.0).history) all)) (sym c.enter.ensures.shown)
    (shown_new old caller c.args.who all (length items) by its (length-map items g.E.Logged.entry))

pub returns-then-count-gt0-clause-caller : goal.returns-then-count-gt0-clause-caller
returns-then-count-gt0-clause-caller g c =
    let entered = c.enter.ensures.entered in
    let old = owned_of c.self.inside.place.me.0 in
    let many : length old.history < length c.args.events.now.items = omega (arith, c.if-count-gt0.true, c.len.ensures, c.len-2.ensures, ap (λ o. length o.history) c.self.view_is) in
    let made = new_is _ _ c.args.who.turn _ _ _ _ (length c.args.events.now.items) (ap (λ o. o.made) c.caller.view_is) (ap (λ o. o.lock) c.self.view_is) (ap (λ o. length o.history) c.self.view_is) many in
    λ i. record {
      board = (c.enter.ensures.caller.0 ∙ ap (λ o. o.board) c.caller.view_is) i;
      lock = (ap (λ m. (owned_of m.0).lock) entered ∙ ap (λ o. o.lock) c.caller.view_is) i;
      history = (ap (λ m. (owned_of m.0).history) entered ∙ ap (λ o. o.history) c.caller.view_is) i;
      first = (ap (λ m. (owned_of m.0).first) entered ∙ ap (λ o. o.first) c.caller.view_is) i;
      made = (ap (λ m. (owned_of m.0).made) entered ∙ made) i;
    }

pub invariant_of-self : goal.invariant_of-self
invariant_of-self g c =
    let i = c.self.invariant in
    let all = map g.E.Logged.entry c.args.events.now.items in
    let old = owned_of c.self.inside.place.me.0 in
    let begins : IsPrefix old.history all = subst (λ (xs : List Event). IsPrefix xs all) (sym (ap (λ o. o.history) c.self.view_is)) c.requires.behind in
    let rest = drop (length old.history) all in
    let whole : old.history ++ rest ≡ all = prefix_rest old.history all begins in
    let plain : class_events rest ≡ [] = class_events-rest old.history rest (ap class_events whole ∙ c.requires.plain) in
    let table = sym (c.add.ensures.place.0 ∙ c.enter.ensures.place.0) in
    let many : length (old.history ++ rest) ≡ c.len-self-inside.result = ap length whole ∙ (length-map c.args.events.now.items g.E.Logged.entry ∙ sym c.len-self-inside.ensures) in
    let added = c.add.ensures.added ∙ ap (λ (m : Me Unit View). (views.Owner (owned_with (owned_of m.0) (drop (length (owned_of m.0).history) all)), [])) c.enter.ensures.shown in
    let kept = kept_in_memory _ _ _ _ _ added i.0.word i.0.stage many (i.2 ∙ sym (figures_of-plain old.history rest plain)) in
    (kept.0, kept.1, kept.2, subst (λ t. c.self.inside.word + 8 < t.words) table i.3, subst (λ t. t.words < 2 ^ 64) table i.4)
