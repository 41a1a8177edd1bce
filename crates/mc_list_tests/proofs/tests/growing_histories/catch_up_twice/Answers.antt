use Rattle.std.proofs.Common.{List, ap, sym, subst, drop, length, map}
use mathlib.Core.List.{IsPrefix}
use Rattle.mc_item.specs.declared.event.Event.{Event}
use Rattle.mc_board.specs.{Accounts.AreBy, Views.OwnerView}
use Rattle.mc_board.proofs.{PrefixLemmas.prefix_nil, PrefixLemmas.prefix_self}
use Rattle.mc_list_tests.proofs.tests.growing_histories.catch_up_twice.Goals as goal

pub catch_up-requires-clause-behind : goal.catch_up-requires-clause-behind
catch_up-requires-clause-behind g c =
    let all = map g.E.Logged.entry c.args.events.now.items in
    subst (λ (h : List Event). IsPrefix h all) (sym c.requires.empty) (prefix_nil all)

pub catch_up-requires-clause-by : goal.catch_up-requires-clause-by
catch_up-requires-clause-by g c =
    let all = map g.E.Logged.entry c.args.events.now.items in
    (subst (λ (h : List Event). AreBy c.args.who (drop (length h) all)) (sym c.requires.empty) c.requires.by, c.requires.caller)

pub catch_up-requires-2-clause-behind : goal.catch_up-requires-2-clause-behind
catch_up-requires-2-clause-behind g c =
    let all = map g.E.Logged.entry c.args.events.now.items in
    subst (λ (h : List Event). IsPrefix h all) (sym (ap (λ (o : OwnerView). o.history) c.catch_up.ensures.history)) (prefix_self all)
