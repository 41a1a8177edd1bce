use Rattle.std.proofs.Common.{List, drop, length, map, sym, subst, arith}
use mathlib.Core.List.{IsPrefix}
use Rattle.mc_item.specs.declared.event.Event.{Event}
use Rattle.mc_item.specs.declared.event.Event.TheVariants.{Stripe}
use Rattle.mc_board.specs.Accounts.{AreBy}
use Rattle.mc_board.proofs.PrefixLemmas.{prefix_nil}
use Rattle.mc_list_tests.proofs.tests.growing_histories.catch_up_cooled.Goals as goal

pub catch_up-requires-clause-behind : goal.catch_up-requires-clause-behind
catch_up-requires-clause-behind g c =
    let all = map Stripe c.cooled-events.result.items in
    subst (λ (h : List Event). IsPrefix h all) (sym c.requires.empty) (prefix_nil all)

pub catch_up-requires-clause-by : goal.catch_up-requires-clause-by
catch_up-requires-clause-by g c =
    let all = map Stripe c.cooled-events.result.items in
    (subst (λ (h : List Event). AreBy (record { caller = 0; turn = 0 }) (drop (length h) all)) (sym c.requires.empty) c.cooled-events.ensures.by, omega (arith, c.requires.caller))
