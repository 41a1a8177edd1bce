use Rattle.std.proofs.Common.{◌≡◌, ◌+◌, ◌≤◌, length, map, true}
use Rattle.mc_item.specs.declared.event.Event.TheVariants.{Stripe}
use Rattle.mc_board.specs.Accounts.{AreBy}
use Rattle.mc_list_tests.proofs.tests.growing_histories.cooled.Given as goal

abbrev pub invariant-loop-i : goal.invariant-loop-i
invariant-loop-i g l =
    (length l.events.items ≡ l._i) × (l.times ≤ l.events.room + l._i) × (l.events.kept ≡ true) × AreBy l.who (map Stripe l.events.items)
