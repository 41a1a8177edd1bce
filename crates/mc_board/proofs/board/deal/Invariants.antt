use Rattle.std.proofs.Common.{◌≡◌, []}
use Rattle.mc_board.specs.declared.rule.View.TheVariants as views
use Rattle.mc_board.specs.{Accounts.first_caller, Views.AreOwners}
use Rattle.mc_board.proofs.board.deal.Given as goal

abbrev pub invariant-loop-lock : goal.invariant-loop-lock
invariant-loop-lock l =
    (l.root.table_id ≡ l.fn.board.table)
    × (l.root.me ≡ (views.Root (record { counts = l.fn.board.counts; given = l.lock }), []))
    × AreOwners l.fn.board.table (first_caller l.fn.board.counts) l.lock l.owners.items
