use Rattle.std.proofs.Common.{◌≡◌, ◌++◌, [], take, drop}
use Rattle.mc_board.specs.declared.rule.Stage.TheVariants as stages
use Rattle.mc_board.specs.declared.rule.View.TheVariants as views
use Rattle.mc_board.specs.{Steps.owned_of, Writing.owned_in}
use Rattle.mc_board.proofs.writing.write.Given as goal

-- the first figures are the new ones, and the others still the old ones
abbrev pub invariant-loop-i : goal.invariant-loop-i
invariant-loop-i l =
    (l.place.table_id ≡ l.fn.place.table_id) × (l.place.id ≡ l.fn.place.id)
    × (l.place.me ≡ (views.Owner (owned_in (owned_of l.fn.place.me.0) (stages.Writing (take l.i l.figures ++ drop l.i l.old))), []))
