-- The row of an incr or decr, by its step (own).
use Rattle.std.specs.Prelude.{ℕ, List, Option}
use Rattle.mc_item.specs.Answer.{Row, count_row, stepped}
use Rattle.mc_item.specs.declared.{answer.Site.Site, counting.Step.Step, item.Item.Item}

-- the row of an incr or decr that counts by this step, up or down
abbrev pub step_row : Site → ℕ → List ℕ → Step → Option Item → Row
step_row site n key step found = count_row site n key (stepped step) found
