-- The figures of a lock's history: those of the class that its events are about (own).
use Rattle.std.specs.Prelude.{ℕ, List}
use Rattle.mc_item.specs.declared.event.Event.{Event}
use Rattle.mc_evidence.specs.Seen.{class_events}
use Rattle.mc_rule.specs.{Figures.figures_of_lists, Lists.lists_of}

-- the eight figures that a history leaves: the bytes of HOT, WARM, COLD and TEMP, then their numbers of entries. A history
-- without class events leaves eight zeros
unfoldable pub figures_of : List Event → List ℕ
figures_of history = figures_of_lists (lists_of (class_events history))
