-- Which events of a slab class a command may make.
use Rattle.mc_item.specs.declared.{class_event.ClassEvent.ClassEvent, command.Command.Command}
use Rattle.mc_item.specs.declared.class_event.ClassEvent.TheVariants as events
use Rattle.mc_pull.specs.Growth.{SuitsSearch}
use Rattle.mc_item.specs.declared.command.Command.TheVariants.{Get, Gat, Store, Huge, Incr, Decr, Touch, Delete}

-- a command may need a chunk: it stores a value or counts
abbrev pub MayNeedChunk : Command → Type 0
MayNeedChunk (Store verb key flags exptime value) = Unit {0}
MayNeedChunk (Incr key delta) = Unit {0}
MayNeedChunk (Decr key delta) = Unit {0}
MayNeedChunk (Get key) = ⊥
MayNeedChunk (Gat key exptime) = ⊥
MayNeedChunk (Huge verb key) = ⊥
MayNeedChunk (Touch key exptime) = ⊥
MayNeedChunk (Delete key) = ⊥

-- a command may remove an item that is alive, or replace it
abbrev pub MayRemove : Command → Type 0
MayRemove (Store verb key flags exptime value) = Unit {0}
MayRemove (Huge verb key) = Unit {0}
MayRemove (Incr key delta) = Unit {0}
MayRemove (Decr key delta) = Unit {0}
MayRemove (Delete key) = Unit {0}
MayRemove (Get key) = ⊥
MayRemove (Gat key exptime) = ⊥
MayRemove (Touch key exptime) = ⊥

-- a command may make this event: each may reclaim an entry, one that may remove an item may unlink its entry, and one that may
-- need a chunk may also link, be refused, and search for a chunk; none makes a survey or sets a limit
abbrev pub SuitsCommand : Command → ClassEvent → Type 0
SuitsCommand command (events.Reclaimed e) = Unit {0}
SuitsCommand command (events.Unlinked e) = MayRemove command
SuitsCommand command (events.Linked e) = MayNeedChunk command
SuitsCommand command (events.Shifted e) = MayNeedChunk command × SuitsSearch (events.Shifted e)
SuitsCommand command (events.Evicted e) = MayNeedChunk command
SuitsCommand command (events.Refused e) = MayNeedChunk command
SuitsCommand command (events.Surveyed e) = ⊥
SuitsCommand command (events.Limited e) = ⊥
