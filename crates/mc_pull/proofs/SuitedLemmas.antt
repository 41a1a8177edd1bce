-- Each command makes only events that it may make: of its own part, and of the removal of a dead item.
use Rattle.std.proofs.Common.{◌≡◌, ℕ, List, [], ◌∷◌, Bool, true, false, Option, Some, None, refl}
use Rattle.std.specs.Prelude.{◌&&◌, not, if◌then◌else◌}
use Rattle.mc_item.specs.{Answer.delete_row, Answer.gat_row, Answer.get_row, Answer.let_go, Answer.touch_row, Cache.Cache, Cache.answer_of, Command.key_of, Item.expiry_of, Item.hit_marks}
use Rattle.mc_item.specs.declared.{answer.Site.Site, class_event.ClassEvent.ClassEvent, command.Command.Command, command.Verb.Verb, item.Item.Item, item.Who.Who, reply.Room.Room}
use Rattle.mc_item.specs.declared.command.Command.TheVariants.{Get, Gat, Store, Huge, Incr, Decr, Touch, Delete}
use Rattle.mc_item.specs.declared.command.Verb.TheVariants.{Set, Add, Replace, Cas, Append, Prepend}
use Rattle.mc_segment.specs.ClassState.{ClassView}
use Rattle.mc_stripe.specs.{Plan.fate_of, Plan.gone_fate, StripeState.Stripe, StripeState.cache_now}
use Rattle.mc_stripe.specs.declared.fate.Fate.TheVariants as fates
use Rattle.mc_pull.specs.declared.{judge.Done.Done, judge.Judge.TheVariants.Dead, parts.Part.Part}
use Rattle.mc_pull.specs.declared.judge.Done.TheVariants as done
use Rattle.mc_pull.specs.declared.parts.Part.TheVariants as parts
use Rattle.mc_pull.specs.{Judgement.done_of, Parts.entry_number, Parts.gone_part, Parts.part_events, Parts.part_for, Perform.Call, Performed.events_in, Question.question}
use Rattle.mc_pull.specs.{Settled.done_class_events, Suited.MayNeedChunk, Suited.MayRemove, Suited.SuitsCommand}
use Rattle.mc_pull.proofs.ChunkEventLemmas.{evicts_nothing}

-- a command may make each of these events
abbrev pub AreSuited : Command → List ClassEvent → Type 0
AreSuited command [] = Unit {0}
AreSuited command (e ∷ es) = SuitsCommand command e × AreSuited command es

-- any command may ask whether an item is dead
pub suited_dead : (command : Command) (c : ClassView) (cache : Cache) (who : Who) (number moment at : ℕ) (d : Done) → d ≡ done_of c cache (question who number Dead moment)
    → AreSuited command (done_class_events c (question who number Dead moment) at d)
suited_dead command c cache who number moment at done.Reclaimed is = (tt, tt)
suited_dead command c cache who number moment at done.ToWarm is = tt
suited_dead command c cache who number moment at done.WithinWarm is = tt
suited_dead command c cache who number moment at done.ToCold is = tt
suited_dead command c cache who number moment at done.Evicted is = absurd (evicts_nothing c (question who number Dead moment) cache refl is)
suited_dead command c cache who number moment at done.Stayed is = tt
suited_dead command c cache who number moment at (done.Alive expiry) is = tt
suited_dead command c cache who number moment at done.Stranger is = tt

-- the events of a part of a command, by what becomes of its key's item
abbrev events_for : Site → Cache → ClassView → Who → ℕ → Room → Command → List ClassEvent
events_for site cache v who moment room command =
    part_events v who moment (part_for v (key_of command) room (fate_of (key_of command) (cache.items (key_of command)) (answer_of site cache command moment room).change))

-- one that may need a chunk may make those of any part
suited_any : (command : Command) → MayNeedChunk command → MayRemove command → (v : ClassView) (who : Who) (moment : ℕ) (part : Part) → AreSuited command (part_events v who moment part)
suited_any command needs may v who moment parts.Nothing = tt
suited_any command needs may v who moment (parts.Links key cost expiry) = (needs, tt)
suited_any command needs may v who moment (parts.Renews key cost expiry number) = (needs, (may, tt))
suited_any command needs may v who moment (parts.Unlinks number) = (may, tt)

-- an item that goes has its entry removed
suited_gone : (command : Command) → MayRemove command → (v : ClassView) (who : Who) (moment : ℕ) (number : Option ℕ) → AreSuited command (part_events v who moment (gone_part number))
suited_gone command may v who moment None = tt
suited_gone command may v who moment (Some number) = (may, tt)

suited_goes : (command : Command) → MayRemove command → (v : ClassView) (who : Who) (moment : ℕ) (key : List ℕ) (room : Room) (found : Option Item)
    → AreSuited command (part_events v who moment (part_for v key room (gone_fate found)))
suited_goes command may v who moment key room None = tt
suited_goes command may v who moment key room (Some item) = suited_gone command may v who moment (entry_number v key (Some item.link))

-- a hit changes no entry
suited_hit : (command : Command) (v : ClassView) (who : Who) (moment : ℕ) (key : List ℕ) (room : Room) (item : Item) (woken : Bool)
    → AreSuited command (part_events v who moment (part_for v key room (if woken then fates.Woken item.link else fates.Untouched)))
suited_hit command v who moment key room item true = tt
suited_hit command v who moment key room item false = tt

suited_huge : (verb : Verb) (key : List ℕ) (v : ClassView) (who : Who) (moment : ℕ) (room : Room) (found : Option Item)
    → AreSuited (Huge verb key) (part_events v who moment (part_for v key room (fate_of key found (let_go verb))))
suited_huge Set key v who moment room found = suited_goes (Huge Set key) tt v who moment key room found
suited_huge Add key v who moment room found = tt
suited_huge Replace key v who moment room found = tt
suited_huge (Cas unique) key v who moment room found = tt
suited_huge Append key v who moment room found = tt
suited_huge Prepend key v who moment room found = tt

-- a command may make the events of its part
suited_for : (site : Site) (cache : Cache) (v : ClassView) (who : Who) (moment : ℕ) (room : Room) (command : Command)
    → AreSuited command (events_for site cache v who moment room command)
suited_for site cache v who moment room (Get key) = by (cache.items key)
  where
    by : (found : Option Item) → AreSuited (Get key) (part_events v who moment (part_for v key room (fate_of key found ((get_row found).answer room).change)))
    by None = tt
    by (Some item) = suited_hit (Get key) v who moment key room item ((hit_marks item.marks).active && not item.marks.active)
suited_for site cache v who moment room (Gat key exptime) = by (cache.items key)
  where
    by : (found : Option Item) → AreSuited (Gat key exptime) (part_events v who moment (part_for v key room (fate_of key found ((gat_row (expiry_of exptime moment) found).answer room).change)))
    by None = tt
    by (Some item) = suited_hit (Gat key exptime) v who moment key room item ((hit_marks item.marks).active && not item.marks.active)
suited_for site cache v who moment room (Touch key exptime) = by (cache.items key)
  where
    by : (found : Option Item) → AreSuited (Touch key exptime) (part_events v who moment (part_for v key room (fate_of key found ((touch_row (expiry_of exptime moment) found).answer room).change)))
    by None = tt
    by (Some item) = suited_hit (Touch key exptime) v who moment key room item ((hit_marks item.marks).active && not item.marks.active)
suited_for site cache v who moment room (Delete key) = by (cache.items key)
  where
    by : (found : Option Item) → AreSuited (Delete key) (part_events v who moment (part_for v key room (fate_of key found ((delete_row found).answer room).change)))
    by None = tt
    by (Some item) = suited_goes (Delete key) tt v who moment key room (Some item)
suited_for site cache v who moment room (Huge verb key) = suited_huge verb key v who moment room (cache.items key)
suited_for site cache v who moment room (Store verb key flags exptime value) = suited_any (Store verb key flags exptime value) tt tt v who moment
    (part_for v key room (fate_of key (cache.items key) (answer_of site cache (Store verb key flags exptime value) moment room).change))
suited_for site cache v who moment room (Incr key delta) = suited_any (Incr key delta) tt tt v who moment
    (part_for v key room (fate_of key (cache.items key) (answer_of site cache (Incr key delta) moment room).change))
suited_for site cache v who moment room (Decr key delta) = suited_any (Decr key delta) tt tt v who moment
    (part_for v key room (fate_of key (cache.items key) (answer_of site cache (Decr key delta) moment room).change))

pub suited_part : (s : Stripe) (c : Call) (v : ClassView) → AreSuited c.command (events_in s c v)
suited_part s c v = suited_for s.site (cache_now s) v c.who c.moment c.room c.command
