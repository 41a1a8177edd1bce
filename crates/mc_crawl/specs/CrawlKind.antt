-- What a crawl counts a link as, by the item of its entry and the time (own, modelled on crawler.c).
use Rattle.std.specs.Prelude.{ℕ, ◌-◌, ◌/◌, ◌<◌, nat_lt, if◌then◌else◌, Option, Some, None}
use Rattle.mc_item.specs.declared.{item.ClassNo.ClassNo, item.Expiry.Expiry, item.Expiry.TheVariants.Never, item.Expiry.TheVariants.At, item.Item.Item}
use Rattle.mc_item.specs.declared.{lists.Entry.Entry}
use Rattle.mc_item.specs.{Cache.Cache, Item.is_dead}
use Rattle.mc_rule.specs.Lists.{lists_of}
use Rattle.mc_segment.specs.{ClassState.ClassView, Entries.entry_of}
use Rattle.mc_pull.specs.Judgement.{has_link}
use Rattle.mc_pull.specs.declared.judge.Done.{Done}
use Rattle.mc_pull.specs.declared.judge.Done.TheVariants as done
use Rattle.mc_crawl.specs.declared.kind.Kind.{Kind}
use Rattle.mc_crawl.specs.declared.kind.Kind.TheVariants as kinds

-- the kind of an item with this many seconds left: an hour or more, or else by its whole minutes
abbrev pub kind_left : ℕ → Kind
kind_left left = if nat_lt 3599 left then kinds.HourPlus else kinds.Minute (left / 60)

-- the kind of a living item at a time, by its expiry
abbrev pub kind_alive : ℕ → Expiry → Kind
kind_alive moment Never = kinds.NoExpiry
kind_alive moment (At end) = kind_left (end - moment)

-- the kind of an item at a time: a dead one counts as reclaimed
abbrev pub kind_of_item : ℕ → Item → Kind
kind_of_item moment item = if is_dead item moment then kinds.Reclaimed else kind_alive moment item.expiry

-- the kind of an entry, by the item under its key: passed, if there is no item or it has another chunk
abbrev pub kind_if : ClassNo → ℕ → ℕ → Option Item → Kind
kind_if class number moment None = kinds.Passed
kind_if class number moment (Some item) = if has_link class number item then kind_of_item moment item else kinds.Passed

-- the kind of a link, by its entry: gone, if there is no entry
abbrev pub kind_with : ClassNo → Cache → ℕ → ℕ → Option Entry → Kind
kind_with class cache number moment None = kinds.Gone
kind_with class cache number moment (Some e) = kind_if class number moment (cache.items e.key)

-- the kind of a link of a class, by the cache of its key's stripe
abbrev pub kind_of : ClassView → Cache → ℕ → ℕ → Kind
kind_of c cache number moment = kind_with c.number cache number moment (entry_of number (lists_of c.history))

-- the kind of an entry, by what was done with it; a crawl meets only the first three cases
abbrev pub kind_done : ℕ → Done → Kind
kind_done moment done.Reclaimed = kinds.Reclaimed
kind_done moment (done.Alive expiry) = kind_alive moment expiry
kind_done moment done.Stranger = kinds.Passed
kind_done moment done.ToWarm = kinds.Passed
kind_done moment done.WithinWarm = kinds.Passed
kind_done moment done.ToCold = kinds.Passed
kind_done moment done.Evicted = kinds.Passed
kind_done moment done.Stayed = kinds.Passed

-- the kind of an entry, by what was done with it: passed, if the stripe was not reached
abbrev pub kind_answered : ℕ → Option Done → Kind
kind_answered moment None = kinds.Passed
kind_answered moment (Some made) = kind_done moment made

-- a histogram has a count for this kind: if it is a minute, that is below 60
abbrev pub IsCounted : Kind → Type 0
IsCounted kinds.Gone = Unit {0}
IsCounted kinds.Passed = Unit {0}
IsCounted kinds.Reclaimed = Unit {0}
IsCounted kinds.NoExpiry = Unit {0}
IsCounted kinds.HourPlus = Unit {0}
IsCounted (kinds.Minute minute) = minute < 60
