-- What is done with an entry, by its class and the cache of its key's stripe.
use Rattle.std.specs.Prelude.{ℕ, ◌==◌, ◌&&◌, Bool, not, if◌then◌else◌, Option, Some, None}
use Rattle.mc_item.specs.declared.{item.ClassNo.ClassNo, item.Item.Item, lists.Entry.Entry}
use Rattle.mc_item.specs.{Cache.Cache, Item.is_dead}
use Rattle.mc_rule.specs.{Lists.Lists, Lists.lists_of, Segment.Rule}
use Rattle.mc_segment.specs.{ClassState.ClassView, Entries.entry_of}
use Rattle.mc_pull.specs.declared.{judge.Judge.Judge, judge.Done.Done}
use Rattle.mc_pull.specs.declared.judge.Judge.TheVariants.{Walk, Dead, Hit}
use Rattle.mc_pull.specs.declared.judge.Done.TheVariants as done
use Rattle.mc_pull.specs.{Outcome.is_due, Outcome.outcome_of, Question.Question}

-- the item has the chunk of this entry
abbrev pub has_link : ClassNo → ℕ → Item → Bool
has_link class number item = item.link.class.0 == class.0 && item.link.number == number

-- what is done with an entry that has this item
abbrev pub done_by : Rule → Lists → ℕ → Judge → Entry → Item → Done
done_by rule l moment (Walk s mode passed) e item = outcome_of s mode (is_dead item moment) item.marks.active (is_due rule l s mode moment e)
done_by rule l moment Dead e item = if is_dead item moment then done.Reclaimed else done.Alive item.expiry
done_by rule l moment Hit e item = if item.marks.active && not (is_dead item moment) then done.ToWarm else done.Stayed

-- what is done with an entry, by the item under its key: nothing, if there is none or it has another chunk
abbrev pub done_if : ClassNo → ℕ → Option Item → (Item → Done) → Done
done_if class number None made = done.Stranger
done_if class number (Some item) made = if has_link class number item then made item else done.Stranger

-- what is done with an entry: nothing, if there is none
abbrev pub done_with : ClassView → Cache → Question → Option Entry → Done
done_with c cache q None = done.Stranger
done_with c cache q (Some e) = done_if c.number q.number (cache.items e.key) (done_by c.rule (lists_of c.history) q.moment q.judge e)

-- what is done with the entry that a question names
abbrev pub done_of : ClassView → Cache → Question → Done
done_of c cache q = done_with c cache q (entry_of q.number (lists_of c.history))
