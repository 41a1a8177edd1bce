-- The event that each call of a class makes, and how such a call ends.
use Rattle.std.specs.Prelude.{ℕ, ◌≡◌, ◌≤◌, Bool, List, Result, MatchResult, length}
use Rattle.mc_item.specs.declared.{class_event.ClassEvent.ClassEvent, class_event.Why.Why, fault.Fault.Fault, item.Expiry.Expiry, item.Who.Who, lists.Seg.Seg}
use Rattle.mc_item.specs.declared.class_event.ClassEvent.TheVariants as events
use Rattle.mc_rule.specs.{Lists.Lists, Lists.lists_of, Lists.lists_after, Lists.chunks_after, Lists.entries_linked, Lists.entries_linked_by}
use Rattle.mc_rule.specs.{Lawful.IsLawfulByLists, Lawful.names, Segment.segment_for, Segment.total_of, Segment.cold_age_of}
use Rattle.mc_segment.specs.declared.surveying.Survey.{Survey}
use Rattle.mc_segment.specs.ClassState.{ClassView, appended, with_room, HasPlaces, MayRefuse}

-- the event that links an entry, with the next number, at the head of the segment that the rule names
abbrev pub linked_event : ClassView → Who → List ℕ → ℕ → ℕ → Expiry → ClassEvent
linked_event c who key cost moment expiry =
    events.Linked (record { who = who; number = entries_linked c.history; key = key; cost = cost; seg = segment_for c.rule moment expiry; moment = moment })

-- the event that removes an entry together with its item
abbrev pub unlinked_event : Who → ℕ → ClassEvent
unlinked_event who number = events.Unlinked (record { who = who; number = number })

-- the event that removes an entry whose item is dead
abbrev pub reclaimed_event : Who → ℕ → ℕ → ℕ → ClassEvent
reclaimed_event who number moment at = events.Reclaimed (record { who = who; number = number; moment = moment; at = at })

-- the event that evicts an entry near COLD's tail
abbrev pub evicted_event : Who → ℕ → List ℕ → ℕ → ClassEvent
evicted_event who number passed at = events.Evicted (record { who = who; number = number; passed = passed; at = at })

-- the event that moves an entry from one segment to the head of another, or of its own
abbrev pub shifted_event : Who → ℕ → Seg → Why → ℕ → List ℕ → ℕ → Seg → ClassEvent
shifted_event who number to_seg why moment passed at from_seg =
    events.Shifted (record { who = who; number = number; from_seg = from_seg; to_seg = to_seg; why = why; moment = moment; passed = passed; at = at })

-- the survey of a class at a moment, with the place of its event
abbrev pub survey_of : ClassView → ℕ → Survey
survey_of c moment =
    record { place = length c.history; total = total_of (lists_of c.history); cold_age = cold_age_of moment (lists_of c.history) }

-- the event that notes a survey of the class at a moment
abbrev pub surveyed_event : ClassView → Who → ℕ → ClassEvent
surveyed_event c who moment =
    events.Surveyed (record { who = who; moment = moment; total = total_of (lists_of c.history); cold_age = cold_age_of moment (lists_of c.history) })

-- the event that notes that no chunk was found
abbrev pub refused_event : Who → ClassEvent
refused_event who = events.Refused (record { who = who })

-- the event that gives the class a new limit of chunks
abbrev pub limited_event : Who → ℕ → ClassEvent
limited_event who chunks = events.Limited (record { who = who; chunks = chunks })

-- the event may come next, as far as the lists show
abbrev pub MayCome : ClassView → ClassEvent → Type 0
MayCome c e = IsLawfulByLists c.chunks c.rule c.history e

-- the class has this one event more, and nothing else has changed but its room
abbrev pub Makes : ClassView → ClassView → ClassEvent → Type 0
Makes c c' e = c' ≡ appended c e c'.room

-- nothing has changed but the room, which hasn't shrunk
abbrev pub Stays : ClassView → ClassView → Type 0
Stays c c' = (c' ≡ with_room c c'.room) × (c.room ≤ c'.room)

-- how a call that makes one event may end: with success if the history had a place, or with a fault that fits
abbrev pub MayEnd : {A : Type 0} → ClassView → Result A Fault → Type 0
MayEnd c result = MatchResult result (λ _. HasPlaces c 1) (MayRefuse c 1)

-- the event turns the old lists into the new ones and nothing else: it links no entry, keeps the limit of chunks, and names just
-- the numbers for which `named` is true
pub record ChangesLists (old new : Lists) (named : ℕ → Bool) (e : ClassEvent) : Type 0 where
  pub lists : lists_after old e ≡ new
  pub links : entries_linked_by e ≡ 0
  pub limits : (n : ℕ) → chunks_after n e ≡ n
  pub names : (q : ℕ) → names q e ≡ named q
