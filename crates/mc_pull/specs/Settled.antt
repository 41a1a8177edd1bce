-- The events that judging an entry adds to both histories.
use Rattle.std.specs.Prelude.{ℕ, ◌≡◌, ◌++◌, List, [], ◌∷◌, Option, Some, None, length}
use Rattle.mc_item.specs.declared.{class_event.ClassEvent.ClassEvent, class_event.Why.Why, item.Who.Who, lists.Entry.Entry}
use Rattle.mc_item.specs.declared.lists.Seg.TheVariants.{Warm, Cold}
use Rattle.mc_item.specs.declared.{stripe_event.Cause.Cause, stripe_event.StripeEvent.StripeEvent}
use Rattle.mc_item.specs.declared.class_event.Why.TheVariants as whys
use Rattle.mc_item.specs.declared.stripe_event.Cause.TheVariants as causes
use Rattle.mc_item.specs.declared.stripe_event.StripeEvent.TheVariants as events
use Rattle.mc_rule.specs.Lists.{lists_of}
use Rattle.mc_segment.specs.{ClassState.ClassView, ClassCalls.reclaimed_event, ClassCalls.evicted_event, ClassCalls.shifted_event, Entries.entry_of}
use Rattle.mc_stripe.specs.StripeState.{Stripe}
use Rattle.mc_pull.specs.declared.{judge.Judge.Judge, judge.Done.Done}
use Rattle.mc_pull.specs.declared.judge.Judge.TheVariants.{Walk, Dead, Hit}
use Rattle.mc_pull.specs.declared.judge.Done.TheVariants as done
use Rattle.mc_pull.specs.{Outcome.cold_why, Question.Question}

-- the event that removes an item for this cause
abbrev pub lost_event : Who → List ℕ → Cause → StripeEvent
lost_event who key cause = events.Lost (record { who = who; key = key; cause = cause })

-- the event that clears an item's ACTIVE mark
abbrev pub cooled_event : Who → List ℕ → StripeEvent
cooled_event who key = events.Cooled (record { who = who; key = key })

-- the numbers of the entries between the judged one and the tail, if a walk names them
abbrev pub passed_of : Judge → List ℕ
passed_of (Walk s mode passed) = passed
passed_of Dead = []
passed_of Hit = []

-- why an entry moves to WARM's head: for a hit of its item, or because a walk found that active
abbrev pub warm_why : Judge → Why
warm_why (Walk s mode passed) = whys.Active
warm_why Dead = whys.Active
warm_why Hit = whys.Hit

-- the move of an active entry to WARM's head, from a walk's list or from COLD for a hit, when the entry's stripe has `at` events
abbrev pub warm_events : Question → ℕ → Judge → List ClassEvent
warm_events q at (Walk s mode passed) = shifted_event q.who q.number Warm whys.Active q.moment passed at s ∷ []
warm_events q at Dead = []
warm_events q at Hit = shifted_event q.who q.number Warm whys.Hit q.moment [] at Cold ∷ []

-- a walk's move of an entry to COLD's head, when the entry's stripe has `at` events
abbrev pub cold_events : ClassView → Question → ℕ → Judge → List ClassEvent
cold_events c q at (Walk s mode passed) = shifted_event q.who q.number Cold (cold_why c.rule (lists_of c.history) s mode) q.moment passed at s ∷ []
cold_events c q at Dead = []
cold_events c q at Hit = []

-- the class's events if this is done, when the entry's stripe has `at` events
abbrev pub done_class_events : ClassView → Question → ℕ → Done → List ClassEvent
done_class_events c q at done.Reclaimed = reclaimed_event q.who q.number q.moment at ∷ []
done_class_events c q at done.ToWarm = warm_events q at q.judge
done_class_events c q at done.WithinWarm = warm_events q at q.judge
done_class_events c q at done.ToCold = cold_events c q at q.judge
done_class_events c q at done.Evicted = evicted_event q.who q.number (passed_of q.judge) at ∷ []
done_class_events c q at done.Stayed = []
done_class_events c q at (done.Alive expiry) = []
done_class_events c q at done.Stranger = []

-- the stripe's events if this is done with an entry of this key: each is the partner of the class's event
abbrev pub events_on : ClassView → Question → List ℕ → Done → List StripeEvent
events_on c q key done.Reclaimed = lost_event q.who key (causes.Expired q.moment) ∷ []
events_on c q key done.ToWarm = cooled_event q.who key ∷ []
events_on c q key done.WithinWarm = cooled_event q.who key ∷ []
events_on c q key done.ToCold = []
events_on c q key done.Evicted = lost_event q.who key (causes.Taken c.number (length c.history)) ∷ []
events_on c q key done.Stayed = []
events_on c q key (done.Alive expiry) = []
events_on c q key done.Stranger = []

-- the stripe's events if this is done with an entry: none, if there is no entry
abbrev pub events_with : ClassView → Question → Option Entry → Done → List StripeEvent
events_with c q None d = []
events_with c q (Some e) d = events_on c q e.key d

-- the stripe's events if this is done with the entry that a question names
abbrev pub done_stripe_events : ClassView → Question → Done → List StripeEvent
done_stripe_events c q d = events_with c q (entry_of q.number (lists_of c.history)) d

-- the class with these events added, and this room
abbrev pub class_with : ClassView → List ClassEvent → ℕ → ClassView
class_with c es room = record c { history = c.history ++ es; room = room }

-- both histories have gained just the events of what was done, and nothing else of the class but its room has changed
pub record IsSettled (c c_new : ClassView) (s s_new : Stripe) (q : Question) (d : Done) : Type 0 where
  pub class : c_new ≡ class_with c (done_class_events c q (length s.history) d) c_new.room
  pub stripe : s_new.history ≡ s.history ++ done_stripe_events c q d
