-- An example with two chunks and three sets: for the third set, the first entry is forced from HOT to COLD and evicted.
use Rattle.std.specs.Prelude.{ℕ, List, [], ◌∷◌, false, pos}
use Rattle.mc_item.specs.declared.{answer.Site.Site, class_event.ClassEvent.ClassEvent, class_event.Linked.Linked, class_event.Shifted.Shifted}
use Rattle.mc_item.specs.declared.{class_event.Why.TheVariants.Forced, command.Command.TheVariants.Store, command.Verb.TheVariants.Set, item.ClassNo.ClassNo}
use Rattle.mc_item.specs.declared.{item.Who.Who, lists.Seg.TheVariants.Hot, lists.Seg.TheVariants.Cold, reply.Reply.TheVariants.Stored}
use Rattle.mc_item.specs.declared.{reply.Room.TheVariants.At, stripe_event.Did.Did, stripe_event.StripeEvent.StripeEvent}
use Rattle.mc_item.specs.declared.class_event.ClassEvent.TheVariants as entries
use Rattle.mc_item.specs.declared.stripe_event.StripeEvent.TheVariants as items
use Rattle.mc_rule.specs.{Pairs.link_to, Segment.Rule}
use Rattle.mc_evidence.specs.Made.{evicted_as, lost_to}

-- the stripe of a store with one stripe, and one slab class of size 96
abbrev pub small_site : Site
small_site = record { stripe = 0; stripes = 1; sizes = 96 ∷ [] }

-- the usual shares and factors, without TEMP
abbrev pub small_rule : Rule
small_rule = record { temp = false; temp_ttl = 61; hot_percent = 20; warm_percent = 40; hot_factor = 20; warm_factor = 200 }

-- the slab class of that size
abbrev pub first_class : ClassNo
first_class = record { 0 = 1 }

-- the call of the only caller in turn n
abbrev pub turn : ℕ → Who
turn n = record { caller = 0; turn = n }

-- a set of a one-letter key to a one-byte value, with the entry of number n
abbrev pub set_of : ℕ → ℕ → Did
set_of letter n =
    record {
      who = turn n;
      command = Store Set (letter ∷ []) 0 (pos 0) (49 ∷ []);
      moment = 1000;
      reply = Stored;
      room = At (link_to first_class n);
    }

-- the new entry of that set
abbrev pub entry_of_set : ℕ → ℕ → Linked
entry_of_set letter n = record { who = turn n; number = n; key = letter ∷ []; cost = 66; seg = Hot; moment = 1000 }

-- the move of the first entry to COLD, by the third set's call
abbrev pub forced : Shifted
forced = record { who = turn 2; number = 0; from_seg = Hot; to_seg = Cold; why = Forced; moment = 1000; passed = []; at = 2 }

-- the stripe's events before the eviction: two sets
abbrev pub stripe_before : List StripeEvent
stripe_before = items.Did (set_of 97 0) ∷ items.Did (set_of 98 1) ∷ []

-- the class's events before the eviction: two new entries, and the move
abbrev pub class_before : List ClassEvent
class_before = entries.Linked (entry_of_set 97 0) ∷ entries.Linked (entry_of_set 98 1) ∷ entries.Shifted forced ∷ []

-- the stripe's whole history: the third set takes the first item's chunk
abbrev pub stripe_story : List StripeEvent
stripe_story = items.Did (set_of 97 0) ∷ items.Did (set_of 98 1) ∷ lost_to first_class (turn 2) (97 ∷ []) 3 ∷ items.Did (set_of 99 2) ∷ []

-- the class's whole history: the first entry moves to COLD and is evicted there, then the third entry is new
abbrev pub class_story : List ClassEvent
class_story =
    entries.Linked (entry_of_set 97 0) ∷ entries.Linked (entry_of_set 98 1) ∷ entries.Shifted forced ∷ evicted_as (turn 2) 0 [] 2
    ∷ entries.Linked (entry_of_set 99 2) ∷ []
