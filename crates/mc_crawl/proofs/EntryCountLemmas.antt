-- A class has no more entries than its history has events.
use Rattle.std.proofs.Common.{◌≡◌, ◌≤◌, ◌+◌, ◌++◌, ◌∙◌, ℕ, List, [], ◌∷◌, length, length-append, reverse, arith, Bool, true, false}
use Rattle.std.proofs.lemmas.List.{length-map, length-reverse}
use Rattle.std.specs.Prelude.{◌==◌, if◌then◌else◌, Option, Some, None}
use Rattle.mc_item.specs.declared.{class_event.ClassEvent.ClassEvent, class_event.Why.Why, lists.Entry.Entry, lists.Seg.Seg}
use Rattle.mc_item.specs.declared.class_event.ClassEvent.TheVariants as events
use Rattle.mc_item.specs.declared.lists.Seg.TheVariants.{Hot, Warm, Cold, Temp}
use Rattle.mc_rule.specs.Lists.{Lists, count_of, entry, find, linked, list_of, lists_after, lists_from, lists_of, moved_entry, no_lists, time_after, unlinked, with_list, without}
use Rattle.mc_segment.specs.ClassState.{ClassView}
use Rattle.mc_crawl.specs.Snapshot.{link_of_entry, links_in, links_of}

kept_few : (b : Bool) (e : Entry) (es rest : List Entry) → length rest ≤ length es → length (if b then es else e ∷ rest) ≤ length (e ∷ es)
kept_few true e es rest few = omega arith
kept_few false e es rest few = omega arith

-- a list without an entry has no more
without_few : (n : ℕ) (es : List Entry) → length (without n es) ≤ length es
without_few n [] = omega arith
without_few n (e ∷ es) = kept_few (e.number == n) e es (without n es) (without_few n es)

-- so have the lists
unlinked_few : (n : ℕ) (l : Lists) → count_of (unlinked n l) ≤ count_of l
unlinked_few n l = omega (arith, without_few n l.hot, without_few n l.warm, without_few n l.cold, without_few n l.temp)

-- one entry more is at most one more
linked_few : (s : Seg) (e : Entry) (l : Lists) → count_of (linked s e l) ≤ count_of l + 1
linked_few Hot e l = omega arith
linked_few Warm e l = omega arith
linked_few Cold e l = omega arith
linked_few Temp e l = omega arith

-- with a shorter list for one segment there are no more
with_few : (l : Lists) (s : Seg) (es : List Entry) → length es ≤ length (list_of l s) → count_of (with_list l s es) ≤ count_of l
with_few l Hot es few = omega arith
with_few l Warm es few = omega arith
with_few l Cold es few = omega arith
with_few l Temp es few = omega arith

-- a move makes at most one more
moved_few : (o : Option Entry) (n : ℕ) (from_seg to_seg : Seg) (why : Why) (moment : ℕ) (l : Lists) → count_of (moved_entry o n from_seg to_seg why moment l) ≤ count_of l + 1
moved_few None n from_seg to_seg why moment l = omega arith
moved_few (Some e) n from_seg to_seg why moment l =
    let short = with_few l from_seg (without n (list_of l from_seg)) (without_few n (list_of l from_seg)) in
    let more = linked_few to_seg (record e { time = time_after why moment e.time }) (with_list l from_seg (without n (list_of l from_seg))) in
    omega (arith, short, more)

-- an event makes at most one more
after_few : (l : Lists) (e : ClassEvent) → count_of (lists_after l e) ≤ count_of l + 1
after_few l (events.Linked e) = linked_few e.seg (entry e.number e.key e.cost e.moment) l
after_few l (events.Unlinked e) = omega (arith, unlinked_few e.number l)
after_few l (events.Shifted e) = moved_few (find e.number (list_of l e.from_seg)) e.number e.from_seg e.to_seg e.why e.moment l
after_few l (events.Evicted e) = omega (arith, unlinked_few e.number l)
after_few l (events.Reclaimed e) = omega (arith, unlinked_few e.number l)
after_few l (events.Surveyed e) = omega arith
after_few l (events.Refused e) = omega arith
after_few l (events.Limited e) = omega arith

-- events make at most as many more
from_few : (l : Lists) (es : List ClassEvent) → count_of (lists_from l es) ≤ count_of l + length es
from_few l [] = omega arith
from_few l (e ∷ es) = omega (arith, from_few (lists_after l e) es, after_few l e)

-- a history leaves no more entries than it has events
lists_few : (history : List ClassEvent) → count_of (lists_of history) ≤ length history
lists_few history = omega (arith, from_few no_lists history)

-- a segment has as many links as entries
links_in_long : (c : ClassView) (s : Seg) → length (links_in c s) ≡ length (list_of (lists_of c.history) s)
links_in_long c s = length-map (reverse (list_of (lists_of c.history) s)) (link_of_entry c.number) ∙ length-reverse (list_of (lists_of c.history) s)

-- a class has no more links than its history has events
pub links_few : (c : ClassView) → length (links_of c) ≤ length c.history
links_few c =
    let hot = links_in_long c Hot in
    let warm = links_in_long c Warm in
    let cold = links_in_long c Cold in
    let temp = links_in_long c Temp in
    omega (
      arith,
      hot,
      warm,
      cold,
      temp,
      length-append ((links_in c Hot ++ links_in c Warm) ++ links_in c Cold) (links_in c Temp),
      length-append (links_in c Hot ++ links_in c Warm) (links_in c Cold),
      length-append (links_in c Hot) (links_in c Warm),
      lists_few c.history,
    )
