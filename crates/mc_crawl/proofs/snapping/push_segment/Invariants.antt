use Rattle.std.proofs.Common.{◌≡◌, ◌++◌, take}
use Rattle.std.specs.Option.{option_copied}
use Rattle.mc_rule.specs.Lists.{from_tail, list_of, lists_of}
use Rattle.mc_crawl.specs.Snapshot.{links_in}
use Rattle.mc_crawl.proofs.snapping.push_segment.Given as goal

abbrev pub invariant-loop : goal.invariant-loop
invariant-loop l =
    (l.links.items ≡ l.fn.links.items ++ take l.counter (links_in l.class l.fn.seg))
    × (option_copied l.next ≡ from_tail (list_of (lists_of l.class.history) l.fn.seg) l.counter)
