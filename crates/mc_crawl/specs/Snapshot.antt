-- The links of a class's entries, in the order in which a crawl takes them (own).
use Rattle.std.specs.Prelude.{◌++◌, List, map, reverse}
use Rattle.mc_item.specs.declared.{item.ClassNo.ClassNo, item.Link.Link, lists.Entry.Entry, lists.Seg.Seg}
use Rattle.mc_item.specs.declared.lists.Seg.TheVariants.{Hot, Warm, Cold, Temp}
use Rattle.mc_rule.specs.Lists.{list_of, lists_of}
use Rattle.mc_segment.specs.ClassState.{ClassView}

-- the link of an entry of a class
abbrev pub link_of_entry : ClassNo → Entry → Link
link_of_entry class e = record { class = class; number = e.number }

-- the links of a list's entries, from its tail
abbrev pub links_from_tail : ClassNo → List Entry → List Link
links_from_tail class es = map (link_of_entry class) (reverse es)

-- the links of a segment of a class, from its tail
abbrev pub links_in : ClassView → Seg → List Link
links_in c s = links_from_tail c.number (list_of (lists_of c.history) s)

-- the links of all entries of a class: HOT's, WARM's, COLD's, then TEMP's, each from its list's tail
abbrev pub links_of : ClassView → List Link
links_of c = ((links_in c Hot ++ links_in c Warm) ++ links_in c Cold) ++ links_in c Temp
