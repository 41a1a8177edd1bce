use Rattle.std.proofs.Common.{◌≡◌, ◌++◌, List, length, arith, ap, ◌∙◌}
use Rattle.mc_item.specs.declared.item.Link.{Link}
use Rattle.mc_item.specs.declared.lists.Seg.TheVariants.{Hot, Warm, Cold, Temp}
use Rattle.mc_crawl.specs.Snapshot.{links_in, links_of}
use Rattle.mc_crawl.proofs.EntryCountLemmas.{links_few}
use Rattle.mc_crawl.proofs.snapping.snapshot.Goals as goal

pub returns-clause-few : goal.returns-clause-few
returns-clause-few c =
    let class = c.args.class.now in
    let hot = c.in_ok-push_segment.ensures ∙ ap (λ (ls : List Link). ls ++ links_in class Hot) c.in_ok-links.ensures.items in
    let warm = c.in_ok-push_segment-2.ensures ∙ ap (λ (ls : List Link). ls ++ links_in class Warm) hot in
    let cold = c.in_ok-push_segment-3.ensures ∙ ap (λ (ls : List Link). ls ++ links_in class Cold) warm in
    let all : c.push_segment-4.new.links.items ≡ links_of class = c.in_ok-push_segment-4.ensures ∙ ap (λ (ls : List Link). ls ++ links_in class Temp) cold in
    omega (arith, ap (λ (ls : List Link). length ls) all, links_few class, c.law.ensures.places)
