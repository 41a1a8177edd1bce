use Rattle.std.proofs.Common.{◌≡◌, Some, sym, ap, ◌∙◌, refl}
use Rattle.std.specs.Option.{option_copied}
use Rattle.mc_rule.specs.Lists.{from_tail, list_of, lists_of}
use Rattle.mc_crawl.proofs.SnapshotLemmas.{link_pushed}
use Rattle.mc_crawl.proofs.snapping.push_segment.Goals as goal

pub loop-preserved : goal.loop-preserved
loop-preserved c =
    let class = c.args.class.now in
    let es = list_of (lists_of class.history) c.args.seg in
    let e = c.in-Some.entry.now in
    let here : from_tail es c.loop.counter ≡ Some e = sym c.loop.invariant.1 ∙ ap option_copied c.in-Some.is in (
      link_pushed class.number c.number.result es c.args.links.now.items c.loop.links.items c.push.new.self.items c.loop.counter e c.number.ensures here c.loop.invariant.0 c.in_ok-push.ensures.items,
      c.next_newer-next.ensures.newer c.args.seg c.loop.counter e here refl,
    )
