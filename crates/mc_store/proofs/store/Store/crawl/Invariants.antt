use Rattle.std.proofs.Common.{◌≡◌, ◌+◌, ◌++◌, ◌∷◌, [], take}
use Rattle.mc_crawl.specs.CrawlCount.{IsBalanced}
use Rattle.mc_store.specs.{Callers.crawling_of, Crawls.IsSeenSound, Crawls.ShowsReclaims, Passes.next_who, Serving.IsLater}
use Rattle.mc_store.proofs.CrawledLemmas.{CountsSoFar}
use Rattle.mc_store.proofs.store.Store.crawl.Given as goal

abbrev pub invariant-loop-i : goal.invariant-loop-i
invariant-loop-i g l =
    (l.histogram.seen ≡ l.i) × IsBalanced l.histogram
    × ShowsReclaims g.N.Named.config l.class l.fn.pass.sight l.pass.sight l.who l.moment 0 l.histogram.reclaimed
    × CountsSoFar g.N.Named.config l.class l.fn.pass l.pass l.who l.moment l.links.items (take l.i l.links.items) l.histogram
    × IsLater l.fn.pass.sight l.pass.sight × (l.pass.caller ≡ l.fn.pass.caller) × (l.pass.turn ≡ l.fn.pass.turn + 1) × (l.who ≡ next_who l.fn.pass)
    × (l.pass.calls ≡ l.fn.pass.calls ++ crawling_of l.class l.moment ∷ [])
    × IsSeenSound g.N.Named.config l.class l.pass.sight × (l.pass.hands ≡ l.fn.pass.hands)
