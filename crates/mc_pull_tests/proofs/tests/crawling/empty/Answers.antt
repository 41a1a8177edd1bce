use Rattle.std.proofs.Common.{sym, subst, arith}
use Rattle.mc_item.specs.Counts.{no_counts}
use Rattle.mc_crawl.specs.CrawlCount.{IsBalanced, MayCount}
use Rattle.mc_pull_tests.proofs.tests.crawling.empty.Goals as goal

pub returns : goal.returns
returns c = record {
  may = subst MayCount (sym c.new.ensures) (c.kinds_add_up.ensures.few no_counts c.kinds_add_up.ensures.none (omega arith));
  balanced = subst IsBalanced (sym c.new.ensures) c.kinds_add_up.ensures.none;
}
