use Rattle.mc_crawl.specs.CrawlCount.{IsBalanced}
use Rattle.mc_pull_tests.proofs.tests.crawling.crawl.Given as goal

-- the kinds go on adding up
abbrev pub invariant-loop-number : goal.invariant-loop-number
invariant-loop-number l = IsBalanced l.histogram
