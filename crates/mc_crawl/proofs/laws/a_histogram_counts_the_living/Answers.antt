use Rattle.mc_crawl.proofs.CrawlLivingLemmas.{crawled_living, gone_all, hour_all, minute_all, never_all, passed_all, reclaimed_all, seen_all}
use Rattle.mc_crawl.proofs.laws.a_histogram_counts_the_living.Goals as goal

pub returns : goal.returns
returns c = record { never = never_all; hour = hour_all; minute = minute_all; seen = seen_all; reclaimed = reclaimed_all; passed = passed_all; gone = gone_all; crawls = crawled_living }
