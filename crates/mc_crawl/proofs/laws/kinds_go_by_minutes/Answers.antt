use Rattle.mc_crawl.proofs.CrawlKindLemmas.{dead_kind, hour_kind, minute_kind}
use Rattle.mc_crawl.proofs.laws.kinds_go_by_minutes.Goals as goal

pub returns : goal.returns
returns c = record { dead = dead_kind; minute = minute_kind; hour = hour_kind }
