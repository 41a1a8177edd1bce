use Rattle.std.proofs.Common.{refl}
use Rattle.mc_crawl.proofs.CrawlCountLemmas.{balanced_more, balanced_sum, both_fit, few_fit, sum_counts}
use Rattle.mc_crawl.proofs.laws.kinds_add_up.Goals as goal

pub returns : goal.returns
returns c = record { none = refl; more = balanced_more; sum = balanced_sum; each = sum_counts; few = few_fit; fits = both_fit }
