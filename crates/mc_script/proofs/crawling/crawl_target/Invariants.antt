use Rattle.std.proofs.Common.{◌≡◌, ◌≤◌, ◌*◌, length}
use Rattle.mc_proto.specs.Answers.{counts_of}
use Rattle.mc_script.specs.{Calls.AddsUp, Calls.IsSameCaller, Calls.SumsUp, Exchanges.Crawls, Script.classes_from}
use Rattle.mc_script.proofs.crawling.crawl_target.Given as goal

-- the classes so far were crawled, and no sum is large
abbrev pub invariant-loop-i : goal.invariant-loop-i
invariant-loop-i g l = record {
  may : (g.C.Calls.view l.calls).may_call;
  same : IsSameCaller (g.C.Calls.view l.fn.calls) (g.C.Calls.view l.calls);
  seen : l.sum.seen ≤ l.i * 4294967296;
  minutes : length l.sum.minutes ≡ 60;
  kinds : AddsUp l.sum;
  crawled : SumsUp Crawls counts_of (classes_from l.first l.i) l.sum l.moment (g.C.Calls.view l.fn.calls) (g.C.Calls.view l.calls);
}
