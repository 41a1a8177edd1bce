use Rattle.std.proofs.Common.{List, map, rules, ◌≡◌, ◌∙◌, length, arith, subst, sym, ap}
use Rattle.mc_item.specs.declared.counts.Histogram.{Histogram}
use Rattle.mc_item.specs.declared.item.ClassNo.{ClassNo}
use Rattle.mc_script.specs.{Calls.AddsUp, Calls.BreaksAmong, Exchanges.Crawls}
use Rattle.mc_script.proofs.{DirectiveCallLemmas.class_fails, DirectiveCallLemmas.class_more, MadeCallLemmas.same_both}
use Rattle.mc_script.proofs.SumLemmas.{adds_up_both, both_fit, counts_of-push, sums_long}
use Rattle.mc_script.proofs.crawling.crawl_target.Goals as goal

pub returns-in_err-histogram-clause-err : goal.returns-in_err-histogram-clause-err
returns-in_err-histogram-clause-err g c =
    let broken = subst (λ (cs : List ClassNo). BreaksAmong c.in_err-histogram.field-0.0 (map Crawls cs) c.args.moment (g.C.Calls.view c.args.calls.now) (g.C.Calls.view c.crawl.new.self)) c.numbers_of-first.ensures.named
    (class_fails c.numbers_of-first.result.0 c.loop-i.i {all = c.numbers_of-first.result.1} (omega arith) c.loop-i.invariant.crawled c.in_err-histogram.ensures.err) in
    search rules

pub add-requires : goal.add-requires
add-requires g c = both_fit c.loop-i.sum c.in_ok-histogram.histogram c.loop-i.invariant.kinds c.in_ok-histogram.ensures.kinds (omega (arith, c.loop-i.invariant.seen, c.in_ok-histogram.ensures.small))

pub loop-i-preserved : goal.loop-i-preserved
loop-i-preserved g c =
    let before = c.loop-i.invariant in
    let here = c.in_ok-histogram.ensures in
    let long : length c.in_ok-histogram.histogram.minutes ≡ 60 = omega arith in
    record {
      may = here.caller.may;
      same = same_both before.same here.caller.same;
      seen = omega (arith, before.seen, here.small, ap (λ (h : Histogram). h.seen) c.add.ensures);
      minutes = ap (λ (h : Histogram). length h.minutes) c.add.ensures ∙ sums_long c.loop-i.sum.minutes c.in_ok-histogram.histogram.minutes 60 before.minutes long;
      kinds = subst AddsUp (sym c.add.ensures) (adds_up_both c.loop-i.sum c.in_ok-histogram.histogram (before.minutes ∙ sym long) before.kinds here.kinds);
      crawled = class_more c.numbers_of-first.result.0 c.loop-i.i before.crawled here.ok
          (c.add.ensures ∙ counts_of-push before.crawled.answers c.loop-i.sum c.in_ok-histogram.histogram before.crawled.added);
    }
