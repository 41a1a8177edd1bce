use Rattle.std.proofs.Common.{ap, subst, sym}
use Rattle.mc_item.specs.declared.counts.Histogram.{Histogram}
use Rattle.mc_stripe.specs.StripeState.{Stripe}
use Rattle.mc_crawl.specs.Crawl.{crawl, Reclaims}
use Rattle.mc_crawl.proofs.CrawlLemmas.{crawled_grows, crawled_reclaims}
use Rattle.mc_crawl.proofs.crawling.crawl_one.Goals as goal

pub returns-clause-crawled : goal.returns-clause-crawled
returns-clause-crawled g c =
    let q = crawl c.args.context.turn.who c.args.link.number c.args.context.turn.moment c.args.context.config.now in
    let kind = c.in_ok-kind in
    let R : Stripe → Type 0 = g.G.Gate.reaches c.args.gate.now c.kind_at.new.gate in
    record {
      kind = kind.kind;
      crawled = kind.ensures.crawled;
      counts = c.count.ensures.value;
      seen = ap (λ (h : Histogram). h.seen) c.count.ensures.value;
      reclaims = subst (λ (h : Histogram). Reclaims q.who q.moment c.args.class.now.history c.kind_at.new.class.history c.args.histogram.now.reclaimed h.reclaimed) (sym c.count.ensures.value)
          (crawled_reclaims R q c.args.class.now c.kind_at.new.class _ _ kind.kind c.args.histogram.now kind.ensures.crawled);
    }

pub returns-clause-grows : goal.returns-clause-grows
returns-clause-grows g c =
    crawled_grows (g.G.Gate.reaches c.args.gate.now c.kind_at.new.gate)
    (crawl c.args.context.turn.who c.args.link.number c.args.context.turn.moment c.args.context.config.now) c.args.class.now c.kind_at.new.class _ _ c.in_ok-kind.kind c.in_ok-kind.ensures.crawled
