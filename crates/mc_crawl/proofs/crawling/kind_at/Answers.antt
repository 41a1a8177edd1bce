use Rattle.std.proofs.Common.{◌≡◌, ◌∙◌, Some, subst, sym, ap}
use Rattle.std.specs.Option.{option_copied}
use Rattle.mc_rule.specs.Lists.{lists_of}
use Rattle.mc_segment.specs.Entries.{entry_of}
use Rattle.mc_stripe.specs.StripeState.{Stripe}
use Rattle.mc_crawl.specs.declared.kind.Kind.{Kind}
use Rattle.mc_crawl.specs.{Crawl.crawl, Crawl.IsCrawled, CrawlKind.kind_answered}
use Rattle.mc_crawl.proofs.CrawlLemmas.{looked}
use Rattle.mc_crawl.proofs.crawling.kind_at.Goals as goal

pub returns-clause-crawled : goal.returns-clause-crawled
returns-clause-crawled g c =
    let q = crawl c.args.context.turn.who c.args.number c.args.context.turn.moment c.args.context.config.now in
    let class = c.args.class.now in
    let e = c.in-Some.entry.now in
    let is : entry_of c.args.number (lists_of class.history) ≡ Some e = sym c.entry.ensures ∙ ap option_copied c.in-Some.is in
    let R : Stripe → Type 0 = g.G.Gate.reaches c.args.gate.now c.look_at.new.gate in
    subst (λ (k : Kind). IsCrawled R q class c.look_at.new.class (g.G.Gate.answers c.args.gate.now) (g.G.Gate.answers c.look_at.new.gate) k)
    (sym (c.kind_of.ensures.value ∙ ap (kind_answered c.args.context.turn.moment) c.in_ok-done.ensures.answer.made_is))
    (looked R q class c.look_at.new.class _ _ e c.stripe_of-stripe.result c.in_ok-done.ensures.answer.judged is c.stripe_of-stripe.ensures
    c.in_ok-done.ensures.answer.answers c.in_ok-done.ensures.answer.class c.in_ok-done.ensures.answer.reached)
