use Rattle.std.proofs.Common.{drop, length, rules, sym, ap, ◌∙◌, subst}
use Rattle.mc_store.proofs.{CrawledLemmas.counts_one, CrawledLemmas.match_on, SeenStripeLemmas.on_err_more}
use Rattle.mc_store.proofs.{GateLemmas.served_asked, GateLemmas.still_caught_up, KeptWalkLemmas.kept_first}
use Rattle.std.specs.Prelude.{OnOk}
use Rattle.mc_item.specs.declared.{config.Config.Config, item.Who.Who}
use Rattle.mc_crawl.specs.Crawl.{HasCounted, crawl}
use Rattle.mc_store.specs.Reached.{IsStateBetween, seen_stripes}
use Rattle.mc_board.specs.{Accounts.AreBy, Views.OwnerView}
use Rattle.mc_segment.specs.ClassState.{ClassView}
use Rattle.mc_store.specs.{Sides.class_told, Walking.with_class}
use Rattle.mc_store.proofs.OwnCallLemmas.{served_told}
use Rattle.mc_store.proofs.gates.Trying.crawl.Goals as goal

pub crawl_one-done-requires-clause-gate : goal.crawl_one-done-requires-clause-gate
crawl_one-done-requires-clause-gate g c =
    let may = c.requires.gate in
    let me = c.args.self.now in
    let served = served_asked g.N.Named.board.table g.N.Named.config c.args.context me.caller.now me.owner.now me.seen.now c.args.class.now me.who me.moment may in
    record { class = may.class; serves = (may.names, served, may.walks.begun, may.walks.number) }

pub catch_up_class-requires-clause-by : goal.catch_up_class-requires-clause-by
catch_up_class-requires-clause-by g c =
    let me = c.args.self.now in
    let made = c.crawl_one-done.ensures in
    let kept = made.gate.kept me c.args.class.now.history
    (kept_first g.N.Named.config c.args.class.now.number c.args.context.turn.who me.who c.args.context.turn.moment me.moment me.owner.now me.seen.now.sight me.caller.now me.answers.now c.args.class.now.history) in
    subst (λ (who : Who). AreBy who (drop (length c.crawl_one-done.new.gate.owner.now.history) (class_told c.crawl_one-done.new.class.history))) (c.requires.gate.asks ∙ sym kept.0) made.gate.serves.1.by

pub returns-clause-left : goal.returns-clause-left
returns-clause-left g c =
    let me = c.args.self.now in
    let made = c.crawl_one-done.ensures in
    let kept = made.gate.kept me c.args.class.now.history
    (kept_first g.N.Named.config c.args.class.now.number c.args.context.turn.who me.who c.args.context.turn.moment me.moment me.owner.now me.seen.now.sight me.caller.now me.answers.now c.args.class.now.history) in
    record {
      grows = made.grows;
      served = served_told g.N.Named.board.table g.N.Named.config c.args.context.turn.who _ _ c.crawl_one-done.new.gate.seen.now c.crawl_one-done.new.class c.catch_up_class.ensures.told made.gate.serves.1;
      told = ap (λ (o : OwnerView). o.history) c.catch_up_class.ensures.told;
      walked = kept.2;
    }

pub returns-clause-references : goal.returns-clause-references
returns-clause-references g c =
    let config = g.N.Named.config in
    let old = c.args.class.now in
    let me = c.args.self.now in
    let caller = me.caller.now in
    let start = length me.owner.now.history in
    let who = c.args.context.turn.who in
    let made = c.crawl_one-done.ensures in
    let new = c.crawl_one-done.new in
    let kept = made.gate.kept me c.args.class.now.history
    (kept_first g.N.Named.config c.args.class.now.number c.args.context.turn.who me.who c.args.context.turn.moment me.moment me.owner.now me.seen.now.sight me.caller.now me.answers.now c.args.class.now.history) in
    let still =
    still_caught_up g.N.Named.board.table config who new.gate.who new.gate.owner.now new.gate.seen.now {x = with_class config old.number old.history me.seen.now.sight} old new.class
    caller new.gate.caller.now _ start (length new.gate.owner.now.history) kept.3 kept.4 made.gate.serves.1 (ap (λ (v : ClassView). v.number) made.grows.same)
    (kept.0 ∙ sym c.requires.gate.asks) c.catch_up_class.ensures.entered in
    (search rules, search rules, search rules, still)

pub returns-clause-counted : goal.returns-clause-counted
returns-clause-counted g c =
    let turn = c.args.context.turn in
    let first = c.args.self.now.seen.now.sight in
    let last = c.crawl_one-done.new.gate.seen.now.sight in
    let crawled = subst
    (λ (k : Config). OnOk c.crawl_one-done.result (HasCounted (IsStateBetween g.N.Named.config.stripes (seen_stripes first) (seen_stripes last)) (crawl turn.who c.args.link.number turn.moment k) c.args.class.now
    c.crawl_one-done.new.class c.args.self.now.answers.now c.crawl_one-done.new.gate.answers.now c.args.histogram.now c.crawl_one-done.new.histogram))
    c.requires.gate.names c.crawl_one-done.ensures.crawled in
    let stays = on_err_more c.crawl_one-done.result _ _ (λ it. ap (λ (v : ClassView). v.history) it.0) c.crawl_one-done.ensures.err in
    match_on c.crawl_one-done.result _ _
    (counts_one g.N.Named.config (seen_stripes first) (seen_stripes last) c.args.class.now c.crawl_one-done.new.class turn c.args.link _ _ c.args.histogram.now c.crawl_one-done.new.histogram
    c.crawl_one-done.result crawled) stays
