use Rattle.std.proofs.Common.{rules, ◌≡◌, ap, ◌∙◌, subst, sym}
use Rattle.std.specs.Prelude.{MatchResult}
use Rattle.mc_segment.specs.ClassState.{ClassView}
use Rattle.mc_store.specs.Reached.{seen_stripes}
use Rattle.mc_store.specs.{Crawls.CountsOne, Callers.crawling_of, Locked.HasBegunAs, Locked.IsLockedClass, Serving.class_side, Sides.ClassSide}
use Rattle.mc_store.proofs.{CallerLemmas.begun_as_sees, CrawledLemmas.on_ok_more, GateLemmas.stretch_under, OwnEventLemmas.gains_crawled, OwnEventLemmas.locked_gains}
use Rattle.mc_store.proofs.{OwnCallLemmas.may_try_whole, ShortHistoryLemmas.match_fault, ShortHistoryLemmas.match_ok}
use Rattle.mc_store.proofs.crawling.crawl_under.Goals as goal

pub crawl-requires-clause-gate : goal.crawl-requires-clause-gate
crawl-requires-clause-gate g c =
    let config = g.N.Named.config in
    let turn = c.args.call.turn in
    let side = c.side.inside in
    let kept = subst (IsLockedClass g.N.Named.board.table config) (sym c.side.view_is) c.class.invariant in
    let begun = subst (λ (x : ClassSide). HasBegunAs config x.sight turn.who turn.moment (crawling_of x.class.number turn.moment)) (sym (c.side.view_is ∙ c.class.view_is)) c.requires.begun in
    may_try_whole g.N.Named.board.table config _ c.args.caller.now side.owner side.seen side.state (crawling_of side.state.number turn.moment) c.store.invariant.1 kept
    c.side.invariant.0 c.side.invariant.1 begun c.requires.caller

pub invariant_of-class : goal.invariant_of-class
invariant_of-class g c =
    let table = g.N.Named.board.table in
    let config = g.N.Named.config in
    let turn = c.args.call.turn in
    let made = c.crawl in
    let old : ClassSide = class_side c.side.inside.owner c.side.inside.seen c.side.inside.state in
    let new : ClassSide = class_side made.new.self.owner.now made.new.self.seen.now made.new.class in
    let One : Type 0 = CountsOne config (seen_stripes old.sight) (seen_stripes new.sight) c.side.inside.state new.class turn c.args.link c.args.histogram.now made.new.histogram in
    let Stays : Type 0 = new.class.history ≡ old.class.history in
    let reclaims = on_ok_more made.result _ _ (λ (one : One). one.reclaims) (match_ok made.result (λ done. One) (λ fault. Stays) made.ensures.counted) in
    let made_so = gains_crawled old.class.number turn.who turn.moment old.class.history new.class.history _ _ made.result reclaims (match_fault made.result (λ done. One) (λ fault. Stays) made.ensures.counted) in
    let call = crawling_of old.class.number turn.moment in
    let begun = subst (λ (x : ClassSide). HasBegunAs config x.sight turn.who turn.moment (crawling_of x.class.number turn.moment)) (sym (c.side.view_is ∙ c.class.view_is)) c.requires.begun in
    locked_gains table config old new turn.who turn.moment call (subst (IsLockedClass table config) (sym c.side.view_is) c.class.invariant)
    made.ensures.left.served.kept (ap (λ (v : ClassView). v.number) made.ensures.left.grows.same)
    (begun_as_sees config old.sight new.sight turn.who turn.moment call made.ensures.left.walked.sees begun) made.ensures.left.walked.sees made_so.0 made_so.1

pub returns-clause-counted : goal.returns-clause-counted
returns-clause-counted g c =
    let made = c.crawl in
    let old : ClassSide = class_side c.side.inside.owner c.side.inside.seen c.side.inside.state in
    let Counts : ClassSide → Type 0 = λ x. CountsOne g.N.Named.config (seen_stripes x.sight) (seen_stripes made.new.self.seen.now.sight) x.class made.new.class c.args.call.turn c.args.link
    c.args.histogram.now made.new.histogram in
    subst (λ (x : ClassSide). MatchResult made.result (λ done. Counts x) (λ fault. made.new.class.history ≡ x.class.history)) (c.side.view_is ∙ c.class.view_is)
    made.ensures.counted

pub returns-clause-still : goal.returns-clause-still
returns-clause-still g c =
    let made = c.crawl in
    let old : ClassSide = class_side c.side.inside.owner c.side.inside.seen c.side.inside.state in
    let new : ClassSide = class_side made.new.self.owner.now made.new.self.seen.now made.new.class in
    let still =
    stretch_under g.N.Named.config c.args.call.turn.who.turn c.side.inside.owner.history old new c.args.class.now c.args.caller.now made.new.self.caller.now c.side.invariant.0
    (c.side.view_is ∙ c.class.view_is) (ap (λ (v : ClassView). v.number) made.ensures.left.grows.same) made.ensures.references.3 in
    search (rules, still)
