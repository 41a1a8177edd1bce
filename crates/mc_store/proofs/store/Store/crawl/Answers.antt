use Rattle.std.proofs.Common.{◌++◌, ◌∷◌, [], ◌≡◌, ◌<◌, ◌+◌, ℕ, Err, ap, ◌∙◌, length, refl, subst, sym, inl, inr, drop, take, arith}
use Rattle.std.proofs.Math.Seq.{take-length}
use Rattle.std.proofs.lemmas.List.{length-take-le, take-append-drop, take_more}
use Rattle.mc_item.specs.Counts.{no_counts}
use Rattle.mc_item.specs.declared.{counts.Histogram.Histogram, item.Link.Link, item.Who.Who}
use Rattle.mc_item.specs.declared.fault.Fault.TheVariants.{HistoryFull, NoMemory}
use Rattle.mc_board.specs.Histories.{list_at}
use Rattle.mc_crawl.specs.CrawlCount.{IsBalanced}
use Rattle.mc_store.specs.Crawls.{IsSnapshot, ShowsReclaims}
use Rattle.mc_store.specs.{Locked.class_lock, Passes.PassView, Serving.IsLater, Sides.class_told, Callers.crawling_of}
use Rattle.mc_store.proofs.CrawledLemmas.{CountsSoFar, shows_both, shows_none, so_far_all, so_far_more, so_far_none, so_far_till, till_none}
use Rattle.mc_store.proofs.{SeenStripeLemmas.called_now, ShortHistoryLemmas.if_err_of}
use Rattle.mc_store.proofs.LaterLemmas.{later_trans}
use Rattle.mc_store.proofs.{CallerLemmas.on_ok_always, NextTurnLemmas.turn_called}
use Rattle.mc_store.proofs.store.Store.crawl.Goals as goal

no_memory : NoMemory ≡ HistoryFull → ⊥
no_memory is = cc

pub loop-i-init : goal.loop-i-init
loop-i-init g c =
    let config = g.N.Named.config in
    let pass = c.args.pass.now in
    let seen = c.snapshot_of.new.pass.sight in
    let none : c.new-histogram.result ≡ no_counts = c.new-histogram.ensures in
    let turn = c.in_ok-who.ensures.took.turn in
    let links = c.in_ok-links.links.items in
    let later : IsLater pass.sight seen = subst (λ (p : PassView). IsLater p.sight seen) turn c.snapshot_of.ensures.grows in
    let same : c.snapshot_of.new.pass.made ≡ pass.made = ap (λ (p : PassView). p.made) c.snapshot_of.ensures.same ∙ ap (λ (p : PassView). p.made) turn in (
      ap (λ (h : Histogram). h.seen) none,
      subst IsBalanced (sym none) refl,
      subst (λ (h : Histogram). ShowsReclaims config c.args.class pass.sight seen c.in_ok-who.who c.args.moment 0 h.reclaimed) (sym none)
          (shows_none config c.args.class pass.sight seen c.in_ok-who.who c.args.moment 0 later.seen),
      so_far_none config c.args.class pass c.snapshot_of.new.pass c.in_ok-who.who c.args.moment links c.new-histogram.result none
          (subst
          (λ (p : PassView). (snapshot : IsSnapshot config c.args.class p.sight seen (length links)) × (snapshot.links ≡ links) × (list_at seen.seen (class_lock config c.args.class) ≡ class_told snapshot.history)) turn
          c.in_ok-links.ensures.links)
          same,
      later,
      ap (λ (p : PassView). p.caller) c.snapshot_of.ensures.same ∙ ap (λ (p : PassView). p.caller) turn,
      ap (λ (p : PassView). p.turn) c.snapshot_of.ensures.same ∙ ap (λ (p : PassView). p.turn) turn,
      c.in_ok-who.ensures.took.who,
      ap (λ (p : PassView). p.calls) c.snapshot_of.ensures.same ∙ ap (λ (p : PassView). p.calls) turn,
      c.snapshot_of.ensures.sound,
      ap (λ (p : PassView). p.hands) c.snapshot_of.ensures.same ∙ ap (λ (p : PassView). p.hands) turn,
    )

pub returns-in_err-crawl_link-clause-grows : goal.returns-in_err-crawl_link-clause-grows
returns-in_err-crawl_link-clause-grows g c = later_trans c.args.pass.now.sight c.loop-i.pass.sight c.crawl_link.new.pass.sight c.loop-i.invariant.4 c.crawl_link.ensures.grows

pub returns-in_err-crawl_link-clause-cut : goal.returns-in_err-crawl_link-clause-cut
returns-in_err-crawl_link-clause-cut g c =
    let i = c.loop-i.invariant in
    let links = c.in_ok-links.links.items in
    let new = c.crawl_link.new.pass in
    let below : c.loop-i.i < length links = omega (arith, c.loop-i-test.true, c.len-i-end.ensures) in
    let taken : length (take c.loop-i.i links) ≡ c.loop-i.i = length-take-le c.loop-i.i links (omega (arith, below)) in
    if_err_of c.in_err-crawl_link.field-0.0 c.from_residual-in_err-crawl_link.result _ c.from_residual-in_err-crawl_link.ensures.1
    (inr (so_far_till g.N.Named.config c.args.class c.args.pass.now c.loop-i.pass new c.in_ok-who.who c.args.moment links (take c.loop-i.i links) c.loop-i.histogram i.3 i.7
    ((drop c.loop-i.i links, take-append-drop c.loop-i.i links), inr (omega (arith, below, taken)))
    c.crawl_link.ensures.grows.seen c.in_err-crawl_link.ensures.counted
    (ap (λ (p : PassView). p.calls) c.crawl_link.ensures.same ∙ i.8) c.in_err-crawl_link.field-0.0
    (λ is. c.crawl_link.ensures.full (c.in_err-crawl_link.was ∙ ap Err is))))

pub returns-in_err-links-clause-cut : goal.returns-in_err-links-clause-cut
returns-in_err-links-clause-cut g c =
    let old = c.args.pass.now in
    let new = c.snapshot_of.new.pass in
    let took = c.in_ok-who.ensures.took.turn in
    let same = c.snapshot_of.ensures.same in
    let later : IsLater old.sight new.sight = subst (λ (p : PassView). IsLater p.sight new.sight) took c.snapshot_of.ensures.grows in
    let memory : c.in_err-links.field-0.0 ≡ NoMemory = c.in_err-links.ensures.memory in
    if_err_of c.in_err-links.field-0.0 c.from_residual-in_err-links.result _ c.from_residual-in_err-links.ensures.1
    (inr (till_none g.N.Named.config c.args.class old new c.args.moment c.snapshot_of.ensures.sound later.seen (ap (λ (p : PassView). p.made) same ∙ ap (λ (p : PassView). p.made) took)
    (ap (λ (p : PassView). p.calls) same ∙ ap (λ (p : PassView). p.calls) took) c.in_err-links.field-0.0 (λ is. absurd (no_memory (sym memory ∙ is)))))

pub returns-in_err-who-clause-cut : goal.returns-in_err-who-clause-cut
returns-in_err-who-clause-cut g c =
    if_err_of c.in_err-who.field-0.0 c.from_residual.result _ c.from_residual.ensures.1
    (inl (c.in_err-who.ensures.err, λ is. c.take_turn.ensures.full (c.in_err-who.was ∙ ap Err is)))

pub crawl_link-requires-clause-may : goal.crawl_link-requires-clause-may
crawl_link-requires-clause-may g c =
    let i = c.loop-i.invariant in
    record {
      of = c.requires.class;
      called = called_now c.args.pass.now c.loop-i.pass (crawling_of c.args.class c.args.moment) c.in_ok-who.who c.args.moment i.5 i.8 i.7 c.in_ok-who.ensures.turns refl;
    }

pub loop-i-preserved : goal.loop-i-preserved
loop-i-preserved g c =
    let config = g.N.Named.config in
    let i = c.loop-i.invariant in
    let pass = c.args.pass.now in
    let new = c.crawl_link.new.pass in
    let one = c.in_ok-crawl_link.ensures.counted in (
      one.1.seen ∙ ap (λ (n : ℕ). n + 1) i.0,
      c.crawl_link.ensures.balanced i.1,
      shows_both config c.args.class pass.sight c.loop-i.pass.sight new.sight c.in_ok-who.who c.args.moment 0 c.loop-i.histogram.reclaimed c.crawl_link.new.histogram.reclaimed
          i.2 one.1.reclaims,
      so_far_more config c.args.class pass c.loop-i.pass new c.in_ok-who.who c.args.moment c.in_ok-links.links.items
          (take c.loop-i.i c.in_ok-links.links.items) (take (c.loop-i.i + 1) c.in_ok-links.links.items)
          c.index.result.now one.0 c.loop-i.histogram c.crawl_link.new.histogram i.3 i.4.seen c.crawl_link.ensures.grows.seen one.1.counted one.2
          (ap (λ (l : Link). take c.loop-i.i c.in_ok-links.links.items ++ l ∷ []) c.index.ensures
          ∙ sym (take_more c.in_ok-links.links.items c.loop-i.i c.index.result.now (omega (arith, c.loop-i-test.true, c.len-i-end.ensures)))),
      later_trans pass.sight c.loop-i.pass.sight new.sight i.4 c.crawl_link.ensures.grows,
      ap (λ (p : PassView). p.caller) c.crawl_link.ensures.same ∙ i.5,
      ap (λ (p : PassView). p.turn) c.crawl_link.ensures.same ∙ i.6,
      i.7,
      ap (λ (p : PassView). p.calls) c.crawl_link.ensures.same ∙ i.8,
      c.crawl_link.ensures.sound,
      ap (λ (p : PassView). p.hands) c.crawl_link.ensures.same ∙ i.10,
    )

pub returns-clause-crawled : goal.returns-clause-crawled
returns-clause-crawled g c =
    let i = c.loop-i.invariant in
    let links = c.in_ok-links.links.items in
    let all : c.loop-i.i ≡ length links = omega (arith, c.len-i-end.ensures, c.loop-i.auto.i-end, c.loop-i-test.false) in
    let config = g.N.Named.config in
    let old = c.args.pass.now in
    let new = c.loop-i.pass in
    let done = take c.loop-i.i links in
    so_far_all config c.args.class old new c.args.moment links done c.loop-i.histogram
    (subst (λ (who : Who). CountsSoFar config c.args.class old new who c.args.moment links done c.loop-i.histogram) i.7 i.3)
    (ap (λ (n : ℕ). take n links) all ∙ take-length links) (i.0 ∙ all) i.1
    (subst (λ (who : Who). ShowsReclaims config c.args.class old.sight new.sight who c.args.moment 0 c.loop-i.histogram.reclaimed) i.7 i.2) i.9 i.8

pub returns-clause-hands : goal.returns-clause-hands
returns-clause-hands g c = c.loop-i.invariant.10

pub returns-in_err-crawl_link-clause-hands : goal.returns-in_err-crawl_link-clause-hands
returns-in_err-crawl_link-clause-hands g c = ap (λ (p : PassView). p.hands) c.crawl_link.ensures.same ∙ c.loop-i.invariant.10

pub returns-in_err-links-clause-hands : goal.returns-in_err-links-clause-hands
returns-in_err-links-clause-hands g c = ap (λ (p : PassView). p.hands) c.snapshot_of.ensures.same ∙ ap (λ (p : PassView). p.hands) c.in_ok-who.ensures.took.turn

pub returns-in_err-links-clause-turn : goal.returns-in_err-links-clause-turn
returns-in_err-links-clause-turn g c =
    let old = c.args.pass.now in
    let took = c.in_ok-who.ensures.took.turn in
    let same = c.snapshot_of.ensures.same in
    let turn : c.snapshot_of.new.pass.turn ≡ old.turn + 1 = ap (λ (p : PassView). p.turn) same ∙ ap (λ (p : PassView). p.turn) took in (
      turn_called old.calls c.snapshot_of.new.pass.calls old.turn c.snapshot_of.new.pass.turn c.args.moment (crawling_of c.args.class c.args.moment) turn
          (ap (λ (p : PassView). p.calls) same ∙ ap (λ (p : PassView). p.calls) took) refl c.in_ok-who.ensures.turns,
      on_ok_always c.from_residual-in_err-links.result turn,
    )

pub returns-in_err-crawl_link-clause-turn : goal.returns-in_err-crawl_link-clause-turn
returns-in_err-crawl_link-clause-turn g c =
    let old = c.args.pass.now in
    let i = c.loop-i.invariant in
    let same = c.crawl_link.ensures.same in
    let turn : c.crawl_link.new.pass.turn ≡ old.turn + 1 = ap (λ (p : PassView). p.turn) same ∙ i.6 in (
      turn_called old.calls c.crawl_link.new.pass.calls old.turn c.crawl_link.new.pass.turn c.args.moment (crawling_of c.args.class c.args.moment) turn
          (ap (λ (p : PassView). p.calls) same ∙ i.8) refl c.in_ok-who.ensures.turns,
      on_ok_always c.from_residual-in_err-crawl_link.result turn,
    )

pub returns-clause-turn : goal.returns-clause-turn
returns-clause-turn g c =
    let old = c.args.pass.now in
    let i = c.loop-i.invariant in
    (turn_called old.calls c.loop-i.pass.calls old.turn c.loop-i.pass.turn c.args.moment (crawling_of c.args.class c.args.moment) i.6 i.8 refl c.in_ok-who.ensures.turns, i.6)
