use Rattle.std.proofs.Common.{◌≡◌, ap, ◌∙◌, sym}
use Rattle.mc_board.specs.{Histories.Grows, Histories.list_at, Views.SeenView}
use Rattle.mc_evidence.specs.Seen.{stripes_seen}
use Rattle.mc_segment.specs.ClassState.{ClassView}
use Rattle.mc_pull.specs.Growth as classes
use Rattle.mc_store.specs.{Accounts.IsOfStretch, Accounts.StillCalls, Accounts.stretch_of, Callers.crawling_of, Callers.placed_in, Finals.IsBehindAt}
use Rattle.mc_store.specs.{Locked.IsHeldClass, Passes.CallerView, Passes.PassView, Sides.ClassSide, Sides.class_told, Walking.class_sight}
use Rattle.mc_store.proofs.{AccountLemmas.still_pass, CrawledLemmas.enters_no_link, CrawledLemmas.link_entered, CrawledLemmas.link_seen, CrawledLemmas.match_ends, CrawledLemmas.one_wider}
use Rattle.mc_store.proofs.{GrownClassLemmas.class_grew, GrownClassLemmas.class_shared, GrownClassLemmas.fails_full, GrownClassLemmas.seen_sound, PlacedLemmas.placed_same, PlacedLemmas.placed_sees}
use Rattle.mc_store.specs.Reached.{seen_stripes}
use Rattle.mc_store.proofs.{LockKeepsLemmas.grows_trans, ReachedLemmas.seen_grows}
use Rattle.mc_store.proofs.store.Store.crawl_link.Given.{Over}
use Rattle.mc_store.proofs.store.Store.crawl_link.Goals as goal
use Rattle.mc_store.proofs.store.Store.crawl_link.Goals.{After-share}

-- the class is under its lock before and after
module _ (g : Over) (c : After-share g) where
  abbrev old_side : ClassSide
  old_side = c.compare.new.self

  abbrev new_side : ClassSide
  new_side = c.crawl_under-done.new.class

  old_kept : IsHeldClass g.N.Named.board.table g.N.Named.config old_side
  old_kept = rw (← c.compare.ensures.same.0) at c.own.invariant.held

  new_kept : IsHeldClass g.N.Named.board.table g.N.Named.config new_side
  new_kept = rw c.own-2.view_is at c.own-2.invariant.held

  number : old_side.class.number ≡ c.args.crawling.class
  number = ap (λ (x : ClassSide). x.class.number) (c.compare.ensures.same.0 ∙ (c.own.view_is ∙ c.deref_mut-own.ensures.value)) ∙ c.lock_class-guard.ensures

  -- no step before the crawl changed the class or the caller
  class_is : c.tell_class.new.class.class ≡ old_side.class
  class_is = ap (λ (x : ClassSide). x.class) c.tell_class.ensures.class ∙ ap (λ (x : ClassSide). x.class) c.learn.ensures.class

  grew : classes.GainsEvents old_side.class new_side.class
  grew = rw class_is at c.crawl_under-done.ensures.class

  still : StillCalls (IsOfStretch g.N.Named.config c.tell_class.new.class.class.number (stretch_of c.tell_class.new.class.class new_side.class)) c.args.crawling.turn.who.turn
      (class_sight g.N.Named.config c.tell_class.new.class) (class_sight g.N.Named.config new_side) c.pass.inside.caller c.crawl_under-done.new.caller
  still = rw c.tell_class.ensures.same at c.crawl_under-done.ensures.still

  -- the pass saw what it had of the class, and then all of it
  behind : IsBehindAt c.args.pass.now.sight old_side.lock (class_told old_side.class.history)
  behind = rw (← c.compare.ensures.same.0, ap (λ (p : PassView). p.sight) c.pass.view_is) at c.compare.ensures.behind

  told : list_at c.share.new.seen.sight.seen new_side.lock ≡ class_told new_side.class.history
  told = rw c.own-2.view_is at c.share.ensures.told

  all : Grows new_side.sight c.share.new.seen.sight
  all = rw c.own-2.view_is at c.share.ensures.all

  -- and the class had learned from it before the crawl
  learnt : Grows c.args.pass.now.sight c.tell_class.new.class.sight
  learnt =
      let first = rw (c.compare.ensures.same.1, ap (λ (p : PassView). p.sight) c.pass.view_is) at c.learn.ensures.learnt in
      grows_trans c.args.pass.now.sight c.learn.new.self.sight c.tell_class.new.class.sight first c.tell_class.ensures.grows

pub returns-clause-full : goal.returns-clause-full
returns-clause-full g c = λ is.
    let at = (goal.at.returns-clause-full g c).After-share in
    fails_full g.N.Named.board.table g.N.Named.config c.args.crawling.class c.args.pass.now.sight c.share.new.seen.sight (old_side g at) (new_side g at) (old_kept g at) (new_kept g at)
    (number g at) (grew g at) (behind g at) (told g at) (all g at) c.crawl_under-done.result c.crawl_under-done.ensures.fault is

pub crawl_under-done-requires-clause-begun : goal.crawl_under-done-requires-clause-begun
crawl_under-done-requires-clause-begun g c =
    let turn = c.args.crawling.turn in
    let number : c.tell_class.new.class.class.number ≡ c.args.crawling.class = ap (λ (x : ClassSide). x.class.number) c.tell_class.ensures.class
    ∙ (ap (λ (x : ClassSide). x.class.number) c.learn.ensures.class ∙ ap (λ (x : ClassSide). x.class.number) (c.compare.ensures.same.0 ∙ (c.own.view_is ∙ c.deref_mut-own.ensures.value)) ∙ c.lock_class-guard.ensures) in
    let called = rw (← c.pass.view_is) at c.requires.may.called in
    rw number (c.tell_class.ensures.begun turn.who turn.moment (crawling_of c.args.crawling.class turn.moment) called)

pub crawl_under-done-requires-clause-caller : goal.crawl_under-done-requires-clause-caller
crawl_under-done-requires-clause-caller g c =
    let called = rw (← c.pass.view_is) at c.requires.may.called in
    called.number ∙ sym (ap (λ (k : CallerView). k.number) c.tell_class.ensures.same)

pub returns-clause-sound : goal.returns-clause-sound
returns-clause-sound g c =
    let at = (goal.at.returns-clause-sound g c).After-share in
    seen_sound g.N.Named.board.table g.N.Named.config c.args.crawling.class c.share.new.seen.sight (new_side g at) (new_kept g at)
    (ap (λ (v : ClassView). v.number) (grew g at).same ∙ number g at) (told g at) (all g at)

pub returns-clause-counted : goal.returns-clause-counted
returns-clause-counted g c =
    let at = (goal.at.returns-clause-counted g c).After-share in
    let config = g.N.Named.config in
    let class = c.args.crawling.class in
    let turn = c.args.crawling.turn in
    let after = c.share.new.seen.sight in
    let old = (old_side g at).class in
    let new = (new_side g at).class in
    let seen_grow = class_grew g.N.Named.board.table config class c.args.pass.now.sight after (old_side g at) (new_side g at) (old_kept g at) (new_kept g at)
    (number g at) (grew g at) (behind g at) (told g at) (all g at) in
    let shared = class_shared g.N.Named.board.table config (new_side g at) after (new_kept g at) (told g at) (all g at) in
    let entered = link_entered config class turn.who.turn {mid = class_sight config (new_side g at)} {after = after} c.tell_class.new.class.class old new
    c.pass.inside.caller.made c.args.pass.now.made c.crawl_under-done.new.caller.made (class_is g at) (number g at) (ap (λ (p : PassView). p.made) c.pass.view_is) shared (still g at).enters in
    match_ends c.crawl_under-done.result _ _ _ _
    (λ counts.
    let wider = one_wider config (seen_stripes c.args.pass.now.sight) (seen_stripes c.tell_class.new.class.sight) (seen_stripes (new_side g at).sight) (seen_stripes after)
    (seen_grows config.stripes c.args.pass.now.sight c.tell_class.new.class.sight (learnt g at)) (seen_grows config.stripes (new_side g at).sight after (all g at)) old new turn c.args.link
    c.args.histogram.now c.crawl_under-done.new.histogram counts in
    (stretch_of old new, link_seen config class c.args.pass.now.sight after turn c.args.link c.args.histogram.now c.crawl_under-done.new.histogram old new seen_grow wider, entered))
    (λ same. enters_no_link config class turn.who.turn {after = after} old new c.args.pass.now.made c.crawl_under-done.new.caller.made same entered)
    (rw (class_is g at) at c.crawl_under-done.ensures.counted)

pub returns-clause-same : goal.returns-clause-same
returns-clause-same g c =
    let at = (goal.at.returns-clause-same g c).After-share in
    still_pass _ _ c.pass.inside.caller c.crawl_under-done.new.caller c.pass.inside.seen.sight c.share.new.seen.sight c.pass.inside.hands c.args.pass.now (still g at) c.pass.view_is

pub invariant_of-pass : goal.invariant_of-pass
invariant_of-pass g c =
    let i = c.pass.invariant in
    let seen = c.learn.ensures.same ∙ c.compare.ensures.same.1 in
    let after = c.share.new.seen.sight in
    let same = still g (goal.at.invariant_of-pass g c).After-share in
    let grows = rw seen at c.share.ensures.grows.seen in (
      c.share.ensures.board ∙ (ap (λ (v : SeenView). v.board) seen ∙ i.0),
      placed_same g.N.Named.config c.pass.inside.caller c.crawl_under-done.new.caller (stripes_seen (list_at after.seen)) same.number_is (ap placed_in same.calls_are)
          (placed_sees g.N.Named.config c.pass.inside.caller c.pass.inside.seen.sight after grows i.1),
      i.2,
      i.3 ∙ sym same.number_is,
      rw same.calls_are i.4,
    )
