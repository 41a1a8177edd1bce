use Rattle.std.proofs.Common.{◌≡◌, ap, ◌∙◌}
use Rattle.mc_board.specs.{Histories.list_at, Views.SeenView}
use Rattle.mc_evidence.specs.Seen.{stripes_seen}
use Rattle.mc_rule.specs.Lists.{count_of, lists_of}
use Rattle.mc_segment.specs.ClassState.{ClassView}
use Rattle.mc_crawl.specs.Snapshot.{links_of}
use Rattle.mc_store.specs.{Crawls.IsSeenSound, Locked.IsHeldClass, Locked.class_lock, Passes.ArePlaced, Passes.PassView, Sides.ClassSide}
use Rattle.mc_store.proofs.{CrawledLemmas.snapshot_taken, GrownClassLemmas.seen_sound, PlacedLemmas.placed_sees}
use Rattle.mc_store.proofs.store.Store.snapshot_of.Given.{Over}
use Rattle.mc_store.proofs.store.Store.snapshot_of.Goals as goal
use Rattle.mc_store.proofs.store.Store.snapshot_of.Goals.{After-share}

-- the class is under its lock, and the pass sees all of it
module _ (g : Over) (c : After-share g) where
  abbrev side : ClassSide
  side = c.compare.new.self

  kept : IsHeldClass g.N.Named.board.table g.N.Named.config side
  kept = rw (← c.compare.ensures.same.0) at c.own.invariant.held

  number : side.class.number ≡ c.args.class
  number = ap (λ (x : ClassSide). x.class.number) (c.compare.ensures.same.0 ∙ (c.own.view_is ∙ c.deref_mut-own.ensures.value)) ∙ c.lock_class-guard.ensures

  sound : IsSeenSound g.N.Named.config c.args.class c.share.new.seen.sight
  sound = seen_sound g.N.Named.board.table g.N.Named.config c.args.class c.share.new.seen.sight side kept number c.share.ensures.told c.share.ensures.all

  -- the pass keeps its board, and sees each event that it placed
  board : c.share.new.seen.board ≡ g.N.Named.board.table
  board = c.share.ensures.board ∙ (ap (λ (v : SeenView). v.board) c.compare.ensures.same.1 ∙ c.pass.invariant.0)

  placed : ArePlaced g.N.Named.config c.pass.inside.caller (stripes_seen (list_at c.share.new.seen.sight.seen))
  placed = placed_sees g.N.Named.config c.pass.inside.caller c.pass.inside.seen.sight c.share.new.seen.sight (rw c.compare.ensures.same.1 at c.share.ensures.grows.seen) c.pass.invariant.1

pub returns-clause-links : goal.returns-clause-links
returns-clause-links g c =
    let at = (goal.at.returns-clause-links g c).After-share in
    let lock : (side g at).lock ≡ class_lock g.N.Named.config c.args.class = (kept g at).lock_is ∙ ap (class_lock g.N.Named.config) (number g at) in
    let behind = rw (← c.compare.ensures.same.0, ap (λ (v : PassView). v.sight) c.pass.view_is) at c.compare.ensures.behind in
    let of : c.state.result.now ≡ (side g at).class = c.state.ensures ∙ ap (λ (x : ClassSide). x.class) c.share.ensures.same in
    snapshot_taken g.N.Named.config c.args.class c.args.pass.now.sight c.share.new.seen.sight (side g at).class c.in_ok-links.links.items (number g at)
    (rw lock at behind.seen) (rw lock at c.share.ensures.told)
    (c.in_ok-links.ensures.links ∙ ap links_of of)
    (c.in_ok-links.ensures.count ∙ ap (λ (v : ClassView). count_of (lists_of v.history)) of)

pub returns-clause-sound : goal.returns-clause-sound
returns-clause-sound g c = sound g (goal.at.returns-clause-sound g c).After-share

pub returns-in_err-links-clause-sound : goal.returns-in_err-links-clause-sound
returns-in_err-links-clause-sound g c = sound g (goal.at.returns-in_err-links-clause-sound g c).After-share

pub invariant_of-pass : goal.invariant_of-pass
invariant_of-pass g c =
    let at = (goal.at.invariant_of-pass g c).After-share in
    (board g at, placed g at, c.pass.invariant.2, c.pass.invariant.3, c.pass.invariant.4)

pub invariant_of-pass-2 : goal.invariant_of-pass-2
invariant_of-pass-2 g c =
    let at = (goal.at.invariant_of-pass-2 g c).After-share in
    (board g at, placed g at, c.pass.invariant.2, c.pass.invariant.3, c.pass.invariant.4)
