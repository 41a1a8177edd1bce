use Rattle.std.proofs.Common.{◌≡◌, ◌++◌, ◌∷◌, [], Err, ap, ◌∙◌, inl, length, List, sym, refl}
use Rattle.std.specs.Prelude.{MatchResult}
use Rattle.mc_item.specs.declared.{call_event.CallEvent.CallEvent, item.Who.Who}
use Rattle.mc_board.specs.{Histories.Grows, Histories.list_at, Views.SeenView}
use Rattle.mc_pull.specs.Growth as classes
use Rattle.mc_pull.specs.Rounds.{rounds}
use Rattle.mc_hits.specs.{Views.HandsView}
use Rattle.mc_evidence.specs.Seen.{stripes_seen}
use Rattle.mc_store.specs.{Accounts.Enters, Accounts.IsOfWalk, Accounts.StillCalls, Callers.juggling_of, Callers.placed_in, Callers.turns_of, Calls.IsUpkeepCut, Calls.IsUpkept, Finals.IsBehindAt, Hits.queue_of}
use Rattle.mc_store.specs.{Locked.IsHeldClass, Made.HasNoneMadeBy, Passes.CallerView, Passes.PassView, Passes.next_who, Sides.ClassSide, Sides.class_told, Walking.class_sight}
use Rattle.mc_store.proofs.{AccountLemmas.enters_later, CallerLemmas.on_ok_always, GrownClassLemmas.class_shared, GrownClassLemmas.juggled_so}
use Rattle.mc_store.proofs.{GrownClassLemmas.juggled_till, PlacedLemmas.placed_same, PlacedLemmas.placed_sees, SeenStripeLemmas.called_now, TakenHitLemmas.takes_none, TakenHitLemmas.upkept_more}
use Rattle.mc_store.proofs.{LockKeepsLemmas.grows_trans, ReachedLemmas.state_sees}
use Rattle.mc_store.specs.Reached.{IsSeenState}
use Rattle.mc_store.proofs.ShortHistoryLemmas.{if_err_of, match_fault, match_ok}
use Rattle.mc_store.proofs.store.Store.juggle.Given.{Over}
use Rattle.mc_store.proofs.store.Store.juggle.Goals as goal
use Rattle.mc_store.proofs.store.Store.juggle.Goals.{After-share}

-- the class is under its lock before and after
module _ (g : Over) (c : After-share g) where
  abbrev old_side : ClassSide
  old_side = c.compare.new.self

  abbrev new_side : ClassSide
  new_side = c.upkeep_under-moves.new.class

  old_kept : IsHeldClass g.N.Named.board.table g.N.Named.config old_side
  old_kept = rw (← c.compare.ensures.same.0) at c.own.invariant.held

  new_kept : IsHeldClass g.N.Named.board.table g.N.Named.config new_side
  new_kept = rw c.own-2.view_is at c.own-2.invariant.held

  number : old_side.class.number ≡ c.args.class
  number = ap (λ (x : ClassSide). x.class.number) (c.compare.ensures.same.0 ∙ (c.own.view_is ∙ (c.in_ok-who.ensures.class ∙ c.deref_mut-own.ensures.value))) ∙ c.lock_class-guard.ensures

  -- no step before the upkeep changed the class or the caller
  class_is : c.tell_class.new.class.class ≡ old_side.class
  class_is = ap (λ (x : ClassSide). x.class) c.tell_class.ensures.class ∙ ap (λ (x : ClassSide). x.class) c.learn.ensures.class

  grew : classes.GainsEvents old_side.class new_side.class
  grew = rw class_is at c.upkeep_under-moves.ensures.class

  still : StillCalls (IsOfWalk g.N.Named.config c.tell_class.new.class.class.number) c.in_ok-who.who.turn (class_sight g.N.Named.config c.tell_class.new.class)
      (class_sight g.N.Named.config new_side) c.pass.inside.caller c.upkeep_under-moves.new.caller
  still = rw c.tell_class.ensures.same at c.upkeep_under-moves.ensures.still

  -- the pass saw what it had of the class, and then all of it
  behind : IsBehindAt c.args.pass.now.sight old_side.lock (class_told old_side.class.history)
  behind = rw (← c.compare.ensures.same.0, ap (λ (p : PassView). p.sight) (c.pass.view_is ∙ c.in_ok-who.ensures.took.turn)) at c.compare.ensures.behind

  told : list_at c.share.new.seen.sight.seen new_side.lock ≡ class_told new_side.class.history
  told = rw c.own-2.view_is at c.share.ensures.told

  all : Grows new_side.sight c.share.new.seen.sight
  all = rw c.own-2.view_is at c.share.ensures.all

  -- the turn made nothing before, and this is what the upkeep did in it
  first : HasNoneMadeBy (next_who c.args.pass.now) old_side.class.history
  first = rw (← (c.compare.ensures.same.0 ∙ (c.own.view_is ∙ c.in_ok-who.ensures.class))) at c.in_ok-who.ensures.first

  hands : c.pass.inside.hands ≡ c.args.pass.now.hands
  hands = ap (λ (p : PassView). p.hands) (c.pass.view_is ∙ c.in_ok-who.ensures.took.turn)

  -- the class had learned from the pass before the upkeep
  learnt : Grows c.args.pass.now.sight c.tell_class.new.class.sight
  learnt =
      let first = rw (c.compare.ensures.same.1, ap (λ (p : PassView). p.sight) (c.pass.view_is ∙ c.in_ok-who.ensures.took.turn)) at c.learn.ensures.learnt in
      grows_trans c.args.pass.now.sight c.learn.new.self.sight c.tell_class.new.class.sight first c.tell_class.ensures.grows

  upkept : MatchResult c.upkeep_under-moves.result
      (IsUpkept (IsSeenState g.N.Named.config.stripes c.args.pass.now.sight c.share.new.seen.sight) (rounds old_side.class (next_who c.args.pass.now) c.args.moment g.N.Named.config)
      c.args.pass.now.hands c.upkeep_under-moves.new.hands old_side.class.history new_side.class.history)
      (IsUpkeepCut (IsSeenState g.N.Named.config.stripes c.args.pass.now.sight c.share.new.seen.sight) (rounds old_side.class (next_who c.args.pass.now) c.args.moment g.N.Named.config)
      c.args.pass.now.hands c.upkeep_under-moves.new.hands old_side.class.history new_side.class.history)
  upkept =
      let stripes = g.N.Named.config.stripes in
      let first = c.tell_class.new.class in
      let last = c.share.new.seen.sight in
      let new = c.upkeep_under-moves.new.class in
      rw (hands, c.in_ok-who.ensures.took.who, class_is) at
      (upkept_more (IsSeenState stripes first.sight new.sight) (IsSeenState stripes c.args.pass.now.sight last)
      (state_sees stripes c.args.pass.now.sight first.sight new.sight last learnt all) (rounds first.class c.in_ok-who.who c.args.moment g.N.Named.config)
      c.pass.inside.hands c.upkeep_under-moves.new.hands first.class.history new.class.history c.upkeep_under-moves.result c.upkeep_under-moves.ensures.upkept)

  -- the call was noted, and the account has what the upkeep made
  calls : c.upkeep_under-moves.new.caller.calls ≡ c.args.pass.now.calls ++ juggling_of c.args.class c.args.moment ∷ []
  calls = still.calls_are ∙ ap (λ (p : PassView). p.calls) (c.pass.view_is ∙ c.in_ok-who.ensures.took.turn)

  entered : Enters (IsOfWalk g.N.Named.config c.args.class) c.args.pass.now.turn c.share.new.seen.sight c.args.pass.now.made c.upkeep_under-moves.new.caller.made
  entered =
      let config = g.N.Named.config in
      let seen = class_shared g.N.Named.board.table config new_side c.share.new.seen.sight new_kept told all in
      rw (class_is, number, ap (λ (w : Who). w.turn) c.in_ok-who.ensures.took.who, ap (λ (p : PassView). p.made) (c.pass.view_is ∙ c.in_ok-who.ensures.took.turn)) at
      (enters_later (IsOfWalk config c.tell_class.new.class.class.number) c.in_ok-who.who.turn {mid = class_sight config new_side} {after = c.share.new.seen.sight}
      c.pass.inside.caller.made c.upkeep_under-moves.new.caller.made seen still.enters)

pub returns-clause-juggled : goal.returns-clause-juggled
returns-clause-juggled g c =
    let at = (goal.at.returns-clause-juggled g c).After-share in
    juggled_so g.N.Named.board.table g.N.Named.config c.args.class c.args.pass.now.sight c.share.new.seen.sight (old_side g at) (new_side g at) (old_kept g at) (new_kept g at)
    (number g at) (grew g at) (behind g at) (told g at) (all g at) c.args.pass.now _ c.args.moment _ (first g at) refl refl (calls g at) (entered g at) (match_ok c.upkeep_under-moves.result _ _ (upkept g at))

pub returns-clause-cut : goal.returns-clause-cut
returns-clause-cut g c =
    let at = (goal.at.returns-clause-cut g c).After-share in
    juggled_till g.N.Named.board.table g.N.Named.config c.args.class c.args.pass.now.sight c.share.new.seen.sight (old_side g at) (new_side g at) (old_kept g at) (new_kept g at)
    (number g at) (grew g at) (behind g at) (told g at) (all g at) c.args.pass.now _ c.args.moment _ (first g at) refl refl (calls g at) (entered g at)
    c.upkeep_under-moves.ensures.fault (match_fault c.upkeep_under-moves.result _ _ (upkept g at))

pub returns-in_err-who-clause-cut : goal.returns-in_err-who-clause-cut
returns-in_err-who-clause-cut g c =
    if_err_of c.in_err-who.field-0.0 c.from_residual.result _ c.from_residual.ensures.1
    (inl (c.in_err-who.ensures.err, λ is. c.take_turn_in.ensures.full (c.in_err-who.was ∙ ap Err is)))

pub returns-clause-turn : goal.returns-clause-turn
returns-clause-turn g c =
    let calls = (still g (goal.at.returns-clause-turn g c).After-share).calls_are in
    (refl, on_ok_always c.upkeep_under-moves.result (ap (λ (l : List CallEvent). length (turns_of l)) calls ∙ ap (λ (p : PassView). p.turn) (c.pass.view_is ∙ c.in_ok-who.ensures.took.turn)))

pub upkeep_under-moves-requires : goal.upkeep_under-moves-requires
upkeep_under-moves-requires g c =
    let turn = c.in_ok-who.ensures.took.turn in
    let call = juggling_of c.args.class c.args.moment in
    let called = called_now c.args.pass.now c.take_turn_in.new.self call c.in_ok-who.who c.args.moment
    (ap (λ (p : PassView). p.caller) turn) (ap (λ (p : PassView). p.calls) turn) c.in_ok-who.ensures.took.who c.in_ok-who.ensures.turns refl in
    let number : c.tell_class.new.class.class.number ≡ c.args.class = ap (λ (x : ClassSide). x.class.number) c.tell_class.ensures.class
    ∙ (ap (λ (x : ClassSide). x.class.number) c.learn.ensures.class
    ∙ ap (λ (x : ClassSide). x.class.number) (c.compare.ensures.same.0 ∙ (c.own.view_is ∙ (c.in_ok-who.ensures.class ∙ c.deref_mut-own.ensures.value))) ∙ c.lock_class-guard.ensures) in
    let begun = c.tell_class.ensures.begun c.in_ok-who.who c.args.moment call (rw (← c.pass.view_is) at called) in
    record {
      upkeep = record {
        of = rw number c.requires.class;
        begun = rw number begun;
        tables_are = c.pass.invariant.2;
        number = ap (λ (w : Who). w.caller) c.in_ok-who.ensures.took.who ∙ (sym (ap (λ (p : PassView). p.caller) (c.pass.view_is ∙ turn)) ∙ sym (ap (λ (k : CallerView). k.number) c.tell_class.ensures.same));
      };
    }

pub returns-clause-taken : goal.returns-clause-taken
returns-clause-taken g c =
    let at = (goal.at.returns-clause-taken g c).After-share in
    rw (hands g at, class_is g at, number g at) at c.upkeep_under-moves.ensures.taken

pub returns-in_err-who-clause-taken : goal.returns-in_err-who-clause-taken
returns-in_err-who-clause-taken g c =
    takes_none (queue_of c.args.class) c.args.pass.now.hands c.take_turn_in.new.self.hands (ap (λ (p : PassView). p.hands) c.in_err-who.ensures.err)

pub invariant_of-pass : goal.invariant_of-pass
invariant_of-pass g c =
    let i = c.pass.invariant in
    let same = c.upkeep_under-moves.ensures.same in
    let seen = c.learn.ensures.same ∙ c.compare.ensures.same.1 in
    let after = c.share.new.seen.sight in
    let alike = still g (goal.at.invariant_of-pass g c).After-share in
    let grows = rw seen at c.share.ensures.grows.seen in (
      c.share.ensures.board ∙ (ap (λ (v : SeenView). v.board) seen ∙ i.0),
      placed_same g.N.Named.config c.pass.inside.caller c.upkeep_under-moves.new.caller (stripes_seen (list_at after.seen)) alike.number_is (ap placed_in alike.calls_are)
          (placed_sees g.N.Named.config c.pass.inside.caller c.pass.inside.seen.sight after grows i.1),
      ap (λ (h : HandsView). h.tables) same ∙ i.2,
      ap (λ (h : HandsView). h.caller) same ∙ (i.3 ∙ sym alike.number_is),
      rw (alike.calls_are, same) i.4,
    )
