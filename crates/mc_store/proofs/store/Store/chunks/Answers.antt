use Rattle.std.proofs.Common.{◌≡◌, ◌<◌, ◌+◌, ◌++◌, Err, ◌∷◌, [], List, ap, ◌∙◌, inl, inr, length, refl, subst, sym}
use Rattle.std.specs.Prelude.{OnErr, OnOk}
use Rattle.mc_item.specs.declared.{call_event.CallEvent.CallEvent, item.Who.Who, item.ClassNo.ClassNo}
use Rattle.mc_board.specs.{Histories.Grows, Histories.list_at, Views.SeenView}
use Rattle.mc_board.specs.declared.rule.Sight.{Sight}
use Rattle.mc_segment.specs.{ClassCalls.limited_event, ClassState.ClassView}
use Rattle.mc_evidence.specs.Seen.{stripes_seen}
use Rattle.mc_pull.specs.Growth as classes
use Rattle.mc_hits.specs.Rule.{AreBefore}
use Rattle.mc_store.specs.{Callers.call_events, Callers.limits_of, Callers.turns_of, Calls.IsSeenGrowOf, Finals.IsBehindAt, Locked.IsHeldClass, Locked.caller_place, Made.HasNoneMadeBy, Made.IsLimitCalled}
use Rattle.mc_store.specs.{Accounts.Enters, Accounts.StillCalls, Callers.placed_in, Locked.class_lock, Passes.CallerView, Passes.PassView, Passes.next_who, Passes.pass_of, Sides.ClassSide, Sides.class_told}
use Rattle.mc_store.specs.Walking.{class_sight}
use Rattle.mc_store.proofs.{AccountLemmas.enters_in, AccountLemmas.enters_later, CallerLemmas.on_ok_always, CrawledLemmas.on_ok_more}
use Rattle.mc_store.proofs.{GrownClassLemmas.class_grew, GrownClassLemmas.class_shared, GrownClassLemmas.lacks_seen, LimitedClassLemmas.limit_seen, LimitedClassLemmas.limited_so, LimitedClassLemmas.unlimited_so}
use Rattle.mc_store.proofs.PlacedLemmas.{placed_same, placed_sees}
use Rattle.mc_store.proofs.ShortHistoryLemmas.{if_err_by, if_err_of}
use Rattle.mc_store.proofs.store.Store.chunks.Given.{Over}
use Rattle.mc_store.proofs.store.Store.chunks.Goals as goal
use Rattle.mc_store.proofs.store.Store.chunks.Goals.{After-share}

-- the class is under its lock before and after
module _ (g : Over) (c : After-share g) where
  abbrev old_side : ClassSide
  old_side = c.compare.new.self

  abbrev new_side : ClassSide
  new_side = c.limit_under-limited.new.class

  old_is : old_side ≡ c.own.inside.side
  old_is = c.compare.ensures.same.0

  old_kept : IsHeldClass g.N.Named.board.table g.N.Named.config old_side
  old_kept = subst (IsHeldClass g.N.Named.board.table g.N.Named.config) (sym old_is) c.own.invariant.held

  new_kept : IsHeldClass g.N.Named.board.table g.N.Named.config new_side
  new_kept = subst (IsHeldClass g.N.Named.board.table g.N.Named.config) c.own-2.view_is c.own-2.invariant.held

  -- no step before the limit's changed the class
  class_is : c.tell_class.new.class.class ≡ old_side.class
  class_is = ap (λ (x : ClassSide). x.class) c.tell_class.ensures.class

  grew : classes.GainsEvents old_side.class new_side.class
  grew = subst (λ (v : ClassView). classes.GainsEvents v new_side.class) class_is c.limit_under-limited.ensures.same.0

  number : old_side.class.number ≡ c.args.class
  number = ap (λ (x : ClassSide). x.class.number) (old_is ∙ (c.own.view_is ∙ (c.in_ok-who.ensures.class ∙ c.deref_mut-own.ensures.value))) ∙ c.lock_class-guard.ensures

  took : pass_of c.pass.inside.caller c.pass.inside.seen.sight c.pass.inside.hands ≡ record c.args.pass.now { turn = c.args.pass.now.turn + 1; calls = c.args.pass.now.calls ++ limits_of c.args.class c.args.chunks ∷ [] }
  took = c.pass.view_is ∙ c.in_ok-who.ensures.took.turn

  behind : IsBehindAt c.args.pass.now.sight old_side.lock (class_told old_side.class.history)
  behind = subst (λ (t : Sight). IsBehindAt t old_side.lock (class_told old_side.class.history)) (ap (λ (p : PassView). p.sight) took)
      (subst (λ (x : ClassSide). IsBehindAt c.pass.inside.seen.sight x.lock (class_told x.class.history)) (sym old_is) c.compare.ensures.behind)

  told : list_at c.share.new.seen.sight.seen new_side.lock ≡ class_told new_side.class.history
  told = subst (λ (x : ClassSide). list_at c.share.new.seen.sight.seen x.lock ≡ class_told x.class.history) c.own-2.view_is c.share.ensures.told

  all : Grows new_side.sight c.share.new.seen.sight
  all = subst (λ (x : ClassSide). Grows x.sight c.share.new.seen.sight) c.own-2.view_is c.share.ensures.all

  first : HasNoneMadeBy (next_who c.args.pass.now) old_side.class.history
  first = subst (λ (x : ClassSide). HasNoneMadeBy (next_who c.args.pass.now) x.class.history) (sym (old_is ∙ (c.own.view_is ∙ c.in_ok-who.ensures.class))) c.in_ok-who.ensures.first

  -- and the pass sees what it gained
  seen_grow : IsSeenGrowOf g.N.Named.config c.args.class c.args.pass.now.sight c.share.new.seen.sight old_side.class new_side.class.history
  seen_grow =
      class_grew g.N.Named.board.table g.N.Named.config c.args.class c.args.pass.now.sight c.share.new.seen.sight old_side new_side old_kept new_kept number grew behind told all

  -- the call was noted, and the account has what it made
  calls : c.limit_under-limited.new.caller.calls ≡ c.args.pass.now.calls ++ limits_of c.args.class c.args.chunks ∷ []
  calls = c.limit_under-limited.ensures.same.1.calls_are ∙ (ap (λ (k : CallerView). k.calls) c.tell_class.ensures.same ∙ ap (λ (p : PassView). p.calls) took)

  entered : Enters (λ lock place event. lock ≡ class_lock g.N.Named.config c.args.class) c.args.pass.now.turn c.share.new.seen.sight c.args.pass.now.made c.limit_under-limited.new.caller.made
  entered =
      let config = g.N.Named.config in
      let old = c.args.pass.now in
      let teller = c.tell_class.new.self in
      let is : c.tell_class.new.class.class.number ≡ c.args.class = ap (λ (v : ClassView). v.number) class_is ∙ number in
      let made : teller.made ≡ old.made = ap (λ (k : CallerView). k.made) c.tell_class.ensures.same ∙ ap (λ (p : PassView). p.made) took in
      let own =
      enters_later (λ lock place event. lock ≡ class_lock config c.tell_class.new.class.class.number) c.in_ok-who.who.turn {mid = class_sight config new_side} {after = c.share.new.seen.sight}
      teller.made c.limit_under-limited.new.caller.made (class_shared g.N.Named.board.table config new_side c.share.new.seen.sight new_kept told all) c.limit_under-limited.ensures.same.1.enters in
      enters_in (λ class lock place event. lock ≡ class_lock config class) c.tell_class.new.class.class.number c.args.class c.in_ok-who.who.turn old.turn teller.made old.made
      c.limit_under-limited.new.caller.made is (ap (λ (w : Who). w.turn) c.in_ok-who.ensures.took.who) made own

pub returns-clause-limited : goal.returns-clause-limited
returns-clause-limited g c =
    let at = (goal.at.returns-clause-limited g c).After-share in
    let r = c.limit_under-limited.result in
    let made = subst (λ (who : Who). OnOk r ((new_side g at).class.history ≡ (old_side g at).class.history ++ limited_event who c.args.chunks ∷ [])) c.in_ok-who.ensures.took.who
    (subst (λ (v : ClassView). OnOk r ((new_side g at).class.history ≡ v.history ++ limited_event c.in_ok-who.who c.args.chunks ∷ [])) (class_is g at) c.limit_under-limited.ensures.made) in
    on_ok_more r _ _ (λ gained. record { gained = gained; noted = calls g at; account = entered g at })
    (limited_so g.N.Named.config c.args.class c.args.pass.now.sight c.share.new.seen.sight (old_side g at).class (new_side g at).class.history (next_who c.args.pass.now) c.args.chunks
    (seen_grow g at) (first g at) r made)

pub returns-clause-cut : goal.returns-clause-cut
returns-clause-cut g c =
    let at = (goal.at.returns-clause-cut g c).After-share in
    let r = c.limit_under-limited.result in
    let stays = subst (λ (v : ClassView). OnErr r ((new_side g at).class.history ≡ v.history)) (class_is g at) c.limit_under-limited.ensures.stays in
    if_err_by r _ _ (λ fault was gained. inr (record {
      limited = record { gained = gained; noted = calls g at; account = entered g at };
      full = λ is. lacks_seen g.N.Named.board.table g.N.Named.config c.args.class c.args.pass.now.sight c.share.new.seen.sight (old_side g at) (new_side g at) (old_kept g at) (new_kept g at)
          (number g at) (grew g at) (behind g at) (told g at) (all g at) (c.limit_under-limited.ensures.full (was ∙ ap Err is));
    }))
    (unlimited_so g.N.Named.config c.args.class c.args.pass.now.sight c.share.new.seen.sight (old_side g at).class (new_side g at).class.history (next_who c.args.pass.now)
    (seen_grow g at) (first g at) r stays)

pub returns-in_err-who-clause-cut : goal.returns-in_err-who-clause-cut
returns-in_err-who-clause-cut g c =
    if_err_of c.in_err-who.field-0.0 c.from_residual.result _ c.from_residual.ensures.1
    (inl (c.in_err-who.ensures.err, λ is. c.take_turn_in.ensures.full (c.in_err-who.was ∙ ap Err is)))

pub returns-clause-turn : goal.returns-clause-turn
returns-clause-turn g c = (
  refl,
  on_ok_always c.limit_under-limited.result
      (ap (λ (calls : List CallEvent). length (turns_of calls)) (c.limit_under-limited.ensures.same.1.calls_are ∙ ap (λ (k : CallerView). k.calls) c.tell_class.ensures.same)
      ∙ ap (λ (p : PassView). p.turn) (c.pass.view_is ∙ c.in_ok-who.ensures.took.turn)),
)

pub limit_under-limited-requires-clause-caller : goal.limit_under-limited-requires-clause-caller
limit_under-limited-requires-clause-caller g c =
    let view = c.pass.view_is ∙ c.in_ok-who.ensures.took.turn in
    let number = ap (λ (w : Who). w.caller) c.in_ok-who.ensures.took.who ∙ sym (ap (λ (p : PassView). p.caller) view) in
    (number ∙ sym (ap (λ (k : CallerView). k.number) c.tell_class.ensures.same), subst (λ n. n < g.N.Named.config.callers) (sym number) c.tell_class.ensures.of)

pub limit_under-limited-requires-clause-called : goal.limit_under-limited-requires-clause-called
limit_under-limited-requires-clause-called g c =
    let config = g.N.Named.config in
    let who = c.in_ok-who.who in
    let view = c.pass.view_is ∙ c.in_ok-who.ensures.took.turn in
    let same : c.compare.new.self ≡ c.own.inside.side = c.compare.ensures.same.0 in
    let number : c.tell_class.new.class.class.number ≡ c.args.class =
    ap (λ (x : ClassSide). x.class.number) c.tell_class.ensures.class
    ∙ (ap (λ (x : ClassSide). x.class.number) (same ∙ (c.own.view_is ∙ (c.in_ok-who.ensures.class ∙ c.deref_mut-own.ensures.value))) ∙ c.lock_class-guard.ensures) in
    let sight = c.tell_class.new.class.sight in
    subst (λ (n : ClassNo). IsLimitCalled (call_events (list_at sight.seen (caller_place config who.caller))) n (record { who = who; chunks = c.args.chunks })) (sym number)
    (limit_seen config c.pass.inside.caller sight c.args.class who c.args.chunks c.args.pass.now.calls c.tell_class.ensures.whole
    (ap (λ (w : Who). w.caller) c.in_ok-who.ensures.took.who ∙ sym (ap (λ (p : PassView). p.caller) view)) (ap (λ (p : PassView). p.calls) view)
    (c.in_ok-who.ensures.turns ∙ sym (ap (λ (w : Who). w.turn) c.in_ok-who.ensures.took.who)))

pub invariant_of-pass : goal.invariant_of-pass
invariant_of-pass g c =
    let config = g.N.Named.config in
    let i = c.pass.invariant in
    let new = c.limit_under-limited.new.caller in
    let still =
    subst
    (λ (k : CallerView). StillCalls (λ lock place event. lock ≡ class_lock config c.tell_class.new.class.class.number) c.in_ok-who.who.turn (class_sight config c.tell_class.new.class)
    (class_sight config c.limit_under-limited.new.class) k new)
    c.tell_class.ensures.same c.limit_under-limited.ensures.same.1 in
    let seen : c.compare.new.seen ≡ c.pass.inside.seen = c.compare.ensures.same.1 in
    let grows : Grows c.pass.inside.seen.sight c.share.new.seen.sight = subst (λ (v : SeenView). Grows v.sight c.share.new.seen.sight) seen c.share.ensures.grows.seen in (
      c.share.ensures.board ∙ (ap (λ (v : SeenView). v.board) seen ∙ i.0),
      placed_same config c.pass.inside.caller new (stripes_seen (list_at c.share.new.seen.sight.seen)) still.number_is (ap placed_in still.calls_are)
          (placed_sees config c.pass.inside.caller c.pass.inside.seen.sight c.share.new.seen.sight grows i.1),
      i.2,
      i.3 ∙ sym still.number_is,
      subst (λ (calls : List CallEvent). AreBefore (length (turns_of calls)) c.pass.inside.hands.offers) (sym still.calls_are) i.4,
    )
