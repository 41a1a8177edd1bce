use Rattle.std.proofs.Common.{◌∙◌, Err, ap, inr, refl, rules, sym}
use Rattle.mc_segment.specs.ClassState.{ClassView}
use Rattle.mc_store.proofs.EarnedRefusalLemmas.{gone_through, searched_broken, searched_once}
use Rattle.mc_store.proofs.{FullLemmas.seen_before, ShortHistoryLemmas.err_is, ShortHistoryLemmas.match_err, VisitedStripeLemmas.full_vain}
use Rattle.mc_store.specs.{Accounts.stretch_of, Reached.IsSeenState, Searches.IsCutSearch, Searches.searcher_at, Sides.stripe_sight}
use Rattle.mc_store.proofs.held.search.Goals as goal

pub make_room_under-requires : goal.make_room_under-requires
make_room_under-requires g c = record { begun = (c.requires.begun.0, c.requires.begun.1) }

pub returns-clause-same : goal.returns-clause-same
returns-clause-same g c = (ap (λ (v : ClassView). v.number) c.make_room_under.ensures.class.same, c.make_room_under.ensures.leaves.1)

pub returns-in_err-make_room_under-clause-same : goal.returns-in_err-make_room_under-clause-same
returns-in_err-make_room_under-clause-same g c = (ap (λ (v : ClassView). v.number) c.make_room_under.ensures.class.same, c.make_room_under.ensures.leaves.1)

pub returns-clause-tried : goal.returns-clause-tried
returns-clause-tried g c =
    let config = g.N.Named.config in
    let found = c.in_ok-make_room_under in
    let was = c.args.home.now.class in
    let new = c.make_room_under.new.class.class in
    let who = c.args.task.turn.who in
    let moment = c.args.task.turn.moment in
    let made_with = c.side.ensures.kept.held.made_with in
    let by = searcher_at config c.args.own.now.stripe c.args.task.turn in
    let States = IsSeenState config.stripes (stripe_sight c.args.own.now) c.make_room_under.new.own.sight in (
      λ full key own alive.
          let vain = full_vain config was new who moment found.ensures.room.answers found.field-0 c.make_room_under.ensures.class found.ensures.room.room full in (
            found.ensures.tried vain key own alive,
            gone_through by was States new.number new.history found.field-0 made_with (sym (ap (λ (v : ClassView). v.number) c.make_room_under.ensures.class.same)) vain found.ensures.room,
          ),
      inr (
        searched_once by was States new.history found.field-0 made_with found.ensures.room,
        c.make_room_under.ensures.seen,
      ),
    )

pub returns-in_err-make_room_under-clause-tried : goal.returns-in_err-make_room_under-clause-tried
returns-in_err-make_room_under-clause-tried g c =
    let config = g.N.Named.config in
    let was = c.args.home.now.class in
    let new = c.make_room_under.new.class.class in
    let own = c.args.own.now in
    let by = searcher_at config own.stripe c.args.task.turn in
    let end = c.make_room_under.new.own.sight in
    let Cut = IsCutSearch by was.number (stripe_sight own) end (stretch_of was new) in
    let cut : Cut = record {
      before = was.history;
      searched = new.history;
      broken = searched_broken by was (IsSeenState config.stripes (stripe_sight own) end) new.history c.side.ensures.kept.held.made_with c.in_err-make_room_under.ensures.room;
      from_is = refl;
      until_is = refl;
      seen = c.make_room_under.ensures.seen;
    } in
    match_err _ Cut c.in_err-make_room_under.field-0.0 c.from_residual.result c.from_residual.ensures.1 cut

pub returns-clause-seen : goal.returns-clause-seen
returns-clause-seen g c =
    let was = c.args.home.now.class in
    let new = c.make_room_under.new in
    inr (record {
      before = was.history;
      seen = seen_before g.N.Named.config new.own.sight was.number was new.class.class c.make_room_under.ensures.class c.make_room_under.ensures.seen;
      full = search rules;
    })

pub returns-in_err-make_room_under-clause-seen : goal.returns-in_err-make_room_under-clause-seen
returns-in_err-make_room_under-clause-seen g c =
    let was = c.args.home.now.class in
    let new = c.make_room_under.new in
    inr (record {
      before = was.history;
      seen = seen_before g.N.Named.config new.own.sight was.number was new.class.class c.make_room_under.ensures.class c.make_room_under.ensures.seen;
      full = search rules;
    })

pub returns-in_err-make_room_under-clause-full : goal.returns-in_err-make_room_under-clause-full
returns-in_err-make_room_under-clause-full g c = λ is.
    let was = c.args.home.now.class in
    let new = c.make_room_under.new in
    let same = err_is c.in_err-make_room_under.field-0.0 _ c.from_residual.ensures.1 is in (
      record {
        before = was.history;
        seen = seen_before g.N.Named.config new.own.sight was.number was new.class.class c.make_room_under.ensures.class c.make_room_under.ensures.seen;
        full = search rules;
      },
      c.make_room_under.ensures.full (c.in_err-make_room_under.was ∙ ap Err same),
    )
