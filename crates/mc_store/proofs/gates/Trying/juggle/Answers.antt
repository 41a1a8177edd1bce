use Rattle.std.proofs.Common.{drop, length, sym, ap, ◌∙◌, subst}
use Rattle.mc_item.specs.declared.fault.Fault.{Fault}
use Rattle.mc_pull.specs.Rounds.{rounds}
use Rattle.mc_store.proofs.{AccountLemmas.still_anywhere, KeptWalkLemmas.kept_first}
use Rattle.mc_store.specs.{Calls.IsJuggleCut, Calls.IsJuggledWith, Reached.IsSeenState, Serving.MayFailSeen}
use Rattle.mc_store.proofs.ReachedLemmas.{gained_states}
use Rattle.mc_store.proofs.{ShortHistoryLemmas.match_both, TakenHitLemmas.cut_any}
use Rattle.mc_store.proofs.GateLemmas.{served_asked, served_room, served_survey, still_caught_up, still_surveyed}
use Rattle.mc_store.proofs.OwnEventLemmas.{walks_survey}
use Rattle.mc_item.specs.declared.item.Who.{Who}
use Rattle.mc_board.specs.{Accounts.AreBy, Views.OwnerView}
use Rattle.mc_segment.specs.ClassState.{ClassView}
use Rattle.mc_store.specs.{Sides.class_told, Walking.with_class}
use Rattle.mc_store.proofs.OwnCallLemmas.{served_told}
use Rattle.mc_store.proofs.gates.Trying.juggle.Goals as goal

pub juggle-moves-requires : goal.juggle-moves-requires
juggle-moves-requires g c =
    let may = c.requires.gate in
    let table = g.N.Named.board.table in
    let me = c.args.self.now in
    let served = served_asked table g.N.Named.config c.args.context me.caller.now me.owner.now me.seen.now c.args.class.now me.who me.moment may in
    record {
      gate = record {
        served = record { class = may.class; serves = (may.names, served, may.walks.begun, may.walks.number) };
        surveys = λ first begun gate history survey by at kept. (
          kept.0,
          kept.1,
          walks_survey c.args.context.turn.who c.args.context.turn.moment _ _ _ _ survey by at kept.2,
          kept.3,
          still_surveyed g.N.Named.config c.args.class.now.number (length first.owner.now.history) c.args.context.turn.who.turn gate.seen.now.sight history survey first.caller.now gate.caller.now kept.4,
          kept.5,
        );
        outlasts = record {
          survey = λ gate config v who moment room s. (s.0, served_survey table g.N.Named.config who gate.owner.now gate.seen.now v moment room s.1, s.2, s.3);
          room = λ gate config v who room s. (s.0, served_room table g.N.Named.config who gate.owner.now gate.seen.now v room s.1, s.2, s.3);
        };
      };
    }

pub returns-clause-juggle : goal.returns-clause-juggle
returns-clause-juggle g c =
    let r = rounds c.args.class.now c.args.context.turn.who c.args.context.turn.moment c.args.context.config.now in
    let before = c.args.class.now.history in
    let after = c.juggle-moves.new.class.history in
    let me = c.args.self.now in
    let kept = c.juggle-moves.ensures.gate.kept me before
    (kept_first g.N.Named.config c.args.class.now.number c.args.context.turn.who me.who c.args.context.turn.moment me.moment me.owner.now me.seen.now.sight me.caller.now me.answers.now before) in
    let States = IsSeenState g.N.Named.config.stripes me.seen.now.sight c.juggle-moves.new.gate.seen.now.sight in
    let states = gained_states g.N.Named.config.stripes me.seen.now.sight c.juggle-moves.new.gate.seen.now.sight me.answers.now c.juggle-moves.new.gate.answers.now in
    match_both c.juggle-moves.result _ (IsJuggledWith States r before after) _ (λ (fault : Fault). IsJuggleCut States r fault before after)
    (λ moves made. (made.0, made.2, states made.0 kept.5 made.1))
    (λ fault broken. cut_any States r (MayFailSeen g.N.Named.config c.juggle-moves.new.gate.seen.now.sight c.juggle-moves.new.class) fault before after broken.0 broken.2 (states broken.0 kept.5 broken.1))
    c.juggle-moves.ensures.juggle c.juggle-moves.ensures.err

pub catch_up_class-requires-clause-by : goal.catch_up_class-requires-clause-by
catch_up_class-requires-clause-by g c =
    let me = c.args.self.now in
    let made = c.juggle-moves.ensures in
    let kept = made.gate.kept me c.args.class.now.history
    (kept_first g.N.Named.config c.args.class.now.number c.args.context.turn.who me.who c.args.context.turn.moment me.moment me.owner.now me.seen.now.sight me.caller.now me.answers.now c.args.class.now.history) in
    subst (λ (who : Who). AreBy who (drop (length c.juggle-moves.new.gate.owner.now.history) (class_told c.juggle-moves.new.class.history))) (c.requires.gate.asks ∙ sym kept.0) made.gate.serves.1.by

pub returns-clause-left : goal.returns-clause-left
returns-clause-left g c =
    let me = c.args.self.now in
    let made = c.juggle-moves.ensures in
    let kept = made.gate.kept me c.args.class.now.history
    (kept_first g.N.Named.config c.args.class.now.number c.args.context.turn.who me.who c.args.context.turn.moment me.moment me.owner.now me.seen.now.sight me.caller.now me.answers.now c.args.class.now.history) in
    record {
      grows = made.gains.grows;
      served = served_told g.N.Named.board.table g.N.Named.config c.args.context.turn.who _ _ c.juggle-moves.new.gate.seen.now c.juggle-moves.new.class c.catch_up_class.ensures.told made.gate.serves.1;
      told = ap (λ (o : OwnerView). o.history) c.catch_up_class.ensures.told;
      walked = kept.2;
    }

pub returns-clause-still : goal.returns-clause-still
returns-clause-still g c =
    let config = g.N.Named.config in
    let old = c.args.class.now in
    let me = c.args.self.now in
    let caller = me.caller.now in
    let start = length me.owner.now.history in
    let who = c.args.context.turn.who in
    let made = c.juggle-moves.ensures in
    let new = c.juggle-moves.new in
    let kept = made.gate.kept me c.args.class.now.history
    (kept_first g.N.Named.config c.args.class.now.number c.args.context.turn.who me.who c.args.context.turn.moment me.moment me.owner.now me.seen.now.sight me.caller.now me.answers.now c.args.class.now.history) in
    still_anywhere config old.number (record { from = start; until = length new.class.history }) who.turn
    {x = with_class config old.number old.history me.seen.now.sight} {y = with_class config old.number new.class.history new.gate.seen.now.sight} caller _
    (still_caught_up g.N.Named.board.table config who new.gate.who new.gate.owner.now new.gate.seen.now {x = with_class config old.number old.history me.seen.now.sight} old new.class
    caller new.gate.caller.now _ start (length new.gate.owner.now.history) kept.3 kept.4 made.gate.serves.1 (ap (λ (v : ClassView). v.number) made.gains.grows.same)
    (kept.0 ∙ sym c.requires.gate.asks) c.catch_up_class.ensures.entered)
