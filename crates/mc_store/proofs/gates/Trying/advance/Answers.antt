use Rattle.std.proofs.Common.{drop, length, sym, ap, ◌∙◌, subst}
use Rattle.mc_pull.specs.Rounds.{rounds_by}
use Rattle.mc_store.specs.{Hits.IsAdvancedWith, Reached.IsSeenState}
use Rattle.mc_store.proofs.{AccountLemmas.still_anywhere, GateLemmas.ok_more, GateLemmas.served_asked, GateLemmas.still_caught_up, KeptWalkLemmas.kept_first, ReachedLemmas.gained_states}
use Rattle.mc_item.specs.declared.item.Who.{Who}
use Rattle.mc_board.specs.{Accounts.AreBy, Views.OwnerView}
use Rattle.mc_segment.specs.ClassState.{ClassView}
use Rattle.mc_store.specs.{Sides.class_told, Walking.with_class}
use Rattle.mc_store.proofs.OwnCallLemmas.{served_told}
use Rattle.mc_store.proofs.gates.Trying.advance.Goals as goal

pub advance-moved-requires : goal.advance-moved-requires
advance-moved-requires g c =
    let may = c.requires.gate in
    let me = c.args.self.now in
    let served = served_asked g.N.Named.board.table g.N.Named.config c.args.context me.caller.now me.owner.now me.seen.now c.args.class.now me.who me.moment may in
    record { gate = record { class = may.class; serves = (may.names, served, may.walks.begun, may.walks.number) } }

pub returns-clause-advanced : goal.returns-clause-advanced
returns-clause-advanced g c =
    let before = c.args.class.now.history in
    let after = c.advance-moved.new.class.history in
    let me = c.args.self.now in
    let kept = c.advance-moved.ensures.gate.kept me before
    (kept_first g.N.Named.config c.args.class.now.number c.args.context.turn.who me.who c.args.context.turn.moment me.moment me.owner.now me.seen.now.sight me.caller.now me.answers.now before) in
    let States = IsSeenState g.N.Named.config.stripes me.seen.now.sight c.advance-moved.new.gate.seen.now.sight in
    let states = gained_states g.N.Named.config.stripes me.seen.now.sight c.advance-moved.new.gate.seen.now.sight me.answers.now c.advance-moved.new.gate.answers.now in
    ok_more c.advance-moved.result _ (IsAdvancedWith States (rounds_by c.args.class.now c.args.context) c.args.number before after)
    (λ moved made. (made.0, made.2, states made.0 kept.5 made.1)) c.advance-moved.ensures.advanced

pub catch_up_class-requires-clause-by : goal.catch_up_class-requires-clause-by
catch_up_class-requires-clause-by g c =
    let me = c.args.self.now in
    let made = c.advance-moved.ensures in
    let kept = made.gate.kept me c.args.class.now.history
    (kept_first g.N.Named.config c.args.class.now.number c.args.context.turn.who me.who c.args.context.turn.moment me.moment me.owner.now me.seen.now.sight me.caller.now me.answers.now c.args.class.now.history) in
    subst (λ (who : Who). AreBy who (drop (length c.advance-moved.new.gate.owner.now.history) (class_told c.advance-moved.new.class.history))) (c.requires.gate.asks ∙ sym kept.0) made.gate.serves.1.by

pub returns-clause-left : goal.returns-clause-left
returns-clause-left g c =
    let me = c.args.self.now in
    let made = c.advance-moved.ensures in
    let kept = made.gate.kept me c.args.class.now.history
    (kept_first g.N.Named.config c.args.class.now.number c.args.context.turn.who me.who c.args.context.turn.moment me.moment me.owner.now me.seen.now.sight me.caller.now me.answers.now c.args.class.now.history) in
    record {
      grows = made.gains.grows;
      served = served_told g.N.Named.board.table g.N.Named.config c.args.context.turn.who _ _ c.advance-moved.new.gate.seen.now c.advance-moved.new.class c.catch_up_class.ensures.told made.gate.serves.1;
      told = ap (λ (o : OwnerView). o.history) c.catch_up_class.ensures.told;
      walked = kept.2;
    }

pub returns-clause-still : goal.returns-clause-still
returns-clause-still g c =
    let config = g.N.Named.config in
    let old = c.args.class.now in
    let me = c.args.self.now in
    let caller = me.caller.now in
    let start = length me.owner.now.history in
    let who = c.args.context.turn.who in
    let made = c.advance-moved.ensures in
    let new = c.advance-moved.new in
    let kept = made.gate.kept me c.args.class.now.history
    (kept_first g.N.Named.config c.args.class.now.number c.args.context.turn.who me.who c.args.context.turn.moment me.moment me.owner.now me.seen.now.sight me.caller.now me.answers.now c.args.class.now.history) in
    still_anywhere config old.number (record { from = start; until = length new.class.history }) who.turn
    {x = with_class config old.number old.history me.seen.now.sight} {y = with_class config old.number new.class.history new.gate.seen.now.sight} caller _
    (still_caught_up g.N.Named.board.table config who new.gate.who new.gate.owner.now new.gate.seen.now {x = with_class config old.number old.history me.seen.now.sight} old new.class
    caller new.gate.caller.now _ start (length new.gate.owner.now.history) kept.3 kept.4 made.gate.serves.1 (ap (λ (v : ClassView). v.number) made.gains.grows.same)
    (kept.0 ∙ sym c.requires.gate.asks) c.catch_up_class.ensures.entered)
