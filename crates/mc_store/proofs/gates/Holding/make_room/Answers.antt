use Rattle.std.proofs.Common.{◌≡◌, ◌++◌, ◌∙◌, Bool, List, false, subst, sym}
use Rattle.std.proofs.lemmas.List.{append_cancel_left}
use Rattle.mc_item.specs.declared.item.StripeNo.{StripeNo}
use Rattle.mc_stripe.specs.StripeState.{Stripe}
use Rattle.mc_pull.specs.{Rounds.rounds, Tried.AreHad, Walker.walker_of}
use Rattle.mc_pull.specs.declared.looking.Answer.{Answer}
use Rattle.mc_store.specs.{Earned.HasSearchedForAny, Reached.AreJudgedBy, Reached.IsSeenState, Searches.IsSearchBroken, Searches.IsSearchedWith}
use Rattle.mc_store.proofs.{GateLemmas.ok_more, GateLemmas.served_asked, KeptWalkLemmas.searched_first, ReachedLemmas.gained_states, ShortHistoryLemmas.match_more, VisitedStripeLemmas.tried_any}
use Rattle.mc_store.proofs.gates.Holding.make_room.Given.{Over}
use Rattle.mc_store.proofs.gates.Holding.make_room.Goals as goal
use Rattle.mc_store.proofs.gates.Holding.make_room.Goals.{After-make_room}

pub make_room-requires : goal.make_room-requires
make_room-requires g c =
    let may = c.requires.gate in
    let me = c.args.self.now.others in
    let served = served_asked g.N.Named.board.table g.N.Named.config c.args.context me.caller.now me.owner.now me.seen.now c.args.class.now me.who me.moment may in
    record { gate = record { class = may.class; serves = (may.names, served, may.walks.begun, may.walks.number) } }

-- the answers of the walks are those that the gate gained
module _ (g : Over) (c : After-make_room g) where
  abbrev number : StripeNo
  number = record { 0 = c.args.self.now.own.now.stripe.site.stripe }

  abbrev States : Stripe → Type 0
  States = IsSeenState g.N.Named.config.stripes c.args.self.now.others.seen.now.sight c.make_room.new.gate.others.seen.now.sight

  had_so : (xs : List Answer) → c.make_room.new.gate.others.answers.now ≡ c.args.self.now.others.answers.now ++ xs → AreHad number xs × AreJudgedBy States xs
  had_so xs is =
      let w = walker_of c.args.class.now c.args.context.turn.who c.args.context.turn.moment in
      let others = c.args.self.now.others in
      let first = searched_first g.N.Named.config w c.args.self.now.own.now.stripe others.who others.moment others.owner.now others.seen.now.sight others.caller.now others.answers.now
      c.args.class.now.history in
      let kept = c.make_room.ensures.gate.kept c.args.self.now c.args.class.now.history first in
      let looked = (kept.1 (c.requires.gate.asks, c.requires.gate.at)).1 in (
        subst (λ (l : List Answer). AreHad number l) (append_cancel_left others.answers.now looked.answers xs (sym looked.answers_are ∙ is)) looked.had,
        gained_states g.N.Named.config.stripes others.seen.now.sight c.make_room.new.gate.others.seen.now.sight others.answers.now c.make_room.new.gate.others.answers.now xs kept.5 is,
      )

pub returns-clause-room : goal.returns-clause-room
returns-clause-room g c =
    let at = (goal.at.returns-clause-room g c).After-make_room in
    let r = rounds c.args.class.now c.args.context.turn.who c.args.context.turn.moment c.args.context.config.now in
    let before = c.args.class.now.history in
    let after = c.make_room.new.class.history in
    match_more c.make_room.result _ (IsSearchedWith r (number g at) (States g at) before after) _ (IsSearchBroken r (number g at) (States g at) before after)
    (λ found made. let so = had_so g at made.0 made.1 in record { answers = made.0; room = made.2; had = so.0; states = so.1 })
    (λ broken. let so = had_so g at broken.0 broken.1 in record { answers = broken.0; room = broken.2; had = so.0; states = so.1 })
    c.make_room.ensures.room c.make_room.ensures.err

pub returns-clause-tried : goal.returns-clause-tried
returns-clause-tried g c =
    let config = g.N.Named.config in
    let w = walker_of c.args.class.now c.args.context.turn.who c.args.context.turn.moment in
    let own = c.args.self.now.own.now.stripe in
    let others = c.args.self.now.others in
    let history = c.args.class.now.history in
    let after = c.make_room.new.class.history in
    let first = searched_first config w own others.who others.moment others.owner.now others.seen.now.sight others.caller.now others.answers.now history in
    let kept = c.make_room.ensures.gate.kept c.args.self.now history first in
    ok_more c.make_room.result _ (λ (found : Bool). found ≡ false → HasSearchedForAny config.stripes own c.args.context.turn.who c.args.context.turn.moment after)
    (λ found made vain.
    tried_any config c.args.context.config.now c.args.class.now c.args.context.turn.who c.args.context.turn.moment own others.answers.now c.make_room.new.gate.others.answers.now made.0 after found
    c.requires.gate.names c.a_search_in_vain_has_tried.ensures (kept.1 (c.requires.gate.asks, c.requires.gate.at)).1 made.1 made.2 vain)
    c.make_room.ensures.room

pub returns-clause-left : goal.returns-clause-left
returns-clause-left g c =
    let left = c.make_room.ensures.gate in
    let w = walker_of c.args.class.now c.args.context.turn.who c.args.context.turn.moment in
    let others = c.args.self.now.others in
    let history = c.args.class.now.history in
    let first =
    searched_first g.N.Named.config w c.args.self.now.own.now.stripe others.who others.moment others.owner.now others.seen.now.sight others.caller.now others.answers.now history in
    let kept = left.kept c.args.self.now history first in
    record { served = left.serves.1; stripe = kept.0; walked = kept.2 }

pub returns-clause-still : goal.returns-clause-still
returns-clause-still g c =
    let w = walker_of c.args.class.now c.args.context.turn.who c.args.context.turn.moment in
    let others = c.args.self.now.others in
    let history = c.args.class.now.history in
    let first =
    searched_first g.N.Named.config w c.args.self.now.own.now.stripe others.who others.moment others.owner.now others.seen.now.sight others.caller.now others.answers.now history in
    let kept = c.make_room.ensures.gate.kept c.args.self.now history first in
    (kept.3, kept.4)
