use Rattle.std.proofs.Common.{rules, ◌≡◌, ℕ, Some, ◌∙◌, ap, length, refl, subst, sym}
use Rattle.mc_item.specs.declared.{config.Config.Config, item.StripeNo.StripeNo, item.Who.Who}
use Rattle.mc_board.specs.{Histories.Grows, Views.SeenView}
use Rattle.mc_store.specs.{Looked.IsOfCall, Serving.IsServed, Sides.StripeSide, Walking.StillWalksFrom}
use Rattle.mc_store.proofs.{CallerLemmas.asked_here, CallerLemmas.begun_sees, GateLemmas.grew_on, GateLemmas.no_shorter_both, GateLemmas.still_on, KeptWalkLemmas.kept_first}
use Rattle.mc_stripe.specs.StripeState.{Stripe}
use Rattle.mc_pull.proofs.ReachedLemmas.{reached_more}
use Rattle.mc_store.specs.Reached.{IsSeenState}
use Rattle.mc_pull.specs.{Lone.StripeGrows, Looks.IsJudgedBy, Question.HasKeyOf, Question.question_of, Walker.walker_of}
use Rattle.mc_segment.specs.ClassState.{ClassView}
use Rattle.mc_store.proofs.VisitedStripeLemmas.{known_at, looked_away, looked_both, looked_here, same_after}
use Rattle.mc_store.proofs.OwnEventLemmas.{gains_judged, gains_none, walks_on}
use Rattle.mc_store.proofs.ReachedLemmas.{answers_both, answers_none, answers_one}
use Rattle.mc_store.proofs.gates.HoldingGate.visit.Goals as goal

pub judge-requires-clause-look : goal.judge-requires-clause-look
judge-requires-clause-look g c =
    let config = g.N.Named.config in
    let me = c.args.self.now.others in
    let look = c.args.look.now in
    let gate = c.requires.look.served.serves in
    let lends = c.lends.ensures.own c.if-not-lends.false in
    let own : IsOfCall (walker_of look.class.now look.ask.who look.ask.moment) me.who me.moment = (lends.1, lends.2) in
    record {
      of = gate.0;
      number = ap (λ (w : Who). w.caller) own.0 ∙ gate.3;
      served = subst (λ (v : SeenView). IsServed g.N.Named.board.table config look.ask.who me.owner.now v look.class.now) (sym c.learn.ensures.same) gate.1;
      may = c.requires.look.judge;
      begun = begun_sees config me.seen.now.sight c.learn.new.self.sight look.ask.who look.ask.moment c.learn.ensures.learnt
          (asked_here config me.seen.now.sight me.who look.ask.who me.moment look.ask.moment own gate.2);
      once = c.requires.once;
    }

pub returns-clause-answer : goal.returns-clause-answer
returns-clause-answer g c =
    let me = c.args.self.now.others in
    let q = question_of c.args.look.now.ask in
    let class = c.args.look.now.class.now in
    let j = c.in_ok-judged.judged in
    let made = c.in_ok-judged.ensures.judged in
    let own = c.learn.new.self.stripe in
    let state =
    subst (λ (v : SeenView). IsSeenState g.N.Named.config.stripes v.sight c.judge.new.seen.sight own) c.learn.ensures.same c.judge.ensures.left.state in
    let seen = ap (λ (x : StripeSide). x.stripe.site.stripe) c.learn.ensures.stripe in
    let number : record { 0 = c.learn.new.self.stripe.site.stripe } ≡ c.args.stripe = ap (λ (n : ℕ). record { 0 = n }) seen ∙ sym (c.lends.ensures.own c.if-not-lends.false).0 in
    record {
      judged = Some j;
      made_is = c.in_ok-judged.ensures.noted;
      answers = search rules;
      class = made.class;
      reached = reached_more (λ it. it ≡ own) _ c.args.look.now.ask.config.now c.args.stripe class q (Some j)
          (λ it is. subst (IsSeenState g.N.Named.config.stripes me.seen.now.sight c.judge.new.seen.sight) (sym is) state)
          (subst (λ (k : Config). IsJudgedBy (λ it. it ≡ own) k c.args.stripe class q j) (sym c.requires.look.served.serves.0)
          (subst (λ (n : StripeNo). IsJudgedBy (λ it. it ≡ own) g.N.Named.config n class q j) number made.reached));
    }

pub returns-then-not-lends-clause-gate : goal.returns-then-not-lends-clause-gate
returns-then-not-lends-clause-gate g c =
    let me = c.args.self.now in
    let look = c.args.look.now in
    let s = me.own.now.stripe in
    let q = question_of look.ask in
    let w = walker_of look.class.now look.ask.who look.ask.moment in
    let made = c.visit.ensures in
    let left = made.gate in
    let start = length me.others.owner.now.history in
    let same = left.kept me.others look.class.now.history
    (kept_first g.N.Named.config look.class.now.number look.ask.who me.others.who look.ask.moment me.others.moment me.others.owner.now me.others.seen.now.sight me.others.caller.now me.others.answers.now
    look.class.now.history) in
    let keyed = subst (λ (k : Config). HasKeyOf c.args.stripe k look.class.now q) c.requires.look.served.serves.0 c.requires.look.key in
    record {
      holds = search rules;
      serves = left.serves;
      kept = λ first begun kept. (
        kept.0,
        λ of.
            let was = kept.1 of in (
              (was.0.0 ∙ sym same.0, was.0.1 ∙ sym same.1),
              looked_both g.N.Named.config.stripes w _ _ _ _ _ _ _ _ was.1 kept.0
                  (looked_away look.class.now q _ look.ask.config.now g.N.Named.config w s c.args.stripe me.others.answers.now c.visit.new.self.answers.now
                  c.visit.new.look.class.now c.visit.new.look.done c.visit.result
                  c.requires.look.judge keyed (c.lends.ensures.other c.if-not-lends.true was.0.0 was.0.1) made.answer made.err),
            ),
        walks_on look.ask.who look.ask.moment _ _ _ _ _ _ kept.2 same.2.sees same.2.gains,
        no_shorter_both (length first.others.owner.now.history) start (length c.visit.new.self.owner.now.history) kept.3 same.3,
        still_on g.N.Named.config look.class.now.number (length first.others.owner.now.history) start look.ask.who.turn first.others.seen.now.sight me.others.seen.now.sight
            c.visit.new.self.seen.now.sight begun look.class.now.history c.visit.new.look.class.now.history first.others.caller.now me.others.caller.now c.visit.new.self.caller.now
            kept.3 kept.4 same.4,
        answers_both g.N.Named.config.stripes first.others.seen.now.sight me.others.seen.now.sight c.visit.new.self.seen.now.sight first.others.answers.now me.others.answers.now
            c.visit.new.self.answers.now kept.2.sees same.2.sees kept.5 same.5,
      );
    }

pub returns-in_err-judged-clause-gate : goal.returns-in_err-judged-clause-gate
returns-in_err-judged-clause-gate g c =
    let me = c.args.self.now in
    let look = c.args.look.now in
    let s = me.own.now.stripe in
    let q = question_of look.ask in
    let w = walker_of look.class.now look.ask.who look.ask.moment in
    let gate = c.requires.look.served.serves in
    let left = c.judge.ensures.left in
    let sees = subst (λ (v : SeenView). Grows v.sight c.judge.new.seen.sight) c.learn.ensures.same left.sees in
    let still =
    subst
    (λ (v : SeenView). StillWalksFrom g.N.Named.config look.class.now.number (length me.others.owner.now.history) look.ask.who.turn v.sight c.judge.new.seen.sight look.class.now.history
    c.judge.new.look.class.now.history me.others.caller.now c.judge.new.caller)
    c.learn.ensures.same c.judge.ensures.still.1 in
    let grows : StripeGrows w s c.judge.new.stripe.stripe = subst (λ (x : Stripe). StripeGrows w x c.judge.new.stripe.stripe) (ap (λ (x : StripeSide). x.stripe) c.learn.ensures.stripe) left.stripe in
    record {
      holds = search rules;
      serves = (
        gate.0,
        left.served,
        begun_sees g.N.Named.config me.others.seen.now.sight c.judge.new.seen.sight me.others.who me.others.moment sees gate.2,
        gate.3 ∙ sym c.judge.ensures.still.1.number_is,
      );
      kept = λ first begun kept. (
        grew_on w _ _ _ kept.0 grows,
        λ of.
            let was = kept.1 of in (
              was.0,
              looked_both g.N.Named.config.stripes w _ _ _ _ _ _ _ _ was.1 kept.0
                  (same_after look.class.now q g.N.Named.config.stripes w s me.others.answers.now me.others.answers.now c.judge.new.look.class.now c.in_err-judged.ensures.judged refl),
            ),
        walks_on look.ask.who look.ask.moment _ _ _ _ _ _ kept.2 sees
            (gains_none look.ask.who look.ask.moment look.class.now.history c.judge.new.look.class.now.history (ap (λ (v : ClassView). v.history) c.in_err-judged.ensures.judged)),
        no_shorter_both (length first.others.owner.now.history) (length me.others.owner.now.history) (length c.judge.new.owner.history) kept.3 c.judge.ensures.still.0,
        still_on g.N.Named.config look.class.now.number (length first.others.owner.now.history) (length me.others.owner.now.history) look.ask.who.turn first.others.seen.now.sight
            me.others.seen.now.sight c.judge.new.seen.sight begun look.class.now.history c.judge.new.look.class.now.history first.others.caller.now me.others.caller.now c.judge.new.caller
            kept.3 kept.4 still,
        answers_both g.N.Named.config.stripes first.others.seen.now.sight me.others.seen.now.sight c.judge.new.seen.sight first.others.answers.now me.others.answers.now me.others.answers.now
            kept.2.sees sees kept.5 (answers_none g.N.Named.config.stripes me.others.seen.now.sight c.judge.new.seen.sight me.others.answers.now me.others.answers.now refl),
      );
    }

pub returns-clause-gate : goal.returns-clause-gate
returns-clause-gate g c =
    let me = c.args.self.now in
    let look = c.args.look.now in
    let s = me.own.now.stripe in
    let q = question_of look.ask in
    let w = walker_of look.class.now look.ask.who look.ask.moment in
    let gate = c.requires.look.served.serves in
    let left = c.judge.ensures.left in
    let made = c.in_ok-judged.ensures.judged in
    let sees = subst (λ (v : SeenView). Grows v.sight c.judge.new.seen.sight) c.learn.ensures.same left.sees in
    let still =
    subst
    (λ (v : SeenView). StillWalksFrom g.N.Named.config look.class.now.number (length me.others.owner.now.history) look.ask.who.turn v.sight c.judge.new.seen.sight look.class.now.history
    c.judge.new.look.class.now.history me.others.caller.now c.judge.new.caller)
    c.learn.ensures.same c.judge.ensures.still.1 in
    let state =
    subst (λ (v : SeenView). IsSeenState g.N.Named.config.stripes v.sight c.judge.new.seen.sight c.learn.new.self.stripe) c.learn.ensures.same left.state in
    let learnt : c.learn.new.self.stripe ≡ s = ap (λ (x : StripeSide). x.stripe) c.learn.ensures.stripe in
    let grows : StripeGrows w s c.judge.new.stripe.stripe = subst (λ (x : Stripe). StripeGrows w x c.judge.new.stripe.stripe) learnt left.stripe in
    let known = known_at look.class.now q g.N.Named.config look.ask.config.now s c.learn.new.self.stripe c.args.stripe c.in_ok-judged.judged gate.0
    learnt (c.lends.ensures.own c.if-not-lends.false).0 c.requires.look.key made.known in
    record {
      holds = search rules;
      serves = (
        gate.0,
        left.served,
        begun_sees g.N.Named.config me.others.seen.now.sight c.judge.new.seen.sight me.others.who me.others.moment sees gate.2,
        gate.3 ∙ sym c.judge.ensures.still.1.number_is,
      );
      kept = λ first begun kept. (
        grew_on w _ _ _ kept.0 grows,
        λ of.
            let was = kept.1 of in (
              was.0,
              looked_both g.N.Named.config.stripes w _ _ _ _ _ _ _ _ was.1 kept.0
                  (looked_here look.class.now q g.N.Named.config s c.args.stripe me.others.answers.now c.push.new.self
                  c.judge.new.look.class.now.history c.in_ok-judged.judged known c.push.ensures (ap (λ (v : ClassView). v.history) made.class)),
            ),
        walks_on q.who q.moment _ _ _ _ _ _ kept.2 sees (gains_judged look.class.now c.judge.new.look.class.now q (Some c.in_ok-judged.judged) made.class),
        no_shorter_both (length first.others.owner.now.history) (length me.others.owner.now.history) (length c.judge.new.owner.history) kept.3 c.judge.ensures.still.0,
        still_on g.N.Named.config look.class.now.number (length first.others.owner.now.history) (length me.others.owner.now.history) look.ask.who.turn first.others.seen.now.sight
            me.others.seen.now.sight c.judge.new.seen.sight begun look.class.now.history c.judge.new.look.class.now.history first.others.caller.now me.others.caller.now c.judge.new.caller
            kept.3 kept.4 still,
        answers_both g.N.Named.config.stripes first.others.seen.now.sight me.others.seen.now.sight c.judge.new.seen.sight first.others.answers.now me.others.answers.now c.push.new.self
            kept.2.sees sees kept.5
            (answers_one g.N.Named.config.stripes me.others.seen.now.sight c.judge.new.seen.sight me.others.answers.now c.push.new.self c.args.stripe (Some c.in_ok-judged.judged) c.push.ensures
            (subst (IsSeenState g.N.Named.config.stripes me.others.seen.now.sight c.judge.new.seen.sight) (sym made.reached.1) state)),
      );
    }
