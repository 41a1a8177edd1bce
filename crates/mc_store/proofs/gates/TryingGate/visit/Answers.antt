use Rattle.std.proofs.Common.{rules, ◌≡◌, ◌∙◌, ℕ, Some, ap, length, refl, subst, sym}
use Rattle.mc_item.specs.declared.{config.Config.Config, item.StripeNo.StripeNo, item.Who.Who}
use Rattle.mc_pull.specs.{Looks.IsJudgedBy, Question.question_of}
use Rattle.mc_pull.proofs.ReachedLemmas.{reached_more}
use Rattle.mc_store.specs.Reached.{IsSeenState}
use Rattle.mc_store.proofs.ReachedLemmas.{answers_both, answers_none, answers_one, answers_passed}
use Rattle.mc_board.specs.{Histories.Grows, Views.SeenView}
use Rattle.mc_segment.specs.ClassState.{ClassView}
use Rattle.mc_store.specs.{Serving.IsServed, Sides.StripeSide, Walking.StillWalksFrom}
use Rattle.mc_store.proofs.{CallerLemmas.asked_here, CallerLemmas.begun_sees, GateLemmas.no_shorter_both, GateLemmas.passed_by, GateLemmas.still_on}
use Rattle.mc_store.proofs.OwnEventLemmas.{gains_judged, gains_none, walks_on}
use Rattle.mc_store.proofs.gates.TryingGate.visit.Goals as goal

pub judge-requires-clause-look : goal.judge-requires-clause-look
judge-requires-clause-look g c =
    let config = g.N.Named.config in
    let me = c.args.self.now in
    let look = c.args.look.now in
    let gate = c.requires.look.served.serves in
    let own = c.in-Some.ensures.own in
    record {
      of = gate.0;
      number = ap (λ (w : Who). w.caller) own.0 ∙ gate.3;
      served = subst (λ (v : SeenView). IsServed g.N.Named.board.table config look.ask.who me.owner.now v look.class.now) (sym c.learn.ensures.same) gate.1;
      may = c.requires.look.judge;
      begun = begun_sees config me.seen.now.sight c.learn.new.self.sight look.ask.who look.ask.moment c.learn.ensures.learnt
          (asked_here config me.seen.now.sight me.who look.ask.who me.moment look.ask.moment own gate.2);
      once = c.requires.once;
    }

pub returns-clause-answer : goal.returns-clause-answer
returns-clause-answer g c =
    let q = question_of c.args.look.now.ask in
    let class = c.args.look.now.class.now in
    let j = c.in_ok-judged.judged in
    let made = c.in_ok-judged.ensures.judged in
    let seen = ap (λ (x : StripeSide). x.stripe.site.stripe) c.learn.ensures.stripe in
    let own = c.learn.new.self.stripe in
    let state =
    subst (λ (v : SeenView). IsSeenState g.N.Named.config.stripes v.sight c.judge.new.seen.sight own) c.learn.ensures.same c.judge.ensures.left.state in
    let number : record { 0 = c.learn.new.self.stripe.site.stripe } ≡ c.args.stripe = ap (λ (n : ℕ). record { 0 = n })
    (seen ∙ (ap (λ (x : StripeSide). x.stripe.site.stripe) c.deref_mut-own.ensures.value ∙ c.in-Some.ensures.of)) in
    record {
      judged = Some j;
      made_is = c.in_ok-judged.ensures.noted;
      answers = search rules;
      class = made.class;
      reached = reached_more (λ it. it ≡ own) _ c.args.look.now.ask.config.now c.args.stripe class q (Some j)
          (λ it is. subst (IsSeenState g.N.Named.config.stripes c.args.self.now.seen.now.sight c.judge.new.seen.sight) (sym is) state)
          (subst (λ (k : Config). IsJudgedBy (λ it. it ≡ own) k c.args.stripe class q j) (sym c.requires.look.served.serves.0)
          (subst (λ (n : StripeNo). IsJudgedBy (λ it. it ≡ own) g.N.Named.config n class q j) number made.reached));
    }

pub returns-in_err-judged-clause-gate : goal.returns-in_err-judged-clause-gate
returns-in_err-judged-clause-gate g c =
    let me = c.args.self.now in
    let look = c.args.look.now in
    let gate = c.requires.look.served.serves in
    let left = c.judge.ensures.left in
    let sees = subst (λ (v : SeenView). Grows v.sight c.judge.new.seen.sight) c.learn.ensures.same left.sees in
    let still =
    subst
    (λ (v : SeenView). StillWalksFrom g.N.Named.config look.class.now.number (length me.owner.now.history) look.ask.who.turn v.sight c.judge.new.seen.sight look.class.now.history
    c.judge.new.look.class.now.history me.caller.now c.judge.new.caller)
    c.learn.ensures.same c.judge.ensures.still.1 in
    let same = ap (λ (v : ClassView). v.history) c.in_err-judged.ensures.judged in
    record {
      holds = search rules;
      serves = (
        gate.0,
        left.served,
        begun_sees g.N.Named.config me.seen.now.sight c.judge.new.seen.sight me.who me.moment sees gate.2,
        gate.3 ∙ sym c.judge.ensures.still.1.number_is,
      );
      kept = λ first begun kept. (
        kept.0,
        kept.1,
        walks_on look.ask.who look.ask.moment _ _ _ _ _ _ kept.2 sees (gains_none look.ask.who look.ask.moment look.class.now.history c.judge.new.look.class.now.history same),
        no_shorter_both (length first.owner.now.history) (length me.owner.now.history) (length c.judge.new.owner.history) kept.3 c.judge.ensures.still.0,
        still_on g.N.Named.config look.class.now.number (length first.owner.now.history) (length me.owner.now.history) look.ask.who.turn first.seen.now.sight me.seen.now.sight c.judge.new.seen.sight
            begun look.class.now.history c.judge.new.look.class.now.history first.caller.now me.caller.now c.judge.new.caller kept.3 kept.4 still,
        answers_both g.N.Named.config.stripes first.seen.now.sight me.seen.now.sight c.judge.new.seen.sight first.answers.now me.answers.now me.answers.now kept.2.sees sees kept.5
            (answers_none g.N.Named.config.stripes me.seen.now.sight c.judge.new.seen.sight me.answers.now me.answers.now refl),
      );
    }

pub returns-clause-gate : goal.returns-clause-gate
returns-clause-gate g c =
    let me = c.args.self.now in
    let look = c.args.look.now in
    let gate = c.requires.look.served.serves in
    let left = c.judge.ensures.left in
    let sees = subst (λ (v : SeenView). Grows v.sight c.judge.new.seen.sight) c.learn.ensures.same left.sees in
    let still =
    subst
    (λ (v : SeenView). StillWalksFrom g.N.Named.config look.class.now.number (length me.owner.now.history) look.ask.who.turn v.sight c.judge.new.seen.sight look.class.now.history
    c.judge.new.look.class.now.history me.caller.now c.judge.new.caller)
    c.learn.ensures.same c.judge.ensures.still.1 in
    let gains = gains_judged look.class.now c.judge.new.look.class.now (question_of look.ask) (Some c.in_ok-judged.judged) c.in_ok-judged.ensures.judged.class in
    let state =
    subst (λ (v : SeenView). IsSeenState g.N.Named.config.stripes v.sight c.judge.new.seen.sight c.learn.new.self.stripe) c.learn.ensures.same left.state in
    record {
      holds = search rules;
      serves = (
        gate.0,
        left.served,
        begun_sees g.N.Named.config me.seen.now.sight c.judge.new.seen.sight me.who me.moment sees gate.2,
        gate.3 ∙ sym c.judge.ensures.still.1.number_is,
      );
      kept = λ first begun kept. (
        kept.0,
        kept.1,
        walks_on look.ask.who look.ask.moment _ _ _ _ _ _ kept.2 sees gains,
        no_shorter_both (length first.owner.now.history) (length me.owner.now.history) (length c.judge.new.owner.history) kept.3 c.judge.ensures.still.0,
        still_on g.N.Named.config look.class.now.number (length first.owner.now.history) (length me.owner.now.history) look.ask.who.turn first.seen.now.sight me.seen.now.sight c.judge.new.seen.sight
            begun look.class.now.history c.judge.new.look.class.now.history first.caller.now me.caller.now c.judge.new.caller kept.3 kept.4 still,
        answers_both g.N.Named.config.stripes first.seen.now.sight me.seen.now.sight c.judge.new.seen.sight first.answers.now me.answers.now c.push-2.new.self kept.2.sees sees kept.5
            (answers_one g.N.Named.config.stripes me.seen.now.sight c.judge.new.seen.sight me.answers.now c.push-2.new.self c.args.stripe (Some c.in_ok-judged.judged) c.push-2.ensures
            (subst (IsSeenState g.N.Named.config.stripes me.seen.now.sight c.judge.new.seen.sight) (sym c.in_ok-judged.ensures.judged.reached.1) state)),
      );
    }

pub returns-in_default-clause-answer : goal.returns-in_default-clause-answer
returns-in_default-clause-answer g c = passed_by _ c.args.stripe _ _ _ _ _ c.requires.once c.push.ensures

pub returns-in_default-clause-gate : goal.returns-in_default-clause-gate
returns-in_default-clause-gate g c =
    let me = c.args.self.now in
    record {
      holds = search rules;
      serves = c.requires.look.served.serves;
      kept = λ first begun kept. (
        kept.0,
        kept.1,
        kept.2,
        kept.3,
        kept.4,
        answers_passed g.N.Named.config.stripes first.seen.now.sight me.seen.now.sight first.answers.now me.answers.now c.push.new.self c.args.stripe kept.2.sees kept.5 c.push.ensures,
      );
    }
