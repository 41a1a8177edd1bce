use Rattle.std.proofs.Common.{List, ◌++◌, Bool, false, refl, ap, ◌∙◌, sym, subst, append_assoc, inl, inr}
use Rattle.mc_item.specs.declared.lists.Seg.TheVariants.{Hot, Warm, Cold}
use Rattle.mc_segment.specs.ClassState.{ClassView}
use Rattle.mc_pull.specs.declared.{judge.Mode.TheVariants.Plain, looking.Answer.Answer, pulled.Pulled.Pulled}
use Rattle.mc_pull.specs.{Juggle.PullsWarm, Pulled.plus, Rounds.rounds, Walk.pull, Walk.IsWalk, Walk.IsBrokenWalk}
use Rattle.mc_pull.specs.Broken.{BreaksWalk, WalksInVain, IsHotAndWarm, BreaksRound}
use Rattle.mc_pull.proofs.{BrokenLemmas.broken_after, BrokenLemmas.err_since, ChunkEventLemmas.gains_both, GrowthLemmas.grows_both, GrowthLemmas.survey_later}
use Rattle.mc_pull.proofs.juggling.juggle_round.Goals as goal

pub returns-clause-round : goal.returns-clause-round
returns-clause-round g c =
    let who = c.args.context.turn.who in
    let moment = c.args.context.turn.moment in
    let config = c.args.context.config.now in
    let survey = c.args.survey in
    let mid = c.pull_tail.new.class in
    let next = c.pull_warm.new.class in
    let last = c.pull_tail-2.new.class in
    let hot = c.in_ok-hot.ensures.walk in
    let warm = c.in_ok-warm.ensures.walk in
    let cold = c.in_ok-cold.ensures.walk in
    let grows = c.in_ok-hot.ensures.gains.grows in
    let later = grows_both _ mid next grows c.in_ok-warm.ensures.gains.grows in
    let warm_is = subst (λ (b : Bool). PullsWarm (rounds c.args.class.now who moment config) survey b mid.history warm.0 next.history c.in_ok-warm.warm) c.did_something-did.ensures
    (subst (λ (x : ClassView). PullsWarm (rounds x who moment config) survey c.did_something-did.result mid.history warm.0 next.history c.in_ok-warm.warm) grows.same warm.2) in
    let cold_is = subst (λ (x : ClassView). IsWalk (pull x Cold (Plain survey) who moment config) cold.0 last.history c.in_ok-cold.cold) later.same cold.2 in (
      (hot.0 ++ warm.0) ++ cold.0,
      cold.1 ∙ (ap (λ (ys : List Answer). ys ++ cold.0) (warm.1 ∙ (ap (λ (ys : List Answer). ys ++ warm.0) hot.1 ∙ append_assoc _ hot.0 warm.0)) ∙ append_assoc _ (hot.0 ++ warm.0) cold.0),
      record {
        hot = hot.0;
        warm = warm.0;
        cold = cold.0;
        after_hot = mid.history;
        after_warm = next.history;
        of_hot = c.in_ok-hot.hot;
        of_warm = c.in_ok-warm.warm;
        of_cold = c.in_ok-cold.cold;
        hot_is = hot.2;
        warm_is = warm_is;
        cold_is = cold_is;
        sum_is = c.plus-2.ensures ∙ ap (λ (p : Pulled). plus p c.in_ok-cold.cold) c.plus.ensures;
        answers = refl;
      },
    )

pub returns-in_err-warm-clause-gains : goal.returns-in_err-warm-clause-gains
returns-in_err-warm-clause-gains g c = gains_both false c.args.class.now c.pull_tail.new.class c.pull_warm.new.class c.in_ok-hot.ensures.gains c.in_err-warm.ensures.gains

pub pull_tail-requires-2-clause-walk : goal.pull_tail-requires-2-clause-walk
pull_tail-requires-2-clause-walk g c =
    survey_later c.args.class.now c.pull_warm.new.class c.args.context.turn.who c.args.context.turn.moment c.args.survey
    (gains_both false c.args.class.now c.pull_tail.new.class c.pull_warm.new.class c.in_ok-hot.ensures.gains c.in_ok-warm.ensures.gains).grows c.requires.survey.there

pub returns-in_err-cold-clause-gains : goal.returns-in_err-cold-clause-gains
returns-in_err-cold-clause-gains g c =
    gains_both false c.args.class.now c.pull_warm.new.class c.pull_tail-2.new.class
    (gains_both false c.args.class.now c.pull_tail.new.class c.pull_warm.new.class c.in_ok-hot.ensures.gains c.in_ok-warm.ensures.gains) c.in_err-cold.ensures.gains

pub returns-clause-gains : goal.returns-clause-gains
returns-clause-gains g c =
    gains_both false c.args.class.now c.pull_warm.new.class c.pull_tail-2.new.class
    (gains_both false c.args.class.now c.pull_tail.new.class c.pull_warm.new.class c.in_ok-hot.ensures.gains c.in_ok-warm.ensures.gains) c.in_ok-cold.ensures.gains

pub returns-in_err-hot-clause-err : goal.returns-in_err-hot-clause-err
returns-in_err-hot-clause-err g c =
    let hot = c.in_err-hot.ensures.err in
    let after = c.pull_tail.new.class in
    err_since _ (g.G.Gate.answers c.args.gate.now) (g.G.Gate.answers c.pull_tail.new.gate)
    (λ xs. BreaksRound (rounds c.args.class.now c.args.context.turn.who c.args.context.turn.moment c.args.context.config.now) c.args.survey c.args.class.now.history xs after.history) (hot.0, hot.1, inl hot.2)

pub returns-in_err-warm-clause-err : goal.returns-in_err-warm-clause-err
returns-in_err-warm-clause-err g c =
    let survey = c.args.survey in
    let r = rounds c.args.class.now c.args.context.turn.who c.args.context.turn.moment c.args.context.config.now in
    let mid = c.pull_tail.new.class in
    let after = c.pull_warm.new.class in
    let hot = c.in_ok-hot.ensures.walk in
    let warm = c.in_err-warm.ensures.err in
    let warm_is = subst (λ (x : ClassView). BreaksWalk (rounds x c.args.context.turn.who c.args.context.turn.moment c.args.context.config.now) Warm (Plain survey) mid.history warm.0 after.history)
    c.in_ok-hot.ensures.gains.grows.same warm.3 in
    let both =
    broken_after (WalksInVain r Hot (Plain survey)) (BreaksWalk r Warm (Plain survey))
    (g.G.Gate.answers c.args.gate.now) (g.G.Gate.answers c.pull_tail.new.gate) (g.G.Gate.answers c.pull_warm.new.gate) c.args.class.now.history mid.history after.history
    (hot.0, hot.1, (c.in_ok-hot.hot, hot.2, sym c.did_something-did.ensures ∙ warm.2)) (warm.0, warm.1, warm_is) in
    err_since _ (g.G.Gate.answers c.args.gate.now) (g.G.Gate.answers c.pull_warm.new.gate) (λ xs. BreaksRound r survey c.args.class.now.history xs after.history) (both.0, both.1, inr (inl both.2))

pub returns-in_err-cold-clause-err : goal.returns-in_err-cold-clause-err
returns-in_err-cold-clause-err g c =
    let who = c.args.context.turn.who in
    let moment = c.args.context.turn.moment in
    let config = c.args.context.config.now in
    let survey = c.args.survey in
    let r = rounds c.args.class.now who moment config in
    let mid = c.pull_tail.new.class in
    let next = c.pull_warm.new.class in
    let after = c.pull_tail-2.new.class in
    let hot = c.in_ok-hot.ensures.walk in
    let warm = c.in_ok-warm.ensures.walk in
    let cold = c.in_err-cold.ensures.err in
    let grows = c.in_ok-hot.ensures.gains.grows in
    let later = grows_both _ mid next grows c.in_ok-warm.ensures.gains.grows in
    let warm_is = subst (λ (b : Bool). PullsWarm r survey b mid.history warm.0 next.history c.in_ok-warm.warm) c.did_something-did.ensures
    (subst (λ (x : ClassView). PullsWarm (rounds x who moment config) survey c.did_something-did.result mid.history warm.0 next.history c.in_ok-warm.warm) grows.same warm.2) in
    let cold_is = subst (λ (x : ClassView). IsBrokenWalk (pull x Cold (Plain survey) who moment config) cold.0 after.history) later.same cold.2 in
    let first : IsHotAndWarm r survey c.args.class.now.history (hot.0 ++ warm.0) next.history =
    record { hot = hot.0; warm = warm.0; after_hot = mid.history; of_hot = c.in_ok-hot.hot; of_warm = c.in_ok-warm.warm; hot_is = hot.2; warm_is = warm_is; answers = refl } in
    let both =
    broken_after (IsHotAndWarm r survey) (BreaksWalk r Cold (Plain survey))
    (g.G.Gate.answers c.args.gate.now) (g.G.Gate.answers c.pull_warm.new.gate) (g.G.Gate.answers c.pull_tail-2.new.gate) c.args.class.now.history next.history after.history
    (hot.0 ++ warm.0, warm.1 ∙ (ap (λ (ys : List Answer). ys ++ warm.0) hot.1 ∙ append_assoc _ hot.0 warm.0), first) (cold.0, cold.1, cold_is) in
    err_since _ (g.G.Gate.answers c.args.gate.now) (g.G.Gate.answers c.pull_tail-2.new.gate) (λ xs. BreaksRound r survey c.args.class.now.history xs after.history) (both.0, both.1, inr (inr both.2))
