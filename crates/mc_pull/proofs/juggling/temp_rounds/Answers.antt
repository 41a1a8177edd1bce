use Rattle.std.proofs.Common.{rules, ◌≡◌, ◌-◌, suc, false, ◌∙◌, sym, ap, subst, arith}
use Rattle.mc_segment.specs.ClassState.{ClassView}
use Rattle.mc_pull.specs.declared.judge.Mode.TheVariants.{Plain}
use Rattle.mc_item.specs.declared.lists.Seg.TheVariants.{Temp}
use Rattle.mc_pull.specs.{Broken.BreaksJuggled, Broken.BreaksWalk, Juggle.Juggling, Juggle.juggling, Pulled.none_pulled, Pulled.sum_of, Pulled.plus, Rounds.rounds, Rounds.Walks}
use Rattle.mc_pull.proofs.BrokenLemmas.{err_since, steps_broken}
use Rattle.mc_pull.proofs.RoundLemmas.{rounds_more, plus_sum, juggled_all}
use Rattle.mc_pull.proofs.{ChunkEventLemmas.gains_both, ChunkEventLemmas.gains_itself, LeavesGateLemmas.leaves_both, LeavesGateLemmas.leaves_itself, LeavesGateLemmas.walk_later}
use Rattle.mc_pull.proofs.juggling.temp_rounds.Goals as goal

pub rounds-preserved : goal.rounds-preserved
rounds-preserved g c =
    let inv = c.rounds.invariant in
    let made = c.in_ok-made.ensures in
    let before = c.rounds.class in
    let after = c.pull_tail.new.class in
    let few = inv.1 in
    let some = c.rounds-test.true in
    let here : Walks (rounds before c.args.context.turn.who c.args.context.turn.moment c.args.context.config.now) Temp (Plain c.args.survey) before.history made.walk.0 after.history c.in_ok-made.made = made.walk.2 in
    let round = subst (λ (x : ClassView). Walks (rounds x c.args.context.turn.who c.args.context.turn.moment c.args.context.config.now) Temp (Plain c.args.survey) before.history made.walk.0 after.history
    c.in_ok-made.made) inv.3.grows.same here in
    let count : 500 - (c.rounds.left - 1) ≡ suc (500 - c.rounds.left) = omega (arith, few, some) in
    let total : sum_of c.plus-sum.result ≡ sum_of (plus c.rounds.sum c.in_ok-made.made) = ap sum_of c.plus-sum.ensures in (
      rounds_more made.walk.0 inv.0 made.walk.1
          (record { sum = c.in_ok-made.made; made = round; did_is = sym c.did_something.ensures ∙ c.if-not-did_something.false; count = c.plus-sum.ensures }) count,
      omega (arith, few),
      omega (arith, inv.2, made.few, some, plus_sum c.rounds.sum c.in_ok-made.made, total),
      gains_both false _ before after inv.3 made.gains,
      walk_later g.G.Gate.references g.G.Gate.serves g.G.Gate.keeps c.args.context _ _ before after c.args.survey inv.4 made.gains.grows made.gate,
      leaves_both g.G.Gate.references g.G.Gate.serves g.G.Gate.keeps c.args.context _ _ _ c.args.class.now before after inv.3.grows inv.5 made.gate,
    )

pub returns-after-rounds-clause-juggled : goal.returns-after-rounds-clause-juggled
returns-after-rounds-clause-juggled g c =
    juggled_all c.rounds.invariant.0
    (omega (arith, c.rounds-test.false))

pub rounds-init : goal.rounds-init
rounds-init g c = (
  search rules,
  omega arith,
  search rules,
  gains_itself false c.args.class.now,
  c.requires.survey,
  leaves_itself g.G.Gate.references g.G.Gate.serves g.G.Gate.keeps c.args.context c.args.gate.now c.args.class.now c.requires.survey.served,
)

pub returns-in_err-made-clause-gains : goal.returns-in_err-made-clause-gains
returns-in_err-made-clause-gains g c = gains_both false c.args.class.now c.rounds.class c.pull_tail.new.class c.rounds.invariant.3 c.in_err-made.ensures.gains

pub returns-then-not-did_something-clause-gains : goal.returns-then-not-did_something-clause-gains
returns-then-not-did_something-clause-gains g c = gains_both false c.args.class.now c.rounds.class c.pull_tail.new.class c.rounds.invariant.3 c.in_ok-made.ensures.gains

pub returns-in_err-made-clause-err : goal.returns-in_err-made-clause-err
returns-in_err-made-clause-err g c =
    let inv = c.rounds.invariant in
    let made = c.in_err-made.ensures.err in
    let r = rounds c.args.class.now c.args.context.turn.who c.args.context.turn.moment c.args.context.config.now in
    let mode = Plain c.args.survey in
    let before = c.rounds.class in
    let after = c.pull_tail.new.class in
    let few = inv.1 in
    let some = c.rounds-test.true in
    let here : BreaksWalk (rounds before c.args.context.turn.who c.args.context.turn.moment c.args.context.config.now) Temp mode before.history made.0 after.history = made.2 in
    let broken = subst (λ (x : ClassView). BreaksWalk (rounds x c.args.context.turn.who c.args.context.turn.moment c.args.context.config.now) Temp mode before.history made.0 after.history) inv.3.grows.same here in
    err_since _ (g.G.Gate.answers c.args.gate.now) (g.G.Gate.answers c.pull_tail.new.gate)
    (λ xs. BreaksJuggled (Walks r Temp mode) (BreaksWalk r Temp mode) (juggling c.args.class.now.history none_pulled) xs after.history)
    (steps_broken (λ (a : Juggling). BreaksWalk r Temp mode a.history) 500 _ after.history inv.0 (omega (arith, few, some)) (made.0, made.1, broken))
