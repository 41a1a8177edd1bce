use Rattle.std.proofs.Common.{rules, ◌≡◌, ◌-◌, suc, subst, true, arith}
use Rattle.mc_segment.specs.ClassState.{ClassView}
use Rattle.mc_pull.specs.{Broken.BreaksRoom, Broken.BreaksRoomRound, Rounds.rounds, Rounds.IsRoomRound}
use Rattle.mc_pull.proofs.{RoundLemmas.rounds_more, LeavesGateLemmas.leaves_both, LeavesGateLemmas.leaves_itself, LeavesGateLemmas.served_later}
use Rattle.mc_pull.proofs.{ChunkEventLemmas.gains_both, ChunkEventLemmas.gains_itself, BrokenLemmas.steps_broken, BrokenLemmas.err_since}
use Rattle.mc_pull.proofs.rounds.make_room.Goals as goal

pub rounds-init : goal.rounds-init
rounds-init g c = (
  search rules,
  omega arith,
  gains_itself true c.args.class.now,
  c.requires.gate,
  leaves_itself g.G.Gate.references g.G.Gate.serves g.G.Gate.keeps c.args.context c.args.gate.now c.args.class.now c.requires.gate,
)

pub rounds-preserved : goal.rounds-preserved
rounds-preserved g c =
    let inv = c.rounds.invariant in
    let made = c.in_ok-room_round.ensures in
    let before = c.rounds.class in
    let after = c.room_round.new.class in
    let few = inv.1 in
    let some = c.rounds-test.true in
    let round = subst (λ (x : ClassView). IsRoomRound (rounds x c.args.context.turn.who c.args.context.turn.moment c.args.context.config.now) before.history made.round.0 after.history) inv.2.grows.same made.round.2 in
    let count : 10 - (c.rounds.left - 1) ≡ suc (10 - c.rounds.left) = omega (arith, few, some) in (
      rounds_more made.round.0 inv.0 made.round.1 round count,
      omega (arith, few),
      gains_both true _ before after inv.2 made.gains,
      served_later g.G.Gate.references g.G.Gate.serves g.G.Gate.keeps c.args.context _ _ before after inv.3 made.gains.grows made.gate,
      leaves_both g.G.Gate.references g.G.Gate.serves g.G.Gate.keeps c.args.context _ _ _ c.args.class.now before after inv.2.grows inv.4 made.gate,
    )

pub returns-in_err-room_round-clause-err : goal.returns-in_err-room_round-clause-err
returns-in_err-room_round-clause-err g c =
    let inv = c.rounds.invariant in
    let made = c.in_err-room_round.ensures.err in
    let before = c.rounds.class in
    let after = c.room_round.new.class in
    let few = inv.1 in
    let some = c.rounds-test.true in
    let broken = subst (λ (x : ClassView). BreaksRoomRound (rounds x c.args.context.turn.who c.args.context.turn.moment c.args.context.config.now) before.history made.0 after.history) inv.2.grows.same made.2 in
    let r = rounds c.args.class.now c.args.context.turn.who c.args.context.turn.moment c.args.context.config.now in
    err_since _ (g.G.Gate.answers c.args.gate.now) (g.G.Gate.answers c.room_round.new.gate) (λ xs. BreaksRoom r c.args.class.now.history xs after.history)
    (steps_broken (BreaksRoomRound r) 10 _ after.history inv.0 (omega (arith, few, some)) (made.0, made.1, broken))

pub returns-in_err-room_round-clause-gains : goal.returns-in_err-room_round-clause-gains
returns-in_err-room_round-clause-gains g c = gains_both true c.args.class.now c.rounds.class c.room_round.new.class c.rounds.invariant.2 c.in_err-room_round.ensures.gains
