use Rattle.std.proofs.Common.{◌-◌, ◌≤◌, true}
use Rattle.mc_pull.specs.{Gates.IsServedBy, Gates.LeavesGate, Growth.GainsFor, Rounds.rounds, Rounds.IsRoomRound, Walker.walker_by}
use Rattle.mc_pull.proofs.RoundLemmas.{OnRounds}
use Rattle.mc_pull.proofs.rounds.make_room.Given as goal

abbrev pub invariant-rounds : goal.invariant-rounds
invariant-rounds g l =
    OnRounds (IsRoomRound (rounds l.fn.class l.context.turn.who l.context.turn.moment l.context.config.now)) (g.G.Gate.answers l.fn.gate) (g.G.Gate.answers l.gate) l.fn.class.history l.class.history (10 - l.left)
    × (l.left ≤ 10) × GainsFor true l.fn.class l.class
    × IsServedBy g.G.Gate.serves l.context.config.now l.context.turn.who l.gate l.class
    × LeavesGate g.G.Gate.references g.G.Gate.serves g.G.Gate.keeps l.context.config.now (walker_by l.fn.class l.context) l.fn.gate l.fn.class l.gate l.class

abbrev pub decreases-rounds : goal.decreases-rounds
decreases-rounds g l = l.left
