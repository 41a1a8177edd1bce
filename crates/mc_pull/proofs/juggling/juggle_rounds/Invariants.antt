use Rattle.std.proofs.Common.{◌+◌, ◌-◌, ◌*◌, ◌≤◌, true, false}
use Rattle.mc_pull.specs.{Gates.LeavesGate, Gates.MayWalkBy, Growth.GainsFor, Pulled.sum_of, Rounds.rounds, Walker.walker_by}
use Rattle.mc_pull.specs.Juggle.{juggling, Adds, IsJuggleRound}
use Rattle.mc_pull.proofs.RoundLemmas.{OnRounds}
use Rattle.mc_pull.proofs.juggling.juggle_rounds.Given as goal

abbrev pub invariant-rounds : goal.invariant-rounds
invariant-rounds g l =
    OnRounds (Adds (IsJuggleRound (rounds l.fn.class l.context.turn.who l.context.turn.moment l.context.config.now) l.survey) true) (g.G.Gate.answers l.fn.gate) (g.G.Gate.answers l.gate)
    (juggling l.fn.class.history l.fn.total) (juggling l.class.history l.sum) (500 - l.left)
    × (l.left ≤ 500) × (sum_of l.sum + 15 * l.left ≤ 10000) × GainsFor false l.fn.class l.class
    × MayWalkBy g.G.Gate.serves l.context l.gate l.class l.survey
    × LeavesGate g.G.Gate.references g.G.Gate.serves g.G.Gate.keeps l.context.config.now (walker_by l.fn.class l.context) l.fn.gate l.fn.class l.gate l.class

abbrev pub decreases-rounds : goal.decreases-rounds
decreases-rounds g l = l.left
