use Rattle.mc_pull.specs.{Gates.IsServedBy, Gates.LeavesGate, Question.MayWalk, Walker.walker_by}
use Rattle.mc_pull.proofs.WalkAnswerLemmas.{OnLooks}
use Rattle.mc_pull.proofs.pulling.pull_tail.Given as goal

abbrev pub invariant-looks : goal.invariant-looks
invariant-looks g l =
    OnLooks l.fn.class l.class (g.G.Gate.answers l.fn.gate) (g.G.Gate.answers l.gate) l.seg l.mode l.context.turn.who l.context.turn.moment l.context.config.now l.left l.pulled
    × MayWalk l.class l.seg l.mode l.context.turn.who l.context.turn.moment
    × IsServedBy g.G.Gate.serves l.context.config.now l.context.turn.who l.gate l.class
    × LeavesGate g.G.Gate.references g.G.Gate.serves g.G.Gate.keeps l.context.config.now (walker_by l.fn.class l.context) l.fn.gate l.fn.class l.gate l.class

abbrev pub decreases-looks : goal.decreases-looks
decreases-looks g l = l.left
