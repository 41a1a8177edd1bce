use Rattle.std.proofs.Common.{ap, subst}
use Rattle.mc_board.specs.declared.rule.Sight.{Sight}
use Rattle.mc_board.specs.{Histories.AreInLine, Steps.known_of}
use Rattle.mc_board.proofs.seen.Seen.meet.Goals as goal

pub returns-clause-in_line : goal.returns-clause-in_line
returns-clause-in_line c =
    let mine = ap (λ s. s.sight) c.self.view_is in
    let theirs = ap (λ m. (known_of m.0).sight) c.copy-copy.ensures.copy.1 in
    subst (λ (x : Sight × Sight). AreInLine x.0 x.1) (λ i. (mine i, theirs i)) c.line_up.ensures.in_line
