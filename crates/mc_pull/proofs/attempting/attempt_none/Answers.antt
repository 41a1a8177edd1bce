use Rattle.mc_pull.proofs.TriedCommandLemmas.{made_on, made_try}
use Rattle.mc_pull.proofs.attempting.attempt_none.Goals as goal

pub returns-in-Ok-clause-tried : goal.returns-in-Ok-clause-tried
returns-in-Ok-clause-tried c = λ config made_with.
    let try = made_try c.requires.may tt c.history.ensures.legal c.history.ensures.bounds.small_sizes c.attempt.ensures.site (rw c.in-Ok.is at c.in_ok-done.ensures.made) in
    made_on try config made_with tt tt tt c.woken.ensures tt
