use Rattle.std.proofs.Common.{refl, inl}
use Rattle.mc_pull.proofs.TriedCommandLemmas.{made_on, made_try, offered_on, part_gains, part_may}
use Rattle.mc_pull.proofs.attempting.attempt_one.Goals as goal

pub attempt-requires-clause-given : goal.attempt-requires-clause-given
attempt-requires-clause-given c = offered_on c.requires.may (c.law.ensures.fresh, tt)

pub make_part-requires-clause-may : goal.make_part-requires-clause-may
make_part-requires-clause-may c =
    let try = made_try c.requires.may (c.law.ensures.fresh, tt) c.history.ensures.legal c.history.ensures.bounds.small_sizes c.attempt.ensures.site
    (rw c.in-Ok.is at c.in_ok-want.ensures.made) in
    part_may try c.args.class.now c.in_ok-keys.ensures.key (inl refl) c.requires.room

pub returns-in-Ok-clause-tried : goal.returns-in-Ok-clause-tried
returns-in-Ok-clause-tried c = λ config made_with of.
    let try = made_try c.requires.may (c.law.ensures.fresh, tt) c.history.ensures.legal c.history.ensures.bounds.small_sizes c.attempt.ensures.site
    (rw c.in-Ok.is at c.in_ok-want.ensures.made) in
    made_on try config made_with (of, tt) (c.law.ensures.lawful, tt) (c.law.ensures.below, tt) c.woken.ensures (part_gains try c.args.class.now c.in_ok-keys.ensures.key c.make_part.ensures, tt)
