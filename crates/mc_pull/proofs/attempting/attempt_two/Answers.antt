use Rattle.std.proofs.Common.{refl, inl, inr}
use Rattle.mc_pull.proofs.TriedCommandLemmas.{made_on, made_try, offered_on, part_gains, part_may}
use Rattle.mc_pull.proofs.attempting.attempt_two.Goals as goal

pub attempt-requires-clause-given : goal.attempt-requires-clause-given
attempt-requires-clause-given c = offered_on c.requires.may (c.law.ensures.fresh, (c.law-2.ensures.fresh, tt))

pub make_part-requires-clause-may : goal.make_part-requires-clause-may
make_part-requires-clause-may c =
    let try = made_try c.requires.may (c.law.ensures.fresh, (c.law-2.ensures.fresh, tt)) c.history.ensures.legal c.history.ensures.bounds.small_sizes c.attempt.ensures.site
    (rw c.in-Ok.is at c.in_ok-want.ensures.made) in
    part_may try c.args.home.now c.in_ok-first.ensures.key (inl refl) c.requires.room.0

pub make_part-requires-in-Ok-clause-may : goal.make_part-requires-in-Ok-clause-may
make_part-requires-in-Ok-clause-may c =
    let try = made_try c.requires.may (c.law.ensures.fresh, (c.law-2.ensures.fresh, tt)) c.history.ensures.legal c.history.ensures.bounds.small_sizes c.attempt.ensures.site
    (rw c.in-Ok.is at c.in_ok-want.ensures.made) in
    part_may try c.args.other.now c.in_ok-second.ensures.key (inr (inl refl)) c.requires.room.1

pub returns-in-Ok-clause-tried : goal.returns-in-Ok-clause-tried
returns-in-Ok-clause-tried c = λ config made_with of_home of_other.
    let try = made_try c.requires.may (c.law.ensures.fresh, (c.law-2.ensures.fresh, tt)) c.history.ensures.legal c.history.ensures.bounds.small_sizes c.attempt.ensures.site
    (rw c.in-Ok.is at c.in_ok-want.ensures.made) in
    let home = part_gains try c.args.home.now c.in_ok-first.ensures.key c.make_part.ensures in
    let other = part_gains try c.args.other.now c.in_ok-second.ensures.key c.make_part-in-Ok.ensures in
    made_on try config made_with (of_home, (of_other, tt)) (c.law.ensures.lawful, (c.law-2.ensures.lawful, tt)) (c.law.ensures.below, (c.law-2.ensures.below, tt)) c.woken.ensures (home, (other, tt))
