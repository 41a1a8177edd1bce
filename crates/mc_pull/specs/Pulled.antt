-- What walks count.
use Rattle.std.specs.Prelude.{ℕ, ◌+◌, Bool, false, nat_lt, Option, Some, None}
use Rattle.mc_pull.specs.declared.{judge.Done.Done, pulled.Pulled.Pulled}
use Rattle.mc_pull.specs.declared.judge.Done.TheVariants as done
use Rattle.mc_pull.specs.Outcome.{is_end}

-- nothing is counted yet
abbrev pub none_pulled : Pulled
none_pulled = record { reclaimed = 0; moved = 0; evicted = 0; passed = 0 }

-- how many entries were counted
abbrev pub sum_of : Pulled → ℕ
sum_of p = p.reclaimed + p.moved + p.evicted + p.passed

-- the counts after this was done with an entry; a stranger is passed
abbrev pub counts_after : Done → Pulled → Pulled
counts_after done.Reclaimed p = record p { reclaimed = p.reclaimed + 1 }
counts_after done.ToWarm p = record p { moved = p.moved + 1 }
counts_after done.WithinWarm p = record p { moved = p.moved + 1 }
counts_after done.ToCold p = record p { moved = p.moved + 1 }
counts_after done.Evicted p = record p { evicted = p.evicted + 1 }
counts_after done.Stayed p = p
counts_after (done.Alive expiry) p = p
counts_after done.Stranger p = record p { passed = p.passed + 1 }

-- the counts after a look by which this was done; an entry whose stripe was not reached is passed
abbrev pub counts_if : Option Done → Pulled → Pulled
counts_if None p = record p { passed = p.passed + 1 }
counts_if (Some made) p = counts_after made p

-- whether a walk ends after a look by which this was done; it goes on if the stripe was not reached
abbrev pub is_end_if : Option Done → Bool
is_end_if None = false
is_end_if (Some made) = is_end made

-- a walk did something if it reclaimed, moved or evicted at least one entry
abbrev pub did_something : Pulled → Bool
did_something p = nat_lt 0 (p.reclaimed + p.moved + p.evicted)

-- the counts of two walks together
abbrev pub plus : Pulled → Pulled → Pulled
plus p q = record { reclaimed = p.reclaimed + q.reclaimed; moved = p.moved + q.moved; evicted = p.evicted + q.evicted; passed = p.passed + q.passed }
