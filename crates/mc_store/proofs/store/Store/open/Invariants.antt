use Rattle.std.proofs.Common.{◌≡◌, ◌+◌, ◌-◌, drop, length, min}
use Rattle.std.specs.Prelude.{vec_len}
use Rattle.mc_hits.specs.Views.{tables_of}
use Rattle.mc_store.specs.{Locked.locks_for, Passes.ArePasses}
use Rattle.mc_store.proofs.store.Store.open.Given as goal

abbrev pub invariant-loop-owner : goal.invariant-loop-owner
invariant-loop-owner g l =
    (goal.iterator-loop-owner g).can_next l.owner-iterator × (goal.iterator-loop-owner g).is_finite l.owner-iterator
    × (l.seen ≡ l.fn.tokens.seen) × (vec_len l.stripes ≡ min (length l.yielded) g.N.Named.config.stripes)
    × (vec_len l.classes ≡ min (length l.yielded - g.N.Named.config.stripes) (length g.N.Named.config.sizes))
    × (vec_len l.stripes + vec_len l.classes + vec_len l.passes ≡ length l.yielded) × ArePasses (tables_of g.N.Named.queues) (length l.yielded - locks_for g.N.Named.config) l.passes.items
    × (l.hands.items ≡ drop (length l.passes.items) l.fn.tokens.hands.items)
