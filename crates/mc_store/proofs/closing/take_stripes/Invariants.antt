use Rattle.std.proofs.Common.{◌≡◌, ◌≤◌, ◌+◌, length}
use Rattle.std.specs.Prelude.{vec_len, vec_capacity}
use Rattle.std.specs.List.{All}
use Rattle.std.specs.List.Sorted.{IsNonDecreasingBy}
use Rattle.std.specs.Vec.Iter.{into_iter_items}
use Rattle.mc_store.specs.Locked.{IsLockedStripe}
use Rattle.mc_store.proofs.NumberOrderLemmas.{AreApart, stripe_number}
use Rattle.mc_store.proofs.closing.take_stripes.Given as goal

abbrev pub invariant-loop-stripe : goal.invariant-loop-stripe
invariant-loop-stripe g l =
    (goal.iterator-loop-stripe g).can_next l.stripe-iterator × (goal.iterator-loop-stripe g).is_finite l.stripe-iterator
    × All (IsLockedStripe g.N.Named.board.table g.N.Named.config) l.shelf.items
    × (vec_len l.shelf + length (into_iter_items l.stripe-iterator) ≡ g.N.Named.config.stripes) × (g.N.Named.config.stripes ≤ vec_capacity l.shelf)

abbrev pub invariant-loop-i : goal.invariant-loop-i
invariant-loop-i g l =
    All (IsLockedStripe g.N.Named.board.table g.N.Named.config) l.shelf.items × IsNonDecreasingBy stripe_number l.shelf.items
    × (length l.shelf.items ≡ g.N.Named.config.stripes) × AreApart stripe_number l.shelf.items l.i
