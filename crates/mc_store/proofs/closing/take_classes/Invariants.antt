use Rattle.std.proofs.Common.{◌≡◌, ◌≤◌, ◌+◌, length}
use Rattle.std.specs.Prelude.{vec_len, vec_capacity}
use Rattle.std.specs.List.{All}
use Rattle.std.specs.List.Sorted.{IsNonDecreasingBy}
use Rattle.std.specs.Vec.Iter.{into_iter_items}
use Rattle.mc_store.specs.Locked.{IsLockedClass}
use Rattle.mc_store.proofs.NumberOrderLemmas.{AreApart, class_number}
use Rattle.mc_store.proofs.closing.take_classes.Given as goal

abbrev pub invariant-loop-class : goal.invariant-loop-class
invariant-loop-class g l =
    (goal.iterator-loop-class g).can_next l.class-iterator × (goal.iterator-loop-class g).is_finite l.class-iterator
    × All (IsLockedClass g.N.Named.board.table g.N.Named.config) l.shelf.items
    × (vec_len l.shelf + length (into_iter_items l.class-iterator) ≡ length g.N.Named.config.sizes) × (length g.N.Named.config.sizes ≤ vec_capacity l.shelf)

abbrev pub invariant-loop-i : goal.invariant-loop-i
invariant-loop-i g l =
    All (IsLockedClass g.N.Named.board.table g.N.Named.config) l.shelf.items × IsNonDecreasingBy class_number l.shelf.items
    × (length l.shelf.items ≡ length g.N.Named.config.sizes) × AreApart class_number l.shelf.items l.i
