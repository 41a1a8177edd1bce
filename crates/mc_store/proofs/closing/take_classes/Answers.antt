use Rattle.std.proofs.Common.{◌≡◌, ◌≢◌, ◌<◌, ◌≤◌, ◌-◌, ◌+◌, ℕ, length, sym, ap, subst, ◌∙◌, arith, rules}
use Rattle.std.specs.List.{All}
use Rattle.std.proofs.lemmas.List.{Elements.All-push, Sorted.All-permutation, Sorted.IsNonDecreasingBy-from_sort_by_key}
use Rattle.mc_item.specs.declared.item.ClassNo.{ClassNo}
use Rattle.mc_store.specs.{Locked.IsLockedClass}
use Rattle.mc_store.proofs.NumberOrderLemmas.{apart_more, same_at, class_number, classes_in_order}
use Rattle.mc_store.proofs.closing.take_classes.Given as given
use Rattle.mc_store.proofs.closing.take_classes.Goals as goal

pub loop-class-preserved : goal.loop-class-preserved
loop-class-preserved g c =
    let i = c.loop-class.invariant in
    let fewer = ap length c.in-Some.ensures.steps.0 in (
      tt,
      tt,
      subst (All (IsLockedClass g.N.Named.board.table g.N.Named.config)) (sym c.push_reserved.ensures.items)
          (All-push (IsLockedClass g.N.Named.board.table g.N.Named.config) c.loop-class.shelf.items c.into_side.result i.2 c.into_side.ensures.kept),
      omega (arith, i.3, fewer, c.push_reserved.ensures.len),
      omega (arith, i.4, c.push_reserved.ensures.capacity),
    )

pub loop-i-init : goal.loop-i-init
loop-i-init g c =
    let i = c.loop-class.invariant in (
      All-permutation (IsLockedClass g.N.Named.board.table g.N.Named.config) _ _ c.sort_unstable_by_key.ensures.permutation i.2,
      IsNonDecreasingBy-from_sort_by_key class_number _ c.sort_unstable_by_key.ensures.sorted (λ a r q k. search rules),
      omega (arith, i.3, c.in-None.ensures.steps.0, c.sort_unstable_by_key.ensures.len, c.sort_unstable_by_key.new.self.ok.0),
      λ j d none. absurd (omega (arith, none)),
    )

-- two neighbours whose numbers are the same, when they are taken off: each as its lock kept it
two_taken : (g : given.Over) (c : goal.After-into_owner-then-number g)
    → IsLockedClass g.N.Named.board.table g.N.Named.config c.swap_remove-first.result × IsLockedClass g.N.Named.board.table g.N.Named.config c.swap_remove-second.result
    × (c.swap_remove-first.result.class.number.0 ≡ c.swap_remove-second.result.class.number.0)
two_taken g c =
    let i = c.loop-i.invariant in
    let xs = c.loop-i.shelf.items in
    let at = c.loop-i.i in
    let kept = IsLockedClass g.N.Named.board.table g.N.Named.config in
    let first = c.swap_remove-first.result in
    let second = c.swap_remove-second.result in
    let below : at < length xs = omega (arith, c.loop-i-test.true, c.len-i-end.ensures, c.sort_unstable_by_key.ensures.len, c.loop-class.invariant.3, c.in-None.ensures.steps.0, i.2) in
    let some : 1 ≤ at = c.loop-i.auto.i in
    let before = c.swap_remove-first.ensures.value ∙ c.swap_remove-second.ensures.by_index.1 (at - 1) first (omega (arith, some)) (omega (arith, some, below, c.loop-i.shelf.ok.0)) in (
      subst kept (sym before) (i.0 (at - 1) first (omega (arith, below))),
      subst kept (sym c.swap_remove-second.ensures.value) (i.0 at second below),
      ap class_number (same_at xs (at - 1) first c.index.result.now (omega (arith, below)) before c.index.ensures) ∙ (sym (ap (λ (n : ClassNo). n.0) c.number.ensures) ∙ (c.if-number.true ∙ (
          ap (λ (n : ClassNo). n.0) c.number-in-loop-i.ensures ∙ ap class_number (same_at xs at c.index-in-loop-i.result.now second below c.index-in-loop-i.ensures c.swap_remove-second.ensures.value)))),
    )

pub clash-requires-clause-board : goal.clash-requires-clause-board
clash-requires-clause-board g c =
    let both = two_taken g c in
    let table = sym (ap (λ b. b.table) c.requires.board) in
    (c.into_owner.ensures.0 ∙ (both.0.held.board_is ∙ table), c.into_owner-then-number.ensures.0 ∙ (both.1.held.board_is ∙ table))

pub clash-requires-clause-same : goal.clash-requires-clause-same
clash-requires-clause-same g c =
    let both = two_taken g c in
    let same = both.2 in
    c.into_owner.ensures.1 ∙ (both.0.held.lock_is ∙ (ap (λ (n : ℕ). g.N.Named.config.stripes + (n - 1)) same ∙ sym (c.into_owner-then-number.ensures.1 ∙ both.1.held.lock_is)))

pub loop-i-preserved : goal.loop-i-preserved
loop-i-preserved g c =
    let i = c.loop-i.invariant in
    let xs = c.loop-i.shelf.items in
    let below : c.loop-i.i < length xs = omega (arith, c.loop-i-test.true, c.len-i-end.ensures, c.sort_unstable_by_key.ensures.len, c.loop-class.invariant.3, c.in-None.ensures.steps.0, i.2) in
    let apart : class_number c.index.result.now ≢ class_number c.index-in-loop-i.result.now = λ same. c.if-number.false (ap (λ (n : ClassNo). n.0) c.number.ensures ∙ (same ∙ sym (ap (λ (n : ClassNo). n.0)
    c.number-in-loop-i.ensures))) in
    (i.0, i.1, i.2, apart_more class_number xs c.loop-i.i c.index.result.now c.index-in-loop-i.result.now c.loop-i.auto.i below c.index.ensures c.index-in-loop-i.ensures apart i.3)

pub returns : goal.returns
returns g c =
    let i = c.loop-i.invariant in
    let xs = c.loop-i.shelf.items in
    let all : length xs ≤ c.loop-i.i =
    omega (arith, c.loop-i-test.false, c.len-i-end.ensures, c.sort_unstable_by_key.ensures.len, c.loop-class.invariant.3, c.in-None.ensures.steps.0, i.2) in
    classes_in_order g.N.Named.board.table g.N.Named.config xs i.0 i.1 (λ j d lt. i.3 j d (omega (arith, lt, all))) i.2
