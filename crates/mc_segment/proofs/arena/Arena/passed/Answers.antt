use Rattle.std.proofs.Common.{◌≡◌, ◌<◌, ◌≤◌, ◌-◌, ◌++◌, ◌∷◌, [], ℕ, List, ap, ◌∙◌, sym, refl, None, length, take, reverse, arith}
use Rattle.std.specs.Option.{option_copied}
use Rattle.std.proofs.lemmas.List.{take_more_set, length-set}
use Rattle.mc_rule.specs.{Lists.list_of, Segment.numbers_of}
use Rattle.mc_segment.specs.declared.ends.Ends.{Ends}
use Rattle.mc_segment.specs.{Nodes.before, Arena.part, Arena.code}
use Rattle.mc_segment.proofs.TailLemmas.{before_last, not_yet, missing, next_is, here, node_here, some_same, tail_number}
use Rattle.mc_segment.proofs.{OneListLemmas.mine, ArenaLemmas.seen}
use Rattle.mc_segment.proofs.arena.Arena.passed.Goals as goal

pub loop-i-init : goal.loop-i-init
loop-i-init c =
    let es = list_of c.args.self.now.lists c.args.seg in
    let p = (seen c.self.inside.slots _ _ _ c.self.view_is c.self.invariant).parts c.args.seg in
    let zero : length es ≡ length es - 0 = omega arith in
    (ap (λ (x : Ends). x.oldest) c.of-next.ensures ∙ (p.oldest_is ∙ (sym (before_last None es) ∙ ap (before None es) zero)), refl, refl)

pub unreachable-requires : goal.unreachable-requires
unreachable-requires c =
    let p = (seen c.self.inside.slots _ _ _ c.self.view_is c.self.invariant).parts c.args.seg in
    not_yet _ _ _ _ _ _ c.loop-i.i 0 c.loop-i.next p c.loop-i.invariant.0 (omega (arith, c.loop-i-test.true, c.requires.there)) c.in_default.is (omega (arith, c.loop-i-test.true, c.requires.there))

pub unreachable-requires-in_default-place_at : goal.unreachable-requires-in_default-place_at
unreachable-requires-in_default-place_at c =
    let p = (seen c.self.inside.slots _ _ _ c.self.view_is c.self.invariant).parts c.args.seg in
    missing _ _ _ _ _ _ c.loop-i.i c.in-Some.number c.loop-i.next p c.loop-i.invariant.0 (omega (arith, c.loop-i-test.true, c.requires.there)) c.in-Some.is
    (ap (part (code c.args.seg)) (sym c.place_at.ensures ∙ ap option_copied c.in_default-place_at.is))

pub loop-i-preserved : goal.loop-i-preserved
loop-i-preserved c =
    let es = list_of c.args.self.now.lists c.args.seg in
    let i = c.loop-i.i in
    let n = c.in-Some.number in
    let p = (seen c.self.inside.slots _ _ _ c.self.view_is c.self.invariant).parts c.args.seg in
    let le : i ≤ length es = omega (arith, c.loop-i-test.true, c.requires.there) in
    let less : i < length es = omega (arith, c.loop-i-test.true, c.requires.there) in
    let stands = here _ _ _ _ _ _ i n c.loop-i.next p c.loop-i.invariant.0 le c.in-Some.is in
    let node = node_here _ _ _ _ _ _ i n c.loop-i.next p c.loop-i.invariant.0 le c.in-Some.is in
    let next = next_is _ _ _ _ _ _ i n c.loop-i.next p c.loop-i.invariant.0 le _ c.in-Some.is (mine (code c.args.seg) _ _ _ node (sym c.in-Some-place_at.ensures)) in
    let number : n ≡ stands.entry.number = some_same _ _ stands.number in
    let old = c.loop-i.numbers in
    let len : i < length old = omega (arith, c.loop-i-test.true, c.requires.few, c.loop-i.invariant.1) in (
      next.0,
      length-set old i n ∙ c.loop-i.invariant.1,
      take_more_set old i n len
          ∙ (ap (λ (ns : List ℕ). ns ++ n ∷ []) c.loop-i.invariant.2
          ∙ (ap (λ (m : ℕ). take i (reverse (numbers_of es)) ++ m ∷ []) number ∙ sym (tail_number es i stands.entry less stands.place))),
    )
