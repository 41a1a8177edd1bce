use Rattle.std.proofs.Common.{◌≡◌, ℕ, ◌+◌, ◌-◌, ◌++◌, ◌∙◌, List, [], take, drop, set, sym, ap, subst, arith, add-one}
use Rattle.std.specs.Prelude.{slice_index}
use Rattle.mc_board.specs.declared.rule.Stage.TheVariants as stages
use Rattle.mc_board.specs.declared.rule.View.TheVariants as views
use Rattle.mc_board.specs.{Steps.owned_of, Writing.owned_in, Writing.written_in}
use Rattle.mc_board.proofs.OwnerLemmas.{one_more}
use Rattle.mc_board.proofs.writing.write.Goals as goal

pub loop-i-preserved : goal.loop-i-preserved
loop-i-preserved c =
    let i = c.loop-i.invariant in
    let n : ℕ = c.loop-i.i in
    let owned = owned_of c.args.place.now.me.0 in
    let new = c.args.figures.now in
    let old = c.args.old.now in
    let mixed : List ℕ = take n new ++ drop n old in
    let word : ℕ = c.args.word + (n + 1) in
    let place : word - (owned.word + 1) ≡ n = omega (arith, c.requires.owner.word) in
    let next : set mixed n (slice_index new n) ≡ take (n + 1) new ++ drop (n + 1) old =
    subst (λ (m : ℕ). set mixed n (slice_index new n) ≡ take m new ++ drop m old) (sym (add-one n)) (one_more n new old (omega (arith, c.told-figures)) (c.told-figures ∙ sym c.told-old)) in (
      c.write_one.ensures.place.0 ∙ i.0,
      c.write_one.ensures.place.1 ∙ i.1,
      c.write_one.ensures.written
          ∙ ((λ j. (written_in word (slice_index new n) (i.2 j).0, []))
          ∙ ap (λ (values : List ℕ). (views.Owner (owned_in owned (stages.Writing values)), [])) (ap (λ (m : ℕ). set mixed m (slice_index new n)) place ∙ next)),
    )
