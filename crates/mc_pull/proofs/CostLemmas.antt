-- What has a class of small sizes is small.
use Rattle.std.proofs.Common.{ℕ, ◌≡◌, ◌≤◌, ◌^◌, true, List, arith, get_or}
use Rattle.std.specs.Prelude.{Option, Some, None, nat_le, position}
use Rattle.std.specs.{List.All, Option.option_map}
use Rattle.std.proofs.lemmas.{Bool.Decides.nat_tests, List.Quantifiers.position-Some}
use Rattle.mc_item.specs.Measure.{class_of_place}
use Rattle.mc_item.specs.declared.item.ClassNo.{ClassNo}

at_most : (a b : ℕ) → nat_le a b ≡ true → a ≤ b
at_most a b is = grind (arith, nat_tests)

-- what has a class of small sizes is small
module _ (cost : ℕ) (sizes : List ℕ) (small : All (λ size. size ≤ 2 ^ 20) sizes) where
  pub small_at : (o : Option ℕ) (class : ClassNo) → position (λ size. nat_le cost size) sizes ≡ o → option_map class_of_place o ≡ Some class → cost ≤ 2 ^ 20
  small_at None class at is = absurd (cc is)
  small_at (Some place) class at is =
      let there = position-Some (λ size. nat_le cost size) sizes place 0 at in
      let low = at_most cost (get_or sizes place 0) there.1 in
      let high = small place 0 there.0 in
      omega arith
