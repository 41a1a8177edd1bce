-- A checked configuration's classes hold no more than 2^20 bytes.
use Rattle.std.proofs.Common.{◌≡◌, ◌≤◌, ◌<◌, ◌^◌, ◌&&◌, get_or, Bool, true, false, not, ℕ, zero, suc, List, [], ◌∷◌, length, refl, Option, Some, None, arith}
use Rattle.std.specs.Prelude.{if◌then◌else◌, nat_le, nat_lt, position}
use Rattle.std.specs.{List.list_all, Option.option_map}
use Rattle.std.proofs.lemmas.{Bool.false≢true, Bool.Decides.nat_tests, List.Quantifiers.position-Some}
use Rattle.mc_item.specs.{Config.IsSound, Config.are_stripes, Config.are_sizes, Config.is_size, Config.is_rising, Measure.class_of_place}
use Rattle.mc_item.specs.declared.{config.Config.Config, config.ConfigFault.ConfigFault, config.ConfigFault.TheVariants.Stripes}
use Rattle.mc_item.specs.declared.{config.ConfigFault.TheVariants.Sizes, item.ClassNo.ClassNo}
use Rattle.mc_evidence.specs.Small.{AreSmall}

passed : (b : Bool) (fault : ConfigFault) (rest : Option ConfigFault) → (if not b then Some fault else rest) ≡ None → (b ≡ true) × (rest ≡ None)
passed true fault rest none = (refl, none)
passed false fault rest none = cc

both : (a b : Bool) → (a && b) ≡ true → (a ≡ true) × (b ≡ true)
both true b is = (refl, is)
both false b is = absurd (false≢true is)

at_most : (a b : ℕ) → nat_le a b ≡ true → a ≤ b
at_most a b is = grind (arith, nat_tests)

all_small : (xs : List ℕ) (i : ℕ) → list_all is_size xs ≡ true → i < length xs → get_or xs i 0 ≤ 1048576
all_small [] i all lt = omega arith
all_small (x ∷ xs) zero all lt = at_most x 1048576 (both (nat_le 65 x) (nat_le x 1048576) (both (is_size x) (list_all is_size xs) all).0).1
all_small (x ∷ xs) (suc i) all lt = all_small xs i (both (is_size x) (list_all is_size xs) all).1 (omega arith)

-- what has a class of a checked configuration is small
pub small_sizes : (config : Config) → IsSound config → AreSmall config.sizes
small_sizes config none = record { most = λ cost class is. by cost class (position (λ size. nat_le cost size) config.sizes) refl is }
  where
    all : list_all is_size config.sizes ≡ true
    all =
        let first = passed (are_stripes config.stripes) Stripes _ none in
        let second = passed (are_sizes config.sizes) Sizes _ first.1 in
        let outer = both (nat_lt 0 (length config.sizes) && nat_le (length config.sizes) 63 && list_all is_size config.sizes) (is_rising config.sizes) second.0 in
        (both (nat_lt 0 (length config.sizes) && nat_le (length config.sizes) 63) (list_all is_size config.sizes) outer.0).1

    by : (cost : ℕ) (class : ClassNo) (o : Option ℕ) → position (λ size. nat_le cost size) config.sizes ≡ o → option_map class_of_place o ≡ Some class → cost ≤ 2 ^ 20
    by cost class None at is = absurd (cc is)
    by cost class (Some place) at is =
        let there = position-Some (λ size. nat_le cost size) config.sizes place 0 at in
        let low = at_most cost (get_or config.sizes place 0) there.1 in
        let high = all_small config.sizes place all there.0 in
        omega arith
