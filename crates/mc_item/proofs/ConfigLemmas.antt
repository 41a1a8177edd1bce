-- What follows where nothing is wrong with a configuration.
use Rattle.std.proofs.Common.{◌≡◌, ◌≤◌, ◌<◌, ◌^◌, ◌==◌, ◌&&◌, Bool, true, false, not, ℕ, List, length, refl, Option, Some, None, arith, get_or}
use Rattle.std.specs.Prelude.{if◌then◌else◌, nat_le, nat_lt}
use Rattle.std.specs.List.{All, list_all}
use Rattle.std.proofs.lemmas.{Bool.false≢true, Bool.Decides.nat_tests, List.Sums.AllPass-from_list_all}
use Rattle.mc_item.specs.Config.{fault_of, are_stripes, are_sizes, are_chunks, are_percents, are_factors, are_callers, are_events, IsBounded, is_size, is_rising, is_limit}
use Rattle.mc_item.specs.declared.{config.Config.Config, config.ConfigFault.ConfigFault}
use Rattle.mc_item.specs.declared.config.ConfigFault.TheVariants.{Stripes, Sizes, Chunks, Percent, Factor, Callers, Events}

-- a chain of tests that finds no fault passed its first test, and the rest finds none
passed : (b : Bool) (fault : ConfigFault) (rest : Option ConfigFault) → (if not b then Some fault else rest) ≡ None → (b ≡ true) × (rest ≡ None)
passed true fault rest none = (refl, none)
passed false fault rest none = cc

both : (a b : Bool) → (a && b) ≡ true → (a ≡ true) × (b ≡ true)
both true b is = (refl, is)
both false b is = absurd (false≢true is)

-- what a test of two numbers tells
at_most : (a b : ℕ) → nat_le a b ≡ true → a ≤ b
at_most a b is = grind (arith, nat_tests)

below : (a b : ℕ) → nat_lt a b ≡ true → a < b
below a b is = grind (arith, nat_tests)

same : (a b : ℕ) → (a == b) ≡ true → a ≡ b
same a b is = grind (arith, nat_tests)

-- a power of two is from 1 to 64
stripes_bound : (n : ℕ) → are_stripes n ≡ true → (0 < n) × (n ≤ 64)
stripes_bound n is = grind (arith, nat_tests)

-- sizes are 1 to 63
sizes_bound : (xs : List ℕ) → are_sizes xs ≡ true → (0 < length xs) × (length xs ≤ 63)
sizes_bound xs is =
    let outer = both (nat_lt 0 (length xs) && nat_le (length xs) 63 && list_all is_size xs) (is_rising xs) is in
    let inner = both (nat_lt 0 (length xs) && nat_le (length xs) 63) (list_all is_size xs) outer.0 in
    let ends = both (nat_lt 0 (length xs)) (nat_le (length xs) 63) inner.0 in
    (below 0 (length xs) ends.0, at_most (length xs) 63 ends.1)

-- each size is at most 2^20
small : (size : ℕ) → is_size size ≡ true → size ≤ 2 ^ 20
small size is = grind (arith, nat_tests)

small_sizes : (xs : List ℕ) → are_sizes xs ≡ true → All (λ size. size ≤ 2 ^ 20) xs
small_sizes xs is =
    let outer = both (nat_lt 0 (length xs) && nat_le (length xs) 63 && list_all is_size xs) (is_rising xs) is in
    let inner = both (nat_lt 0 (length xs) && nat_le (length xs) 63) (list_all is_size xs) outer.0 in
    λ k d within. small (get_or xs k d) (AllPass-from_list_all is_size xs inner.1 k d within)

-- a checked configuration's bounds
pub bounded : (c : Config) → fault_of c ≡ None → IsBounded c
bounded c none =
    let a = passed (are_stripes c.stripes) Stripes _ none in
    let b = passed (are_sizes c.sizes) Sizes _ a.1 in
    let d = passed (are_chunks c.chunks (length c.sizes)) Chunks _ b.1 in
    let e = passed (are_percents c.hot_percent c.warm_percent) Percent _ d.1 in
    let f = passed (are_factors c.hot_factor c.warm_factor c.temp_ttl) Factor _ e.1 in
    let g = passed (are_callers c.callers) Callers _ f.1 in
    let h = passed (are_events c.max_events) Events _ g.1 in
    let stripes = stripes_bound c.stripes a.0 in
    let sizes = sizes_bound c.sizes b.0 in
    let chunks = both (length c.chunks == length c.sizes) (list_all is_limit c.chunks) d.0 in
    let callers = both (nat_le 1 c.callers) (nat_le c.callers 64) g.0 in
    let events = both (nat_le 16 c.max_events) (nat_le c.max_events (2 ^ 32)) h.0 in
    record {
      some_stripes = stripes.0;
      few_stripes = stripes.1;
      some_sizes = sizes.0;
      few_sizes = sizes.1;
      small_sizes = small_sizes c.sizes b.0;
      as_many = same (length c.chunks) (length c.sizes) chunks.0;
      some_callers = at_most 1 c.callers callers.0;
      few_callers = at_most c.callers 64 callers.1;
      some_events = at_most 16 c.max_events events.0;
      few_events = at_most c.max_events (2 ^ 32) events.1;
    }
