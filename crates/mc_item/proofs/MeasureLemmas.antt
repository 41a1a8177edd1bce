-- Sizes that rise, and which number digits spell.
use Rattle.std.proofs.Common.{◌≡◌, ◌≤◌, ◌<◌, ◌+◌, ◌-◌, ◌*◌, ◌^◌, zero, suc, subst, ℕ, List, [], ◌∷◌, Bool, true, false, refl, ap, sym, length, take, drop, get_or, arith, ◌∙◌}
use Rattle.std.specs.Prelude.{Option, Some, None, if◌then◌else◌, nat_le, nat_lt, ◌==◌, ◌&&◌}
use Rattle.std.specs.{List.list_all, List.prefix_len}
use Rattle.std.proofs.lemmas.{Bool.Decides.nat_tests, Bool.le-leb, List.at_drop_more, List.at_drop_all}
use Rattle.std.proofs.Math.Nat.{pow-suc}
use Rattle.mc_item.specs.{Config.is_rising, Measure.is_digit, Measure.number_of, Measure.number_from, Measure.number_in, Measure.digits_of, Measure.numeral_of}

-- fewer than two numbers rise
pub is_rising-short : (xs : List ℕ) → length xs ≤ 1 → is_rising xs ≡ true
is_rising-short [] few = refl
is_rising-short (x ∷ []) few = refl
is_rising-short (x ∷ y ∷ xs) few = absurd (omega arith)

-- more digits make no smaller power
powers_rise : (i k : ℕ) → 10 ^ i ≤ 10 ^ (i + k)
powers_rise i zero =
    let same : i ≡ i + 0 = omega arith in
    subst (λ (n : ℕ). 10 ^ i ≤ 10 ^ n) same (omega arith)
powers_rise i (suc k) =
    let next : suc (i + k) ≡ i + suc k = omega arith in
    subst (λ (n : ℕ). 10 ^ i ≤ 10 ^ n) next (omega (arith, powers_rise i k, pow-suc 10 (i + k)))

-- up to 18 digits
pub power_few : (i : ℕ) → i ≤ 18 → 10 ^ i ≤ 1000000000000000000
power_few i few =
    let all : i + (18 - i) ≡ 18 = omega arith in
    subst (λ (n : ℕ). 10 ^ i ≤ 10 ^ n) all (powers_rise i (18 - i))

-- a number doesn't fall where digits come behind it
number_grows : (digits : List ℕ) (n : ℕ) → n ≤ number_from n digits
number_grows [] n = omega arith
number_grows (d ∷ ds) n = omega (arith, number_grows ds (10 * n + (d - 48)))

-- digits of a number of 2^64 or more spell none that is read
none_for_large : (digits : List ℕ) → 2 ^ 64 ≤ number_of digits → number_in digits ≡ None
none_for_large digits large = grind (arith, nat_tests)

-- digits of a number below 2^64 spell it
some_for_digits : (digits : List ℕ) → 0 < length digits → list_all is_digit digits ≡ true → number_of digits < 2 ^ 64 → number_in digits ≡ Some (number_of digits)
some_for_digits digits some all small = grind (arith, nat_tests)

-- where the digits so far spell a number that the next makes 2^64 or more, no number is read
pub too_large : (digits : List ℕ) (i n : ℕ) → i < length digits → number_from n (drop i digits) ≡ number_from 0 digits → 2 ^ 64 ≤ 10 * n + (get_or digits i 0 - 48) → number_in digits ≡ None
too_large digits i n at is large =
    let step = at_drop_more (number_from n) digits i 0 at in
    let grows = number_grows (drop (i + 1) digits) (10 * n + (get_or digits i 0 - 48)) in
    none_for_large digits (omega (arith, step, grows, is))

-- where nothing is left, the number is read
pub all_read : (digits : List ℕ) (i n : ℕ) → 0 < length digits → length digits ≤ i → number_from n (drop i digits) ≡ number_from 0 digits
    → list_all is_digit (drop i digits) ≡ list_all is_digit digits → n < 2 ^ 64 → Some n ≡ number_in digits
all_read digits i n some end is all small =
    let same = sym (at_drop_all (number_from n) digits i end) ∙ is in
    let each = sym all ∙ at_drop_all (list_all is_digit) digits i end in
    ap Some same ∙ sym (some_for_digits digits some each (omega (arith, same)))

-- 20 digits spell more numbers than 64 bits
pub power_many : (i : ℕ) → 20 ≤ i → 2 ^ 64 ≤ 10 ^ i
power_many i many =
    let all : 20 + (i - 20) ≡ i = omega arith in
    let most : 10 ^ 20 ≤ 10 ^ i = subst (λ (n : ℕ). 10 ^ 20 ≤ 10 ^ n) all (powers_rise 20 (i - 20)) in
    omega arith

add_one : (n : ℕ) → 1 + n ≡ suc n
add_one n = omega arith

-- the bytes at a value's front that are digits are digits alone
front_digits : (xs : List ℕ) → list_all is_digit (digits_of xs) ≡ true
front_digits [] = refl
front_digits (x ∷ xs) = by (is_digit x) refl (front_digits xs)
  where
    by : (b : Bool) → is_digit x ≡ b → list_all is_digit (digits_of xs) ≡ true → list_all is_digit (take (if b then 1 + prefix_len is_digit xs else 0) (x ∷ xs)) ≡ true
    by true is more = rw (add_one (prefix_len is_digit xs), is) more
    by false is more = refl

-- tests that pass can be left out
tests : (some all least small spaces : Bool) (o : Option ℕ) → all ≡ true → least ≡ true → spaces ≡ true → (if some && all && small then o else None) ≡ (if some && least && small && spaces then o else None)
tests some all least small spaces o a l s = rw (a, l, s) (by some small)
  where
    by : (b c : Bool) → (if b && true && c then o else None) ≡ (if b && true && c && true then o else None)
    by true true = refl
    by true false = refl
    by false true = refl
    by false false = refl

-- digits and spaces are a number where the digits are one
pub numeral_is_number : (value digits rest : List ℕ) → digits ≡ digits_of value → rest ≡ drop (length digits) value → length digits ≤ 20 → list_all (λ byte. byte == 32) rest ≡ true → number_in digits ≡ numeral_of value
numeral_is_number value digits rest front back few spaces =
    let all : list_all is_digit digits ≡ true = ap (list_all is_digit) front ∙ front_digits value in
    let least : nat_le (length digits) 20 ≡ true = le-leb (length digits) 20 few in
    let left : list_all (λ byte. byte == 32) (drop (length digits) value) ≡ true = ap (list_all (λ byte. byte == 32)) (sym back) ∙ spaces in
    tests (nat_lt 0 (length digits)) (list_all is_digit digits) (nat_le (length digits) 20) (nat_lt (number_of digits) (2 ^ 64))
    (list_all (λ byte. byte == 32) (drop (length digits) value)) (Some (number_of digits)) all least left
    ∙ ap (λ (t : List ℕ). if nat_lt 0 (length t) && nat_le (length t) 20 && nat_lt (number_of t) (2 ^ 64) && list_all (λ byte. byte == 32) (drop (length t) value) then Some (number_of t) else None) front
