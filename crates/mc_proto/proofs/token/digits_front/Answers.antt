use Rattle.std.proofs.Common.{rules, ◌≡◌, ◌+◌, ◌-◌, ◌*◌, ◌<◌, ◌≤◌, ◌^◌, ◌++◌, ◌∷◌, [], ℕ, List, take, get_or, true, arith, refl}
use Rattle.std.proofs.lemmas.List.{take_more}
use Rattle.mc_item.specs.Measure.{is_digit, number_from}
use Rattle.mc_proto.proofs.TokenLemmas.{pow_within, number_more, digits_more, digit_small, next_power}
use Rattle.mc_proto.proofs.token.digits_front.Goals as goal

small : (n i : ℕ) → n < 10 ^ i → i ≤ 18 → n < 1000000000000000000
small n i h l = pow_within n i 18 h l

pub overflow_mul-number : goal.overflow_mul-number
overflow_mul-number c = omega (arith, small c.loop-i.number c.loop-i.i c.loop-i.invariant.bound c.loop-i.invariant.few)

pub overflow_add-number : goal.overflow_add-number
overflow_add-number c = omega (arith, small c.loop-i.number c.loop-i.i c.loop-i.invariant.bound c.loop-i.invariant.few)

one_more : (xs : List ℕ) (i n m d : ℕ) → take (i + 1) xs ≡ take i xs ++ d ∷ [] → n ≡ number_from 0 (take i xs) → m ≡ d - 48 → 10 * n + m ≡ number_from 0 (take (i + 1) xs)
one_more xs i n m d more is at = rw (more, number_more 0 (take i xs) d, is, at) refl

higher : (n m d i : ℕ) → n < 10 ^ i → m ≡ d - 48 → is_digit d ≡ true → 10 * n + m < 10 ^ (i + 1)
higher n m d i h at is = omega (arith, next_power i, digit_small d is, at, h)

pub loop-i-preserved : goal.loop-i-preserved
loop-i-preserved c =
    let k = c.loop-i in
    let xs = c.args.bytes.now in
    let is : is_digit (get_or c.args.bytes.now c.loop-i.i 0) ≡ true = search rules in
    let more : take (c.loop-i.i + 1) c.args.bytes.now ≡ take c.loop-i.i c.args.bytes.now ++ get_or c.args.bytes.now c.loop-i.i 0 ∷ [] = take_more c.args.bytes.now c.loop-i.i 0 c.loop-i-test.true in
    let at : c.from.result ≡ get_or c.args.bytes.now c.loop-i.i 0 - 48 = c.from.ensures in
    record {
      few = omega (arith, c.if-i-eq18.false, k.invariant.few);
      digits = rw more (digits_more (take k.i xs) (get_or xs k.i 0) k.invariant.digits is);
      value = one_more c.args.bytes.now c.loop-i.i c.loop-i.number c.from.result (get_or c.args.bytes.now c.loop-i.i 0) more k.invariant.value at;
      bound = higher c.loop-i.number c.from.result (get_or c.args.bytes.now c.loop-i.i 0) c.loop-i.i k.invariant.bound at is;
    }
