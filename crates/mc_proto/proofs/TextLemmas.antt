-- Texts that are joined.
use Rattle.std.proofs.Common.{◌≡◌, ◌++◌, ◌∷◌, [], ◌+◌, ◌<◌, ◌≤◌, ℕ, List, length, refl, ap, sym, ◌∙◌, append_assoc, append-nil, take, get_or, arith, suc}
use Rattle.std.specs.Prelude.{decimal, ◌/◌, ◌%◌}
use Rattle.std.proofs.lemmas.{Fmt.decimal_digit, Fmt.decimal_step, List.take-append-le, List.take_all, List.take_more, List.length-take-le}
use Rattle.mc_proto.specs.Text.{minute_text, minutes_text}

-- what was added is taken back
pub taken_back : (n : ℕ) (old added : List ℕ) → n ≡ length old → take n (old ++ added) ≡ old
taken_back n old added is = take-append-le n old added (omega arith) ∙ take_all n old (omega arith)

-- the lines of the minutes up to one, and its own
pub minutes_text-push : (first : ℕ) (ns : List ℕ) (n : ℕ) → minutes_text first (ns ++ n ∷ []) ≡ minutes_text first ns ++ minute_text (first + length ns) n
minutes_text-push first [] n =
    let at : first + 0 ≡ first = omega arith in
    rw at (append-nil (minute_text first n))
minutes_text-push first (m ∷ ns) n =
    let at : first + 1 + length ns ≡ first + suc (length ns) = omega arith in
    ap (λ (t : List ℕ). minute_text first m ++ t) (minutes_text-push (first + 1) ns n ∙ ap (λ (k : ℕ). minutes_text (first + 1) ns ++ minute_text k n) at)
    ∙ sym (append_assoc (minute_text first m) (minutes_text (first + 1) ns) (minute_text (first + suc (length ns)) n))

-- one minute more
pub minutes_more : (old now next ns : List ℕ) (i n : ℕ) → now ≡ old ++ minutes_text 0 (take i ns) → i < length ns → n ≡ get_or ns i 0 → next ≡ now ++ minute_text i n → next ≡ old ++ minutes_text 0 (take (i + 1) ns)
minutes_more old now next ns i n is l at more =
    let place : 0 + length (take i ns) ≡ i = omega (arith, length-take-le i ns (omega arith)) in
    let grown : minutes_text 0 (take (i + 1) ns) ≡ minutes_text 0 (take i ns) ++ minute_text i n =
    ap (minutes_text 0) (take_more ns i 0 l) ∙ minutes_text-push 0 (take i ns) (get_or ns i 0)
    ∙ ap (λ (k : ℕ). minutes_text 0 (take i ns) ++ minute_text k (get_or ns i 0)) place
    ∙ ap (λ (m : ℕ). minutes_text 0 (take i ns) ++ minute_text i m) (sym at) in
    more ∙ ap (λ (t : List ℕ). t ++ minute_text i n) is ∙ append_assoc old (minutes_text 0 (take i ns)) (minute_text i n) ∙ ap (λ (t : List ℕ). old ++ t) (sym grown)

-- the digits of a number of two
pub decimal_of_two : (n : ℕ) → 10 ≤ n → n < 100 → decimal n ≡ (48 + n / 10 % 10) ∷ (48 + n % 10) ∷ []
decimal_of_two n least most =
    let small : n / 10 % 10 ≡ n / 10 = omega arith in
    decimal_step n least (omega arith) ∙ rw (small, decimal_digit (n / 10) (omega arith)) refl

-- the digits of a number of three
pub decimal_of_three : (n : ℕ) → 100 ≤ n → n < 1000 → decimal n ≡ (48 + n / 100) ∷ (48 + n / 10 % 10) ∷ (48 + n % 10) ∷ []
decimal_of_three n least most =
    let front : n / 10 / 10 % 10 ≡ n / 100 = omega arith in
    let two = decimal_of_two (n / 10) (omega arith) (omega arith) in
    decimal_step n (omega arith) (omega arith) ∙ rw (two, front) refl
