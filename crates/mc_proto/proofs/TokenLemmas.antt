-- Runs of bytes, and digits.
use Rattle.std.proofs.Common.{◌≡◌, ◌++◌, ◌∷◌, [], ◌+◌, ◌<◌, ◌≤◌, ◌-◌, ◌^◌, ℕ, List, length, refl, ap, sym, ◌∙◌, arith, append_assoc, suc, zero, take, drop, get_or, take-append-drop, true, false, ◌==◌}
use Rattle.std.proofs.lemmas.List.{take_more, append-nil, length-take-le, length-drop, get_or-drop}
use Rattle.std.proofs.Math.Nat.{pow-suc}
use Rattle.std.proofs.lemmas.Bool.{ne_eqb, eq-eqb, lt-ltb, le-leb, leb-true}
use Rattle.std.specs.Prelude.{Bool, Option, IfSome, ◌&&◌, is_none, nat_lt, nat_le, ◌*◌, pos, if◌then◌else◌, Some, None, codes}
use Rattle.std.specs.List.{list_all}
use Rattle.mc_item.specs.{Key.is_key_byte, Measure.is_digit, Measure.number_from, Measure.number_of, Measure.number_in}
use Rattle.mc_item.specs.declared.key.KeyFault.TheVariants.{Empty, TooLong, BadByte}
use Rattle.mc_proto.specs.Lines.{Lacks, tokens, tokens_from, is_key, number, exptime}
use Rattle.mc_proto.proofs.ListCutLemmas.{lacks_both}

pub lacks_more : (b : ℕ) (xs : List ℕ) (i : ℕ) → i < length xs → Lacks b (take i xs) → (get_or xs i 0 ≡ b → ⊥) → Lacks b (take (i + 1) xs)
lacks_more b xs i l h not = rw (take_more xs i 0 l) (lacks_both b (take i xs) (get_or xs i 0 ∷ []) h (not, tt))

pub lacks_up_to : (b : ℕ) (xs : List ℕ) (n : ℕ) → n ≤ length xs → ((i : ℕ) → i < n → get_or xs i 0 == b ≡ true → ⊥) → Lacks b (take n xs)
lacks_up_to b xs zero l h = tt
lacks_up_to b xs (suc n) l h =
    let at : n + 1 ≡ suc n = omega arith in
    let more : Lacks b (take (n + 1) xs) = lacks_more b xs n (omega arith) (lacks_up_to b xs n (omega arith) (λ i g. h i (omega arith))) (λ is. h n (omega arith) (eq-eqb (get_or xs n 0) b is)) in
    rw at at more

pub run_on : (t u after : List ℕ) → Lacks 32 u → tokens_from t (u ++ after) ≡ tokens_from (t ++ u) after
run_on t [] after l = ap (λ (s : List ℕ). tokens_from s after) (sym (append-nil t))
run_on t (b ∷ u) after l =
    let off : b == 32 ≡ false = ne_eqb b 32 l.0 in
    rw off (run_on (t ++ b ∷ []) u after l.1 ∙ ap (λ (s : List ℕ). tokens_from s after) (append_assoc t (b ∷ []) u))

pub end_run : (t after : List ℕ) → 0 < length t → (0 < length after → get_or after 0 0 ≡ 32) → tokens_from t after ≡ t ∷ tokens after
end_run [] after z h = absurd (omega arith)
end_run (b ∷ t) [] z h = refl
end_run (b ∷ t) (c ∷ after) z h =
    let is : c ≡ 32 = h (omega arith) in
    let on : c == 32 ≡ true = eq-eqb c 32 is in
    rw on refl

-- a run that nothing or a space follows is a token
pub run_is_token : (xs : List ℕ) (n : ℕ) → n ≤ length xs → Lacks 32 (take n xs) → (n < length xs → get_or xs n 0 ≡ 32) → 0 < n → tokens xs ≡ take n xs ∷ tokens (drop n xs)
run_is_token xs n l h s z =
    let at : n + 0 ≡ n = omega arith in
    ap tokens (sym (take-append-drop n xs)) ∙ run_on [] (take n xs) (drop n xs) h
    ∙ end_run (take n xs) (drop n xs) (omega (arith, length-take-le n xs l)) (λ g. get_or-drop n xs 0 0 ∙ ap (λ (k : ℕ). get_or xs k 0) at ∙ s (omega (arith, length-drop n xs)))

pub first_token : (line rest t more : List ℕ) (begin end : ℕ) → begin ≤ length line → tokens (drop begin line) ≡ tokens line → rest ≡ drop begin line
    → end ≤ length rest → Lacks 32 (take end rest) → (end < length rest → get_or rest end 0 ≡ 32) → 0 < end → t ≡ take end rest → more ≡ drop end rest
    → (tokens line ≡ t ∷ tokens more) × (length more < length line)
first_token line rest t more begin end lb same is le h s z it im = (
  sym same ∙ ap tokens (sym is) ∙ run_is_token rest end le h s z ∙ ap (λ (k : List ℕ). k ∷ tokens (drop end rest)) (sym it) ∙ ap (λ (k : List ℕ). t ∷ tokens k) (sym im),
  omega (arith, ap length im, length-drop end rest, ap length is, length-drop begin line),
)

pub pow_up : (k i : ℕ) → 10 ^ i ≤ 10 ^ (k + i)
pow_up zero i = let e : zero + i ≡ i = omega arith in rw e (omega arith)
pow_up (suc k) i =
    let e : suc k + i ≡ suc (k + i) = omega arith in
    rw (e, pow-suc 10 (k + i)) (omega (arith, pow_up k i))

pub pow_within : (n i most : ℕ) → n < 10 ^ i → i ≤ most → n < 10 ^ most
pow_within n i most l h =
    let e : (most - i) + i ≡ most = omega arith in
    let u : 10 ^ i ≤ 10 ^ most = rw e at (pow_up (most - i) i) in
    omega arith

-- the same of a number that may not be there
pub bound_within : (found : Option ℕ) (i most : ℕ) → IfSome found (λ n. n < 10 ^ i) → i ≤ most → IfSome found (λ n. n < 10 ^ most)
bound_within None i most bound h = bound
bound_within (Some n) i most bound h = pow_within n i most bound h

byte_is_no_space : (b : ℕ) → is_key_byte b ≡ true → b ≡ 32 → ⊥
byte_is_no_space b h is = let no : is_key_byte 32 ≡ true = rw is at h in absurd (cc)

split_and : (x y : Bool) → (x && y) ≡ true → (x ≡ true) × (y ≡ true)
split_and true y h = (refl, h)
split_and false y h = absurd (cc)

bytes_lack : (xs : List ℕ) → list_all is_key_byte xs ≡ true → Lacks 32 xs
bytes_lack [] h = tt
bytes_lack (b ∷ bs) h =
    let both = split_and (is_key_byte b) (list_all is_key_byte bs) h in
    (byte_is_no_space b both.0, bytes_lack bs both.1)

fault_parts : (e w b : Bool) → is_none (if e then Some Empty else if w then Some TooLong else if b then None else Some BadByte) ≡ true → (e ≡ false) × (b ≡ true)
fault_parts true w b h = absurd (cc)
fault_parts false true b h = absurd (cc)
fault_parts false false false h = absurd (cc)
fault_parts false false true h = (refl, refl)

some_length : (t : List ℕ) → (length t == 0) ≡ false → 0 < length t
some_length [] h = absurd (cc)
some_length (b ∷ bs) h = omega arith

-- a key is one token
pub key_is_token : (t : List ℕ) → is_key t ≡ true → tokens t ≡ t ∷ []
key_is_token t h =
    let parts = fault_parts (length t == 0) (nat_lt 250 (length t)) (list_all is_key_byte t) h in
    ap tokens (sym (append-nil t)) ∙ run_on [] t [] (bytes_lack t parts.1) ∙ end_run t [] (some_length t parts.0) (λ g. absurd (omega arith))

-- the tokens of a get of one key that is spelled with one space
pub lone_tokens : (line token : List ℕ) → line ≡ codes "get " ++ token → is_key token ≡ true → tokens line ≡ codes "get" ∷ token ∷ []
lone_tokens line token is k = ap tokens is ∙ ap (λ (ts : List (List ℕ)). codes "get" ∷ ts) (key_is_token token k)

digit_is_no_space : (b : ℕ) → is_digit b ≡ true → b ≡ 32 → ⊥
digit_is_no_space b h is = let no : is_digit 32 ≡ true = rw is at h in absurd (cc)

pub digits_lack : (xs : List ℕ) → list_all is_digit xs ≡ true → Lacks 32 xs
digits_lack [] h = tt
digits_lack (b ∷ bs) h =
    let both = split_and (is_digit b) (list_all is_digit bs) h in
    (digit_is_no_space b both.0, digits_lack bs both.1)

-- one digit more
pub number_more : (m : ℕ) (xs : List ℕ) (d : ℕ) → number_from m (xs ++ d ∷ []) ≡ 10 * number_from m xs + (d - 48)
number_more m [] d = refl
number_more m (x ∷ xs) d = number_more (10 * m + (x - 48)) xs d

pub digits_more : (xs : List ℕ) (d : ℕ) → list_all is_digit xs ≡ true → is_digit d ≡ true → list_all is_digit (xs ++ d ∷ []) ≡ true
digits_more [] d h g = rw g refl
digits_more (x ∷ xs) d h g =
    let both = split_and (is_digit x) (list_all is_digit xs) h in
    rw both.0 (digits_more xs d both.1 g)

-- up to 18 digits are a number
pub digits_number : (t : List ℕ) → 0 < length t → length t ≤ 18 → list_all is_digit t ≡ true → number 20 t ≡ Some (number_of t)
digits_number t z few h =
    let some : nat_lt 0 (length t) ≡ true = lt-ltb 0 (length t) z in
    let least : nat_le (length t) 20 ≡ true = le-leb (length t) 20 (omega arith) in
    rw (some, least, h) refl

digit_is_no_dash : (b : ℕ) → is_digit b ≡ true → b ≡ 45 → ⊥
digit_is_no_dash b h is = let no : is_digit 45 ≡ true = rw is at h in absurd (cc)

-- and an exptime
pub digits_exptime : (t : List ℕ) → 0 < length t → length t ≤ 18 → list_all is_digit t ≡ true → exptime t ≡ Some (pos (number_of t))
digits_exptime [] z few h = absurd (omega arith)
digits_exptime (b ∷ bs) z few h =
    let both = split_and (is_digit b) (list_all is_digit bs) h in
    let off : b == 45 ≡ false = ne_eqb b 45 (digit_is_no_dash b both.0) in
    let some : nat_lt 0 (length (b ∷ bs)) ≡ true = lt-ltb 0 (length (b ∷ bs)) z in
    let least : nat_le (length (b ∷ bs)) 18 ≡ true = le-leb (length (b ∷ bs)) 18 few in
    rw (off, some, least, h) refl

pub digit_small : (d : ℕ) → is_digit d ≡ true → d - 48 < 10
digit_small d h =
    let both = split_and (nat_le 48 d) (nat_le d 57) h in
    omega (arith, leb-true d 57 both.1)

pub next_power : (i : ℕ) → 10 ^ (i + 1) ≡ 10 ^ i * 10
next_power i = let e : i + 1 ≡ suc i = omega arith in rw e (pow-suc 10 i)

-- digits spell a number that is smaller than the power of their count
number_small : (xs : List ℕ) (m k : ℕ) → list_all is_digit xs ≡ true → m < 10 ^ k → number_from m xs < 10 ^ (k + length xs)
number_small [] m k all small =
    let at : k + 0 ≡ k = omega arith in
    rw at small
number_small (d ∷ ds) m k all small =
    let both = split_and (is_digit d) (list_all is_digit ds) all in
    let at : k + suc (length ds) ≡ k + 1 + length ds = omega arith in
    let next : 10 * m + (d - 48) < 10 ^ (k + 1) = omega (arith, next_power k, digit_small d both.0) in
    rw at (number_small ds (10 * m + (d - 48)) (k + 1) both.1 next)

-- tests that pass can be left out
tests : (some all least small : Bool) (o : Option ℕ) → least ≡ true → (all ≡ true → small ≡ true) → (if some && all && small then o else None) ≡ (if some && least && all then o else None)
tests true true least small o l s = rw (l, s refl) refl
tests true false least small o l s = rw l refl
tests false all least small o l s = refl

-- a text of few digits is a number below 2^64
pub few_digits : (token : List ℕ) → length token ≤ 18 → number_in token ≡ number 18 token
few_digits token few =
    let within : (all : list_all is_digit token ≡ true) → number_of token < 2 ^ 64 =
    λ all. let small = number_small token 0 0 all (omega arith) in omega (arith, pow_within (number_of token) (0 + length token) 19 small (omega arith)) in
    tests (nat_lt 0 (length token)) (list_all is_digit token) (nat_le (length token) 18) (nat_lt (number_of token) (2 ^ 64)) (Some (number_of token)) (le-leb (length token) 18 few)
    (λ all. lt-ltb (number_of token) (2 ^ 64) (within all))
