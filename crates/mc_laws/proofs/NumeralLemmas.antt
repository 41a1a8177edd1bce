-- What the digits of a number are read as, and what an incr or decr that was answered a number leaves.
use Rattle.std.proofs.Common.{◌≡◌, ◌≤◌, ◌<◌, ◌+◌, ◌-◌, ◌^◌, ℕ, List, [], ◌∷◌, ◌++◌, replicate, drop, take, length, length-append, append-nil, refl, sym, ap, ◌∙◌, subst, arith, rules, Bool, true}
use Rattle.std.specs.Prelude.{Option, Some, None, IsSomeAnd, decimal, nat_lt, nat_le, ◌&&◌, ◌==◌, if◌then◌else◌, zero, suc}
use Rattle.std.specs.{List.list_all, List.prefix_len, Option.option_map}
use Rattle.std.proofs.Math.Seq.{take-append_seam, drop-append_seam}
use Rattle.std.proofs.lemmas.Bool.{and_parts, lt-ltb, le-leb, cond-true, cond_both}
use Rattle.std.proofs.lemmas.Fmt.{decimal_nonempty, digits_decimal, digits_value-decimal, length-decimal-le}
use Rattle.std.proofs.lemmas.Str.Parse.{IsNumeralModel, numerals_by_fold, digits_value_short}
use Rattle.mc_item.proofs.NumberLemmas.{length-decimal_few}
use Rattle.mc_item.specs.Answer.{Row, plain, grown_row, number_row, count_row, version_of, cas_of, padded, stepped}
use Rattle.mc_item.specs.Cache.{empty_cache, changed, counted, after_command, answer_of}
use Rattle.mc_item.specs.Measure.{is_digit, number_from, number_of, digits_of, numeral_of, cost_of, class_of}
use Rattle.mc_item.specs.Stripe.{cache_after, cache_from, cache_of, IsLegal}
use Rattle.mc_item.specs.declared.answer.Change.TheVariants as changes
use Rattle.mc_item.specs.declared.answer.Need.TheVariants as needs
use Rattle.mc_item.specs.declared.{answer.Site.Site, command.Command.Command, command.Command.TheVariants.Incr, command.Command.TheVariants.Decr}
use Rattle.mc_item.specs.declared.{counting.Step.TheVariants.Up, counting.Step.TheVariants.Down, item.ClassNo.ClassNo, item.Item.Item, reply.Room.Room}
use Rattle.mc_item.specs.declared.{stripe_event.Did.Did, stripe_event.StripeEvent.StripeEvent}
use Rattle.mc_item.specs.declared.reply.Reply.TheVariants as replies
use Rattle.mc_item.specs.declared.reply.Room.TheVariants as rooms
use Rattle.mc_item.specs.declared.stripe_event.StripeEvent.TheVariants as events
use Rattle.mc_laws.proofs.EventLemmas.{change_here, stays_meanwhile, legal_on}
use Rattle.mc_laws.specs.Events.{AreOfOtherKeys}

-- ---- the digits of a number

-- whether a byte is a space
abbrev is_space : ℕ → Bool
is_space byte = byte == 32

-- digits are read from the left: ten times the number so far, and one digit more
reads_digits : IsNumeralModel (λ (digits : List ℕ). list_all is_digit digits ≡ true) (number_from 0)
reads_digits = numerals_by_fold _ (search rules) number_from (search rules)

-- a larger number has no fewer digits
pub length-decimal_rises : (m n : ℕ) → m ≤ n → n < 2 ^ 64 → length (decimal m) ≤ length (decimal n)
length-decimal_rises m n le small =
    let below : number_from 0 (decimal n) < 10 ^ length (decimal n) =
    digits_value_short reads_digits (decimal n) (length (decimal n)) (digits_decimal reads_digits n small) (omega arith) in
    let within : m < 10 ^ length (decimal n) = omega (arith, digits_value-decimal reads_digits n small) in
    length-decimal-le (length (decimal n)) m (decimal_nonempty n small) within (omega arith)

-- ---- digits and spaces

-- a run of spaces has nothing else in it
all_spaces : (spaces : ℕ) → list_all is_space (replicate spaces 32) ≡ true
all_spaces zero = refl
all_spaces (suc spaces) = all_spaces spaces

-- before the spaces come just the digits
front_length : (digits : List ℕ) (spaces : ℕ) → list_all is_digit digits ≡ true
    → prefix_len is_digit (digits ++ replicate spaces 32) ≡ length digits
front_length [] zero all = refl
front_length [] (suc spaces) all = refl
front_length (digit ∷ digits) spaces all =
    let parts = and_parts (is_digit digit) (list_all is_digit digits) all in
    cond-true (is_digit digit) (1 + prefix_len is_digit (digits ++ replicate spaces 32)) 0 parts.0
    ∙ omega (arith, front_length digits spaces parts.1)

-- whether these digits, and this behind them, are a number
abbrev are_number : List ℕ → List ℕ → Bool
are_number digits rest =
    nat_lt 0 (length digits) && nat_le (length digits) 20 && nat_lt (number_of digits) (2 ^ 64) && list_all is_space rest

-- 1 to 20 digits of a number below 2^64, and nothing but spaces, are one
passes : (digits rest : List ℕ) (number : ℕ) → number_of digits ≡ number → 0 < length digits → length digits ≤ 20 → number < 2 ^ 64
    → list_all is_space rest ≡ true → are_number digits rest ≡ true
passes digits rest number is some few small spaces =
    let fits : nat_lt (number_of digits) (2 ^ 64) ≡ true = ap (λ (n : ℕ). nat_lt n (2 ^ 64)) is ∙ lt-ltb number (2 ^ 64) small in
    rw (lt-ltb 0 (length digits) some, le-leb (length digits) 20 few, fits) spaces

-- a value whose first digits and the rest are a number is that number
reads_front : (value digits : List ℕ) (number : ℕ) → digits_of value ≡ digits → number_of digits ≡ number
    → are_number digits (drop (length digits) value) ≡ true → numeral_of value ≡ Some number
reads_front value digits number front is good =
    ap (λ (ds : List ℕ). if are_number ds (drop (length ds) value) then Some (number_of ds) else None) front
    ∙ cond-true (are_number digits (drop (length digits) value)) (Some (number_of digits)) None good
    ∙ ap (λ (n : ℕ). Some n) is

-- the digits of a number, with spaces behind them, are the number
pub numeral_of_digits : (number spaces : ℕ) → number < 2 ^ 64 → numeral_of (decimal number ++ replicate spaces 32) ≡ Some number
numeral_of_digits number spaces small =
    let value = decimal number ++ replicate spaces 32 in
    let front : digits_of value ≡ decimal number =
    ap (λ (len : ℕ). take len value) (front_length (decimal number) spaces (digits_decimal reads_digits number small))
    ∙ take-append_seam (decimal number) (replicate spaces 32) in
    let behind : list_all is_space (drop (length (decimal number)) value) ≡ true =
    ap (λ (rest : List ℕ). list_all is_space rest) (drop-append_seam (decimal number) (replicate spaces 32)) ∙ all_spaces spaces in
    let is : number_of (decimal number) ≡ number = digits_value-decimal reads_digits number small in
    let few = length-decimal_few number small in
    reads_front value (decimal number) number front is
    (passes (decimal number) (drop (length (decimal number)) value) number is (decimal_nonempty number small) few small behind)

-- ---- incr and decr

-- where a row answers this number, it leaves the item with the digits of the number, and spaces behind them
abbrev pub LeavesNumber : Option Item → Room → ℕ → Row → Type 0
LeavesNumber found room told row =
    (row.answer room).reply ≡ replies.Number told
    → (item : Item) × (spaces : ℕ) × (changed found (row.answer room).change ≡ Some item) × (item.value ≡ decimal told ++ replicate spaces 32)

-- the row for a number that fits in the old value
abbrev same_row : Site → ℕ → Item → ℕ → Row
same_row site n item number =
    plain needs.Same (replies.Number number) (changes.Counted (padded (decimal number) (length item.value)) (cas_of site n))

-- a number that fits in the old value is written there
same_leaves : (site : Site) (n : ℕ) (item : Item) (number : ℕ) (room : Room) (told : ℕ)
    → LeavesNumber (Some item) room told (same_row site n item number)
same_leaves site n item number room told answered =
    let same : number ≡ told = cc in
    let spaces = length item.value - length (decimal number) in
    (counted (padded (decimal number) (length item.value)) (cas_of site n) item, spaces, refl, ap (λ (m : ℕ). decimal m ++ replicate spaces 32) same)

-- a longer one is written as a new version
grown_leaves : (site : Site) (n : ℕ) (item : Item) (number : ℕ) (class : Option ClassNo) (room : Room) (told : ℕ)
    → LeavesNumber (Some item) room told (grown_row site n item number class)
grown_leaves site n item number None room told answered = absurd cc
grown_leaves site n item number (Some class) (rooms.At link) told answered =
    let same : number ≡ told = cc in
    (version_of site n item.flags (decimal number) item.expiry link, 0, refl, ap decimal same ∙ sym (append-nil (decimal told)))
grown_leaves site n item number (Some class) (rooms.Refused other place) told answered = absurd cc
grown_leaves site n item number (Some class) rooms.Keep told answered = absurd cc

-- each new number leaves its digits
number_leaves : (site : Site) (n : ℕ) (key : List ℕ) (item : Item) (number : Option ℕ) (room : Room) (told : ℕ)
    → LeavesNumber (Some item) room told (number_row site n key item number)
number_leaves site n key item None room told answered = absurd cc
number_leaves site n key item (Some number) room told answered =
    let class = class_of site.sizes (cost_of key (decimal number)) in
    let row = grown_row site n item number class in
    let leaves = LeavesNumber (Some item) room told in
    cond_both (nat_le (length (decimal number)) (length item.value)) (same_row site n item number) row leaves
    (λ fits. same_leaves site n item number room told) (λ grows. grown_leaves site n item number class room told) answered

-- an incr or decr that was answered a number left its digits
pub count_leaves : (site : Site) (n : ℕ) (key : List ℕ) (step : ℕ → ℕ) (found : Option Item) (room : Room) (told : ℕ)
    → LeavesNumber found room told (count_row site n key step found)
count_leaves site n key step None room told answered = absurd cc
count_leaves site n key step (Some item) room told answered =
    number_leaves site n key item (option_map step (numeral_of item.value)) room told answered

-- an incr or decr from a value that is a number, to one that is no longer, answers it, whatever the room
count_answers : (site : Site) (n : ℕ) (key : List ℕ) (step : ℕ → ℕ) (item : Item) (room : Room) (number : ℕ)
    → numeral_of item.value ≡ Some number → length (decimal (step number)) ≤ length item.value
    → ((count_row site n key step (Some item)).answer room).reply ≡ replies.Number (step number)
count_answers site n key step item room number is fits =
    let test = nat_le (length (decimal (step number))) (length item.value) in
    let class = class_of site.sizes (cost_of key (decimal (step number))) in
    let grown = grown_row site n item (step number) class in
    ap (λ (read : Option ℕ). ((number_row site n key item (option_map step read)).answer room).reply) is
    ∙ ap (λ (row : Row). (row.answer room).reply) (cond-true test (same_row site n item (step number)) grown (le-leb _ _ fits))

-- a row that writes a number answers just that
number_told : (site : Site) (n : ℕ) (key : List ℕ) (item : Item) (number : ℕ) (room : Room) (told : ℕ)
    → ((number_row site n key item (Some number)).answer room).reply ≡ replies.Number told → told ≡ number
number_told site n key item number room told answered =
    let class = class_of site.sizes (cost_of key (decimal number)) in
    let tells : Row → Type 0 = λ row. (row.answer room).reply ≡ replies.Number told → told ≡ number in
    cond_both (nat_le (length (decimal number)) (length item.value)) (same_row site n item number) (grown_row site n item number class) tells
    (λ fits is. cc) (λ grows. by class room) answered
  where
    by : (class : Option ClassNo) (room : Room) → ((grown_row site n item number class).answer room).reply ≡ replies.Number told → told ≡ number
    by None room is = absurd cc
    by (Some c) (rooms.At link) is = cc
    by (Some c) (rooms.Refused other place) is = absurd cc
    by (Some c) rooms.Keep is = absurd cc

-- an incr or decr of a number that is answered a number is answered the next one
count_tells : (site : Site) (n : ℕ) (key : List ℕ) (step : ℕ → ℕ) (found : Option Item) (room : Room) (number told : ℕ)
    → IsSomeAnd found (λ item. numeral_of item.value ≡ Some number)
    → ((count_row site n key step found).answer room).reply ≡ replies.Number told → told ≡ step number
count_tells site n key step None room number told is answered = absurd is
count_tells site n key step (Some item) room number told is answered =
    number_told site n key item (step number) room told
    (ap (λ (read : Option ℕ). ((number_row site n key item (option_map step read)).answer room).reply) (sym is) ∙ answered)

-- below 2^64 a step up is a sum
up_small : (number delta : ℕ) → number + delta < 2 ^ 64 → stepped (Up delta) number ≡ number + delta
up_small number delta small = omega arith

-- ---- a number up and down again

-- the digits of a number and spaces are no fewer than those of a smaller number
back_fits : (number delta spaces : ℕ) → number + delta < 2 ^ 64 → length (decimal number) ≤ length (decimal (number + delta) ++ replicate spaces 32)
back_fits number delta spaces small =
    omega (arith, length-append (decimal (number + delta)) (replicate spaces 32), length-decimal_rises number (number + delta) (omega arith) small)

-- a decr of an item with the digits of the sum answers the number
decr_back : (site : Site) (n : ℕ) (key : List ℕ) (item : Item) (room : Room) (number delta spaces : ℕ) → number + delta < 2 ^ 64
    → item.value ≡ decimal (number + delta) ++ replicate spaces 32
    → ((count_row site n key (stepped (Down delta)) (Some item)).answer room).reply ≡ replies.Number number
decr_back site n key item room number delta spaces small value =
    let back : number + delta - delta ≡ number = omega arith in
    let is : numeral_of item.value ≡ Some (number + delta) = ap numeral_of value ∙ numeral_of_digits (number + delta) spaces small in
    let fits : length (decimal (number + delta - delta)) ≤ length item.value =
    subst (λ (m : ℕ). length (decimal m) ≤ length item.value) (sym back)
    (subst (λ (v : List ℕ). length (decimal number) ≤ length v) (sym value) (back_fits number delta spaces small)) in
    count_answers site n key (stepped (Down delta)) item room (number + delta) is fits ∙ ap (λ (m : ℕ). replies.Number m) back

-- after an incr of a number to a sum below 2^64, and events of other keys, a decr answers the number
pub down_again : (site : Site) (before between : List StripeEvent) (up down : Did) (key : List ℕ) (number delta told : ℕ)
    → IsSomeAnd ((cache_of site before).items key) (λ item. numeral_of item.value ≡ Some number)
    → number + delta < 2 ^ 64 → up.command ≡ Incr key delta → up.reply ≡ replies.Number told
    → AreOfOtherKeys key between → down.command ≡ Decr key delta
    → IsLegal site (before ++ events.Did up ∷ (between ++ events.Did down ∷ []))
    → (told ≡ number + delta) × (down.reply ≡ replies.Number number)
down_again site before between up down key number delta told was small is_incr answered others is_decr legal =
    let cache = cache_of site before in
    let raised = cache_after site cache (events.Did up) in
    let later = cache_from site raised between in
    let first = legal_on site empty_cache [] before (events.Did up ∷ (between ++ events.Did down ∷ [])) legal in
    let row = count_row site cache.versions key (stepped (Up delta)) (cache.items key) in
    let answer : (row.answer up.room).reply ≡ replies.Number told =
    ap (λ (c : Command). (answer_of site cache c up.moment up.room).reply) (sym is_incr) ∙ sym first.0.reply ∙ answered in
    let sum : told ≡ number + delta =
    count_tells site cache.versions key (stepped (Up delta)) (cache.items key) up.room number told was answer ∙ up_small number delta small in
    let left = count_leaves site cache.versions key (stepped (Up delta)) (cache.items key) up.room (number + delta) (answer ∙ ap (λ (m : ℕ). replies.Number m) sum) in
    let there : raised.items key ≡ Some left.0 =
    ap (λ (c : Command). (after_command site cache c up.moment up.room).items key) is_incr
    ∙ change_here cache key (answer_of site cache (Incr key delta) up.moment up.room).change
    ∙ left.2 in
    let last = legal_on site raised (before ++ events.Did up ∷ []) between (events.Did down ∷ []) first.1 in
    let stays : later.items key ≡ Some left.0 = stays_meanwhile site raised key between others ∙ there in (
      sum,
      last.0.reply
          ∙ ap (λ (c : Command). (answer_of site later c down.moment down.room).reply) is_decr
          ∙ ap (λ (found : Option Item). ((count_row site later.versions key (stepped (Down delta)) found).answer down.room).reply) stays
          ∙ decr_back site later.versions key left.0 down.room number delta left.1 small left.3,
    )
