-- What is read of the words: no fault, the sizes' text, what the other options say.
use Rattle.std.proofs.Common.{◌≡◌, ◌∙◌, ◌<◌, ◌≤◌, ◌^◌, ℕ, Bool, true, false, List, [], Option, Some, None, ap, arith, codes, length, refl, rules, subst, sym}
use Rattle.std.proofs.lemmas.{Bool.Decides.nat_tests, Str.Parse.IsNumeralModel, Str.Parse.numerals_by_fold, Slice.Eq.bytes_eq-Decides}
use Rattle.std.specs.{Borrow.Bor, List.list_all, Option.option_copied, Option.option_map, Str.bytes_eq, declared.num.ParseIntError.ParseIntError}
use Rattle.std.specs.Prelude.{IsErrAnd, IsSomeAnd, MatchOption, Result, Err}
use Rattle.std.specs.Str.Parse.{ExplainsUnsignedError, HasUnsignedDigitsIfOk, IsNumeral, ParsesUnsigned, digits_value, without_leading_plus}
use Rattle.clap.proofs.WalkLemmas.{one_text-rows}
use Rattle.clap.specs.Words.{App, HasKind, HasMatchesOf, IsParsedFrom, ReadsOne, Text, app_of, fault_of, found_of, is_simple_and_free, one_of, one_text}
use Rattle.clap.specs.declared.builder.command.Command.{Command}
use Rattle.clap.specs.declared.error.Error.{Error}
use Rattle.clap.specs.declared.parser.matches.ArgMatches.{ArgMatches}
use Rattle.mc_item.specs.Measure.{is_digit, number_from, number_of, number_in}
use Rattle.mc_options.specs.Asked.{AreFound, AreGiven, IsNumberOf, IsNumberRead, IsYesRead, words_fault_of}
use Rattle.mc_options.specs.Words.{is_yes, mcseg, refusals, text_in}
use Rattle.mc_options.specs.declared.{plans.Options.Options, plans.PlanFault.PlanFault}
use Rattle.mc_options.specs.declared.plans.PlanFault.TheVariants as plan_faults
use Rattle.mc_options.specs.declared.words.WordsFault.TheVariants as words_faults
use Rattle.mc_options.proofs.OptionLemmas.{chunks_option, events_option, follow_option, is_free, rows_are, temp_option, temp_ttl_option}
use Rattle.mc_options.proofs.OptionValueLemmas.{option_passes, stripes_pass}

-- std's numerals are read as these digits are
reads_digits : IsNumeralModel (λ (digits : List ℕ). list_all is_digit digits ≡ true) (number_from 0)
reads_digits = numerals_by_fold _ (search rules) number_from (search rules)

-- a numeral below 2^64 is the number that its digits spell
numeral_read : (digits : List ℕ) → IsNumeral 10 digits → digits_value 10 digits < 2 ^ 64 → number_in digits ≡ Some (digits_value 10 digits)
numeral_read digits is small =
    let each : list_all is_digit digits ≡ true = reads_digits.from digits is.1 in
    let same : number_of digits ≡ digits_value 10 digits = reads_digits.same digits is.1 in
    let some : 0 < length digits = is.0 in
    let below : number_of digits < 2 ^ 64 = omega (arith, same, small) in
    let number : number_in digits ≡ Some (number_of digits) = grind (arith, nat_tests) in
    number ∙ ap Some same

-- what the reader of a number of so many bits promises of a text
abbrev pub ReadsNumber : ℕ → List ℕ → Result ℕ ParseIntError → Type 0
ReadsNumber bits t r = ParsesUnsigned bits 10 t r × ExplainsUnsignedError 10 t r × HasUnsignedDigitsIfOk t r

-- what is read of a text that passed is its number
pub number_read : (bits : ℕ) → 0 < 2 ^ bits → 2 ^ bits ≤ 2 ^ 64 → (text : Option Text) (r : Option ℕ) → (text ≡ None → r ≡ None)
    → ((t : Text) → text ≡ Some t → ReadsOne (ReadsNumber bits) t r) → IsNumberRead (2 ^ bits) text r
number_read bits some few None r none value passes = rw (none refl) tt
number_read bits some few (Some t) r none value passes = go r (value t refl)
  where
    go : (o : Option ℕ) → ReadsOne (ReadsNumber bits) t o → IsNumberOf (Some t) o
    go (Some v) reads =
        let parsed = reads.0 in
        let below : digits_value 10 (without_leading_plus t) < 2 ^ 64 = omega (arith, few, parsed.0.1) in
        numeral_read (without_leading_plus t) parsed.0.0 below ∙ ap Some (sym parsed.1)
    go None reads =
        let passed = (passes t refl).1 in
        let below : digits_value 10 (without_leading_plus t) < 2 ^ bits = omega (arith, some, passed.3) in
        reads.1.0 (passed.0, below)

-- what is read of a text that says yes or no
pub yes_read : (text : Option Text) (r : Bool) → (text ≡ None → r ≡ false) → (text ≡ Some (codes "true") → r ≡ true) → (text ≡ Some (codes "false") → r ≡ false)
    → IsYesRead text r
yes_read None r none is_true is_false passes = none refl
yes_read (Some t) r none is_true is_false passes = go (bytes_eq t (codes "true")) refl
  where
    go : (b : Bool) → bytes_eq t (codes "true") ≡ b → r ≡ is_yes (Some t)
    go true is = is_true (ap Some ((bytes_eq-Decides t (codes "true")).0 is)) ∙ sym is
    go false is =
        let either = (passes t refl).1 in
        let other : bytes_eq t (codes "false") ≡ true = rw is at either in
        is_false (ap Some ((bytes_eq-Decides t (codes "false")).0 other)) ∙ sym is

-- the bytes of a text that may be absent are its bytes
pub copied : (text : Option (Bor Text)) (bytes : Option (Bor Text)) (P : Bor Text → Bor Text → Type 0) → MatchOption text (bytes ≡ None) (λ t. IsSomeAnd bytes (P t))
    → ((t b : Bor Text) → P t b → b.now ≡ t.now) → option_copied bytes ≡ option_map (λ t. t.now) text
copied None bytes P is each = rw is refl
copied (Some t) (Some b) P is each = ap Some (each t b is)
copied (Some t) None P is each = absurd is

-- words that the reader took are refused for nothing
pub taken_by : (app : App) (words : List Text) → app ≡ mcseg → (is_simple_and_free app ≡ true → fault_of app words ≡ []) → refusals words ≡ []
taken_by app words is taken = ap (λ (a : App). fault_of a words) (sym is) ∙ taken (ap is_simple_and_free is ∙ is_free)

-- and those that it refused, for what it says
pub refused_by : (app : App) (words : List Text) (error : Error) → app ≡ mcseg → (is_simple_and_free app ≡ true → HasKind (fault_of app words) error) → HasKind (refusals words) error
refused_by app words error is refused = subst (λ (a : App). HasKind (fault_of a words) error) is (refused (ap is_simple_and_free is ∙ is_free))

-- what was found of the options is what the words ask for
pub given_by : (old : Command) (words : List Text) (m : ArgMatches) (options : Options) → app_of old ≡ mcseg → IsParsedFrom old m → HasMatchesOf (app_of old) words m
    → AreFound (found_of m) options → AreGiven words options
given_by old words m options is parsed has found =
    let text_is : (name : Text) → one_text (found_of m) name ≡ text_in name words = λ name. one_text-rows (found_of m) name ∙ ap (one_of name) (rows_are (app_of old) words m is has) in
    record {
      stripes = subst (λ t. IsNumberOf t options.stripes) (text_is (codes "stripes")) (found.stripes (stripes_pass old m parsed is));
      chunks = subst (λ t. IsNumberOf t options.chunks) (text_is (codes "chunks")) (found.chunks (option_passes old m parsed is chunks_option refl));
      temp = found.temp (option_passes old m parsed is temp_option refl) ∙ ap is_yes (text_is (codes "temp"));
      temp_ttl = subst (λ t. IsNumberOf t options.temp_ttl) (text_is (codes "temp-ttl")) (found.temp_ttl (option_passes old m parsed is temp_ttl_option refl));
      events = subst (λ t. IsNumberOf t options.events) (text_is (codes "events")) (found.events (option_passes old m parsed is events_option refl));
      follow = found.follow (option_passes old m parsed is follow_option refl) ∙ ap is_yes (text_is (codes "follow"));
    }

-- what an error that is known fulfils
pub err_is : {A E : Type 0} (P : E → Type 0) (r : Result A E) (e : E) → IsErrAnd r P → r ≡ Err e → P e
err_is P r e has is = subst (λ r. IsErrAnd r P) is has

-- words whose list is bad have a plan's bad list
pub from_list : (fault : PlanFault) → words_faults.List ≡ words_fault_of fault → fault ≡ plan_faults.List
from_list plan_faults.List is = refl
from_list (plan_faults.Configuration n) is = absurd (cc)
from_list plan_faults.NoMemory is = absurd (cc)

-- and those of a bad configuration its fault's number
pub from_configuration : (fault : PlanFault) (n : ℕ) → words_faults.Configuration n ≡ words_fault_of fault → fault ≡ plan_faults.Configuration n
from_configuration plan_faults.List n is = absurd (cc)
from_configuration (plan_faults.Configuration m) n is = cc
from_configuration plan_faults.NoMemory n is = absurd (cc)
