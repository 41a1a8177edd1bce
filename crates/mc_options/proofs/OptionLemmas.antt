-- The command of the program as the reader of the command line sees it: its options, and what their texts are.
use Rattle.std.proofs.Common.{◌≡◌, ◌∙◌, ◌<◌, ◌+◌, ◌&&◌, ◌||◌, ℕ, zero, suc, Bool, true, false, not, List, [], ◌∷◌, Some, ap, arith, codes, eqb, length, refl, slice_index, sym}
use Rattle.std.proofs.lemmas.{Bool.Decides.nat_tests, Bool.eqb-true, List.get_or-map, List.length-map}
use Rattle.std.specs.{List.slice_index_or, Str.bytes_eq}
use Rattle.std.specs.Prelude.{map}
use Rattle.clap.proofs.OnLiterals.{clap_on_literals}
use Rattle.clap.proofs.WalkLemmas.{first_value-rows}
use Rattle.clap.specs.Walk.{is_empty, is_simple_arg}
use Rattle.clap.specs.Words.{App, HasMatchesOf, NamesNoGroup, Text, app_of, args_of, first_of, first_value, found_of, groups_of, is_simple, is_simple_and_free, matches_of, rows_of, rule_of, Rule}
use Rattle.clap.specs.declared.builder.arg.Arg.{Arg}
use Rattle.clap.specs.declared.builder.command.Command.{Command}
use Rattle.clap.specs.declared.builder.command.Command.TheViews.{out-Command}
use Rattle.clap.specs.declared.builder.value_parser.ValueParser.{ValueParser}
use Rattle.clap.specs.declared.builder.value_parser.ValueParser.TheVariants as parsers
use Rattle.clap.specs.declared.parser.matches.ArgMatches.{ArgMatches}
use Rattle.mc_options.specs.Words.{any_number, any_small_number, chunks_rule, events_rule, follow_rule, mcseg, sizes_rule, stripes_rule, temp_rule, temp_ttl_rule, upkeep_rule}

-- the command is one whose clauses can be computed
pub is_plain : is_simple mcseg ≡ true
unfolding mcseg clap_on_literals
is_plain = refl

-- and no option of it wants another
pub is_free : is_simple_and_free mcseg ≡ true
unfolding mcseg clap_on_literals
is_free = refl

-- the matches of the words, where the command is this one
pub rows_are : (app : App) (words : List Text) (m : ArgMatches) → app ≡ mcseg → HasMatchesOf app words m → rows_of (found_of m) ≡ matches_of mcseg words
rows_are app words m is has = (has (ap is_simple is ∙ is_plain)).0 ∙ ap (λ (a : App). matches_of a words) is

-- the text that the words give for an option is the first of that option
pub first_text_is : (name : Text) (app : App) (words : List Text) (m : ArgMatches) → app ≡ mcseg → HasMatchesOf app words m → first_value (found_of m) name ≡ first_of name (matches_of mcseg words)
first_text_is name app words m is has = first_value-rows (found_of m) name ∙ ap (first_of name) (rows_are app words m is has)

-- the options of the command
abbrev pub option_rules : List Rule
option_rules = stripes_rule ∷ sizes_rule ∷ chunks_rule ∷ temp_rule ∷ temp_ttl_rule ∷ events_rule ∷ upkeep_rule ∷ follow_rule ∷ []

-- are these
options_are : (old : Command) → app_of old ≡ mcseg → map rule_of (args_of old) ≡ option_rules
unfolding mcseg
options_are old is = ap (λ (a : App). a.top.rules) is

-- so there are eight
pub eight_options : (old : Command) → app_of old ≡ mcseg → length (args_of old) ≡ 8
eight_options old is = sym (length-map (args_of old) rule_of) ∙ ap length (options_are old is)

-- and each has its rule
pub rule_at : (old : Command) → app_of old ≡ mcseg → (k : ℕ) (d : Arg) → k < 8 → rule_of (slice_index_or (args_of old) k d) ≡ slice_index_or option_rules k sizes_rule
rule_at old is k d below =
    let few : k < length (args_of old) = rw (eight_options old is) below in
    sym (get_or-map rule_of (args_of old) k d sizes_rule few) ∙ ap (λ rs. slice_index_or rs k sizes_rule) (options_are old is)

-- the third of four tests that hold
third : (x y z w : Bool) → (x && (y && (z && w))) ≡ true → z ≡ true
third true true true w is = refl
third true true false w is = is
third true false z w is = absurd (cc)
third false y z w is = absurd (cc)

-- the first of two tests that hold
first : (x y : Bool) → (x && y) ≡ true → x ≡ true
first true y is = refl
first false y is = is

-- the second of two tests that hold
second : (x y : Bool) → (x && y) ≡ true → y ≡ true
second true y is = is
second false y is = absurd (cc)

-- the first of two tests, one of which holds, where the second doesn't
either : (x y : Bool) → (x || not y) ≡ true → y ≡ true → x ≡ true
either true y is both = refl
either false true is both = is
either false false is both = both

-- a list that is empty
none_left : {X : Type 0} (xs : List X) → is_empty xs ≡ true → xs ≡ []
none_left [] is = refl
none_left (x ∷ xs) is = let none : length (x ∷ xs) ≡ 0 = grind (arith, nat_tests) in absurd (omega arith)

-- what isn't so
not_true : (x : Bool) → not x ≡ true → x ≡ false
not_true true is = absurd (cc)
not_true false is = refl

-- the command has no group of options
pub groups_none : (old : Command) → app_of old ≡ mcseg → groups_of old ≡ []
unfolding mcseg
groups_none old is = none_left (groups_of old) (first _ _ (ap (λ (a : App). a.top.is_plain) is))

-- nor an option of its subcommands
pub globals_none : (old : Command) → app_of old ≡ mcseg → (out-Command old).has_globals ≡ false
unfolding mcseg
globals_none old is = not_true _ (third _ _ _ _ (ap (λ (a : App). a.top.is_plain) is))

-- an option of the simple kind is in no group
in_no_group : (a : Arg) → is_simple_arg a ≡ true → a.groups.items ≡ []
in_no_group a is = none_left a.groups.items (third _ _ _ _ is)

-- each rule is of the simple kind
rules_simple : (k : ℕ) → k < 8 → (slice_index_or option_rules k sizes_rule).is_simple ≡ true
rules_simple zero below = refl
rules_simple (suc zero) below = refl
rules_simple (suc (suc zero)) below = refl
rules_simple (suc (suc (suc zero))) below = refl
rules_simple (suc (suc (suc (suc zero)))) below = refl
rules_simple (suc (suc (suc (suc (suc zero))))) below = refl
rules_simple (suc (suc (suc (suc (suc (suc zero)))))) below = refl
rules_simple (suc (suc (suc (suc (suc (suc (suc zero))))))) below = refl
rules_simple (suc (suc (suc (suc (suc (suc (suc (suc k)))))))) below = absurd (omega arith)

-- so no option names a group
pub groups_unnamed : (old : Command) → app_of old ≡ mcseg → NamesNoGroup old
groups_unnamed old is = λ k d below.
    let few : k < 8 = rw (← eight_options old is) below in
    in_no_group (slice_index_or (args_of old) k d) (ap (λ (r : Rule). r.is_simple) (rule_at old is k d few) ∙ rules_simple k few)

-- whether all of these options, numbered from `i` on, have other names, except the one of number `k`
abbrev pub others_differ : Text → ℕ → ℕ → List Rule → Bool
others_differ name k i [] = true
others_differ name k i (r ∷ rs) = (eqb i k || not (bytes_eq r.id name)) && others_differ name k (suc i) rs

-- then an option of this name has that number
numbered : (name : Text) (k i : ℕ) (rs : List Rule) (j : ℕ) (d : Rule) → others_differ name k i rs ≡ true → j < length rs → bytes_eq (slice_index_or rs j d).id name ≡ true
    → i + j ≡ k
numbered name k i [] j d differ below is = absurd (omega arith)
numbered name k i (r ∷ rs) zero d differ below is = omega (arith, eqb-true i k (either _ _ (first _ _ differ) is))
numbered name k i (r ∷ rs) (suc j) d differ below is = omega (arith, numbered name k (suc i) rs j d (second _ _ differ) (omega arith) is)

-- so the command has no other option of its name
pub alone_at : (name : Text) (k : ℕ) → others_differ name k 0 option_rules ≡ true → (j : ℕ) → j < 8 → bytes_eq (slice_index_or option_rules j sizes_rule).id name ≡ true → j ≡ k
alone_at name k differ j below is = omega (arith, numbered name k 0 option_rules j sizes_rule differ below is)

-- what is known of an option that takes a value: its place, its name, which no other has, and what its text must be
pub record IsOption (k : ℕ) (name : Text) (parser : ValueParser) : Type 0 where
  pub below : k < 8
  pub named : (slice_index_or option_rules k sizes_rule).id ≡ name
  pub parsed : (slice_index_or option_rules k sizes_rule).parser ≡ Some parser
  pub alone : (j : ℕ) → j < 8 → bytes_eq (slice_index_or option_rules j sizes_rule).id name ≡ true → j ≡ k
  pub no_help : name ≡ codes "help" → ⊥
  pub no_version : name ≡ codes "version" → ⊥
  pub no_group : name ≡ [] → ⊥

-- the number of stripes
pub stripes_option : IsOption 0 (codes "stripes") any_small_number
stripes_option = record {
  below = omega arith;
  named = refl;
  parsed = refl;
  alone = alone_at (codes "stripes") 0 refl;
  no_help = λ is. cc;
  no_version = λ is.
      let bad : 115 ≡ 118 = ap (λ (t : List ℕ). slice_index t 0) is in
      absurd (omega arith);
  no_group = λ is. cc;
}

-- the number of chunks
pub chunks_option : IsOption 2 (codes "chunks") any_number
chunks_option = record {
  below = omega arith;
  named = refl;
  parsed = refl;
  alone = alone_at (codes "chunks") 2 refl;
  no_help = λ is. cc;
  no_version = λ is. cc;
  no_group = λ is. cc;
}

-- whether TEMP is on
pub temp_option : IsOption 3 (codes "temp") parsers.Bool
temp_option = record {
  below = omega arith;
  named = refl;
  parsed = refl;
  alone = alone_at (codes "temp") 3 refl;
  no_help = λ is.
      let bad : 116 ≡ 104 = ap (λ (t : List ℕ). slice_index t 0) is in
      absurd (omega arith);
  no_version = λ is. cc;
  no_group = λ is. cc;
}

-- the life in TEMP
pub temp_ttl_option : IsOption 4 (codes "temp-ttl") any_number
temp_ttl_option = record {
  below = omega arith;
  named = refl;
  parsed = refl;
  alone = alone_at (codes "temp-ttl") 4 refl;
  no_help = λ is. cc;
  no_version = λ is. cc;
  no_group = λ is. cc;
}

-- the limit of events
pub events_option : IsOption 5 (codes "events") any_number
events_option = record {
  below = omega arith;
  named = refl;
  parsed = refl;
  alone = alone_at (codes "events") 5 refl;
  no_help = λ is. cc;
  no_version = λ is. cc;
  no_group = λ is. cc;
}

-- whether the input is answered as it comes
pub follow_option : IsOption 7 (codes "follow") parsers.Bool
follow_option = record {
  below = omega arith;
  named = refl;
  parsed = refl;
  alone = alone_at (codes "follow") 7 refl;
  no_help = λ is. cc;
  no_version = λ is. cc;
  no_group = λ is. cc;
}
