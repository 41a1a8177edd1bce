-- What the words give for an option is what it takes, as its parser reads it.
use Rattle.std.proofs.Common.{◌≡◌, ◌∙◌, ◌<◌, ◌^◌, ℕ, Bool, true, false, List, [], ◌∷◌, Option, Some, None, ap, arith, codes, inl, inr, length, refl, subst, sym}
use Rattle.std.proofs.lemmas.{List.Elements.All-get_or, Slice.Eq.bytes_eq-Decides, Bool.ne_eqb, Int.ints, Str.Parse.digit_from_value}
use Rattle.std.specs.{Borrow.Bor, List.All, List.slice_index_or, Option.option_map, Str.bytes_eq}
use Rattle.std.specs.Prelude.{slice_get}
use Rattle.clap.proofs.CallerLemmas.{entry_by_id, same_rules_by_id}
use Rattle.clap.specs.Facts.{Entry, EntryPasses, PassesArg, parser_of_value}
use Rattle.clap.specs.Words.{Accepts, IsParsedFrom, Text, app_of, args_of, found_of, groups_of, matched_of, one_text, parser_of, read_as, reading_of, Rule}
use Rattle.clap.specs.declared.builder.arg.Arg.{Arg}
use Rattle.clap.specs.declared.builder.command.Command.{Command}
use Rattle.clap.specs.declared.builder.value_parser.Reading.TheVariants.{AsWritten, WithoutMinus}
use Rattle.clap.specs.declared.builder.value_parser.ValueParser.{ValueParser}
use Rattle.clap.specs.declared.parser.matches.ArgMatches.{ArgMatches}
use Rattle.clap.specs.declared.parser.matches.Found.{Found}
use Rattle.clap.specs.declared.parser.matches.MatchedArg.{MatchedArg}
use Rattle.std.proofs.Common.{◌==◌, cond, drop, ◌-◌, ◌^◌}
use Rattle.std.specs.Prelude.{pos, unwrap_or}
use Rattle.std.specs.Str.Parse.{IsNumeral, starts_with_minus, without_leading_plus}
use Rattle.clap.specs.Lexer.{without_minus}
use Rattle.clap.specs.Values.{IsSignedIn, IsUnsignedIn}
use Rattle.mc_options.specs.Words.{mcseg, numbers_below, sizes_rule}
use Rattle.mc_options.proofs.OptionLemmas.{IsOption, eight_options, globals_none, groups_none, groups_unnamed, option_rules, rule_at, stripes_option}

-- an argument of the command as it was given
abbrev arg_at : Command → ℕ → Arg → Arg
arg_at old k d = slice_index_or (args_of old) k d

-- the option, wherever the built command has it, reads what it is to read
reads : (old : Command) (m : ArgMatches) (p : IsParsedFrom old m) → app_of old ≡ mcseg → {k : ℕ} {name : Text} {parser : ValueParser} → IsOption k name parser
    → (j : ℕ) (x : Arg) → j < length (args_of p.built) → slice_index_or (args_of p.built) j x ≡ x → bytes_eq x.id.now name ≡ true → parser_of x ≡ parser
reads old m p is {k} {name} {parser} option j x high at same =
    let eight = eight_options old is in
    let few : k < length (args_of old) = rw eight option.below in
    let rule = rule_at old is k x option.below in
    let id : (arg_at old k x).id.now ≡ name = ap (λ (r : Rule). r.id) rule ∙ option.named in
    let named : bytes_eq x.id.now (arg_at old k x).id.now ≡ true = rw id same in
    let same_rules = same_rules_by_id old m p k x few
    (λ i e below equal.
    let less : i < 8 = rw (← eight) below in
    let its : (arg_at old i e).id.now ≡ (slice_index_or option_rules i sizes_rule).id = ap (λ (r : Rule). r.id) (rule_at old is i e less) in
    option.alone i less (rw (← its, ← id) equal))
    (λ auto. elim auto [
      | inl h ↦ absurd (option.no_help (sym id ∙ h))
      | inr h ↦ absurd (option.no_version (sym id ∙ h))
    ]) j x high at named in
    ap parser_of_value (same_rules.parser parser (ap (λ (r : Rule). r.parser) rule ∙ option.parsed))

-- a text as the reader hands it on, of one that this parser takes
pub record IsTaken (parser : ValueParser) (t : Text) : Type 0 where
  pub in_any_case : Bool
  pub written : Text
  pub read : read_as (reading_of parser) written ≡ t
  pub accepted : Accepts in_any_case parser written

-- the first value of the option passed, and is read as its parser says
entry_reads : (c : Command) (f : Found) (name : Text) (parser : ValueParser) → groups_of c ≡ [] → (name ≡ [] → ⊥)
    → ((j : ℕ) (x : Arg) → j < length (args_of c) → slice_index_or (args_of c) j x ≡ x → bytes_eq x.id.now name ≡ true → parser_of x ≡ parser)
    → (e : Entry) → e.0.now ≡ name → EntryPasses c e → (t : Text) → option_map (λ s. read_as e.1.reading s.now) (slice_get e.1.vals.items 0) ≡ Some t
    → IsTaken parser t
entry_reads c f name parser groups some reads e key pass t is =
    let no_group : e.1.is_group ≡ true → ⊥ = λ g. elim (pass.3 g) [
      | inl empty ↦ absurd (some (sym key ∙ empty))
      | inr lots ↦
          let bad : 0 < 0 = rw groups at lots in
          absurd (omega arith)
    ] in
    let all : All (λ v. PassesArg c name v.now) e.1.vals.items =
    elim pass.0 [ inl g ↦ absurd (no_group g) | inr vals ↦ subst (λ (w : List ℕ). All (λ v. PassesArg c w v.now) e.1.vals.items) key vals ] in
    let how : e.1.reading ≡ reading_of parser = elim pass.4 [
      | inl g ↦ absurd (no_group g)
      | inr h ↦ sym h.4.1 ∙ ap reading_of (reads h.0 h.1 h.2 h.3 (rw key at h.4.0))
    ] in
    go e.1.vals.items all (rw how at is)
  where
    go : (vs : List (Bor Text)) → All (λ v. PassesArg c name v.now) vs → option_map (λ s. read_as (reading_of parser) s.now) (slice_get vs 0) ≡ Some t
        → IsTaken parser t
    go [] all is = absurd (cc)
    go (v ∷ vs) all is =
        let head = All-get_or (λ (v : Bor Text). PassesArg c name v.now) (v ∷ vs) 0 v (omega arith) all in
        let its = reads head.0 head.1 head.2 head.3 head.4.0 in
        record {
          in_any_case = head.1.ignore_case;
          written = v.now;
          read = cc;
          accepted = subst (λ (q : ValueParser). Accepts head.1.ignore_case q v.now) its head.4.1;
        }

-- the text that the words give for an option is one that it takes
option_taken : (old : Command) (m : ArgMatches) → IsParsedFrom old m → app_of old ≡ mcseg → {k : ℕ} {name : Text} {parser : ValueParser} → IsOption k name parser
    → (t : Text) → one_text (found_of m) name ≡ Some t → IsTaken parser t
option_taken old m p is {k} {name} {parser} option t text = go (matched_of (found_of m) name) refl
  where
    go : (o : Option MatchedArg) → matched_of (found_of m) name ≡ o → IsTaken parser t
    go None none = let bad : None ≡ Some t = rw none at text in absurd (cc)
    go (Some x) some =
        let parsed = p.parsed (p.from.globals ∙ globals_none old is) in
        let entry = entry_by_id (EntryPasses p.built) (found_of m).entries.items name x parsed.values some in
        let groups = (p.from.same_groups (groups_unnamed old is)).1 ∙ groups_none old is in
        let read : option_map (λ s. read_as x.reading s.now) (slice_get x.vals.items 0) ≡ Some t = rw some at text in
        entry_reads p.built (found_of m) name parser groups option.no_group (reads old m p is option)
        entry.0 ((bytes_eq-Decides entry.0.0.now name).0 entry.2) entry.3 t (rw (← entry.1) at read)

-- and is it as it is written, where the parser reads so
pub option_passes : (old : Command) (m : ArgMatches) → IsParsedFrom old m → app_of old ≡ mcseg → {k : ℕ} {name : Text} {parser : ValueParser} → IsOption k name parser
    → reading_of parser ≡ AsWritten → (t : Text) → one_text (found_of m) name ≡ Some t → (in_any_case : Bool) × Accepts in_any_case parser t
option_passes old m p is {k} {name} {parser} option plain t text =
    let taken = option_taken old m p is option t text in
    let same : taken.written ≡ t = sym (ap (λ how. read_as how taken.written) plain) ∙ taken.read in
    (taken.in_any_case, subst (Accepts taken.in_any_case parser) same taken.accepted)

-- a text without its first minus, by whether it has one
without_minus-cond : (t : Text) → without_minus t ≡ cond (starts_with_minus t) (drop 1 t) t
without_minus-cond [] = refl
without_minus-cond (x ∷ xs) = go (x == 45)
  where
    go : (b : Bool) → unwrap_or (cond b (Some xs) None) (x ∷ xs) ≡ cond b xs (x ∷ xs)
    go true = refl
    go false = refl

-- digits have no plus before them
no_plus : (ds : Text) → IsNumeral 10 ds → without_leading_plus ds ≡ ds
no_plus [] is = refl
no_plus (d ∷ ds) is =
    let other : (d == 43) ≡ false = ne_eqb _ _ (λ e. omega (arith, digit_from_value d is.1.0)) in
    ap (λ (b : Bool). drop (cond b 1 0) (d ∷ ds)) other

-- what is read of a number below 2^32 is one, without a minus
small_is : (w t : Text) → read_as WithoutMinus w ≡ t → IsSignedIn (pos 0) (pos (2 ^ 32 - 1)) w → IsUnsignedIn 0 (2 ^ 32 - 1) t
small_is w t is passed = subst (IsUnsignedIn 0 (2 ^ 32 - 1)) (sym (without_minus-cond w) ∙ is) (go (starts_with_minus w) refl)
  where
    go : (b : Bool) → starts_with_minus w ≡ b → IsUnsignedIn 0 (2 ^ 32 - 1) (cond (starts_with_minus w) (drop 1 w) w)
    go true minus =
        let low = rw minus at passed.2 in
        let numeral : IsNumeral 10 (drop 1 w) = rw minus at passed.0 in
        let same = no_plus (drop 1 w) numeral in
        rw minus (rw same (numeral, omega (arith, ints), omega arith, omega (arith, ints)))
    go false minus =
        let low = rw minus at passed.2 in
        let high = rw minus at passed.3 in
        let numeral = rw minus at passed.0 in
        rw minus (numeral, omega (arith, ints), omega arith, omega (arith, ints))

-- so what the words give for the stripes is a number below 2^32
pub stripes_pass : (old : Command) (m : ArgMatches) → IsParsedFrom old m → app_of old ≡ mcseg → (t : Text) → one_text (found_of m) (codes "stripes") ≡ Some t
    → (in_any_case : Bool) × Accepts in_any_case (numbers_below (2 ^ 32)) t
stripes_pass old m p is t text =
    let taken = option_taken old m p is stripes_option t text in
    (taken.in_any_case, small_is taken.written t taken.read taken.accepted)
