-- Lines of a verb, one space, and tokens.
use Rattle.std.proofs.Common.{◌≡◌, ◌∷◌, [], ◌≤◌, ◌∙◌, ℕ, ℤ, List, true, false, ap, refl, codes}
use Rattle.std.specs.Prelude.{Bool, Some, MatchOption, nat_le, if◌then◌else◌}
use Rattle.std.proofs.lemmas.Bool.{le-leb}
use Rattle.mc_item.specs.declared.command.Command.TheVariants as commands
use Rattle.mc_item.specs.declared.{command.Verb.Verb}
use Rattle.mc_item.specs.declared.command.Verb.TheVariants.{Set, Add, Replace, Cas, Append, Prepend}
use Rattle.mc_proto.specs.Kinds as kinds
use Rattle.mc_proto.specs.{Lines.no_cr, Lines.tokens, Lines.number, Lines.number_up_to, Lines.up_to, Lines.exptime, Lines.is_key, Lines.key_of_token, Words.store_word}
use Rattle.mc_proto.specs.Table.{says, tokens_say, row_says, Noreply, store, begun, count, one}
use Rattle.mc_proto.specs.declared.{request.Limits.Limits, request.Request.TheVariants.Gat, state.Said.TheVariants.Whole}

within : (limit n : ℕ) → n ≤ limit → up_to limit (Some n) ≡ Some n
within limit n le = let least : nat_le n limit ≡ true = le-leb n limit le in rw least refl

pub number_within : (limit n : ℕ) (t : List ℕ) → number 20 t ≡ Some n → n ≤ limit → number_up_to limit t ≡ Some n
number_within limit n t is le = ap (up_to limit) is ∙ within limit n le

-- what a line says is what its tokens say
pub says_tokens : (limits : Limits) (line : List ℕ) → tokens_say limits (tokens (no_cr line)) ≡ says limits line
unfolding says
says_tokens limits line = refl

-- what ends a line that may be quiet
abbrev pub quiet_tokens : Bool → List (List ℕ)
quiet_tokens quiet = if quiet then codes "noreply" ∷ [] else []

-- a verb, and what comes behind it
pub behind_verb : (limits : Limits) (word line rest : List ℕ) (args : List (List ℕ)) → tokens line ≡ word ∷ tokens rest → tokens rest ≡ args → tokens_say limits (tokens line) ≡ tokens_say limits (word ∷ args)
behind_verb limits word line rest args is behind = ap (tokens_say limits) (is ∙ ap (λ (ts : List (List ℕ)). word ∷ ts) behind)

stored_row : (limits : Limits) (verb : Verb) (key k f e n : List ℕ) (flags count : ℕ) (x : ℤ) (quiet : Bool) → key_of_token k ≡ Some key
    → number_up_to 4294967295 f ≡ Some flags → exptime e ≡ Some x → number_up_to 2147483645 n ≡ Some count
    → row_says limits (kinds.Key ∷ kinds.Flags ∷ kinds.Exptime ∷ kinds.Bytes ∷ []) Noreply (store limits verb) (k ∷ f ∷ e ∷ n ∷ quiet_tokens quiet)
    ≡ begun limits (record { verb = verb; key = key; flags = flags; exptime = x; count = count; quiet = quiet })
stored_row limits verb key k f e n flags count x false a b c d = rw (a, b, c, d) refl
stored_row limits verb key k f e n flags count x true a b c d = rw (a, b, c, d) refl

pub store_line_says : (limits : Limits) (verb : Verb) (line rest key k f e n : List ℕ) (flags count : ℕ) (x : ℤ) (quiet : Bool)
    → MatchOption (store_word verb) ⊥ (λ word. tokens line ≡ word ∷ tokens rest) → tokens rest ≡ k ∷ f ∷ e ∷ n ∷ quiet_tokens quiet
    → key_of_token k ≡ Some key → number_up_to 4294967295 f ≡ Some flags → exptime e ≡ Some x → number_up_to 2147483645 n ≡ Some count
    → tokens_say limits (tokens line) ≡ begun limits (record { verb = verb; key = key; flags = flags; exptime = x; count = count; quiet = quiet })
store_line_says limits Set line rest key k f e n flags count x quiet is behind a b c d =
    behind_verb limits (codes "set") line rest (k ∷ f ∷ e ∷ n ∷ quiet_tokens quiet) is behind ∙ stored_row limits Set key k f e n flags count x quiet a b c d
store_line_says limits Add line rest key k f e n flags count x quiet is behind a b c d =
    behind_verb limits (codes "add") line rest (k ∷ f ∷ e ∷ n ∷ quiet_tokens quiet) is behind ∙ stored_row limits Add key k f e n flags count x quiet a b c d
store_line_says limits Replace line rest key k f e n flags count x quiet is behind a b c d =
    behind_verb limits (codes "replace") line rest (k ∷ f ∷ e ∷ n ∷ quiet_tokens quiet) is behind ∙ stored_row limits Replace key k f e n flags count x quiet a b c d
store_line_says limits Append line rest key k f e n flags count x quiet is behind a b c d =
    behind_verb limits (codes "append") line rest (k ∷ f ∷ e ∷ n ∷ quiet_tokens quiet) is behind ∙ stored_row limits Append key k f e n flags count x quiet a b c d
store_line_says limits Prepend line rest key k f e n flags count x quiet is behind a b c d =
    behind_verb limits (codes "prepend") line rest (k ∷ f ∷ e ∷ n ∷ quiet_tokens quiet) is behind ∙ stored_row limits Prepend key k f e n flags count x quiet a b c d
store_line_says limits (Cas unique) line rest key k f e n flags count x quiet is behind a b c d = absurd is

-- the verb of a line that counts
abbrev pub count_verb : Bool → List ℕ
count_verb up = if up then codes "incr" else codes "decr"

pub counted_row : (up : Bool) (limits : Limits) (key k d : List ℕ) (delta : ℕ) (quiet : Bool) → key_of_token k ≡ Some key → number_up_to 18446744073709551615 d ≡ Some delta
    → tokens_say limits (count_verb up ∷ k ∷ d ∷ quiet_tokens quiet) ≡ count up key delta quiet
counted_row true limits key k d delta false a b = rw (a, b) refl
counted_row true limits key k d delta true a b = rw (a, b) refl
counted_row false limits key k d delta false a b = rw (a, b) refl
counted_row false limits key k d delta true a b = rw (a, b) refl

-- the verb of a gat, with or without cas numbers
abbrev pub gat_verb : Bool → List ℕ
gat_verb with_cas = if with_cas then codes "gats" else codes "gat"

pub gat_row : (with_cas : Bool) (limits : Limits) (key k e : List ℕ) (x : ℤ) → is_key k ≡ true → key ≡ k → exptime e ≡ Some x
    → tokens_say limits (gat_verb with_cas ∷ e ∷ k ∷ []) ≡ Whole (Gat x (key ∷ []) with_cas)
gat_row true limits key k e x a is b = rw (b, a, is) refl
gat_row false limits key k e x a is b = rw (b, a, is) refl

pub touched_row : (limits : Limits) (key k e : List ℕ) (x : ℤ) (quiet : Bool) → key_of_token k ≡ Some key → exptime e ≡ Some x
    → tokens_say limits (codes "touch" ∷ k ∷ e ∷ quiet_tokens quiet) ≡ one quiet (commands.Touch key x)
touched_row limits key k e x false a b = rw (a, b) refl
touched_row limits key k e x true a b = rw (a, b) refl

pub deleted_row : (limits : Limits) (key k : List ℕ) (quiet : Bool) → key_of_token k ≡ Some key → tokens_say limits (codes "delete" ∷ k ∷ quiet_tokens quiet) ≡ one quiet (commands.Delete key)
deleted_row limits key k false a = rw a refl
deleted_row limits key k true a = rw a refl
