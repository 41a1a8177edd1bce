-- The words of the command line: which options the command takes, and which texts the words give for each (this project's own).
use Rattle.std.specs.Prelude.{◌^◌, ◌-◌, ℕ, pos, List, [], Bool, Option, Some, None, codes, false, true}
use Rattle.std.specs.Str.{bytes_eq}
use Rattle.clap.specs.Words.{App, Kinds, Rule, Text, first_of, matches_of, new_app, new_rule, one_of, with_rule, fault_of as refusals_of}
use Rattle.clap.specs.declared.builder.action.ArgAction.TheVariants.{Set, SetTrue}
use Rattle.clap.specs.declared.builder.value_parser.ValueParser.{ValueParser}
use Rattle.clap.specs.declared.builder.value_parser.ValueParser.TheVariants as parsers

-- `clap`'s parser for the numbers below a limit of at most 2^64
abbrev pub numbers_below : ℕ → ValueParser
numbers_below limit = parsers.Unsigned 0 (limit - 1)

-- `clap`'s parser for the numbers below 2^64
abbrev pub any_number : ValueParser
any_number = numbers_below (2 ^ 64)

-- `clap`'s parser for a u32, a number below 2^32: it also takes a minus before a 0, and drops it
abbrev pub any_small_number : ValueParser
any_small_number = parsers.Signed (pos 0) (pos (2 ^ 32 - 1))

-- an option of this name that takes one number below 2^64
abbrev pub number_rule : Text → Rule
number_rule name = record (new_rule name) { long = Some name; action = Some Set; value_names = 1; parser = Some any_number }

-- the option `--stripes`, which takes one number below 2^32
abbrev pub stripes_rule : Rule
stripes_rule = record (new_rule (codes "stripes")) { long = Some (codes "stripes"); action = Some Set; value_names = 1; parser = Some any_small_number }

-- the option `--sizes`, which takes one text
abbrev pub sizes_rule : Rule
sizes_rule = record (new_rule (codes "sizes")) { long = Some (codes "sizes"); action = Some Set; value_names = 1 }

-- the option `--chunks`, which takes one number
abbrev pub chunks_rule : Rule
chunks_rule = number_rule (codes "chunks")

-- the option `--temp`, which takes nothing
abbrev pub temp_rule : Rule
temp_rule = record (new_rule (codes "temp")) { long = Some (codes "temp"); action = Some SetTrue; parser = Some parsers.Bool }

-- the option `--temp-ttl`, which takes one number
abbrev pub temp_ttl_rule : Rule
temp_ttl_rule = number_rule (codes "temp-ttl")

-- the option `--events`, which takes one number
abbrev pub events_rule : Rule
events_rule = number_rule (codes "events")

-- the option `--upkeep`, which takes one text
abbrev pub upkeep_rule : Rule
upkeep_rule = record (new_rule (codes "upkeep")) { long = Some (codes "upkeep"); action = Some Set; value_names = 1 }

-- the option `--follow`, which takes nothing
abbrev pub follow_rule : Rule
follow_rule = record (new_rule (codes "follow")) { long = Some (codes "follow"); action = Some SetTrue; parser = Some parsers.Bool }

-- the command `mcseg`: these options and a version
unfoldable pub mcseg : App
mcseg =
    with_rule (with_rule (with_rule (with_rule (with_rule
    (with_rule (with_rule (with_rule (record { top = record (new_app (codes "mcseg")).top { has_version = true }; subs = [] })
    stripes_rule) sizes_rule) chunks_rule) temp_rule) temp_ttl_rule) events_rule) upkeep_rule) follow_rule

-- the kinds of error with which `clap` refuses the words, none if the command takes them
abbrev pub refusals : List Text → Kinds
refusals words = refusals_of mcseg words

-- the text that the words give for the sizes
abbrev pub sizes_in : List Text → Option Text
sizes_in words = first_of (codes "sizes") (matches_of mcseg words)

-- the text that the words give for the moments of upkeep
abbrev pub upkeep_in : List Text → Option Text
upkeep_in words = first_of (codes "upkeep") (matches_of mcseg words)

-- the text that the words give for the option of this name
abbrev pub text_in : Text → List Text → Option Text
text_in name words = one_of name (matches_of mcseg words)

-- whether a text is given and says `true`
abbrev pub is_yes : Option Text → Bool
is_yes None = false
is_yes (Some text) = bytes_eq text (codes "true")

-- whether the words have the option `--temp`
abbrev pub temp_in : List Text → Bool
temp_in words = is_yes (text_in (codes "temp") words)

-- whether the words have the option `--follow`
abbrev pub follow_in : List Text → Bool
follow_in words = is_yes (text_in (codes "follow") words)
