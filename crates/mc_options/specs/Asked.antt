-- What the options ask for: which numbers a list is, and which configuration is meant (this project's own).
use Rattle.std.specs.Prelude.{ℕ, ◌≡◌, ◌≤◌, ◌^◌, List, [], ◌∷◌, ◌++◌, Bool, Option, Some, None, codes, length, replicate, false, ◌⊎◌}
use Rattle.std.specs.{List.All, Str.Parse.without_leading_plus}
use Rattle.clap.specs.Words.{Accepts, Text, one_text}
use Rattle.clap.specs.declared.builder.value_parser.ValueParser.TheVariants as parsers
use Rattle.clap.specs.declared.parser.matches.Found.{Found}
use Rattle.mc_item.specs.{Config.fault_of, Config.usual_config, Measure.number_in}
use Rattle.mc_item.specs.declared.{config.Config.Config, config.ConfigFault.ConfigFault}
use Rattle.mc_item.specs.declared.config.ConfigFault.TheVariants.{Stripes, Sizes, Chunks, Percent, Factor, Callers, Events}
use Rattle.mc_options.specs.Words.{follow_in, is_yes, numbers_below, sizes_in, temp_in, text_in, upkeep_in}
use Rattle.mc_options.specs.declared.{plans.Options.Options, plans.PlanFault.PlanFault, words.WordsFault.WordsFault}
use Rattle.mc_options.specs.declared.plans.PlanFault.TheVariants as plan_faults
use Rattle.mc_options.specs.declared.words.WordsFault.TheVariants as words_faults

-- a number is given exactly if a text is, and then the text is that number, perhaps with a plus before its digits
abbrev pub IsNumberOf : Option Text → Option ℕ → Type 0
IsNumberOf None None = Unit {0}
IsNumberOf None (Some n) = ⊥
IsNumberOf (Some text) None = ⊥
IsNumberOf (Some text) (Some n) = number_in (without_leading_plus text) ≡ Some n

-- the text is these numbers, at least one, with one comma between two
abbrev pub IsListOf : List ℕ → List ℕ → Type 0
IsListOf text [] = ⊥
IsListOf text (n ∷ []) = number_in text ≡ Some n
IsListOf text (n ∷ m ∷ ns) =
    (digits : List ℕ) × (rest : List ℕ) × (text ≡ digits ++ 44 ∷ rest) × (number_in digits ≡ Some n) × IsListOf rest (m ∷ ns)

-- numbers are given exactly if a text is, and then the text is a list of them
abbrev pub AreNamed : Option (List ℕ) → Option (List ℕ) → Type 0
AreNamed None None = Unit {0}
AreNamed None (Some numbers) = ⊥
AreNamed (Some text) None = ⊥
AreNamed (Some text) (Some numbers) = IsListOf text numbers

-- these numbers may be the times (moments) of upkeep: at most 1,000, each at most 2^62
pub record AreMoments (moments : List ℕ) : Type 0 where
  pub few : length moments ≤ 1000
  pub early : All (λ moment. moment ≤ 2 ^ 62) moments

-- the text is a list of these numbers, and they may be the times of upkeep
pub record IsMomentsOf (text moments : List ℕ) : Type 0 where
  pub list : IsListOf text moments
  pub allowed : AreMoments moments

-- there are no times if no text is given, and otherwise the text is a list of them
abbrev pub AreMomentsNamed : Option (List ℕ) → List ℕ → Type 0
AreMomentsNamed None moments = moments ≡ []
AreMomentsNamed (Some text) moments = IsMomentsOf text moments

-- the words of the command line ask for what these options say
pub record AreGiven (words : List Text) (options : Options) : Type 0 where
  pub stripes : IsNumberOf (text_in (codes "stripes") words) options.stripes
  pub chunks : IsNumberOf (text_in (codes "chunks") words) options.chunks
  pub temp : options.temp ≡ temp_in words
  pub temp_ttl : IsNumberOf (text_in (codes "temp-ttl") words) options.temp_ttl
  pub events : IsNumberOf (text_in (codes "events") words) options.events
  pub follow : options.follow ≡ follow_in words

-- if the text is absent or a number below the limit, this is what was read from it: no number, or that one
abbrev pub IsNumberRead : ℕ → Option Text → Option ℕ → Type 0
IsNumberRead limit text number =
    ((t : Text) → text ≡ Some t → (in_any_case : Bool) × Accepts in_any_case (numbers_below limit) t) → IsNumberOf text number

-- if the text is absent or a Boolean, this tells whether it says yes
abbrev pub IsYesRead : Option Text → Bool → Type 0
IsYesRead text on = ((t : Text) → text ≡ Some t → (in_any_case : Bool) × Accepts in_any_case parsers.Bool t) → on ≡ is_yes text

-- these options were read from what `clap` found in the words
pub record AreFound (found : Found) (options : Options) : Type 0 where
  pub stripes : IsNumberRead (2 ^ 32) (one_text found (codes "stripes")) options.stripes
  pub chunks : IsNumberRead (2 ^ 64) (one_text found (codes "chunks")) options.chunks
  pub temp : IsYesRead (one_text found (codes "temp")) options.temp
  pub temp_ttl : IsNumberRead (2 ^ 64) (one_text found (codes "temp-ttl")) options.temp_ttl
  pub events : IsNumberRead (2 ^ 64) (one_text found (codes "events")) options.events
  pub follow : IsYesRead (one_text found (codes "follow")) options.follow

-- the words ask for these sizes, if any, for these times of upkeep, and for what these options say
pub record AreAsked (words : List Text) (sizes : Option (List ℕ)) (upkeep : List ℕ) (options : Options) : Type 0 where
  pub sized : AreNamed (sizes_in words) sizes
  pub moments : AreMomentsNamed (upkeep_in words) upkeep
  pub given : AreGiven words options

-- the text is no list of numbers
abbrev pub IsNoList : List ℕ → Type 0
IsNoList text = (numbers : List ℕ) → IsListOf text numbers → ⊥

-- a text is given, and it is no list of numbers
abbrev pub NamesNone : Option (List ℕ) → Type 0
NamesNone None = ⊥
NamesNone (Some text) = IsNoList text

-- a text is given, and it is no list of times of upkeep
abbrev pub NamesNoMoments : Option (List ℕ) → Type 0
NamesNoMoments None = ⊥
NamesNoMoments (Some text) = (moments : List ℕ) → IsMomentsOf text moments → ⊥

-- the text of the sizes is given and no list of numbers, or that of upkeep is given and no list of times
abbrev pub IsBadList : Option (List ℕ) → Option (List ℕ) → Type 0
IsBadList sizes upkeep = NamesNone sizes ⊎ NamesNoMoments upkeep

-- the configuration with these sizes and 1,024 chunks for each, if sizes are given
abbrev pub with_sizes : Option (List ℕ) → Config → Config
with_sizes None config = config
with_sizes (Some sizes) config = record config { sizes = sizes; chunks = replicate (length sizes) 1024 }

-- the configuration with this many stripes, if a number is given
abbrev pub with_stripes : Option ℕ → Config → Config
with_stripes None config = config
with_stripes (Some stripes) config = record config { stripes = stripes }

-- the configuration with this many chunks for every class, if a number is given
abbrev pub with_chunks : Option ℕ → Config → Config
with_chunks None config = config
with_chunks (Some limit) config = record config { chunks = replicate (length config.sizes) limit }

-- the configuration with this limit, in seconds, for how soon an item of TEMP expires, if a number is given
abbrev pub with_temp_ttl : Option ℕ → Config → Config
with_temp_ttl None config = config
with_temp_ttl (Some seconds) config = record config { temp_ttl = seconds }

-- the configuration with this limit of events for each history, if a number is given
abbrev pub with_events : Option ℕ → Config → Config
with_events None config = config
with_events (Some events) config = record config { max_events = events }

-- the usual configuration for 3 callers, with these sizes if any are given
abbrev pub sized : Option (List ℕ) → Config
sized sizes = with_sizes sizes (usual_config 3)

-- the configuration that is asked for: the usual one for 3 callers, changed as the options say; it doesn't keep events in memory
unfoldable pub asked : Option (List ℕ) → Options → Config
asked sizes options =
    with_events options.events (with_temp_ttl options.temp_ttl
    (record (with_chunks options.chunks (with_stripes options.stripes (sized sizes))) { temp = options.temp; keeps_events = false }))

-- the fault's number, from 1, in the order in which faults are checked
abbrev pub fault_number : ConfigFault → ℕ
fault_number Stripes = 1
fault_number Sizes = 2
fault_number Chunks = 3
fault_number Percent = 4
fault_number Factor = 5
fault_number Callers = 6
fault_number Events = 7

-- the fault of the words that corresponds to a fault of the plan
abbrev pub words_fault_of : PlanFault → WordsFault
words_fault_of plan_faults.List = words_faults.List
words_fault_of (plan_faults.Configuration n) = words_faults.Configuration n
words_fault_of plan_faults.NoMemory = words_faults.NoMemory

-- the configuration's first fault has this number
abbrev pub IsFault : ℕ → Config → Type 0
IsFault n config = (fault : ConfigFault) × (fault_of config ≡ Some fault) × (n ≡ fault_number fault)
