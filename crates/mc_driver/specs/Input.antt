-- An input: the scripts that it is cut into, what holds after they ran, and what the program does with it (own).
use Rattle.std.specs.Prelude.{ℕ, ◌≡◌, ◌≢◌, ◌<◌, ◌++◌, ◌∷◌, Bool, true, false, if◌then◌else◌, List, [], Option, IfSome, length, map, slice_index_or}
use Rattle.std.specs.{List.All, List.flat_map, Io.KnownBytes.Appends}
use Rattle.clap.specs.Words.{Text}
use Rattle.mc_item.specs.declared.config.Config.{Config}
use Rattle.mc_proto.specs.Scripts as cut
use Rattle.mc_proto.specs.declared.request.Limits.{Limits}
use Rattle.mc_script.specs.declared.{outcome.Outcome.Outcome, outcome.Outcome.TheVariants.Done, outcome.Outcome.TheVariants.Output}
use Rattle.mc_store.specs.Finals.{FinalView}
use Rattle.mc_options.specs.Asked.{AreAsked, asked}
use Rattle.mc_options.specs.Words as command_line
use Rattle.mc_driver.specs.{Left.IsRunDone, Run.IsAccepted, Run.IsRunnable, Run.limits_of, Run.with_callers}
use Rattle.mc_driver.specs.declared.fault.RunFault.{RunFault}
use Rattle.mc_driver.specs.declared.fault.RunFault.TheVariants as refusals
use Rattle.mc_options.specs.declared.plans.Options.{Options}

-- what became of a script: the bytes that it printed, how often there was no memory for more or a write failed, and how often a
-- read failed
pub record Printed : Type 0 where
  pub bytes : List ℕ
  pub misses : ℕ
  pub stops : ℕ

-- a script: its bytes that are still to come, and what became of it
abbrev pub ToAndFrom : Type 0
ToAndFrom = List ℕ × Printed

-- scripts ran on one store, with upkeep at these moments: each from its bytes to what became of it; only a conversation's reads
-- can fail, other scripts are read from memory
abbrev pub AreRun : Bool → Config → List ℕ → List ToAndFrom → List ToAndFrom → List Outcome → FinalView → Type 0
AreRun follow = IsRunDone (λ first second came. first.0 ≡ came ++ second.0) (λ ends. ends.0 ≡ []) (λ ends. ends.1.bytes)
    (λ ends. if follow then ends.1.stops else 0) (λ ends. ends.1.misses)

-- the scripts of an input: all of it if it is a conversation (`--follow`), otherwise the parts between each two `%next`
abbrev pub AreItsScripts : Bool → Limits → List ℕ → List (List ℕ) → Type 0
AreItsScripts true limits input scripts = scripts ≡ input ∷ []
AreItsScripts false limits input scripts = cut.AreScripts limits input scripts

-- the scripts of an input, with nothing printed yet, ran with upkeep at these moments, and printed this, script by script
pub record IsRunOf (follow : Bool) (config : Config) (moments input printed : List ℕ) (ended : List Outcome) (final : FinalView) : Type 0 where
  pub scripts : List ToAndFrom
  pub accepted : IsAccepted (length scripts) config
  pub are : AreItsScripts follow (limits_of config) input (map (λ script. script.0) scripts)
  pub fresh : All (λ script. script.1.bytes ≡ []) scripts
  pub left : List ToAndFrom
  pub run : AreRun follow (with_callers (length scripts) config) moments scripts left ended final
  pub texts : printed ≡ flat_map (λ script. script.1.bytes) left

-- a conversation of these bytes was run, and if no write failed, its texts were added to what the writer held
pub record IsConversed (config : Config) (moments input : List ℕ) (held holds : Option (List ℕ)) (ended : List Outcome) : Type 0 where
  pub printed : List ℕ
  pub final : FinalView
  pub run : IsRunOf true config moments input printed ended final
  pub written : ((outcome : Outcome) → slice_index_or ended 0 outcome ≢ Output) → Appends held holds printed

-- why an input wasn't run: it has more than 62 scripts, the configuration isn't sound for so many, or memory ran out
abbrev pub IsUnrun : RunFault → Config → List ℕ → Type 0
IsUnrun refusals.Scripts config input = (scripts : List (List ℕ)) × cut.AreScripts (limits_of config) input scripts × (62 < length scripts)
IsUnrun refusals.Configuration config input = (scripts : List (List ℕ)) × cut.AreScripts (limits_of config) input scripts
    × (IsRunnable (length scripts) config → ⊥)
IsUnrun refusals.NoMemory config input = Unit {0}

-- an input was answered: it was run, every caller is done, and what its scripts printed was added to what the writer held
pub record IsInputAnswered (follow : Bool) (config : Config) (moments input : List ℕ) (held holds : Option (List ℕ)) : Type 0 where
  pub printed : List ℕ
  pub ended : List Outcome
  pub final : FinalView
  pub run : IsRunOf follow config moments input printed ended final
  pub done : All (λ outcome. outcome ≡ Done) ended
  pub written : Appends held holds printed

-- this holds of all bytes that a reader has to give
pub record OfAllBytes (coming : Option (List ℕ)) (holds : List ℕ → Type 0) : Type 0 where
  pub input : List ℕ
  pub whole : IfSome coming (λ bytes. input ≡ bytes)
  pub done : holds input

-- the command line is accepted, and this holds for what it asks for (a conversation or not, the configuration, the moments of
-- upkeep) and all bytes of the reader
pub record AreHeeded (words : List Text) (coming : Option (List ℕ)) (holds : Bool → Config → List ℕ → List ℕ → Type 0) : Type 0 where
  pub taken : command_line.refusals words ≡ []
  pub sizes : Option (List ℕ)
  pub moments : List ℕ
  pub options : Options
  pub are_asked : AreAsked words sizes moments options
  pub done : OfAllBytes coming (holds options.follow (asked sizes options) moments)

-- the program did its work: it answered all bytes that the reader has to give, as the words ask
abbrev pub HasServed : List Text → Option (List ℕ) → Option (List ℕ) → Option (List ℕ) → Type 0
HasServed words coming held holds = AreHeeded words coming (λ follow config moments input. IsInputAnswered follow config moments input held holds)
