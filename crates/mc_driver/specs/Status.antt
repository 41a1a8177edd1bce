-- What the program's exit status says if it isn't 0 (own).
use Rattle.std.specs.Prelude.{ℕ, ◌≡◌, ◌≢◌, ◌<◌, ◌⊎◌, Bool, false, if◌then◌else◌, List, [], Option, Some, length, slice_index_or, take}
use Rattle.std.specs.{List.All, Io.KnownBytes.Appends}
use Rattle.clap.specs.Kinds.{IsAmong}
use Rattle.clap.specs.Words.{Text}
use Rattle.clap.specs.declared.error.kind.ErrorKind.{ErrorKind}
use Rattle.clap.specs.declared.error.kind.ErrorKind.TheVariants.{DisplayHelp, DisplayVersion}
use Rattle.mc_item.specs.Config.{fault_of}
use Rattle.mc_item.specs.declared.{config.Config.Config, config.ConfigFault.ConfigFault}
use Rattle.mc_script.specs.declared.outcome.Outcome.{Outcome}
use Rattle.mc_script.specs.declared.outcome.Outcome.TheVariants.{Done, Memory, HistoryFull, Input, Output}
use Rattle.mc_store.specs.Finals.{FinalView}
use Rattle.mc_options.specs.{Asked.AreAsked, Asked.IsBadList, Asked.asked, Words.refusals, Words.sizes_in, Words.upkeep_in}
use Rattle.mc_options.specs.declared.plans.Options.{Options}
use Rattle.mc_driver.specs.Input.{AreHeeded, IsRunOf, IsUnrun}
use Rattle.mc_driver.specs.declared.fault.RunFault.TheVariants as unrun

-- the exit status for a caller's outcome, in a conversation or not; without one a sink is in memory, and fails if that runs out
abbrev pub status_of : Bool → Outcome → ℕ
status_of follow Done = 0
status_of follow Memory = 1
status_of follow HistoryFull = 1
status_of follow Output = if follow then 3 else 1
status_of follow Input = 3

-- one caller's outcome has this status, and all callers before it are done
pub record IsFirstFault (follow : Bool) (status : ℕ) (ended : List Outcome) : Type 0 where
  pub place : ℕ
  pub within : place < length ended
  pub done : All (λ outcome. outcome ≡ Done) (take place ended)
  pub told : (d : Outcome) → status_of follow (slice_index_or ended place d) ≡ status

-- an input was run, its scripts' texts were added to what the writer held, and the status is that of the first caller not done
pub record IsAnsweredInPart (status : ℕ) (follow : Bool) (config : Config) (moments input : List ℕ) (held holds : Option (List ℕ)) : Type 0 where
  pub printed : List ℕ
  pub ended : List Outcome
  pub final : FinalView
  pub run : IsRunOf follow config moments input printed ended final
  pub fault : IsFirstFault follow status ended
  pub written : Appends held holds printed

-- the program ran all bytes that the reader has to give, as the words ask, wrote all replies, and gives the first fault's status
abbrev pub HasServedInPart : ℕ → List Text → Option (List ℕ) → Option (List ℕ) → Option (List ℕ) → Type 0
HasServedInPart status words coming held holds =
    AreHeeded words coming (λ follow config moments input. IsAnsweredInPart status follow config moments input held holds)

-- the words ask for help or for the version
abbrev pub AreForHelp : List Text → Type 0
AreForHelp words = IsAmong DisplayHelp (refusals words) ⊎ IsAmong DisplayVersion (refusals words)

-- the reader of the command line refuses the words, and they don't ask for help or the version
pub record AreMistaken (words : List Text) : Type 0 where
  pub kind : ErrorKind
  pub refused : IsAmong kind (refusals words)
  pub no_help : kind ≢ DisplayHelp
  pub no_version : kind ≢ DisplayVersion

-- the words ask for a configuration that has a fault
pub record HaveFault (words : List Text) : Type 0 where
  pub sizes : Option (List ℕ)
  pub moments : List ℕ
  pub options : Options
  pub are_asked : AreAsked words sizes moments options
  pub fault : ConfigFault
  pub has : fault_of (asked sizes options) ≡ Some fault

-- the words are refused: by the reader of the command line, or else for a bad list or a configuration with a fault
abbrev pub AreRefused : List Text → Type 0
AreRefused words = AreMistaken words ⊎ ((refusals words ≡ []) × (IsBadList (sizes_in words) (upkeep_in words) ⊎ HaveFault words))

-- the bytes that the reader has to give are cut into more than 62 scripts
abbrev pub HasTooMany : List Text → Option (List ℕ) → Type 0
HasTooMany words coming = AreHeeded words coming (λ follow config moments input. (follow ≡ false) × IsUnrun unrun.Scripts config input)
