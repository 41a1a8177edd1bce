-- Upkeep, the work of the maintainer and of the crawler beside scripts, and what holds after it, by how it ended (own).
use Rattle.std.specs.Prelude.{ℕ, ◌≡◌, List, [], ◌∷◌, ◌++◌, None, length}
use Rattle.std.specs.List.{flat_map}
use Rattle.mc_item.specs.declared.fault.Fault.{Fault}
use Rattle.mc_item.specs.declared.fault.Fault.TheVariants as faults
use Rattle.mc_proto.specs.Answers.{Answer}
use Rattle.mc_proto.specs.declared.{request.Limits.Limits, request.Request.Request, request.Target.TheVariants.All}
use Rattle.mc_proto.specs.declared.request.Request.TheVariants as requests
use Rattle.mc_script.specs.{Calls.AreBrokenOff, Calls.CallsView, Calls.MakesCalls, Calls.Notes, Run.first_moment}
use Rattle.mc_script.specs.Script.{Answered, AreWhole, all_exchanges, calls_of, moment_behind, requests_of, turn_behind}
use Rattle.mc_script.specs.declared.{outcome.Outcome.Outcome, upkeep.Keeper.Keeper, upkeep.Keeper.TheVariants.Maintainer, upkeep.Keeper.TheVariants.Crawler}
use Rattle.mc_script.specs.declared.outcome.Outcome.TheVariants.{Done, Memory, HistoryFull, Input, Output}

-- the directive by which a script asks for the work of a keeper (maintainer or crawler) on all slab classes
abbrev pub directive_of : Keeper → Request
directive_of Maintainer = requests.Juggle All
directive_of Crawler = requests.Crawl All

-- a keeper's work at these moments, as requests of a script: for each moment in order `%at` and the keeper's directive
abbrev pub work_of : Keeper → List ℕ → List Request
work_of keeper [] = []
work_of keeper (moment ∷ moments) = requests.At moment ∷ directive_of keeper ∷ work_of keeper moments

-- the number of calls in a keeper's work at these moments
abbrev pub many_calls : Limits → Keeper → List ℕ → ℕ
many_calls limits keeper moments = length (flat_map (calls_of limits) (work_of keeper moments))

-- a keeper did its work at one moment: all its calls were made
pub record WorksAll (limits : Limits) (keeper : Keeper) (moment : ℕ) (old new : CallsView) : Type 0 where
  pub answers : List Answer
  pub makes : MakesCalls (calls_of limits (directive_of keeper)) answers moment old new

-- all of this work was done, and just its calls were made
pub record HasKeptUp (limits : Limits) (work : List Request) (notes : Notes) (caller : ℕ) : Type 0 where
  pub answered : List Answered
  pub asked : requests_of answered ≡ work
  pub whole : AreWhole limits answered
  pub calls : notes (all_exchanges limits caller 0 first_moment answered) None

-- the work broke off: a call of one request failed with this fault, and all requests before it were answered
pub record HasBrokenOff (fault : Fault) (limits : Limits) (work : List Request) (notes : Notes) (caller : ℕ) : Type 0 where
  pub answered : List Answered
  pub request : Request
  pub back : List Request
  pub asked : work ≡ requests_of answered ++ request ∷ back
  pub whole : AreWhole limits answered
  pub cut : AreBrokenOff fault (calls_of limits request) caller (turn_behind limits 0 answered) (moment_behind first_moment answered)
      (all_exchanges limits caller 0 first_moment answered) notes

-- what holds after upkeep with this outcome; `Input` and `Output` are impossible, as it reads and prints nothing
abbrev pub KeepsUp : Outcome → Limits → List Request → Notes → ℕ → Type 0
KeepsUp Done limits work notes caller = HasKeptUp limits work notes caller
KeepsUp Memory limits work notes caller = HasBrokenOff faults.NoMemory limits work notes caller
KeepsUp HistoryFull limits work notes caller = HasBrokenOff faults.HistoryFull limits work notes caller
KeepsUp Input limits work notes caller = ⊥
KeepsUp Output limits work notes caller = ⊥
