-- A script's run on its way: the requests answered so far, and their texts, which the sink took or which are still gathered.
use Rattle.std.specs.Prelude.{ℕ, ◌≡◌, List, [], ◌∷◌, ◌++◌, Option, Some, None, true, false}
use Rattle.mc_item.specs.declared.fault.Fault.{Fault}
use Rattle.mc_item.specs.declared.fault.Fault.TheVariants as faults
use Rattle.mc_proto.specs.{Grammar.IsModerate, Reader.After, Text.IsBeginning}
use Rattle.mc_proto.specs.declared.{request.Limits.Limits, state.State.State, request.Request.Request}
use Rattle.mc_script.specs.{Calls.CallsView, Run.IsCutOff, Run.Leaves, Run.NoneEnds, Run.first_moment}
use Rattle.mc_script.specs.Script.{Answered, AreWhole, all_exchanges, ends, moment_behind, requests_of, texts_of, turn_behind}
use Rattle.mc_script.specs.declared.{outcome.Outcome.Outcome, scripting.Progress.Progress}
use Rattle.mc_script.specs.declared.outcome.Outcome.TheVariants as outcomes
use Rattle.mc_script.specs.declared.scripting.Progress.TheVariants.{More, Ended, Memory, Full, Output}

-- these requests were answered, and their texts are what the sink took since the start, then what is still gathered
pub record HasAnswered (limits : Limits) (answered : List Answered) (start taken text : List ℕ) (now : CallsView) (moment : ℕ) : Type 0 where
  pub whole : AreWhole limits answered
  pub printed : List ℕ
  pub took : taken ≡ start ++ printed
  pub texts : printed ++ text ≡ texts_of answered
  pub notes_all : now.notes (all_exchanges limits now.caller 0 first_moment answered) None
  pub turn_is : now.turn ≡ turn_behind limits 0 answered
  pub moment_is : moment ≡ moment_behind first_moment answered

-- these requests were answered, and the next one failed after its first calls
pub record HasFailed (fault : Fault) (limits : Limits) (request : Request) (answered : List Answered) (start taken text : List ℕ)
    (now : CallsView) : Type 0 where
  pub whole : AreWhole limits answered
  pub printed : List ℕ
  pub took : taken ≡ start ++ printed
  pub texts : printed ++ text ≡ texts_of answered
  pub own : ends request ≡ false
  pub cut : IsCutOff fault limits request answered now.notes now.caller

-- these requests were answered, and the sink took a beginning of their texts
pub record HasTorn (limits : Limits) (answered : List Answered) (start taken : List ℕ) (now : CallsView) : Type 0 where
  pub whole : AreWhole limits answered
  pub texts : IsBeginning start taken (texts_of answered)
  pub notes_all : now.notes (all_exchanges limits now.caller 0 first_moment answered) None

-- the first of these requests ends the script
abbrev pub EndsHere : List Request → Type 0
EndsHere [] = ⊥
EndsHere (r ∷ rs) = ends r ≡ true

-- the first of these requests failed, and those before it were answered
abbrev pub FailsHere : Fault → Limits → List Request → List Answered → List ℕ → List ℕ → List ℕ → CallsView → Type 0
FailsHere fault limits [] answered start taken text now = ⊥
FailsHere fault limits (r ∷ rs) answered start taken text now = HasFailed fault limits r answered start taken text now

-- none of these requests sets a time or a limit that is out of bounds, or names a class that doesn't exist
abbrev pub AreModerate : Limits → List Request → Type 0
AreModerate limits [] = Unit {0}
AreModerate limits (r ∷ rs) = IsModerate limits r × AreModerate limits rs

-- how far requests were answered: all, up to one that ends the script, up to one that failed, or until the sink failed
abbrev pub IsProgress : Progress → Limits → List Request → List Answered → List ℕ → List ℕ → List ℕ → CallsView → ℕ → Type 0
IsProgress More limits back answered start taken text now moment = (back ≡ []) × HasAnswered limits answered start taken text now moment
IsProgress Ended limits back answered start taken text now moment = EndsHere back × HasAnswered limits answered start taken text now moment
IsProgress Memory limits back answered start taken text now moment = FailsHere faults.NoMemory limits back answered start taken text now
IsProgress Full limits back answered start taken text now moment = FailsHere faults.HistoryFull limits back answered start taken text now
IsProgress Output limits back answered start taken text now moment = HasTorn limits answered start taken now

-- after those answered before, the first of these requests were answered too, and the run came as far as its progress says
pub record Goes (progress : Progress) (limits : Limits) (requests : List Request) (before : List Answered) (start taken text : List ℕ)
    (now : CallsView) (moment : ℕ) : Type 0 where
  pub front : List Request
  pub back : List Request
  pub added : List Answered
  pub split : requests ≡ front ++ back
  pub own : NoneEnds front
  pub asked : requests_of added ≡ front
  pub state : IsProgress progress limits back (before ++ added) start taken text now moment

-- one more piece came: `done` was answered before, and `added` are the requests that the piece completes
pub record HasCome (limits : Limits) (came : List ℕ) (done : List Answered) (added : List Request) : Type 0 where
  pub requests : List Request
  pub state : State
  pub unread : List ℕ
  pub after : After limits state unread came (requests ++ added)
  pub own : NoneEnds requests
  pub asked : requests_of done ≡ requests

-- all requests of a piece were answered, none of them ends the script, and no text is left to print
pub record AnswersWhole (limits : Limits) (start taken text : List ℕ) (now : CallsView) (moment : ℕ) (done : List Answered)
    (added : List Request) : Type 0 where
  pub own : NoneEnds added
  pub out : text ≡ []
  pub all : List Answered
  pub asked : requests_of all ≡ requests_of done ++ added
  pub state_of : HasAnswered limits all start taken text now moment

-- what holds after a piece: it was answered whole and the script goes on, or the script ended with this outcome
abbrev pub LeavesPiece : Option Outcome → Limits → List ℕ → List ℕ → List ℕ → List ℕ → List ℕ → CallsView → ℕ → List Answered → List Request → Type 0
LeavesPiece None limits bytes left start taken text now moment done added = AnswersWhole limits start taken text now moment done added
LeavesPiece (Some outcome) limits bytes left start taken text now moment done added = Leaves outcome limits bytes left start taken now.notes now.caller

-- the outcome of requests that were answered so far: `Done` if none failed, also if the script goes on
abbrev pub outcome_of : Progress → Outcome
outcome_of More = outcomes.Done
outcome_of Ended = outcomes.Done
outcome_of Memory = outcomes.Memory
outcome_of Full = outcomes.HistoryFull
outcome_of Output = outcomes.Output

module _ {E : Type 0} (gave : E → E → List ℕ → Type 0) (reads over : E → ℕ) where
  -- nothing was asked of a source: no bytes came, no read failed, and its end was not reached
  pub record AsksNothing (old new : E) : Type 0 where
    pub came : gave old new []
    pub same_reads : reads new ≡ reads old
    pub same_over : over new ≡ over old
