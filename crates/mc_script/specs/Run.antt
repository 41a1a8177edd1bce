-- What holds after a script's run, by how it ended: what was printed, and which calls were made.
use Rattle.std.specs.Prelude.{ℕ, ◌≡◌, ◌<◌, ◌⊎◌, List, [], ◌∷◌, ◌++◌, None, false}
use Rattle.mc_item.specs.declared.fault.Fault.{Fault}
use Rattle.mc_item.specs.declared.fault.Fault.TheVariants as faults
use Rattle.mc_proto.specs.{Grammar.Reads, Text.IsBeginning}
use Rattle.mc_proto.specs.declared.{request.Limits.Limits, request.Request.Request}
use Rattle.mc_script.specs.Calls.{AreCutOff, CallsView, IsSameCaller, Notes}
use Rattle.mc_script.specs.Script.{AllThere, Answered, AreWhole, all_exchanges, calls_of, ends, moment_behind, own_requests, requests_of, texts_of, turn_behind}
use Rattle.mc_script.specs.declared.outcome.Outcome.{Outcome}
use Rattle.mc_script.specs.declared.outcome.Outcome.TheVariants.{Done, Memory, HistoryFull, Input, Output}

-- the moment (time in seconds) at which each script begins (own)
abbrev pub first_moment : ℕ
first_moment = 1000

-- none of these requests ends the script
abbrev pub NoneEnds : List Request → Type 0
NoneEnds [] = Unit {0}
NoneEnds (r ∷ rs) = (ends r ≡ false) × NoneEnds rs

-- all requests of the script in these bytes were answered: the sink took their texts, and just their calls were made
pub record HasRun (limits : Limits) (bytes start taken : List ℕ) (notes : Notes) (caller : ℕ) : Type 0 where
  pub requests : List Request
  pub rest : List ℕ
  pub answered : List Answered
  pub reads : Reads limits bytes requests rest
  pub asked : requests_of answered ≡ own_requests requests
  pub whole : AreWhole limits answered
  pub texts : taken ≡ start ++ texts_of answered
  pub calls : notes (all_exchanges limits caller 0 first_moment answered) None

-- the source gave all its bytes but those left, and these are the script's requests in what it gave
pub record HasRead (limits : Limits) (bytes left : List ℕ) (own : List Request) : Type 0 where
  pub came : List ℕ
  pub split : bytes ≡ came ++ left
  pub requests : List Request
  pub rest : List ℕ
  pub reads : Reads limits came requests rest
  pub own_are : own_requests requests ≡ own

-- the sink took the texts of all requests in the bytes that came, with answers that fit their calls, and none of them ends the script
pub record IsOut (limits : Limits) (came start taken : List ℕ) : Type 0 where
  pub requests : List Request
  pub rest : List ℕ
  pub reads : Reads limits came requests rest
  pub own : NoneEnds requests
  pub answered : List Answered
  pub asked : requests_of answered ≡ requests
  pub whole : AreWhole limits answered
  pub texts : taken ≡ start ++ texts_of answered

module _ {E : Type 0} (gave : E → E → List ℕ → Type 0) (taken : E → List ℕ) (reads writes over : E → ℕ) (may_ask : E → Type 0) where
  -- a script may run from these ends: the next bytes may be asked for as long as the texts of all requests in the bytes that came are
  -- out, nothing has failed and the end wasn't reached
  abbrev pub MayRunFrom : Limits → E → Type 0
  MayRunFrom limits start = (e : E) (came : List ℕ) → gave start e came → IsOut limits came (taken start) (taken e)
      → reads e ≡ reads start → writes e ≡ writes start → over e ≡ over start → may_ask e

-- the source gave all its bytes but those left, all requests in what it gave were answered, and none of them ends the script
pub record HasRunTo (limits : Limits) (bytes left start taken : List ℕ) (notes : Notes) (caller : ℕ) : Type 0 where
  pub came : List ℕ
  pub split : bytes ≡ came ++ left
  pub run : HasRun limits came start taken notes caller
  pub none : NoneEnds run.requests

-- some last bytes that came, perhaps none, were not read; all requests before them were answered, and none of these ends the script
pub record HasStarved (limits : Limits) (bytes left start taken : List ℕ) (notes : Notes) (caller : ℕ) : Type 0 where
  pub piece : List ℕ
  pub run : HasRunTo limits bytes (piece ++ left) start taken notes caller

-- these requests were answered, and the next one failed after its first calls
abbrev pub IsCutOff : Fault → Limits → Request → List Answered → Notes → ℕ → Type 0
IsCutOff fault limits request answered notes caller =
    AreCutOff fault (calls_of limits request) caller (turn_behind limits 0 answered) (moment_behind first_moment answered)
    (all_exchanges limits caller 0 first_moment answered) notes

-- a request failed after its first calls, and the sink took the texts of all requests before it
pub record HasStopped (fault : Fault) (limits : Limits) (bytes left start taken : List ℕ) (notes : Notes) (caller : ℕ) : Type 0 where
  pub answered : List Answered
  pub request : Request
  pub back : List Request
  pub read : HasRead limits bytes left (requests_of answered ++ request ∷ back)
  pub whole : AreWhole limits answered
  pub texts : taken ≡ start ++ texts_of answered
  pub cut : IsCutOff fault limits request answered notes caller

-- these requests were answered, and at most the first calls of the first of those to come were made
abbrev pub MayBeCutOff : Limits → List Request → List Answered → Notes → ℕ → Type 0
MayBeCutOff limits [] answered notes caller = notes (all_exchanges limits caller 0 first_moment answered) None
MayBeCutOff limits (r ∷ rs) answered notes caller = (fault : Fault) × IsCutOff fault limits r answered notes caller

-- the sink failed: it took a beginning of the texts of the first requests, and at most the next one's first calls were made
pub record HasBroken (limits : Limits) (bytes left start taken : List ℕ) (notes : Notes) (caller : ℕ) : Type 0 where
  pub answered : List Answered
  pub back : List Request
  pub read : HasRead limits bytes left (requests_of answered ++ back)
  pub whole : AreWhole limits answered
  pub texts : IsBeginning start taken (texts_of answered)
  pub calls : MayBeCutOff limits back answered notes caller

-- all requests of the script were answered, and all of them are in the bytes that the source gave, which are those not left
pub record HasEnded (limits : Limits) (bytes left start taken : List ℕ) (notes : Notes) (caller : ℕ) : Type 0 where
  pub run : HasRun limits bytes start taken notes caller
  pub read : HasRead limits bytes left (requests_of run.answered)

-- what holds after a run with this outcome: of the bytes left, of what the sink took since the start, and of the calls
abbrev pub Leaves : Outcome → Limits → List ℕ → List ℕ → List ℕ → List ℕ → Notes → ℕ → Type 0
Leaves Done limits bytes left start taken notes caller = HasEnded limits bytes left start taken notes caller
Leaves Input limits bytes left start taken notes caller = HasRunTo limits bytes left start taken notes caller
Leaves Memory limits bytes left start taken notes caller =
    HasStopped faults.NoMemory limits bytes left start taken notes caller ⊎ HasStarved limits bytes left start taken notes caller
Leaves HistoryFull limits bytes left start taken notes caller = HasStopped faults.HistoryFull limits bytes left start taken notes caller
Leaves Output limits bytes left start taken notes caller = HasBroken limits bytes left start taken notes caller

module _ {E : Type 0} (gave : E → E → List ℕ → Type 0) (ended : E → Type 0) (taken : E → List ℕ) where
  -- what holds after a script with this outcome: some bytes came, and whatever bytes are still left, what was printed and which
  -- calls were made is as the outcome says; no bytes are left if the end was reached
  pub record HasLeft (outcome : Outcome) (limits : Limits) (before after : E) (notes : Notes) (caller : ℕ) : Type 0 where
    pub came : List ℕ
    pub since : gave before after came
    pub leaves : (left : List ℕ) → (ended after → left ≡ []) → Leaves outcome limits (came ++ left) left (taken before) (taken after) notes caller

-- the source counted failures if the outcome is `Input`, the sink if it is `Output`, and no other failure was counted
abbrev pub AreCounted : Outcome → ℕ → ℕ → ℕ → ℕ → Type 0
AreCounted Done reads reads' writes writes' = (reads' ≡ reads) × (writes' ≡ writes)
AreCounted Memory reads reads' writes writes' = (reads' ≡ reads) × (writes' ≡ writes)
AreCounted HistoryFull reads reads' writes writes' = (reads' ≡ reads) × (writes' ≡ writes)
AreCounted Input reads reads' writes writes' = (reads < reads') × (writes' ≡ writes)
AreCounted Output reads reads' writes writes' = (reads' ≡ reads) × (writes < writes')

-- a run may start: no call was made yet, the first may be made, and the slab classes of these limits exist
pub record MayStart (limits : Limits) (now : CallsView) : Type 0 where
  pub may : now.may_call
  pub first : now.turn ≡ 0
  pub none : now.notes [] None
  pub classes : AllThere now.has_class limits

-- what a run with this outcome leaves of its caller: the same one, which may call again after `Done`
pub record LeavesCaller (outcome : Outcome) (old new : CallsView) : Type 0 where
  pub same : IsSameCaller old new
  pub done : outcome ≡ Done → new.may_call
