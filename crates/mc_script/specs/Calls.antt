-- What contracts see of a caller, with what is known of its calls so far (`notes`), and what a request adds to that.
use Rattle.std.specs.Prelude.{ℕ, ℤ, ◌≡◌, ◌≤◌, ◌+◌, ◌^◌, ◌⊎◌, Bool, List, [], ◌∷◌, ◌++◌, Option, Some, None, length, map, take, drop, Result, OnOk}
use Rattle.std.specs.List.{sum}
use Rattle.mc_item.specs.declared.{command.Command.Command, fault.Fault.Fault, item.ClassNo.ClassNo, counts.Histogram.Histogram, reply.Reply.Reply}
use Rattle.mc_item.specs.declared.command.Command.TheVariants.{Get, Gat}
use Rattle.mc_item.specs.declared.fault.Fault.TheVariants as faults
use Rattle.mc_proto.specs.{Answers.Answer, Answers.Replied, Answers.text_of, Text.value_text}
use Rattle.mc_proto.specs.declared.{request.Limits.Limits, request.Request.Request}
use Rattle.mc_proto.specs.declared.request.Request.TheVariants as requests
use Rattle.mc_script.specs.Exchanges.{AreAnswers, Asks, Exchange, Failure, IsFailure, ScriptCall, exchanges}
use Rattle.mc_script.specs.Script.{AllThere, calls_of}

-- what is known of a caller's calls: a fact about the list of those with answers, and about the last call if it failed
abbrev pub Notes : Type 1
Notes = List Exchange → Option Failure → Type 0

-- what contracts see of a caller: its number, its next turn, its notes, its slab classes, and if it may call
pub record CallsView : Type 1 where
  pub caller : ℕ
  pub turn : ℕ
  pub notes : Notes
  pub has_class : ClassNo → Type 0
  pub may_call : Type 0

-- calls may be made at this moment: the next one may, the moment isn't too late, and the slab classes of these limits exist
pub record MayAnswer (limits : Limits) (moment : ℕ) (now : CallsView) : Type 0 where
  pub may : now.may_call
  pub early : moment ≤ 2 ^ 62
  pub classes : AllThere now.has_class limits

-- the same caller, with the same slab classes
pub record IsSameCaller (old new : CallsView) : Type 0 where
  pub caller : new.caller ≡ old.caller
  pub classes : (class : ClassNo) → (old.has_class class → new.has_class class) × (new.has_class class → old.has_class class)

-- what a call leaves, whatever its result: the same caller, which may call again after a success
pub record GoesOn {T : Type 0} (old new : CallsView) (result : Result T Fault) : Type 0 where
  pub same : IsSameCaller old new
  pub may : OnOk result new.may_call

-- whatever the old notes say of some calls, the new notes say of those calls followed by these; each got its answer
pub record AddsCalls (old new : Notes) (more : List Exchange) : Type 0 where
  pub at : (calls : List Exchange) → old calls None → new (calls ++ more) None

-- a call failed with this fault: no answer is added
pub record BreaksOff (fault : Fault) (call : ScriptCall) (moment : ℕ) (old new : CallsView) : Type 0 where
  pub at : (calls : List Exchange) → old.notes calls None → (failure : Failure) × IsFailure failure fault (call ∷ []) moment × new.notes calls (Some failure)

-- a caller made these calls in order, each in its own turn, and got these answers
pub record MakesCalls (calls : List ScriptCall) (answers : List Answer) (moment : ℕ) (old new : CallsView) : Type 0 where
  pub long : length answers ≡ length calls
  pub kinds : AreAnswers calls answers
  pub noted : AddsCalls old.notes new.notes (exchanges old.caller old.turn moment calls answers)
  pub turns : new.turn ≡ old.turn + length calls
  pub caller : new.caller ≡ old.caller

-- after the calls before, the first of these were answered, and the next one failed with this fault
pub record AreBrokenOff (fault : Fault) (calls : List ScriptCall) (caller turn moment : ℕ) (before : List Exchange) (notes : Notes) : Type 0 where
  pub answers : List Answer
  pub kinds : AreAnswers calls answers
  pub failure : Failure
  pub next : IsFailure failure fault (drop (length answers) calls) moment
  pub noted : notes (before ++ exchanges caller turn moment calls answers) (Some failure)

-- after the calls before, the first of these were answered, or all, and no other call was made
pub record AreMadeInPart (calls : List ScriptCall) (caller turn moment : ℕ) (before : List Exchange) (notes : Notes) : Type 0 where
  pub answers : List Answer
  pub kinds : AreAnswers calls answers
  pub noted : notes (before ++ exchanges caller turn moment calls answers) None

-- after the calls before, the first of these were answered, and then the next one failed with this fault, or memory for a text ran out
abbrev pub AreCutOff : Fault → List ScriptCall → (caller turn moment : ℕ) → List Exchange → Notes → Type 0
AreCutOff fault calls caller turn moment before notes =
    AreBrokenOff fault calls caller turn moment before notes ⊎ ((fault ≡ faults.NoMemory) × AreMadeInPart calls caller turn moment before notes)

-- the first of these calls were made, and then one failed with this fault or memory for a text ran out
pub record Breaks (fault : Fault) (calls : List ScriptCall) (moment : ℕ) (old new : CallsView) : Type 0 where
  pub at : (before : List Exchange) → old.notes before None → AreCutOff fault calls old.caller old.turn moment before new.notes

-- the first of these calls were made, and then one of them failed with this fault
pub record BreaksAmong (fault : Fault) (calls : List ScriptCall) (moment : ℕ) (old new : CallsView) : Type 0 where
  pub at : (before : List Exchange) → old.notes before None → AreBrokenOff fault calls old.caller old.turn moment before new.notes

-- a request was answered: all its calls were made, and its text was added
pub record Answers (limits : Limits) (request : Request) (moment : ℕ) (old new : CallsView) (text text' : List ℕ) : Type 0 where
  pub answers : List Answer
  pub texts : text' ≡ text ++ text_of request answers
  pub makes : MakesCalls (calls_of limits request) answers moment old new

-- a request failed after its first calls
abbrev pub Fails : Fault → Limits → Request → ℕ → CallsView → CallsView → Type 0
Fails fault limits request moment old new = Breaks fault (calls_of limits request) moment old new

-- the command that reads a key: a gat if there is an exptime, otherwise a get
abbrev pub reading_command : Option ℤ → List ℕ → Command
reading_command None key = Get key
reading_command (Some exptime) key = Gat key exptime

-- the request that reads keys: a gat if there is an exptime, otherwise a get
abbrev pub reading_request : Option ℤ → List (List ℕ) → Bool → Request
reading_request None keys with_cas = requests.Get keys with_cas
reading_request (Some exptime) keys with_cas = requests.Gat exptime keys with_cas

-- one key of a get or gat was answered: its call was made, and on a hit the value's text was added
pub record AnswersKey (key : List ℕ) (exptime : Option ℤ) (with_cas : Bool) (moment : ℕ) (old new : CallsView) (text text' : List ℕ) : Type 0 where
  pub reply : Reply
  pub texts : text' ≡ text ++ value_text key reply with_cas
  pub makes : MakesCalls (Asks (reading_command exptime key) ∷ []) (Replied reply ∷ []) moment old new

-- the call for one key of a get or gat failed, or memory for its text ran out
abbrev pub FailsKey : Fault → List ℕ → Option ℤ → ℕ → CallsView → CallsView → Type 0
FailsKey fault key exptime moment old new = Breaks fault (Asks (reading_command exptime key) ∷ []) moment old new

-- the maintainer or the crawler worked on these classes in order, and its moves or histograms have this sum
pub record SumsUp {S : Type 0} (call : ClassNo → ScriptCall) (sum_of : List Answer → S) (classes : List ClassNo) (sums : S) (moment : ℕ)
    (old new : CallsView) : Type 0 where
  pub answers : List Answer
  pub added : sums ≡ sum_of answers
  pub makes : MakesCalls (map call classes) answers moment old new

-- the number of entries seen is the sum of the counts of all kinds
abbrev pub AddsUp : Histogram → Type 0
AddsUp h = h.seen ≡ sum h.minutes + h.hour_plus + h.no_expiry + h.reclaimed + h.passed + h.gone

-- the new text begins with the old one
abbrev pub Begins : List ℕ → List ℕ → Type 0
Begins old new = take (length old) new ≡ old
