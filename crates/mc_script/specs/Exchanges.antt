-- Calls, and exchanges: a call with its answer, in a turn of its caller (the call's number).
use Rattle.std.specs.Prelude.{ℕ, ◌≡◌, ◌+◌, ◌⊎◌, List, [], ◌∷◌, Option}
use Rattle.mc_item.specs.Answer.{row_of}
use Rattle.mc_item.specs.declared.{answer.Site.Site, command.Command.Command, fault.Fault.Fault, item.ClassNo.ClassNo, item.Item.Item, item.Who.Who}
use Rattle.mc_item.specs.declared.{reply.Reply.Reply, reply.Room.Room}
use Rattle.mc_proto.specs.Answers.{Answer, Counted, Limited, Replied, Moved}

-- a call: a command, the maintainer's or the crawler's work on a slab class, or a class's new limit of chunks
pub data ScriptCall : Type 0 where
  Asks : Command → ScriptCall
  Juggles : ClassNo → ScriptCall
  Crawls : ClassNo → ScriptCall
  Limits : ClassNo → ℕ → ScriptCall

-- a reply to a command: one that the table of commands gives it, for some item found and some room
pub record IsReplyTo (command : Command) (reply : Reply) : Type 0 where
  pub site : Site
  pub versions : ℕ
  pub found : Option Item
  pub moment : ℕ
  pub room : Room
  pub reply_is : reply ≡ ((row_of site versions found command moment).answer room).reply

-- the answer fits the call: a reply to the command, moves for the maintainer's work, a histogram for the crawler's, or that a limit
-- was set
abbrev pub IsOfKind : ScriptCall → Answer → Type 0
IsOfKind (Asks command) (Replied reply) = IsReplyTo command reply
IsOfKind (Juggles class) (Moved moves) = Unit {0}
IsOfKind (Crawls class) (Counted histogram) = Unit {0}
IsOfKind (Limits class n) Limited = Unit {0}
IsOfKind call answer = ⊥

-- each of these answers fits its call; the last calls may have none
abbrev pub AreAnswers : List ScriptCall → List Answer → Type 0
AreAnswers calls [] = Unit {0}
AreAnswers [] (answer ∷ answers) = ⊥
AreAnswers (call ∷ calls) (answer ∷ answers) = IsOfKind call answer × AreAnswers calls answers

-- a call with its answer: who made it, the call, its moment (the time in seconds), and the answer
pub record Exchange : Type 0 where
  pub who : Who
  pub call : ScriptCall
  pub moment : ℕ
  pub answer : Answer

-- how a call failed, which got no answer: with this fault before it began, or with this fault after it began at this moment
pub data Failure : Type 0 where
  Unbegun : Fault → Failure
  Begun : ScriptCall → ℕ → Fault → Failure

-- the first of these calls failed so, with this fault and at this moment
abbrev pub IsFailure : Failure → Fault → List ScriptCall → ℕ → Type 0
IsFailure failure fault [] moment = ⊥
IsFailure failure fault (call ∷ calls) moment = (failure ≡ Unbegun fault) ⊎ (failure ≡ Begun call moment fault)

-- the exchange of this caller in this turn
abbrev pub exchange : ℕ → ℕ → ScriptCall → ℕ → Answer → Exchange
exchange caller turn call moment answer =
    record { who = record { caller = caller; turn = turn }; call = call; moment = moment; answer = answer }

-- the exchanges of those calls that have answers: all at this moment, in turns that rise by one from this turn
abbrev pub exchanges : ℕ → ℕ → ℕ → List ScriptCall → List Answer → List Exchange
exchanges caller turn moment (call ∷ calls) (answer ∷ answers) = exchange caller turn call moment answer ∷ exchanges caller (turn + 1) moment calls answers
exchanges caller turn moment [] answers = []
exchanges caller turn moment (call ∷ calls) [] = []
