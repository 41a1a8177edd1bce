-- What a call on a store leaves, by what its pass had seen before and has seen after (own).
use Rattle.std.specs.Prelude.{◌≡◌, ◌++◌, ◌⊎◌, ◌≤◌, ℕ, List, [], ◌∷◌, IfSome}
use mathlib.Core.List.{IsPrefix}
use Rattle.mc_item.specs.declared.{call_event.CallEvent.CallEvent, class_event.ClassEvent.ClassEvent, command.Command.Command, config.Config.Config}
use Rattle.mc_item.specs.declared.{
  fault.Fault.Fault,
  fault.Fault.TheVariants.HistoryFull,
  item.ClassNo.ClassNo,
  item.Who.Who,
  counts.Moves.Moves,
  reply.Reply.Reply,
}
use Rattle.mc_evidence.specs.{Locks.ClassKeeps, Locks.StripeKeeps, Seen.classes_seen, Seen.stripes_seen}
use Rattle.mc_board.specs.Histories.{list_at}
use Rattle.mc_board.specs.declared.rule.Sight.{Sight}
use Rattle.mc_segment.specs.{ClassState.ClassView}
use Rattle.mc_stripe.specs.{Plan.visible_row, StripeState.Stripe, StripeCalls.KeepsSite}
use Rattle.mc_pull.specs.{Broken.BreaksJuggle, Juggle.IsJuggle, Question.IsClassOf, Question.IsStripeOf, Rounds.Rounds, Rounds.rounds}
use Rattle.mc_pull.specs.declared.looking.Answer.{Answer}
use Rattle.mc_store.specs.{
  Accounts.Enters,
  Accounts.IsOfCommand,
  Accounts.IsOfWalk,
  Accounts.Stretch,
  Commands.IsAnswered,
  Commands.IsCut,
  Callers.HasNoneOf,
  Callers.answered_at,
  Callers.asked_for,
  Callers.juggling_of,
  Callers.limits_of,
  Earned.IsEarned,
  Searches.EntersOnce,
  Searches.IsSearchUpTo,
  Searches.searcher,
  Searches.sight_of,
  Full.IsFullFor,
  Full.LacksPlaces,
  Locked.class_lock,
  Serving.IsShortFor,
}
use Rattle.mc_store.specs.Locked.{setting_of}
use Rattle.mc_store.specs.Hits.{IsAdvancedBy, IsAdvancedTill}
use Rattle.mc_store.specs.{Made.HasNoneMadeBy, Reached.AreJudgedBy, Reached.IsSeenState, Passes.PassView, Passes.next_who, Sides.class_told, Sides.stripe_told}
use Rattle.mc_store.specs.Waking.{MakesActive}
use Rattle.mc_hits.specs.Views.{HandsView}
use Rattle.mc_pull.specs.declared.attempting.Replied.{Replied}

-- a command was answered with this reply, and its caller's history gains one event, the place of the answer; a refusal that the
-- answer names was earned, by what is seen of its class: a search by the same call came before it
pub record IsReplied (config : Config) (who : Who) (command : Command) (moment : ℕ) (s s_new : Stripe) (sight : Sight) (calls calls_new : List CallEvent)
    (reply : Reply) : Type 0 where
  pub place : ℕ
  pub answered : IsAnswered config who command moment s s_new place
  pub reply_is : answered.reply ≡ reply
  pub noted : calls_new ≡ calls ++ answered_at s.site.stripe place ∷ []
  pub earned : IsEarned config s.site sight (record { who = who; command = command; moment = moment; reply = answered.reply; room = answered.room })

-- a command was answered like this, and if its event made an item ACTIVE, this is the item's link
pub record IsRepliedAs (config : Config) (who : Who) (command : Command) (moment : ℕ) (s s_new : Stripe) (sight : Sight) (calls calls_new : List CallEvent)
    (replied : Replied) : Type 0 where
  pub replied_is : IsReplied config who command moment s s_new sight calls calls_new replied.reply
  pub woken : IfSome replied.woken (MakesActive s.site (s.history ++ replied_is.answered.before)
      (record { who = who; command = command; moment = moment; reply = replied_is.answered.reply; room = replied_is.answered.room }))

-- a stripe's history grew in a call: what the pass had seen of it is a beginning of what it was when the lock was taken, and now
-- the pass has seen all of it; it is legal, and each event's partners are in what the pass has seen of the classes
pub record IsSeenGrow (config : Config) (number : ℕ) (before after : Sight) (s s_new : Stripe) : Type 0 where
  pub made_with : IsStripeOf config s
  pub number_is : s.site.stripe ≡ number
  pub site : KeepsSite s s_new
  pub seen : IsPrefix (list_at before.seen number) (stripe_told s.history)
  pub now : list_at after.seen number ≡ stripe_told s_new.history
  pub sound : StripeKeeps (setting_of config) number s_new.history (classes_seen config.stripes (list_at after.seen))

-- a call was refused before it began: its pass is as it was, and `HistoryFull` means that the pass has had all its turns
abbrev pub IsUnbegun : Config → (before after : PassView) → Fault → Type 0
IsUnbegun config before after fault = (after ≡ before) × (fault ≡ HistoryFull → config.max_events ≤ before.turn)

-- a command was answered with this reply at one point of its stripe's growing history, after all that the pass had seen and what
-- other calls made; its caller's history gains two events, the call and the place of the answer, and its account only what the
-- command may make, with one search at most, by states after all that the pass had seen and the stripe's own history
pub record IsRepliedBy (config : Config) (number : ℕ) (before after : PassView) (command : Command) (moment : ℕ) (reply : Reply) : Type 0 where
  pub old : Stripe
  pub new : Stripe
  pub grew : IsSeenGrow config number before.sight after.sight old new
  pub first : HasNoneOf (next_who before) old.history
  pub replied : IsReplied config (next_who before) command moment old new after.sight (before.calls ++ asked_for command moment ∷ []) after.calls reply
  pub account : EntersOnce (searcher config number (next_who before) moment) old command before after

-- a command was broken off by this fault: after what the pass had seen and what other calls made, its stripe's history gains at
-- most what leads up to it, its caller's history just the call, and its account only what the command may make; `HistoryFull`
-- means that a history lacks places for it
pub record IsCutBy (config : Config) (number : ℕ) (before after : PassView) (command : Command) (moment : ℕ) (fault : Fault) : Type 0 where
  pub old : Stripe
  pub new : Stripe
  pub grew : IsSeenGrow config number before.sight after.sight old new
  pub first : HasNoneOf (next_who before) old.history
  pub cut : IsCut config (next_who before) command moment old new
  pub noted : after.calls ≡ before.calls ++ asked_for command moment ∷ []
  pub stretch : Stretch
  pub account : Enters (IsOfCommand config old command moment stretch) before.turn after.sight before.made after.made
  pub search : IsSearchUpTo (searcher config number (next_who before) moment) (visible_row old command moment).need
      (sight_of (searcher config number (next_who before) moment) before.sight old) after.sight stretch
  pub full : fault ≡ HistoryFull → IsFullFor config old new after.sight command moment

-- a class's history grew in a call, from that of `c` to this list: what the pass had seen is a beginning of the first, and now it
-- has seen all of the second; this is lawful, and each event's partner is in what the pass has seen of the stripes
pub record IsSeenGrowOf (config : Config) (class : ClassNo) (before after : Sight) (c : ClassView) (history : List ClassEvent) : Type 0 where
  pub made_with : IsClassOf config c
  pub number_is : c.number ≡ class
  pub seen : IsPrefix (list_at before.seen (class_lock config class)) (class_told c.history)
  pub now : list_at after.seen (class_lock config class) ≡ class_told history
  pub sound : ClassKeeps (setting_of config) class history (stripes_seen (list_at after.seen))

-- a class was juggled, from one history to another, by states of stripes of which `States` holds
abbrev pub IsJuggledWith : (Stripe → Type 0) → Rounds → (before after : List ClassEvent) → Moves → Type 0
IsJuggledWith States r before after moves = (answers : List Answer) × IsJuggle r before answers after moves × AreJudgedBy States answers

-- the same, but a fault ended it: whole steps, and a beginning of the next
abbrev pub IsJuggleCut : (Stripe → Type 0) → Rounds → Fault → (before after : List ClassEvent) → Type 0
IsJuggleCut States r fault before after = (answers : List Answer) × BreaksJuggle r (λ f. Unit {0}) fault before answers after × AreJudgedBy States answers

-- a class went from one history to another: first hits were taken from its queue and advanced, then the rounds of juggling made
-- their surveys and walks, all by states of stripes of which `States` holds
pub record IsUpkept (States : Stripe → Type 0) (r : Rounds) (hands hands_new : HandsView) (before after : List ClassEvent) (moves : Moves) : Type 0 where
  pub advances : List ClassEvent
  pub advanced : IsAdvancedBy States r hands hands_new before (before ++ advances)
  pub own : List ClassEvent
  pub history_is : after ≡ (before ++ advances) ++ own
  pub juggled : IsJuggledWith States r (before ++ advances) ((before ++ advances) ++ own) moves

-- the same, but a fault ended it: at a hit, when all hits before it were advanced, or in the rounds after all hits
abbrev pub IsUpkeepCut : (Stripe → Type 0) → Rounds → (hands hands_new : HandsView) → (before after : List ClassEvent) → Fault → Type 0
IsUpkeepCut States r hands hands_new before after fault =
    IsAdvancedTill States r hands hands_new before after
    ⊎ ((advanced : List ClassEvent) × IsAdvancedBy States r hands hands_new before advanced × IsJuggleCut States r fault advanced after)

-- a class was juggled, after all that the pass had seen of it and what other calls made, by states of stripes after all that it had
-- seen of these; its caller's history gains the call, and its account only events of the class and of stripes
pub record IsJuggledBy (config : Config) (class : ClassNo) (before after : PassView) (moment : ℕ) (moves : Moves) : Type 0 where
  pub old : ClassView
  pub history_new : List ClassEvent
  pub grew : IsSeenGrowOf config class before.sight after.sight old history_new
  pub first : HasNoneMadeBy (next_who before) old.history
  pub upkept : IsUpkept (IsSeenState config.stripes before.sight after.sight) (rounds old (next_who before) moment config) before.hands after.hands
      old.history history_new moves
  pub noted : after.calls ≡ before.calls ++ juggling_of class moment ∷ []
  pub account : Enters (IsOfWalk config class) before.turn after.sight before.made after.made

-- the same, but a fault ended it; `HistoryFull` means that the history of the class or of a stripe has no place left
pub record IsJuggledTill (config : Config) (class : ClassNo) (before after : PassView) (moment : ℕ) (fault : Fault) : Type 0 where
  pub old : ClassView
  pub history_new : List ClassEvent
  pub grew : IsSeenGrowOf config class before.sight after.sight old history_new
  pub first : HasNoneMadeBy (next_who before) old.history
  pub cut : IsUpkeepCut (IsSeenState config.stripes before.sight after.sight) (rounds old (next_who before) moment config) before.hands after.hands
      old.history history_new fault
  pub noted : after.calls ≡ before.calls ++ juggling_of class moment ∷ []
  pub account : Enters (IsOfWalk config class) before.turn after.sight before.made after.made
  pub full : fault ≡ HistoryFull → IsShortFor config class after.sight

-- a call gave a class's history these events and no other, after all that the pass had seen of the class and what other calls made
pub record HasGained (config : Config) (class : ClassNo) (before after : Sight) (who : Who) (events : List ClassEvent) : Type 0 where
  pub old : ClassView
  pub grew : IsSeenGrowOf config class before after old (old.history ++ events)
  pub first : HasNoneMadeBy who old.history

-- a call set a class's limit: the class's history gained these events, the caller's history the call, and the account only events
-- of the class
pub record IsLimitedBy (config : Config) (class : ClassNo) (before after : PassView) (chunks : ℕ) (events : List ClassEvent) : Type 0 where
  pub gained : HasGained config class before.sight after.sight (next_who before) events
  pub noted : after.calls ≡ before.calls ++ limits_of class chunks ∷ []
  pub account : Enters (λ lock place event. lock ≡ class_lock config class) before.turn after.sight before.made after.made

-- the same, but a fault ended it before its event; `HistoryFull` means that the class's history has no place left
pub record IsLimitedTill (config : Config) (class : ClassNo) (before after : PassView) (chunks : ℕ) (fault : Fault) : Type 0 where
  pub limited : IsLimitedBy config class before after chunks []
  pub full : fault ≡ HistoryFull → LacksPlaces config after.sight class 1
