-- What a contract sees of a pass, and the passes of a new store (own).
use Rattle.std.specs.Prelude.{◌≡◌, ℕ, ◌<◌, ◌+◌, ◌++◌, ◌∷◌, List, [], Some, IsSomeAnd, length, slice_get}
use Rattle.mc_item.specs.declared.{call_event.CallEvent.CallEvent, command.Command.Command, config.Config.Config, item.Who.Who}
use Rattle.mc_board.specs.Histories.{blind}
use Rattle.mc_board.specs.declared.{rule.Sight.Sight, rule.Span.Span}
use Rattle.mc_hits.specs.{Rule.AreBefore, Views.HandsView, Views.untouched_hands}
use Rattle.atomic_table.specs.Seated.{TableId}
use Rattle.mc_item.specs.declared.stripe_event.StripeEvent.{StripeEvent}
use Rattle.mc_item.specs.declared.stripe_event.StripeEvent.TheVariants as events
use Rattle.mc_store.specs.declared.placed.Placed.{Placed}
use Rattle.mc_store.specs.Callers.{IsBegunAs, IsPlace, asked_for, turns_of}

-- a caller: its number, its history, and its account: which events it made on the locks of stripes and classes
pub record CallerView : Type 0 where
  pub number : ℕ
  pub calls : List CallEvent
  pub made : List Span

-- a pass: its caller, how many turns (calls) it has had, the caller's history, what it has seen and noted of all locks, the
-- caller's hands in the queues of hits, and the caller's account
pub record PassView : Type 0 where
  pub caller : ℕ
  pub turn : ℕ
  pub calls : List CallEvent
  pub sight : Sight
  pub hands : HandsView
  pub made : List Span

-- the caller of a pass
abbrev pub caller_of : PassView → CallerView
caller_of pass = record { number = pass.caller; calls = pass.calls; made = pass.made }

-- the pass of a caller that has seen and noted this, with these hands
abbrev pub pass_of : CallerView → Sight → HandsView → PassView
pass_of caller sight hands =
    record { caller = caller.number; turn = length (turns_of caller.calls); calls = caller.calls; sight = sight; hands = hands; made = caller.made }

-- who makes a pass's next call: its caller, in its next turn
abbrev pub next_who : PassView → Who
next_who pass = record { caller = pass.caller; turn = pass.turn }

-- the pass, with hands in these queues, of a caller that has had no turn, seen nothing and made no event
abbrev pub new_pass : List TableId → ℕ → PassView
new_pass tables caller = record { caller = caller; turn = 0; calls = []; sight = blind; hands = untouched_hands tables caller; made = [] }

-- a new pass for each caller, in their order
pub record ArePasses (tables : List TableId) (callers : ℕ) (passes : List PassView) : Type 0 where
  pub many : length passes ≡ callers
  pub each : (caller : ℕ) → caller < callers → slice_get passes caller ≡ Some (new_pass tables caller)

-- the event is that this call's command was answered
abbrev pub IsDidBy : Who → StripeEvent → Type 0
IsDidBy who (events.Did did) = did.who ≡ who
IsDidBy who (events.Lost lost) = ⊥
IsDidBy who (events.Cooled cooled) = ⊥

-- the stripe that a place names has, at this place of its history, the event of a caller's command in the turn that it names
abbrev pub IsPlacedIn : ℕ → (ℕ → List StripeEvent) → Placed → Type 0
IsPlacedIn caller stripes placed =
    IsSomeAnd (slice_get (stripes placed.stripe.0) placed.place) (IsDidBy (record { caller = caller; turn = placed.turn }))

-- each command of a caller that was answered has its event at its place, by these histories of the store's stripes
pub record ArePlaced (config : Config) (caller : CallerView) (stripes : ℕ → List StripeEvent) : Type 0 where
  pub each : (placed : Placed) → IsPlace caller.calls placed → (placed.stripe.0 < config.stripes) × IsPlacedIn caller.number stripes placed

-- a pass took its next turn for a call, which these events of the caller's history tell
pub record TookTurn (old new : PassView) (events : List CallEvent) (maker : Who) : Type 0 where
  pub who : maker ≡ next_who old
  pub turn : new ≡ record old { turn = old.turn + 1; calls = old.calls ++ events }
  pub before : AreBefore old.turn new.hands.offers

-- a caller's last event is that it asked for this command at this moment, in this turn
pub record HasAsked (caller : CallerView) (who : Who) (command : Command) (moment : ℕ) : Type 0 where
  pub number : who.caller ≡ caller.number
  pub before : List CallEvent
  pub last : caller.calls ≡ before ++ asked_for command moment ∷ []
  pub turn : length (turns_of before) ≡ who.turn

-- who makes a caller's next call, by the turns that it has had
abbrev pub next_call : CallerView → Who
next_call caller = record { caller = caller.number; turn = length (turns_of caller.calls) }

-- a caller's history has just this call in this turn, made at this moment
pub record HasCalled (caller : CallerView) (who : Who) (moment : ℕ) (call : CallEvent) : Type 0 where
  pub number : who.caller ≡ caller.number
  pub begun : IsBegunAs caller.calls who.turn moment call
