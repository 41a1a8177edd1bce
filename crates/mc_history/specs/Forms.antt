-- The two forms of a history: pieces that keep its events, or a count of events that were let go.
use Rattle.std.specs.Prelude.{true, false, ⊤, map}
use Rattle.mc_history.specs.{Events.Events, Pieces.events_of, Pieces.room_of, Pieces.ArePiecesKept}
use Rattle.mc_history.specs.declared.{history.Form.Form, history.Form.TheVariants.Kept, history.Form.TheVariants.LetGo}

-- a history of either form, as contracts see it
abbrev pub history_of : {E S : Type 0} → (S → E) → Form E S → Events E
history_of event_of (Kept pieces) = record { items = events_of pieces; room = room_of pieces; kept = true }
history_of event_of (LetGo events) = record { items = map event_of events.items; room = events.room; kept = false }

-- the form is sound: if it keeps events, its pieces are as `ArePiecesKept` says
abbrev pub IsHeld : {E S : Type 0} → Form E S → Type 0
IsHeld (Kept pieces) = ArePiecesKept pieces
IsHeld (LetGo _) = ⊤
