-- What a reader keeps, for which rest of its stream that stands, and how an unfinished rest is named.
use Rattle.std.specs.Prelude.{ℕ, ◌+◌, ◌<◌, ◌≤◌, ◌≡◌, ◌==◌, List, [], ◌∷◌, ◌++◌, Bool, true, false, if◌then◌else◌, Option, Some, None, length}
use Rattle.std.specs.List.{list_any}
use Rattle.mc_proto.specs.{Lines.Lacks, Table.says, Grammar.IsLine, Grammar.Spelt, Grammar.closed}
use Rattle.mc_proto.specs.declared.{request.Limits.Limits, request.Request.Request, request.Rest.Rest, state.State.State}
use Rattle.mc_proto.specs.declared.request.Rest.TheVariants as rests
use Rattle.mc_proto.specs.declared.state.Said.TheVariants as said
use Rattle.mc_proto.specs.declared.state.State.TheVariants.{Line, Block, Skip, Closed, Failed}

-- a reader as contracts see it: its limits, its state, and the bytes that it keeps of an unfinished line
pub record Kept : Type 0 where
  pub limits : Limits
  pub state : State
  pub unread : List ℕ

-- the view of a reader with these limits, this state and these bytes
abbrev pub kept : Limits → State → List ℕ → Kept
kept limits state unread = record { limits = limits; state = state; unread = unread }

-- a reader stands for this rest of its stream: part of a line; a line and part of its block; a line and its block without the
-- `left` last bytes; any rest if it is closed; none if it has failed
abbrev pub StandsForRest : Limits → State → List ℕ → List ℕ → Type 0
StandsForRest limits Line unread rest = (rest ≡ unread) × Lacks 10 unread × (length unread < 65537)
StandsForRest limits (Block s block) unread rest =
    (line : List ℕ) × (rest ≡ line ++ 10 ∷ block) × IsLine line × (says limits line ≡ said.Block s) × (length block < s.count + 2)
StandsForRest limits (Skip s left) unread rest =
    (line block : List ℕ) × (rest ≡ line ++ 10 ∷ block) × IsLine line × (says limits line ≡ said.Skip s) × (length block + left ≡ s.count + 2) × (0 < left)
StandsForRest limits Closed unread rest = Unit {0}
StandsForRest limits Failed unread rest = ⊥

-- whether a line that was too long has closed the reader
abbrev pub is_closed : State → Bool
is_closed Line = false
is_closed (Block s block) = false
is_closed (Skip s left) = false
is_closed Closed = true
is_closed Failed = false

-- the stream so far is spellings of the requests so far, then a rest for which the reader stands; the reader is closed exactly if
-- the requests close it
pub record After (limits : Limits) (state : State) (unread : List ℕ) (stream : List ℕ) (requests : List Request) : Type 0 where
  pub rest : List ℕ
  pub spelt : Spelt limits stream requests rest
  pub stands : StandsForRest limits state unread rest
  pub closed_is : closed requests ≡ is_closed state

-- the bounds of what a reader keeps: no more than a line can have, less than a whole block, nothing if it is closed
abbrev pub IsSoundReader : State → List ℕ → Type 0
IsSoundReader Line unread = length unread < 65537
IsSoundReader (Block s block) unread = (unread ≡ []) × (length block < s.count + 2) × (s.count ≤ 2147483645)
IsSoundReader (Skip s left) unread = (unread ≡ []) × (0 < left) × (left < 2147483648)
IsSoundReader Closed unread = unread ≡ []
IsSoundReader Failed unread = Unit {0}

-- the name of an unfinished line: nothing if it has no bytes
abbrev pub line_rest : List ℕ → Rest
line_rest [] = rests.Nothing
line_rest (b ∷ bs) = rests.Line

-- the name of what a reader has left unfinished
abbrev pub rest_of : State → List ℕ → Rest
rest_of Line unread = line_rest unread
rest_of (Block s block) unread = rests.Block
rest_of (Skip s left) unread = rests.Block
rest_of Closed unread = rests.Nothing
rest_of Failed unread = rests.Nothing

-- the name of a rest: nothing if it is empty or the reader was closed, a line if it has no LF, else a block
abbrev pub rest_name : Bool → List ℕ → Rest
rest_name true rest = rests.Nothing
rest_name false [] = rests.Nothing
rest_name false (b ∷ bs) = if list_any (λ c. c == 10) (b ∷ bs) then rests.Block else rests.Line
