-- The table of request lines, and the rule that reads a line by it (protocol.txt, "Commands"). (own) marks a rule of this
-- project. The directives are its own too, and which fault comes first.
use Rattle.std.specs.Prelude.{ℕ, ◌+◌, List, [], ◌∷◌, Bool, true, false, if◌then◌else◌, Option, Some, None, length, nat_lt, codes, ℤ}
use Rattle.std.specs.{List.list_all, Option.option_map, Option.unwrap_or}
use Rattle.mc_item.specs.declared.{command.Command.Command, command.Verb.Verb}
use Rattle.mc_item.specs.declared.command.Command.TheVariants.{Incr, Decr, Touch, Delete}
use Rattle.mc_item.specs.declared.command.Verb.TheVariants.{Set, Add, Replace, Cas, Append, Prepend}
use Rattle.mc_proto.specs.Kinds.{Kind, Value, value, fault_of_kind}
use Rattle.mc_proto.specs.Kinds.{Key, Flags, Exptime, Bytes, CasNumber, Delta, NewExptime, Moment, Classes, OneClass, ChunkLimit}
use Rattle.mc_proto.specs.Lines.{is_key, is_word, tokens, no_cr}
use Rattle.mc_proto.specs.declared.{request.Limits.Limits, request.LineFault.LineFault, request.LineFault.TheVariants.Error}
use Rattle.mc_proto.specs.declared.{request.LineFault.TheVariants.Format, state.Said.Said, state.Start.Start}
use Rattle.mc_proto.specs.declared.request.Request.TheVariants.{Get, Gat, One, Bad, At, Next, Juggle, Crawl, Chunks, Quit}
use Rattle.mc_proto.specs.declared.state.Said.TheVariants.{Whole, Block, Skip}

-- what may follow the tokens that are due: nothing, perhaps the word noreply, or one or more keys
pub data End : Type 0 where
  Nothing : End
  Noreply : End
  Keys : End

-- the type of what a line asks for: a function of its tokens' values, then of whether it is quiet or of the keys at its end
abbrev pub Asks : List Kind → End → Type 0
Asks (kind ∷ kinds) end = Value kind → Asks kinds end
Asks [] Nothing = Said
Asks [] Noreply = Bool → Said
Asks [] Keys = List (List ℕ) → Said

-- a row of the table: a verb, the kinds of tokens that are due after it, the end of its line, and what it asks for
pub data LineRow : Type 0 where
  Line : List ℕ → (kinds : List Kind) → (end : End) → Asks kinds end → LineRow

-- what a refused line says: its fault, quiet or not
abbrev pub bad : LineFault → Bool → Said
bad why quiet = Whole (Bad why quiet)

-- what an empty line, an unknown verb or a wrong number of tokens says; it is never quiet (own)
abbrev pub no_line : Said
no_line = bad Error false

-- what the line of a whole command says
abbrev pub one : Bool → Command → Said
one quiet command = Whole (One command quiet)

-- what a good storage line says: its block is kept, or skipped if 64 bytes, key and value exceed the largest slab class (own)
abbrev pub begun : Limits → Start → Said
begun limits s = if nat_lt limits.largest (64 + length s.key + s.count) then Skip s else Block s

-- what a good storage line says, by the values of its tokens
abbrev pub store : Limits → Verb → List ℕ → ℕ → ℤ → ℕ → Bool → Said
store limits verb key flags exptime count quiet =
    begun limits (record { verb = verb; key = key; flags = flags; exptime = exptime; count = count; quiet = quiet })

-- what a good line of incr (if `up` is true) or decr says, by the values of its tokens
abbrev pub count : Bool → List ℕ → ℕ → Bool → Said
count up key delta quiet = one quiet (if up then Incr key delta else Decr key delta)

-- the table of all lines, with their verbs in lower case
abbrev pub table : Limits → List LineRow
table limits =
    Line (codes "get") [] Keys (λ keys. Whole (Get keys false))
    ∷ Line (codes "gets") [] Keys (λ keys. Whole (Get keys true))
    ∷ Line (codes "gat") (NewExptime ∷ []) Keys (λ e keys. Whole (Gat e keys false))
    ∷ Line (codes "gats") (NewExptime ∷ []) Keys (λ e keys. Whole (Gat e keys true))
    ∷ Line (codes "set") (Key ∷ Flags ∷ Exptime ∷ Bytes ∷ []) Noreply (store limits Set)
    ∷ Line (codes "add") (Key ∷ Flags ∷ Exptime ∷ Bytes ∷ []) Noreply (store limits Add)
    ∷ Line (codes "replace") (Key ∷ Flags ∷ Exptime ∷ Bytes ∷ []) Noreply (store limits Replace)
    ∷ Line (codes "cas") (Key ∷ Flags ∷ Exptime ∷ Bytes ∷ CasNumber ∷ []) Noreply (λ key flags e n unique. store limits (Cas unique) key flags e n)
    ∷ Line (codes "append") (Key ∷ Flags ∷ Exptime ∷ Bytes ∷ []) Noreply (store limits Append)
    ∷ Line (codes "prepend") (Key ∷ Flags ∷ Exptime ∷ Bytes ∷ []) Noreply (store limits Prepend)
    ∷ Line (codes "incr") (Key ∷ Delta ∷ []) Noreply (count true)
    ∷ Line (codes "decr") (Key ∷ Delta ∷ []) Noreply (count false)
    ∷ Line (codes "touch") (Key ∷ NewExptime ∷ []) Noreply (λ key e quiet. one quiet (Touch key e))
    ∷ Line (codes "delete") (Key ∷ []) Noreply (λ key quiet. one quiet (Delete key))
    ∷ Line (codes "%at") (Moment ∷ []) Nothing (λ moment. Whole (At moment))
    ∷ Line (codes "%juggle") (Classes ∷ []) Nothing (λ target. Whole (Juggle target))
    ∷ Line (codes "%crawl") (Classes ∷ []) Nothing (λ target. Whole (Crawl target))
    ∷ Line (codes "%chunks") (OneClass ∷ ChunkLimit ∷ []) Nothing (λ class n. Whole (Chunks class n))
    ∷ Line (codes "%next") [] Nothing (Whole Next)
    ∷ Line (codes "quit") [] Nothing (Whole Quit)
    ∷ []

-- whether a line with these tokens after its verb is quiet, or none if the tokens are too few or too many
abbrev pub quiet_of : List Kind → End → List (List ℕ) → Option Bool
quiet_of (kind ∷ kinds) end [] = None
quiet_of (kind ∷ kinds) end (token ∷ args) = quiet_of kinds end args
quiet_of [] Keys [] = None
quiet_of [] Keys (key ∷ keys) = Some false
quiet_of [] Noreply (token ∷ []) = if is_word token (codes "noreply") then Some true else None
quiet_of [] end [] = Some false
quiet_of [] end (token ∷ args) = None

-- what tokens that must be of these kinds say: the first malformed one makes the fault, and one bad key of many refuses all (own)
abbrev pub kinds_say : Limits → Bool → (kinds : List Kind) → (end : End) → Asks kinds end → List (List ℕ) → Said
kinds_say limits quiet (kind ∷ kinds) end asks [] = no_line
kinds_say limits quiet (kind ∷ kinds) end asks (token ∷ args) =
    unwrap_or (option_map (λ v. kinds_say limits quiet kinds end (asks v) args) (value limits kind token)) (bad (fault_of_kind kind) quiet)
kinds_say limits quiet [] Nothing asks args = asks
kinds_say limits quiet [] Noreply asks args = asks quiet
kinds_say limits quiet [] Keys asks args = if list_all is_key args then asks args else bad Format quiet

-- what the tokens after a verb say by its row; their number is checked first
abbrev pub row_says : Limits → (kinds : List Kind) → (end : End) → Asks kinds end → List (List ℕ) → Said
row_says limits kinds end asks args = unwrap_or (option_map (λ quiet. kinds_say limits quiet kinds end asks args) (quiet_of kinds end args)) no_line

-- what a verb and the tokens after it say by the first of these rows that has the verb
abbrev pub rows_say : Limits → List LineRow → List ℕ → List (List ℕ) → Said
rows_say limits [] verb args = no_line
rows_say limits (Line word kinds end asks ∷ rows) verb args = if is_word verb word then row_says limits kinds end asks args else rows_say limits rows verb args

-- what the tokens of a line say; the first one is the verb
abbrev pub tokens_say : Limits → List (List ℕ) → Said
tokens_say limits [] = no_line
tokens_say limits (verb ∷ args) = rows_say limits (table limits) verb args

-- what a line without its LF says; one CR at its end is dropped
unfoldable pub says : Limits → List ℕ → Said
says limits line = tokens_say limits (tokens (no_cr line))
