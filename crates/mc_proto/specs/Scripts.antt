-- The scripts of an input: a line `%next` that comes where a command is due begins the next script (this project's own).
use Rattle.std.specs.Prelude.{◌≡◌, ◌<◌, ◌≤◌, ◌⊎◌, List, [], ◌∷◌, ◌++◌, ℕ, Bool, true, false, Option, Some, None, All, length, take}
use Rattle.mc_proto.specs.{Lines.Lacks, Grammar.Spells, Grammar.Spelt, Grammar.Reads, Grammar.closes, Grammar.closed}
use Rattle.mc_proto.specs.declared.{request.Limits.Limits, request.Request.Request, splitting.First.First, splitting.First.TheVariants.More}
use Rattle.mc_proto.specs.declared.{splitting.First.TheVariants.Begins, splitting.First.TheVariants.Last, state.Said.Said}
use Rattle.mc_proto.specs.declared.request.Request.TheVariants.{Get, Gat, One, Bad, At, Next, Juggle, Crawl, Chunks, Quit}
use Rattle.mc_proto.specs.declared.state.Said.TheVariants as said

-- a request other than `%next`
abbrev pub IsOther : Request → Type 0
IsOther r = r ≡ Next → ⊥

-- the bytes are a whole script: they spell requests without a rest, and no request begins the next script or closes the reader
pub record IsWhole (limits : Limits) (script : List ℕ) : Type 0 where
  pub requests : List Request
  pub spelt : Spelt limits script requests []
  pub others : All IsOther requests
  pub reads_on : closed requests ≡ false

-- the stream is the last script: it reads as requests of which none begins the next script
pub record IsLast (limits : Limits) (stream : List ℕ) : Type 0 where
  pub requests : List Request
  pub rest : List ℕ
  pub reads : Reads limits stream requests rest
  pub others : All IsOther requests

-- a stream is a whole script, a line that begins the next one, and the rest
pub record IsCutAtNext (limits : Limits) (stream script rest : List ℕ) : Type 0 where
  pub line : List ℕ
  pub is : stream ≡ script ++ (line ++ rest)
  pub whole : IsWhole limits script
  pub next : Spells limits line Next

-- the scripts of a stream: each line that begins the next script cuts it and is part of none, and the last script is the rest
abbrev pub AreScripts : Limits → List ℕ → List (List ℕ) → Type 0
AreScripts limits stream [] = ⊥
AreScripts limits stream (script ∷ []) = (script ≡ stream) × IsLast limits stream
AreScripts limits stream (script ∷ next ∷ more) = (rest : List ℕ) × IsCutAtNext limits stream script rest × AreScripts limits rest (next ∷ more)

-- the requests of all scripts in order, with a `Next` between two scripts
abbrev pub with_next : List (List Request) → List Request
with_next [] = []
with_next (requests ∷ []) = requests
with_next (requests ∷ next ∷ more) = requests ++ Next ∷ with_next (next ∷ more)

-- each script, read on its own, reads as its requests, and only the last one may have a rest
abbrev pub ReadAlone : Limits → List (List ℕ) → List (List Request) → List ℕ → Type 0
ReadAlone limits [] requests rest = ⊥
ReadAlone limits (script ∷ scripts) [] rest = ⊥
ReadAlone limits (script ∷ []) (requests ∷ []) rest = Reads limits script requests rest
ReadAlone limits (script ∷ []) (requests ∷ next ∷ more) rest = ⊥
ReadAlone limits (script ∷ second ∷ scripts) (requests ∷ []) rest = ⊥
ReadAlone limits (script ∷ second ∷ scripts) (requests ∷ next ∷ more) rest = Reads limits script requests []
    × ReadAlone limits (second ∷ scripts) (next ∷ more) rest

-- a stream begins with this: a request of n bytes after which the script goes on; a line of n bytes that begins the next script;
-- or the last script, which is all of it
abbrev pub StandsFirst : Limits → List ℕ → First → Type 0
StandsFirst limits stream (More n) = (0 < n) × (n ≤ length stream) × ((r : Request) × Spells limits (take n stream) r × (closes r ≡ false) × IsOther r)
StandsFirst limits stream (Begins n) = (0 < n) × (n ≤ length stream) × Spells limits (take n stream) Next
StandsFirst limits stream Last = IsLast limits stream

-- the number of bytes of what a stream begins with; 0 for the last script
abbrev pub first_len : First → ℕ
first_len (More n) = n
first_len (Begins n) = n
first_len Last = 0

-- the first line of a stream asks for this: a stream with enough bytes begins with it, and any other one is the last script
abbrev pub AsksFirst : Limits → List ℕ → First → Type 0
AsksFirst limits stream f = (first_len f ≤ length stream → StandsFirst limits stream f) × (length stream < first_len f → IsLast limits stream)

-- every stream that begins with these bytes asks for this with its first line; none if the bytes are at most 65,536 without an LF
abbrev pub LineAsks : Limits → List ℕ → Option First → Type 0
LineAsks limits bytes None = Lacks 10 bytes × (length bytes ≤ 65536)
LineAsks limits bytes (Some f) = (more : List ℕ) → AsksFirst limits (bytes ++ more) f

-- whether a request begins the next script
abbrev pub is_next : Request → Bool
is_next Next = true
is_next (Get keys with_cas) = false
is_next (Gat exptime keys with_cas) = false
is_next (One command quiet) = false
is_next (Bad why quiet) = false
is_next (At moment) = false
is_next (Juggle target) = false
is_next (Crawl target) = false
is_next (Chunks class n) = false
is_next Quit = false

-- a script goes on right after a line that says this: a whole request that neither begins the next script nor closes the reader
abbrev pub GoesOn : Said → Type 0
GoesOn (said.Whole r) = (closes r ≡ false) × (is_next r ≡ false)
GoesOn (said.Block s) = ⊥
GoesOn (said.Skip s) = ⊥

-- one of d, g, i and t: with these begin delete, decr, get, gets, incr and touch, and no verb of a block or a directive
abbrev pub IsPlain : ℕ → Type 0
IsPlain b = (b ≡ 100) ⊎ (b ≡ 103) ⊎ (b ≡ 105) ⊎ (b ≡ 116)

-- whether a line says that the next script begins
abbrev pub says_next : Said → Bool
says_next (said.Whole r) = is_next r
says_next (said.Block s) = false
says_next (said.Skip s) = false
