-- The grammar: which bytes spell a request, and what a stream reads as (protocol.txt). (own) marks a rule of this project, such
-- as those for refused lines.
use Rattle.std.specs.Prelude.{ℕ, ◌+◌, ◌^◌, ◌<◌, ◌≤◌, ◌≡◌, ◌⊎◌, List, [], ◌∷◌, ◌++◌, Bool, true, false, if◌then◌else◌, length, take, drop, nat_eq}
use Rattle.std.specs.Cmp.Lexicographic.{pointwise}
use Rattle.mc_item.specs.declared.command.Command.TheVariants as commands
use Rattle.mc_item.specs.declared.item.ClassNo.{ClassNo}
use Rattle.mc_proto.specs.{Lines.Lacks, Table.says}
use Rattle.mc_proto.specs.declared.{request.Limits.Limits, request.LineFault.LineFault, request.Request.Request, request.Target.Target}
use Rattle.mc_proto.specs.declared.{request.Target.TheVariants.All, request.Target.TheVariants.Class, state.Said.Said, state.Start.Start}
use Rattle.mc_proto.specs.declared.request.LineFault.TheVariants.{Error, Format, Chunk, Delta, LineTooLong, Exptime}
use Rattle.mc_proto.specs.declared.request.Request.TheVariants.{Get, Gat, One, Bad, At, Next, Juggle, Crawl, Chunks, Quit}
use Rattle.mc_proto.specs.declared.state.Said.TheVariants.{Whole, Block, Skip}

-- how many bytes follow a line that says this: none, or its block and CR LF
abbrev pub wanted : Said → ℕ
wanted (Whole r) = 0
wanted (Block s) = s.count + 2
wanted (Skip s) = s.count + 2

-- the request of a kept block: it stores all bytes but the last two if these are CR LF, and otherwise it is refused (own)
abbrev pub stored : Start → List ℕ → Request
stored s block =
    if pointwise nat_eq (drop s.count block) (13 ∷ 10 ∷ [])
    then One (commands.Store s.verb s.key s.flags s.exptime (take s.count block)) s.quiet
    else Bad Chunk s.quiet

-- the request of a skipped block: a storage command for an item that no class can hold, whatever the bytes are (own)
abbrev pub skipped : Start → Request
skipped s = One (commands.Huge s.verb s.key) s.quiet

-- the request that a line and its block ask for
abbrev pub request_asked : Said → List ℕ → Request
request_asked (Whole r) block = r
request_asked (Block s) block = stored s block
request_asked (Skip s) block = skipped s

-- a line without its LF: it has no LF in it, and at most 65,536 bytes (own)
pub record IsLine (line : List ℕ) : Type 0 where
  pub one : Lacks 10 line
  pub short : length line < 65537

-- the bytes spell the request as a line, its LF, and the block that the line asks for
pub record ByLine (limits : Limits) (bytes : List ℕ) (r : Request) : Type 0 where
  pub line : List ℕ
  pub block : List ℕ
  pub whole : bytes ≡ line ++ 10 ∷ block
  pub is_line : IsLine line
  pub long : length block ≡ wanted (says limits line)
  pub means : r ≡ request_asked (says limits line) block

-- the bytes spell the request as a line that is too long: they are 65,537 without an LF, and the request isn't quiet (own)
pub record ByLength (bytes : List ℕ) (r : Request) : Type 0 where
  pub one : Lacks 10 bytes
  pub long : length bytes ≡ 65537
  pub means : r ≡ Bad LineTooLong false

-- these bytes spell this request, as a line and its block or as a line that is too long
abbrev pub Spells : Limits → List ℕ → Request → Type 0
Spells limits bytes r = ByLine limits bytes r ⊎ ByLength bytes r

-- whether a fault closes the reader, which then reads nothing more
abbrev pub closing : LineFault → Bool
closing LineTooLong = true
closing Error = false
closing Format = false
closing Chunk = false
closing Delta = false
closing Exptime = false

-- whether a request closes the reader
abbrev pub closes : Request → Bool
closes (Bad why quiet) = closing why
closes (Get keys with_cas) = false
closes (Gat exptime keys with_cas) = false
closes (One command quiet) = false
closes (At moment) = false
closes Next = false
closes (Juggle target) = false
closes (Crawl target) = false
closes (Chunks class n) = false
closes Quit = false

-- whether one of these requests closes the reader
abbrev pub closed : List Request → Bool
closed [] = false
closed (r ∷ rs) = if closes r then true else closed rs

-- the stream is a spelling of each request, in order, and then the rest; no request follows one that closes the reader
abbrev pub Spelt : Limits → List ℕ → List Request → List ℕ → Type 0
Spelt limits stream [] rest = stream ≡ rest
Spelt limits stream (r ∷ rs) rest =
    (bytes more : List ℕ) × (stream ≡ bytes ++ more) × Spells limits bytes r × (closes r ≡ true → rs ≡ []) × Spelt limits more rs rest

-- no beginning of the rest spells a request
abbrev pub BeginsNone : Limits → List ℕ → Type 0
BeginsNone limits rest = (bytes more : List ℕ) (r : Request) → rest ≡ bytes ++ more → Spells limits bytes r → ⊥

-- the stream reads as these requests and this rest: it spells the requests, and no beginning of the rest spells one more, unless
-- a request closed the reader
pub record Reads (limits : Limits) (stream : List ℕ) (requests : List Request) (rest : List ℕ) : Type 0 where
  pub spelt : Spelt limits stream requests rest
  pub all : closed requests ≡ false → BeginsNone limits rest

-- a slab class exists: its number is from 1 to the number of classes
abbrev pub IsAmong : Limits → ClassNo → Type 0
IsAmong limits class = (1 ≤ class.0) × (class.0 ≤ limits.classes)

-- the slab classes that a directive names exist: all, or one from 1 to the number of classes
abbrev pub AreAmong : Limits → Target → Type 0
AreAmong limits All = Unit {0}
AreAmong limits (Class class) = IsAmong limits class

-- a request sets no time above 2^62 and no limit of chunks but 1 to 2^20, and names only slab classes that exist
abbrev pub IsModerate : Limits → Request → Type 0
IsModerate limits (At moment) = moment ≤ 2 ^ 62
IsModerate limits (Juggle target) = AreAmong limits target
IsModerate limits (Crawl target) = AreAmong limits target
IsModerate limits (Chunks class n) = IsAmong limits class × (1 ≤ n) × (n ≤ 2 ^ 20)
IsModerate limits (Get keys with_cas) = Unit {0}
IsModerate limits (Gat exptime keys with_cas) = Unit {0}
IsModerate limits (One command quiet) = Unit {0}
IsModerate limits (Bad why quiet) = Unit {0}
IsModerate limits Next = Unit {0}
IsModerate limits Quit = Unit {0}

-- what a line says is in bounds: its request doesn't close the reader and is moderate, its block has at most 2,147,483,645 bytes
abbrev pub IsFine : Limits → Said → Type 0
IsFine limits (Whole r) = (closes r ≡ false) × IsModerate limits r
IsFine limits (Block s) = s.count ≤ 2147483645
IsFine limits (Skip s) = s.count ≤ 2147483645
