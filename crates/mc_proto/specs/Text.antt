-- The texts of replies (protocol.txt; the texts of directives and of two faults are this project's own). Each line ends in CR LF.
use Rattle.std.specs.Prelude.{ℕ, ◌+◌, ◌==◌, ◌≡◌, List, [], ◌∷◌, ◌++◌, Bool, if◌then◌else◌, length, codes, decimal}
use Rattle.mc_item.specs.declared.{counts.Histogram.Histogram, counts.Moves.Moves, item.ClassNo.ClassNo, reply.Reply.Reply}
use Rattle.mc_item.specs.declared.reply.Reply.TheVariants as replies
use Rattle.mc_proto.specs.declared.request.LineFault.{LineFault}
use Rattle.mc_proto.specs.declared.request.LineFault.TheVariants as faults

-- CR LF, the end of a line
abbrev pub crlf : List ℕ
crlf = 13 ∷ 10 ∷ []

-- the text of a reply; nothing for a miss, and nothing for a value, which is printed with its key
abbrev pub reply_text : Reply → List ℕ
reply_text (replies.Value flags value cas) = []
reply_text replies.Miss = []
reply_text replies.Stored = codes "STORED\r\n"
reply_text replies.NotStored = codes "NOT_STORED\r\n"
reply_text replies.Exists = codes "EXISTS\r\n"
reply_text replies.NotFound = codes "NOT_FOUND\r\n"
reply_text replies.Deleted = codes "DELETED\r\n"
reply_text replies.Touched = codes "TOUCHED\r\n"
reply_text (replies.Number number) = decimal number ++ crlf
reply_text replies.NonNumeric = codes "CLIENT_ERROR cannot increment or decrement non-numeric value\r\n"
reply_text replies.TooLarge = codes "SERVER_ERROR object too large for cache\r\n"
reply_text replies.NoRoom = codes "SERVER_ERROR out of memory storing object\r\n"
reply_text replies.NoSpace = codes "SERVER_ERROR out of memory\r\n"

-- the text of a refused line or block
abbrev pub fault_text : LineFault → List ℕ
fault_text faults.Error = codes "ERROR\r\n"
fault_text faults.Format = codes "CLIENT_ERROR bad command line format\r\n"
fault_text faults.Chunk = codes "CLIENT_ERROR bad data chunk\r\n"
fault_text faults.Delta = codes "CLIENT_ERROR invalid numeric delta argument\r\n"
fault_text faults.LineTooLong = codes "CLIENT_ERROR line too long\r\n"
fault_text faults.Exptime = codes "CLIENT_ERROR invalid exptime argument\r\n"

-- the line after the values of a get
abbrev pub end_text : List ℕ
end_text = codes "END\r\n"

-- the beginning of a value's text: VALUE and the key
abbrev pub value_head : List ℕ → List ℕ
value_head key = codes "VALUE " ++ key

-- a space and the cas number, if it was asked for
abbrev pub cas_text : Bool → ℕ → List ℕ
cas_text with_cas cas = if with_cas then codes " " ++ decimal cas else []

-- the text of a value after its key: flags, number of bytes, the cas number for gets, and the value in a line of its own
abbrev pub value_tail : Reply → Bool → List ℕ
value_tail (replies.Value flags value cas) with_cas =
    codes " " ++ decimal flags ++ codes " " ++ decimal (length value) ++ cas_text with_cas cas ++ crlf ++ value ++ crlf
value_tail _ with_cas = []

-- the text for a key of get or gets: VALUE key flags bytes, and the value in a line of its own; nothing if the reply is no value
abbrev pub value_text : List ℕ → Reply → Bool → List ℕ
value_text key (replies.Value flags value cas) with_cas = value_head key ++ value_tail (replies.Value flags value cas) with_cas
value_text key _ with_cas = []

-- the texts for the keys of a get in order, each by its reply
abbrev pub values_text : Bool → List (List ℕ) → List Reply → List ℕ
values_text with_cas (key ∷ keys) (reply ∷ rs) = value_text key reply with_cas ++ values_text with_cas keys rs
values_text with_cas [] rs = []
values_text with_cas (key ∷ keys) [] = []

-- the text of a command's one reply
abbrev pub one_text : List Reply → List ℕ
one_text [] = []
one_text (reply ∷ rs) = reply_text reply

-- the text of `%juggle`: how many entries were reclaimed, and how many moved (own)
abbrev pub moves_text : Moves → List ℕ
moves_text moves = codes "JUGGLED " ++ decimal moves.reclaimed ++ codes " " ++ decimal moves.moved ++ crlf

-- the text of `%chunks`: the slab class, and its new limit of chunks (own)
abbrev pub chunks_text : ClassNo → ℕ → List ℕ
chunks_text class n = codes "CHUNKS " ++ decimal class.0 ++ codes " " ++ decimal n ++ crlf

-- the line of a minute: how many entries have that many minutes left to live; nothing if that is 0
abbrev pub minute_text : ℕ → ℕ → List ℕ
minute_text minute n = if n == 0 then [] else codes "MINUTE " ++ decimal minute ++ codes " " ++ decimal n ++ crlf

-- the lines of the minutes from this one on
abbrev pub minutes_text : ℕ → List ℕ → List ℕ
minutes_text minute [] = []
minutes_text minute (n ∷ ns) = minute_text minute n ++ minutes_text (minute + 1) ns

-- the first line of the text of `%crawl`: all counts but those by minutes
abbrev pub counts_text : Histogram → List ℕ
counts_text h =
    codes "CRAWL " ++ decimal h.seen ++ codes " " ++ decimal h.reclaimed ++ codes " " ++ decimal h.passed ++ codes " " ++ decimal h.gone
    ++ codes " " ++ decimal h.no_expiry ++ codes " " ++ decimal h.hour_plus ++ crlf

-- the text of `%crawl`: its counts, its minutes, and END (own)
abbrev pub histogram_text : Histogram → List ℕ
histogram_text h = counts_text h ++ minutes_text 0 h.minutes ++ end_text

-- the new text is the old one followed by a beginning of a text
abbrev pub IsBeginning : List ℕ → List ℕ → List ℕ → Type 0
IsBeginning old new text = (front back : List ℕ) × (text ≡ front ++ back) × (new ≡ old ++ front)
