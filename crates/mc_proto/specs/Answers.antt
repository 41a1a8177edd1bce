-- The answers to the calls of a request, and the text that they print (protocol.txt; the texts of directives are this project's).
use Rattle.std.specs.Prelude.{ℕ, ◌+◌, List, [], ◌∷◌, ◌++◌, if◌then◌else◌}
use Rattle.mc_item.specs.Counts.{added, no_counts}
use Rattle.mc_item.specs.declared.{counts.Histogram.Histogram, counts.Moves.Moves, reply.Reply.Reply}
use Rattle.mc_proto.specs.Text.{chunks_text, end_text, fault_text, histogram_text, moves_text, one_text, values_text}
use Rattle.mc_proto.specs.declared.request.Request.{Request}
use Rattle.mc_proto.specs.declared.request.Request.TheVariants as requests

-- the answer to a call: a command's reply, the maintainer's counts of a class (reclaimed and moved), the crawler's histogram, or
-- that a class's limit was set
pub data Answer : Type 0 where
  Replied : Reply → Answer
  Moved : Moves → Answer
  Counted : Histogram → Answer
  Limited : Answer

-- the replies among answers, in order
abbrev pub replies_of : List Answer → List Reply
replies_of [] = []
replies_of (Replied reply ∷ more) = reply ∷ replies_of more
replies_of (Moved moves ∷ more) = replies_of more
replies_of (Counted histogram ∷ more) = replies_of more
replies_of (Limited ∷ more) = replies_of more

-- the sum of two counts of moves
abbrev pub moves_sum : Moves → Moves → Moves
moves_sum first second = record { reclaimed = first.reclaimed + second.reclaimed; moved = first.moved + second.moved }

-- the sum of the moves among answers
abbrev pub moves_of : List Answer → Moves
moves_of [] = record { reclaimed = 0; moved = 0 }
moves_of (Replied reply ∷ more) = moves_of more
moves_of (Moved moves ∷ more) = moves_sum moves (moves_of more)
moves_of (Counted histogram ∷ more) = moves_of more
moves_of (Limited ∷ more) = moves_of more

-- the sum of the histograms among answers
abbrev pub counts_of : List Answer → Histogram
counts_of [] = no_counts
counts_of (Replied reply ∷ more) = counts_of more
counts_of (Moved moves ∷ more) = counts_of more
counts_of (Counted histogram ∷ more) = added histogram (counts_of more)
counts_of (Limited ∷ more) = counts_of more

-- the text that a request prints, by the answers to its calls; nothing if the request is quiet, or is `%at`, `%next` or `quit`
abbrev pub text_of : Request → List Answer → List ℕ
text_of (requests.Get keys with_cas) answers = values_text with_cas keys (replies_of answers) ++ end_text
text_of (requests.Gat exptime keys with_cas) answers = values_text with_cas keys (replies_of answers) ++ end_text
text_of (requests.One command quiet) answers = if quiet then [] else one_text (replies_of answers)
text_of (requests.Bad why quiet) answers = if quiet then [] else fault_text why
text_of (requests.Juggle target) answers = moves_text (moves_of answers)
text_of (requests.Crawl target) answers = histogram_text (counts_of answers)
text_of (requests.Chunks class n) answers = chunks_text class n
text_of (requests.At moment) answers = []
text_of requests.Next answers = []
text_of requests.Quit answers = []
