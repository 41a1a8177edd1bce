-- Lines, their tokens, and what tokens stand for: words, keys, numbers, exptimes and slab classes (protocol.txt). (own) marks a
-- rule of this project, such as the limits.
use Rattle.std.specs.Prelude.{ℕ, ◌-◌, ◌<◌, ◌≡◌, ◌==◌, ◌&&◌, List, [], ◌∷◌, ◌++◌, Bool, true, false, if◌then◌else◌, Option, Some, None, length, get_or, take}
use Rattle.std.specs.Prelude.{nat_lt, nat_le, nat_eq, is_none, codes, ℤ, pos, neg_ℤ}
use Rattle.std.specs.{Cmp.Lexicographic.pointwise, List.list_all, Option.option_map}
use Rattle.mc_item.specs.{Key.key_fault_of, Measure.is_digit, Measure.number_of}
use Rattle.mc_item.specs.declared.item.ClassNo.{ClassNo}
use Rattle.mc_proto.specs.declared.{request.Limits.Limits, request.Target.Target, request.Target.TheVariants.All, request.Target.TheVariants.Class}

-- none of the bytes is b
abbrev pub Lacks : ℕ → List ℕ → Type 0
Lacks b [] = Unit {0}
Lacks b (c ∷ cs) = (c ≡ b → ⊥) × Lacks b cs

-- no % is directly followed by an n, and if a % comes directly before the bytes, they don't begin with n
abbrev pub LacksNextBehind : Bool → List ℕ → Type 0
LacksNextBehind after [] = Unit {0}
LacksNextBehind after (b ∷ bs) = (after ≡ true → b ≡ 110 → ⊥) × LacksNextBehind (b == 37) bs

-- no % is directly followed by an n, as it is in `%next`
abbrev pub LacksNext : List ℕ → Type 0
LacksNext bytes = LacksNextBehind false bytes

-- whether a % is the last byte, or comes before the bytes if they are empty
abbrev pub is_after : Bool → List ℕ → Bool
is_after after [] = after
is_after after (b ∷ bs) = is_after (b == 37) bs

-- the line without one CR at its end
abbrev pub no_cr : List ℕ → List ℕ
no_cr line = if get_or line (length line - 1) 0 == 13 then take (length line - 1) line else line

-- the token that ends here, or no token if it has no bytes
abbrev pub ended : List ℕ → List (List ℕ)
ended [] = []
ended (b ∷ bs) = (b ∷ bs) ∷ []

-- the tokens of a line whose first token begins with these bytes; each space ends a token
abbrev pub tokens_from : List ℕ → List ℕ → List (List ℕ)
tokens_from token [] = ended token
tokens_from token (b ∷ bs) = if b == 32 then ended token ++ tokens_from [] bs else tokens_from (token ++ b ∷ []) bs

-- the tokens of a line: the longest runs of bytes other than the space
abbrev pub tokens : List ℕ → List (List ℕ)
tokens line = tokens_from [] line

-- each of the bytes is a space
abbrev pub AreSpaces : List ℕ → Type 0
AreSpaces [] = Unit {0}
AreSpaces (b ∷ bs) = (b ≡ 32) × AreSpaces bs

-- a line is spaces or none, then this token, then this rest: the token has one byte or more and no space, and the rest is empty
-- or begins with a space
pub record BeginsWith (line token rest : List ℕ) : Type 0 where
  pub spaces : List ℕ
  pub whole : line ≡ spaces ++ token ++ rest
  pub blank : AreSpaces spaces
  pub some : 0 < length token
  pub one : Lacks 32 token
  pub ends : 0 < length rest → get_or rest 0 0 ≡ 32

-- a line is these tokens in order, with spaces between them and perhaps around them
abbrev pub AreTokens : List ℕ → List (List ℕ) → Type 0
AreTokens line [] = AreSpaces line
AreTokens line (token ∷ ts) = (rest : List ℕ) × BeginsWith line token rest × AreTokens rest ts

-- whether a token is this word
abbrev pub is_word : List ℕ → List ℕ → Bool
is_word token word = pointwise nat_eq token word

-- whether a token can be a key
abbrev pub is_key : List ℕ → Bool
is_key token = is_none (key_fault_of token)

-- the key that a token is, if it can be one
abbrev pub key_of_token : List ℕ → Option (List ℕ)
key_of_token token = if is_key token then Some token else None

-- the number of a token of 1 to `most` digits
abbrev pub number : ℕ → List ℕ → Option ℕ
number most token = if nat_lt 0 (length token) && nat_le (length token) most && list_all is_digit token then Some (number_of token) else None

-- a number, if it is at most the limit
abbrev pub up_to : ℕ → Option ℕ → Option ℕ
up_to limit None = None
up_to limit (Some n) = if nat_le n limit then Some n else None

-- the number of a token of 1 to 20 digits, if it is at most the limit (own)
abbrev pub number_up_to : ℕ → List ℕ → Option ℕ
number_up_to limit token = up_to limit (number 20 token)

-- the exptime of a token: an optional '-', and 1 to 18 digits (own)
abbrev pub exptime : List ℕ → Option ℤ
exptime [] = None
exptime (b ∷ bs) = if b == 45 then option_map (λ n. neg_ℤ (pos n)) (number 18 bs) else option_map pos (number 18 (b ∷ bs))

-- a number, if it isn't 0
abbrev pub from_one : Option ℕ → Option ℕ
from_one None = None
from_one (Some n) = if n == 0 then None else Some n

-- the number of a token of 1 to 20 digits, if it is from 1 to the limit (own)
abbrev pub number_from_one : ℕ → List ℕ → Option ℕ
number_from_one limit token = from_one (number_up_to limit token)

-- the slab class that a token names by its number (own)
abbrev pub class_of_token : Limits → List ℕ → Option ClassNo
class_of_token limits token = option_map (λ n. record { 0 = n }) (number_from_one limits.classes token)

-- the slab class of this number, none for 0 or without a number
abbrev pub class_target : Option ℕ → Option Target
class_target None = None
class_target (Some n) = if n == 0 then None else Some (Class (record { 0 = n }))

-- the slab classes that a token names: all, or one by its number (own)
abbrev pub target_of : Limits → List ℕ → Option Target
target_of limits token = if is_word token (codes "all") then Some All else class_target (number_up_to limits.classes token)
