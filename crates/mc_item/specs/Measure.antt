-- The size, slab class and stripe of an item, and which values are numbers. Rules marked (own) are this project's.
use Rattle.std.specs.Prelude.{ℕ, ◌+◌, ◌-◌, ◌*◌, ◌%◌, ◌^◌, ◌<◌, ◌≤◌, ◌&&◌, List, [], ◌∷◌, Bool, nat_le, nat_lt, if◌then◌else◌, Option, Some, None, length}
use Rattle.std.specs.Prelude.{get_or, drop, position, fold, take_while, bit_xor, ◌==◌}
use Rattle.std.specs.{List.list_all, Option.option_map}
use Rattle.mc_item.specs.declared.{answer.Need.Need, item.ClassNo.ClassNo, item.StripeNo.StripeNo}
use Rattle.mc_item.specs.declared.answer.Need.TheVariants.{Nothing, Same, Fresh, TooLarge}

-- how many bytes of a chunk an item takes: 64, and those of its key and value (own)
abbrev pub cost_of : List ℕ → List ℕ → ℕ
cost_of key value = 64 + length key + length value

-- the class whose size is at this place of the sizes: classes are numbered from 1, places from 0
abbrev pub class_of_place : ℕ → ClassNo
class_of_place place = record { 0 = place + 1 }

-- the class has one of these sizes: its number is from 1 to the number of sizes
pub record IsClassAmong (sizes : List ℕ) (class : ClassNo) : Type 0 where
  pub first : 1 ≤ class.0
  pub last : class.0 ≤ length sizes

-- if the need is a chunk, its class has one of these sizes
abbrev pub IsNeedOf : List ℕ → Need → Type 0
IsNeedOf sizes (Fresh class) = IsClassAmong sizes class
IsNeedOf sizes Nothing = Unit {0}
IsNeedOf sizes Same = Unit {0}
IsNeedOf sizes TooLarge = Unit {0}

-- the size of a class: the bytes of each of its chunks
abbrev pub size_of : List ℕ → ClassNo → ℕ
size_of sizes class = get_or sizes (class.0 - 1) 0

-- the class is the least one whose size is at least the cost
pub record IsLeastClass (sizes : List ℕ) (cost : ℕ) (class : ClassNo) : Type 0 where
  pub is_class : IsClassAmong sizes class
  pub holds : cost ≤ size_of sizes class
  pub least : (other : ClassNo) → IsClassAmong sizes other → cost ≤ size_of sizes other → class.0 ≤ other.0

-- the cost is too large: the size of each class is smaller
abbrev pub IsTooLarge : List ℕ → ℕ → Type 0
IsTooLarge sizes cost = (class : ClassNo) → IsClassAmong sizes class → size_of sizes class < cost

-- the class of the first size that is at least the cost, if there is one
abbrev pub class_of : List ℕ → ℕ → Option ClassNo
class_of sizes cost = option_map class_of_place (position (λ size. nat_le cost size) sizes)

-- the 32-bit hash FNV-1a: for each byte, exclusive or with it, then times the prime, modulo 2^32
abbrev pub fnv1a : List ℕ → ℕ
fnv1a bytes = fold (λ hash byte. (bit_xor hash byte * 16777619) % 2 ^ 32) 2166136261 bytes

-- the stripe of a key: its hash modulo the number of stripes (own)
abbrev pub stripe_of : List ℕ → ℕ → StripeNo
stripe_of key stripes = record { 0 = fnv1a key % stripes }

-- whether a byte is a digit
abbrev pub is_digit : ℕ → Bool
is_digit byte = nat_le 48 byte && nat_le byte 57

-- the number that these digits spell after the digits of this number
abbrev pub number_from : ℕ → List ℕ → ℕ
number_from number [] = number
number_from number (digit ∷ digits) = number_from (10 * number + (digit - 48)) digits

-- the number that these digits spell
abbrev pub number_of : List ℕ → ℕ
number_of digits = number_from 0 digits

-- the number below 2^64 that a text of one or more digits spells, otherwise none
abbrev pub number_in : List ℕ → Option ℕ
number_in digits =
    if nat_lt 0 (length digits) && list_all is_digit digits && nat_lt (number_of digits) (2 ^ 64) then Some (number_of digits) else None

-- the digits that a value begins with
abbrev pub digits_of : List ℕ → List ℕ
digits_of value = take_while is_digit value

-- the number that a value is: 1 to 20 digits of a number below 2^64, then any number of spaces, and nothing else (own)
abbrev pub numeral_of : List ℕ → Option ℕ
numeral_of value =
    let digits = digits_of value in
    if nat_lt 0 (length digits) && nat_le (length digits) 20 && nat_lt (number_of digits) (2 ^ 64) && list_all (λ byte. byte == 32) (drop (length digits) value)
    then Some (number_of digits)
    else None
