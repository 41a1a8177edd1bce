-- Keys: which bytes make one, and what is wrong with others (protocol.txt, "Keys"; the choice of bytes is this project's own).
use Rattle.std.specs.Prelude.{ℕ, ◌≡◌, ◌<◌, ◌==◌, ◌||◌, List, Bool, not, nat_lt, if◌then◌else◌, Option, Some, None, length}
use Rattle.std.specs.List.{list_all}
use Rattle.mc_item.specs.declared.{key.Named.Named, key.Named.TheVariants.Short, key.Named.TheVariants.Long, key.KeyFault.KeyFault}
use Rattle.mc_item.specs.declared.key.KeyFault.TheVariants.{Empty, TooLong, BadByte}

-- whether a byte may be in a key: any may but NUL, LF, CR and space
abbrev pub is_key_byte : ℕ → Bool
is_key_byte b = not (b == 0 || b == 10 || b == 13 || b == 32)

-- the first thing that is wrong with these bytes as a key, if there is one
abbrev pub key_fault_of : List ℕ → Option KeyFault
key_fault_of bytes =
    if length bytes == 0 then Some Empty
    else if nat_lt 250 (length bytes) then Some TooLong
    else if list_all is_key_byte bytes then None
    else Some BadByte

-- these bytes are a key: 1 to 250 bytes, each allowed in a key
abbrev pub IsKey : List ℕ → Type 0
IsKey bytes = key_fault_of bytes ≡ None

-- the bytes of a key, within the key or in memory of their own
abbrev pub named_bytes : Named → List ℕ
named_bytes (Short bytes) = bytes
named_bytes (Long bytes) = bytes.items

-- the bytes are where they belong: bytes in memory of their own are more than 30
abbrev pub IsPlaced : Named → Type 0
IsPlaced (Short bytes) = Unit {0}
IsPlaced (Long bytes) = 30 < length bytes.items
