-- The bytes of a value.
use Rattle.std.specs.Prelude.{ℕ, List}
use Rattle.mc_item.specs.declared.{value.Held.Held, value.Held.TheVariants.Alone, value.Held.TheVariants.Within}

-- the bytes of a value, in memory of their own or within a shared block
abbrev pub held_bytes : Held → List ℕ
held_bytes (Alone bytes) = bytes.items
held_bytes (Within bytes) = bytes
