-- Which items are small enough for a class, and which commands leave the links of items alone.
use Rattle.std.specs.Prelude.{ℕ, ◌≡◌, ◌≤◌, ◌^◌, List, Some}
use Rattle.mc_item.specs.Measure.{class_of}
use Rattle.mc_item.specs.declared.{command.Command.Command, item.ClassNo.ClassNo}
use Rattle.mc_item.specs.declared.command.Command.TheVariants.{Get, Gat, Store, Huge, Incr, Decr, Touch, Delete}

-- whatever fits a class of these sizes costs at most 2^20 bytes
pub record AreSmall (sizes : List ℕ) : Type 0 where
  pub most : (cost : ℕ) (class : ClassNo) → class_of sizes cost ≡ Some class → cost ≤ 2 ^ 20

-- the command only reads, only changes an item's expiry, or does both
abbrev pub IsReader : Command → Type 0
IsReader (Get key) = Unit {0}
IsReader (Gat key exptime) = Unit {0}
IsReader (Store verb key flags exptime value) = ⊥
IsReader (Huge verb key) = ⊥
IsReader (Incr key delta) = ⊥
IsReader (Decr key delta) = ⊥
IsReader (Touch key exptime) = Unit {0}
IsReader (Delete key) = ⊥
