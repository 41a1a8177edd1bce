-- Commands: which key each one names.
use Rattle.std.specs.Prelude.{ℕ, List}
use Rattle.mc_item.specs.declared.command.Command.{Command}
use Rattle.mc_item.specs.declared.command.Command.TheVariants.{Get, Gat, Store, Huge, Incr, Decr, Touch, Delete}

-- the key that a command names
abbrev pub key_of : Command → List ℕ
key_of (Get key) = key
key_of (Gat key exptime) = key
key_of (Store verb key flags exptime value) = key
key_of (Huge verb key) = key
key_of (Incr key delta) = key
key_of (Decr key delta) = key
key_of (Touch key exptime) = key
key_of (Delete key) = key
