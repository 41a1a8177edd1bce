-- The entry with a number in the lists of a class.
use Rattle.std.specs.Prelude.{ℕ, Option}
use Rattle.std.specs.Option.{option_map}
use Rattle.mc_item.specs.declared.lists.Entry.{Entry}
use Rattle.mc_rule.specs.Lists.{Lists, found}

-- the entry with this number, if a list has it
abbrev pub entry_of : ℕ → Lists → Option Entry
entry_of n l = option_map (λ p. p.1) (found n l)
