-- The words of the verbs that store without a cas number (protocol.txt, "Storage commands").
use Rattle.std.specs.Prelude.{ℕ, List, Option, Some, None, codes}
use Rattle.mc_item.specs.declared.command.Verb.{Verb}
use Rattle.mc_item.specs.declared.command.Verb.TheVariants.{Set, Add, Replace, Cas, Append, Prepend}

-- the word of a storage verb, none for cas
abbrev pub store_word : Verb → Option (List ℕ)
store_word Set = Some (codes "set")
store_word Add = Some (codes "add")
store_word Replace = Some (codes "replace")
store_word (Cas unique) = None
store_word Append = Some (codes "append")
store_word Prepend = Some (codes "prepend")
