-- The keys of a line, as contracts see them.
use Rattle.std.specs.Prelude.{ℕ, List, [], ◌∷◌}
use Rattle.mc_proto.specs.declared.{request.Listed.Listed, request.Listed.TheVariants.One, request.Listed.TheVariants.Many}

-- the keys of a line as a list, whether there is one or many
abbrev pub listed_keys : Listed → List (List ℕ)
listed_keys (One key) = key ∷ []
listed_keys (Many keys) = keys.items
