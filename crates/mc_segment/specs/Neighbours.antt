-- A node with other neighbours, and an end of a list after a node came or left.
use Rattle.std.specs.Prelude.{ℕ, ◌==◌, Bool, false, Option, Some, None}
use Rattle.mc_segment.specs.declared.arena.Node.{Node}

-- a node with another newer neighbour
abbrev pub with_newer : Option ℕ → Node → Node
with_newer to n = record n { newer = to }

-- a node with another older neighbour
abbrev pub with_older : Option ℕ → Node → Node
with_older to n = record n { older = to }

-- whether an option is this number
abbrev pub points_to : ℕ → Option ℕ → Bool
points_to q None = false
points_to q (Some a) = a == q

-- an end of a list after a node came or left: it stays if the node has a neighbour on that side, else it becomes `end`
abbrev pub end_of : Option ℕ → Option ℕ → Option ℕ → Option ℕ
end_of None end kept = end
end_of (Some _) end kept = kept
