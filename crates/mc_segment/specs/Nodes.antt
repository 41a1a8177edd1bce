-- A list of entries, newest first, as nodes under their numbers.
use Rattle.std.specs.Prelude.{ℕ, zero, suc, ◌≡◌, ◌==◌, List, [], ◌∷◌, Bool, true, false, if◌then◌else◌, Option, Some, None, length}
use Rattle.mc_item.specs.declared.lists.Entry.{Entry}
use Rattle.mc_rule.specs.Lists.{cost_sum}
use Rattle.mc_segment.specs.declared.arena.Node.{Node}

-- a node by its parts
abbrev pub node : Entry → Option ℕ → Option ℕ → Node
node e newer older = record { entry = e; newer = newer; older = older }

-- the number of a list's first entry
abbrev pub first_number : List Entry → Option ℕ
first_number [] = None
first_number (e ∷ es) = Some e.number

-- the number of a list's last entry, or n if the list is empty
abbrev pub last_from : Option ℕ → List Entry → Option ℕ
last_from n [] = n
last_from n (e ∷ es) = last_from (Some e.number) es

-- the node with the number q in a list, where w is the newer neighbour of the first entry
abbrev pub node_at : Option ℕ → List Entry → ℕ → Option Node
node_at w [] q = None
node_at w (e ∷ es) q = if e.number == q then Some (node e w (first_number es)) else node_at (Some e.number) es q

-- whether no entry of the list has the number
abbrev pub lacks : ℕ → List Entry → Bool
lacks n [] = true
lacks n (e ∷ es) = if e.number == n then false else lacks n es

-- whether no two entries of the list have the same number
abbrev pub distinct : List Entry → Bool
distinct [] = true
distinct (e ∷ es) = if lacks e.number es then distinct es else false

-- a node's entry, then the entries that g gives for its older neighbour
abbrev pub walked : Option Node → (Option ℕ → List Entry) → List Entry
walked None g = []
walked (Some n) g = n.entry ∷ g n.older

-- the entries of up to k nodes, from the number `at` on to older ones
abbrev pub walk : (ℕ → Option Node) → ℕ → Option ℕ → List Entry
walk f zero at = []
walk f (suc k) None = []
walk f (suc k) (Some q) = walked (f q) (λ at. walk f k at)

-- nodes, ends, count and bytes represent this list, whose numbers are all different
pub record IsChain (f : ℕ → Option Node) (newest oldest : Option ℕ) (count bytes : ℕ) (es : List Entry) : Type 0 where
  pub nodes : (q : ℕ) → f q ≡ node_at None es q
  pub newest_is : newest ≡ first_number es
  pub oldest_is : oldest ≡ last_from None es
  pub count_is : count ≡ length es
  pub bytes_is : bytes ≡ cost_sum es
  pub apart : distinct es ≡ true

-- the newer neighbour of the entry at place k, where w is that of the first entry
abbrev pub before : Option ℕ → List Entry → ℕ → Option ℕ
before w es zero = w
before w [] (suc k) = None
before w (e ∷ es) (suc k) = before (Some e.number) es k
