-- What a contract sees of queues of hits, and of the hands that callers have in them (own).
use Rattle.std.specs.Prelude.{◌≡◌, ℕ, ◌<◌, ◌++◌, List, [], ◌∷◌, length, map, Some, slice_get, slice_index_or, slice_set}
use Rattle.std.specs.List.{All}
use Rattle.atomic_table.specs.Seated.{TableId}
use Rattle.mc_hits.specs.declared.rule.Hit.{Hit}

-- a queue: its table, and how many hits it has room for
pub record HitsView : Type 0 where
  pub table : TableId
  pub room : ℕ

-- what gives out the hands of a queue: the queue's table, and how many callers have theirs
pub record DealerView : Type 0 where
  pub table : TableId
  pub given : ℕ

-- a caller's hand in one queue: the queue's table, the caller, and all that it has offered and taken there, oldest first
pub record HandView : Type 0 where
  pub table : TableId
  pub caller : ℕ
  pub offers : List Hit
  pub takings : List Hit

-- a caller's hands: the caller, the tables of the queues, and for each queue all that the caller has offered and taken, oldest first
pub record HandsView : Type 0 where
  pub caller : ℕ
  pub tables : List TableId
  pub offers : List (List Hit)
  pub takings : List (List Hit)

-- the tables of queues, in their order
abbrev pub tables_of : List HitsView → List TableId
tables_of queues = map (λ (q : HitsView). q.table) queues

-- the queue has room for so many hits
abbrev pub HasRoom : ℕ → HitsView → Type 0
HasRoom room queue = queue.room ≡ room

-- the hit of this caller's turn
abbrev pub hit_of : ℕ → ℕ → ℕ → Hit
hit_of caller turn number = record { who = record { caller = caller; turn = turn }; number = number }

-- the hits of a queue
abbrev pub hits_at : List (List Hit) → ℕ → List Hit
hits_at lists queue = slice_index_or lists queue []

-- the lists with one hit appended to the queue's
abbrev pub with_hit : List (List Hit) → ℕ → Hit → List (List Hit)
with_hit lists queue hit = slice_set lists queue (hits_at lists queue ++ hit ∷ [])

-- the dealer of a queue, after it has given so many callers their hands
abbrev pub dealer_at : ℕ → HitsView → DealerView
dealer_at given queue = record { table = queue.table; given = given }

-- the dealers of queues, in their order
abbrev pub dealers_at : ℕ → List HitsView → List DealerView
dealers_at given queues = map (dealer_at given) queues

-- the hand of a caller that has offered and taken nothing
abbrev pub untouched_hand : TableId → ℕ → HandView
untouched_hand table caller = record { table = table; caller = caller; offers = []; takings = [] }

-- no hit for any queue
abbrev pub no_hits : List TableId → List (List Hit)
no_hits tables = map (λ (t : TableId). []) tables

-- the hands in all these queues of a caller that has offered and taken nothing
abbrev pub untouched_hands : List TableId → ℕ → HandsView
untouched_hands tables caller = record { caller = caller; tables = tables; offers = no_hits tables; takings = no_hits tables }

-- each caller has its hands in all these queues, in the callers' order, and has offered and taken nothing
abbrev pub AreHands : List TableId → ℕ → List HandsView → Type 0
AreHands tables callers hands =
    (length hands ≡ callers)
    × ((caller : ℕ) → caller < callers → slice_get hands caller ≡ Some (untouched_hands tables caller))

-- the hands of a caller, queue by queue, as one
abbrev pub hands_of : ℕ → List HandView → HandsView
hands_of caller each =
    record {
      caller = caller;
      tables = map (λ (h : HandView). h.table) each;
      offers = map (λ (h : HandView). h.offers) each;
      takings = map (λ (h : HandView). h.takings) each;
    }

-- all these hands are the caller's
abbrev pub AreOf : ℕ → List HandView → Type 0
AreOf caller each = All (λ (h : HandView). h.caller ≡ caller) each
