-- The rule of a queue of hits, which holds between any two steps of any threads (own).
use Rattle.std.specs.Prelude.{◌≡◌, ◌==◌, ℕ, ◌≤◌, ◌<◌, List, [], ◌∷◌, ◌++◌, map}
use Rattle.std.specs.List.{All, Contains, filter}
use mathlib.Core.Option.{Option, none, some}
use lib.ListN.{get_elem?}
use Rattle.mc_hits.specs.declared.{rule.Hit.Hit, rule.View.View}
use Rattle.mc_hits.specs.declared.rule.View.TheVariants as views
use Rattle.mc_hits.specs.Views.{hits_at}

-- the hit was offered in an earlier turn
abbrev pub IsBefore : ℕ → Hit → Type 0
IsBefore turn hit = hit.who.turn < turn

-- the hits of each queue are of earlier turns
abbrev pub AreBefore : ℕ → List (List Hit) → Type 0
AreBefore turn lists = (queue : ℕ) → All (IsBefore turn) (hits_at lists queue)

-- the turns rise, so that no turn occurs twice
abbrev pub IsRising : List Hit → Type 0
IsRising [] = Unit {0}
IsRising (x ∷ xs) = All (λ (y : Hit). x.who.turn < y.who.turn) xs × IsRising xs

-- no hit occurs twice
abbrev pub AreApart : List Hit → Type 0
AreApart [] = Unit {0}
AreApart (x ∷ xs) = ¬ (Contains xs x) × AreApart xs

-- one taking: the caller that took the hit, and the hit
pub record Taking : Type 0 where
  pub by : ℕ
  pub hit : Hit

-- the hits that were taken, oldest first
abbrev pub hits_of : List Taking → List Hit
hits_of takings = map (λ (t : Taking). t.hit) takings

-- the hits that one caller has taken, oldest first
abbrev pub takings_of : ℕ → List Taking → List Hit
takings_of caller takings = hits_of (filter (λ (t : Taking). t.by == caller) takings)

-- a queue's past at one moment: each caller's offers, the seat of its hand if it has one, and what was taken
pub record Ledger : Type 0 where
  pub offers : ℕ → List Hit
  pub holder : ℕ → Option ℕ
  pub taken : List Taking

-- what is true of a seat by its view. The root is seat 0, and a caller that got no hand from it has offered and taken nothing.
-- A hand knows all offers and all takings of its caller
abbrev pub Knows : Ledger → ℕ → View → Type 0
Knows ledger seat (views.Root root) =
    (seat ≡ 0)
    × ((caller : ℕ) → root.given ≤ caller
    → (ledger.holder caller ≡ none) × (ledger.offers caller ≡ []) × (takings_of caller ledger.taken ≡ []))
Knows ledger seat (views.Hand held) =
    (ledger.holder held.caller ≡ some seat)
    × (held.offers ≡ ledger.offers held.caller)
    × (held.takings ≡ takings_of held.caller ledger.taken)

-- the rule: a caller's offers have its number and rising turns, so it offers at most one hit in a turn. Each hit that is queued
-- or was taken is among the offers of the caller that it names. No hit is both queued and taken, queued twice or taken twice
pub record IsFair (items : List Hit) (seats : List View) : Type 0 where
  pub offers : ℕ → List Hit
  pub holder : ℕ → Option ℕ
  pub taken : List Taking
  pub own : (caller : ℕ) → All (λ (h : Hit). h.who.caller ≡ caller) (offers caller)
  pub rising : (caller : ℕ) → IsRising (offers caller)
  pub offered : (h : Hit) → Contains (hits_of taken ++ items) h → Contains (offers h.who.caller) h
  pub apart : AreApart (hits_of taken ++ items)
  pub known : (seat : ℕ) (v : View) → get_elem? seats seat ≡ some v
      → Knows (record { offers = offers; holder = holder; taken = taken }) seat v
