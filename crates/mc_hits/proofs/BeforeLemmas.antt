-- Offers of earlier turns.
use Rattle.std.proofs.Common.{◌≡◌, ℕ, zero, suc, ◌<◌, ◌≤◌, Bool, true, false, List, [], ◌∷◌, ◌++◌, get_or, set, sym, subst, arith}
use Rattle.std.specs.Prelude.{MatchBool}
use Rattle.std.specs.List.{All}
use Rattle.std.proofs.lemmas.List.Elements.{All-nil, All-push, All-weaker}
use Rattle.atomic_table.specs.Seated.{TableId}
use Rattle.mc_hits.specs.declared.rule.Hit.{Hit}
use Rattle.mc_hits.specs.{Rule.IsBefore, Rule.AreBefore}
use Rattle.mc_hits.specs.Views.{HandsView, hits_at, hit_of, with_hit, no_hits}

-- no hit is of any turn
pub none_before : (tables : List TableId) (turn : ℕ) → AreBefore turn (no_hits tables)
none_before [] turn k = All-nil (IsBefore turn)
none_before (t ∷ ts) turn zero = All-nil (IsBefore turn)
none_before (t ∷ ts) turn (suc k) = none_before ts turn k

-- what is before a turn is before a later one
pub later_before : (lists : List (List Hit)) (turn bound : ℕ) → turn ≤ bound → AreBefore turn lists → AreBefore bound lists
later_before lists turn bound le before k =
    All-weaker (IsBefore turn) (IsBefore bound) (λ (x : Hit) less. omega (arith, le, less)) (hits_at lists k) (before k)

-- what holds of each list and of the one that is written holds of each afterwards
set_each : (P : List Hit → Type 0) (lists : List (List Hit)) (k : ℕ) (written : List Hit) → P written → ((j : ℕ) → P (get_or lists j [])) → (j : ℕ) → P (get_or (set lists k written) j [])
set_each P [] k written p each j = each j
set_each P (x ∷ xs) zero written p each zero = p
set_each P (x ∷ xs) zero written p each (suc j) = each (suc j)
set_each P (x ∷ xs) (suc k) written p each zero = each zero
set_each P (x ∷ xs) (suc k) written p each (suc j) = set_each P xs k written p (λ i. each (suc i)) j

with_hit_before : (lists : List (List Hit)) (k turn bound : ℕ) (hit : Hit) → hit.who.turn < bound → turn ≤ bound → AreBefore turn lists → AreBefore bound (with_hit lists k hit)
with_hit_before lists k turn bound hit less le before =
    let later = later_before lists turn bound le before in
    set_each (All (IsBefore bound)) lists k (hits_at lists k ++ hit ∷ []) (All-push (IsBefore bound) (hits_at lists k) hit (later k) less) later

-- a hit of a turn was offered or not: all offers are before any later turn
pub before_offered : (b : Bool) (old new : HandsView) (k turn number bound : ℕ)
    → MatchBool b (new ≡ record old { offers = with_hit old.offers k (hit_of old.caller turn number) }) (new ≡ old)
    → turn < bound → AreBefore turn old.offers → AreBefore bound new.offers
before_offered true old new k turn number bound is less before =
    subst (λ (h : HandsView). AreBefore bound h.offers) (sym is)
    (with_hit_before old.offers k turn bound (hit_of old.caller turn number) less (omega (arith, less)) before)
before_offered false old new k turn number bound is less before =
    subst (λ (h : HandsView). AreBefore bound h.offers) (sym is) (later_before old.offers turn bound (omega (arith, less)) before)
