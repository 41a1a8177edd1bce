-- Dealers of several queues, some of which have given out a caller's hand.
use Rattle.std.proofs.Common.{◌≡◌, ◌≢◌, ℕ, zero, suc, ◌+◌, ◌<◌, List, [], ◌∷◌, ◌++◌, length, get_or, set, take, refl, sym, ap, ◌∙◌, subst, arith}
use Rattle.std.specs.Prelude.{map, Some, slice_get}
use Rattle.std.proofs.lemmas.List.{length-map, length_push, take_more, take_all}
use Rattle.std.proofs.lemmas.List.Elements.{All-map}
use mathlib.Core.Logic.{dite}
use native.Mathlib.Decide.{ℕ_discrete}
use Rattle.atomic_table.specs.Seated.{TableId}
use Rattle.mc_hits.specs.Views.{HitsView, DealerView, HandView, tables_of, dealer_at, dealers_at, untouched_hand, untouched_hands, HandsView, hands_of, AreOf, AreHands}
use Rattle.mc_hits.proofs.HandsLemmas.{map_at}

-- the dealers of the first so many queues have given out the caller's hand, the others have not
abbrev pub half_dealt : ℕ → ℕ → List HitsView → List DealerView
half_dealt caller zero queues = dealers_at caller queues
half_dealt caller (suc k) [] = []
half_dealt caller (suc k) (q ∷ qs) = dealer_at (caller + 1) q ∷ half_dealt caller k qs

-- the hands of a caller that has offered and taken nothing, queue by queue
abbrev pub fresh : ℕ → List HitsView → List HandView
fresh caller queues = map (λ (q : HitsView). untouched_hand q.table caller) queues

-- the next dealer has not
pub half_dealt-at : (caller k : ℕ) (queues : List HitsView) (d : DealerView) (q : HitsView) → k < length queues → q ≡ get_or queues k q
    → get_or (half_dealt caller k queues) k d ≡ dealer_at caller q
half_dealt-at caller k [] d q below at = absurd (omega (arith, below))
half_dealt-at caller zero (p ∷ qs) d q below at = ap (dealer_at caller) (sym at)
half_dealt-at caller (suc k) (p ∷ qs) d q below at = half_dealt-at caller k qs d q (omega (arith, below)) at

-- and after it has, there is one more
half_dealt-set : (caller k : ℕ) (queues : List HitsView) (q : HitsView) → q ≡ get_or queues k q
    → set (half_dealt caller k queues) k (dealer_at (caller + 1) q) ≡ half_dealt caller (suc k) queues
half_dealt-set caller zero [] q at = refl
half_dealt-set caller (suc k) [] q at = refl
half_dealt-set caller zero (p ∷ qs) q at = ap (λ (h : HitsView). dealer_at (caller + 1) h ∷ dealers_at caller qs) at
half_dealt-set caller (suc k) (p ∷ qs) q at = ap (λ (l : List DealerView). dealer_at (caller + 1) p ∷ l) (half_dealt-set caller k qs q at)

pub half_dealt-more : (caller k : ℕ) (queues : List HitsView) (q : HitsView) → q ≡ get_or queues k q
    → set (half_dealt caller k queues) k (dealer_at (caller + 1) q) ≡ half_dealt caller (k + 1) queues
half_dealt-more caller k queues q at =
    let more : suc k ≡ k + 1 = omega arith in half_dealt-set caller k queues q at ∙ ap (λ n. half_dealt caller n queues) more

-- at the end all have
pub half_dealt-all : (caller : ℕ) (queues : List HitsView) → half_dealt caller (length queues) queues ≡ dealers_at (caller + 1) queues
half_dealt-all caller [] = refl
half_dealt-all caller (q ∷ qs) = ap (λ (l : List DealerView). dealer_at (caller + 1) q ∷ l) (half_dealt-all caller qs)

-- fresh hands, as one
pub fresh_hands : (caller : ℕ) (queues : List HitsView) → hands_of caller (fresh caller queues) ≡ untouched_hands (tables_of queues) caller
fresh_hands caller [] = refl
fresh_hands caller (q ∷ qs) =
    ap (λ (h : HandsView). record { caller = caller; tables = q.table ∷ h.tables; offers = [] ∷ h.offers; takings = [] ∷ h.takings }) (fresh_hands caller qs)

-- they are all the caller's
pub fresh_own : (caller : ℕ) (queues : List HitsView) → AreOf caller (fresh caller queues)
fresh_own caller queues =
    All-map (λ (h : HandView). h.caller ≡ caller) (λ (q : HitsView). untouched_hand q.table caller) queues (λ k d below. refl)

-- one fresh hand more
pub fresh_more : (caller k : ℕ) (queues : List HitsView) (q : HitsView) (hand : HandView) → k < length queues → q ≡ get_or queues k q
    → hand ≡ untouched_hand q.table caller → take k (fresh caller queues) ++ hand ∷ [] ≡ take (k + 1) (fresh caller queues)
fresh_more caller k queues q hand below at is =
    let made = λ (q : HitsView). untouched_hand q.table caller in
    let long : k < length (fresh caller queues) = subst (λ n. k < n) (sym (length-map queues made)) below in
    ap (λ (h : HandView). take k (fresh caller queues) ++ h ∷ []) (is ∙ sym (map_at made queues k q hand below at))
    ∙ sym (take_more (fresh caller queues) k hand long)

-- all of them
pub fresh_all : (caller k : ℕ) (queues : List HitsView) → k ≡ length queues → take k (fresh caller queues) ≡ fresh caller queues
fresh_all caller k queues all =
    let made = λ (q : HitsView). untouched_hand q.table caller in
    take_all k (fresh caller queues) (omega (arith, all, length-map queues made))

get_before : {A : Type 0} (xs : List A) (x : A) (k : ℕ) → k < length xs → slice_get (xs ++ x ∷ []) k ≡ slice_get xs k
get_before [] x k below = absurd (omega (arith, below))
get_before (y ∷ ys) x zero below = refl
get_before (y ∷ ys) x (suc k) below = get_before ys x k (omega (arith, below))

get_last : {A : Type 0} (xs : List A) (x : A) → slice_get (xs ++ x ∷ []) (length xs) ≡ Some x
get_last [] x = refl
get_last (y ∷ ys) x = get_last ys x

-- the hands of one caller more
pub hands_more : (tables : List TableId) (callers : ℕ) (all : List HandsView) (hands : HandsView) → AreHands tables callers all
    → hands ≡ untouched_hands tables callers → AreHands tables (callers + 1) (all ++ hands ∷ [])
hands_more tables callers all hands are is = (
  length_push all hands ∙ ap (λ n. n + 1) are.0,
  λ k below. dite (ℕ_discrete k callers)
      (λ (last : k ≡ callers). ap (slice_get (all ++ hands ∷ [])) (last ∙ sym are.0)
      ∙ (get_last all hands ∙ ap Some (is ∙ ap (untouched_hands tables) (sym last))))
      (λ (other : k ≢ callers).
      let before : k < callers = omega (arith, below, other) in
      get_before all hands k (subst (λ n. k < n) (sym are.0) before) ∙ are.1 k before),
)
