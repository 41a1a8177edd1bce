-- What a token has seen and noted, lock by lock, after one more list or number.
use Rattle.std.proofs.Common.{◌≡◌, ◌≢◌, ◌≤◌, ℕ, zero, suc, List, [], ◌∷◌, refl, sym, ap, subst, ⊎_elim, arith, length}
use mathlib.Core.List.{IsPrefix}
use Rattle.mc_item.specs.declared.event.Event.{Event}
use Rattle.std.proofs.lemmas.List.Elements.{All-nil, All-cons}
use Rattle.mc_board.specs.declared.{rule.Note.Note, rule.Sight.Sight}
use Rattle.mc_board.specs.Histories.{list_at, number_at, with_list_at, with_number, blind, with_seen, with_noted, with_figures, Grows, IsBehind, IsNoteOf}
use Rattle.mc_board.proofs.PrefixLemmas.{same_or_not, prefix_nil, prefix_self, prefix_trans}

pub list_at_same : (lists : List (List Event)) (k : ℕ) (x : List Event) → list_at (with_list_at lists k x) k ≡ x
list_at_same [] zero x = refl
list_at_same [] (suc k) x = list_at_same [] k x
list_at_same (y ∷ ys) zero x = refl
list_at_same (y ∷ ys) (suc k) x = list_at_same ys k x

pub list_at_other : (lists : List (List Event)) (k j : ℕ) (x : List Event) → j ≢ k → list_at (with_list_at lists k x) j ≡ list_at lists j
list_at_other [] zero zero x n = absurd (n refl)
list_at_other [] zero (suc j) x n = refl
list_at_other [] (suc k) zero x n = refl
list_at_other [] (suc k) (suc j) x n = list_at_other [] k j x (λ e. n (ap suc e))
list_at_other (y ∷ ys) zero zero x n = absurd (n refl)
list_at_other (y ∷ ys) zero (suc j) x n = refl
list_at_other (y ∷ ys) (suc k) zero x n = refl
list_at_other (y ∷ ys) (suc k) (suc j) x n = list_at_other ys k j x (λ e. n (ap suc e))

pub number_at_same : (ns : List ℕ) (k x : ℕ) → number_at (with_number ns k x) k ≡ x
number_at_same [] zero x = refl
number_at_same [] (suc k) x = number_at_same [] k x
number_at_same (y ∷ ys) zero x = refl
number_at_same (y ∷ ys) (suc k) x = number_at_same ys k x

pub number_at_other : (ns : List ℕ) (k j x : ℕ) → j ≢ k → number_at (with_number ns k x) j ≡ number_at ns j
number_at_other [] zero zero x n = absurd (n refl)
number_at_other [] zero (suc j) x n = refl
number_at_other [] (suc k) zero x n = refl
number_at_other [] (suc k) (suc j) x n = number_at_other [] k j x (λ e. n (ap suc e))
number_at_other (y ∷ ys) zero zero x n = absurd (n refl)
number_at_other (y ∷ ys) zero (suc j) x n = refl
number_at_other (y ∷ ys) (suc k) zero x n = refl
number_at_other (y ∷ ys) (suc k) (suc j) x n = number_at_other ys k j x (λ e. n (ap suc e))

-- who has seen nothing is behind
pub IsBehind-blind : (h : ℕ → List Event) → IsBehind h blind
IsBehind-blind h = record { seen = λ lock. prefix_nil (h lock); noted = λ lock. omega arith; figures = All-nil (λ (note : Note). IsNoteOf (h note.lock) note) }

-- who notes at most the length stays behind
pub IsBehind-with_noted : (h : ℕ → List Event) (s : Sight) (lock n : ℕ) → IsBehind h s → n ≤ length (h lock) → IsBehind h (with_noted s lock n)
IsBehind-with_noted h s lock n b le =
    record {
      seen = b.seen;
      noted = λ j. ⊎_elim
          (λ (same : j ≡ lock). subst (λ (k : ℕ). number_at (with_number s.noted lock n) k ≤ length (h k)) (sym same) (subst (λ m. m ≤ length (h lock)) (sym (number_at_same s.noted lock n)) le))
          (λ (apart : j ≢ lock). subst (λ m. m ≤ length (h j)) (sym (number_at_other s.noted lock j n apart)) (b.noted j))
          (same_or_not j lock);
      figures = b.figures;
    }

-- who notes figures of a beginning stays behind
pub IsBehind-with_figures : (h : ℕ → List Event) (s : Sight) (note : Note) → IsBehind h s → IsNoteOf (h note.lock) note → IsBehind h (with_figures s note)
IsBehind-with_figures h s note b is =
    record { seen = b.seen; noted = b.noted; figures = All-cons (λ (n : Note). IsNoteOf (h n.lock) n) note s.figures is b.figures }

-- of two numbers that are noted of a lock the second stays
pub with_number_again : (ns : List ℕ) (k x y : ℕ) → with_number (with_number ns k x) k y ≡ with_number ns k y
with_number_again [] zero x y = refl
with_number_again [] (suc k) x y = ap (λ (l : List ℕ). 0 ∷ l) (with_number_again [] k x y)
with_number_again (z ∷ ns) zero x y = refl
with_number_again (z ∷ ns) (suc k) x y = ap (λ (l : List ℕ). z ∷ l) (with_number_again ns k x y)

-- who is told a whole history stays behind
pub IsBehind-with_seen : (h : ℕ → List Event) (s : Sight) (lock : ℕ) (xs : List Event) → IsBehind h s → xs ≡ h lock → IsBehind h (with_seen s lock xs)
IsBehind-with_seen h s lock xs b is =
    record {
      seen = λ j. ⊎_elim
          (λ (same : j ≡ lock). subst (λ (k : ℕ). IsPrefix (list_at (with_list_at s.seen lock xs) k) (h k)) (sym same)
          (subst (λ l. IsPrefix l (h lock)) (sym (list_at_same s.seen lock xs)) (subst (IsPrefix xs) is (prefix_self xs))))
          (λ (apart : j ≢ lock). subst (λ l. IsPrefix l (h j)) (sym (list_at_other s.seen lock j xs apart)) (b.seen j))
          (same_or_not j lock);
      noted = b.noted;
      figures = b.figures;
    }

-- one list of a lock that grows leaves all lists no shorter
list_at_grows : (lists : List (List Event)) (lock : ℕ) (xs : List Event) → IsPrefix (list_at lists lock) xs → (j : ℕ) → IsPrefix (list_at lists j) (list_at (with_list_at lists lock xs) j)
list_at_grows lists lock xs p j =
    ⊎_elim
    (λ (same : j ≡ lock). subst (λ (k : ℕ). IsPrefix (list_at lists k) (list_at (with_list_at lists lock xs) k)) (sym same) (subst (IsPrefix (list_at lists lock)) (sym (list_at_same lists lock xs)) p))
    (λ (apart : j ≢ lock). subst (IsPrefix (list_at lists j)) (sym (list_at_other lists lock j xs apart)) (prefix_self (list_at lists j)))
    (same_or_not j lock)

-- who is told a whole history has seen no less than before
pub Grows-with_seen : (s : Sight) (lock : ℕ) (xs : List Event) → IsPrefix (list_at s.seen lock) xs → Grows s (with_seen s lock xs)
Grows-with_seen s lock xs p = record { at = list_at_grows s.seen lock xs p }

-- what was seen grows and grows
pub Grows-trans : (a b c : Sight) → Grows a b → Grows b c → Grows a c
Grows-trans a b c p q = record { at = λ lock. prefix_trans (list_at a.seen lock) (list_at b.seen lock) (list_at c.seen lock) (p.at lock) (q.at lock) }
