-- Lists of hits and of takings.
use Rattle.std.proofs.Common.{◌≡◌, ◌≢◌, ◌⊎◌, ℕ, zero, suc, true, false, Bool, cond, eqb, ◌<◌, List, [], ◌∷◌, ◌++◌, length, refl, sym, ap, ◌∙◌, subst, ⊎_elim, inl, inr, arith, append-nil, append_assoc, eq-eqb, ne_eqb}
use Rattle.std.proofs.lemmas.List.{map-append}
use Rattle.std.proofs.lemmas.List.Elements.{All-tail, All-head, All-nil, All-push, Contains-append_left, Contains-append_right, Contains-push, Contains-push_cases, Contains-append_cases, filter-append}
use Rattle.std.specs.List.{All, Contains, filter}
use mathlib.Core.Option.{some, some-injective, some-ne-none}
use mathlib.Core.Logic.{dite}
use native.Mathlib.Decide.{ℕ_discrete}
use lib.ListN.{get_elem?}
use Rattle.mc_hits.specs.declared.rule.Hit.{Hit}
use Rattle.mc_hits.specs.Rule.{Taking, IsBefore, IsRising, AreApart, hits_of, takings_of}

pub same_or_not : (j k : ℕ) → (j ≡ k) ⊎ (j ≢ k)
same_or_not j k = dite (ℕ_discrete j k) (λ e. inl e) (λ n. inr n)

-- the last one stands at the length of the others
pub at_end : {A : Type 0} (l : List A) (a b : A) (j : ℕ) → get_elem? (l ++ a ∷ []) j ≡ some b → (get_elem? l j ≡ some b) ⊎ ((j ≡ length l) × (a ≡ b))
at_end [] a b zero e = inr (refl, some-injective a b e)
at_end [] a b (suc j) e = absurd (some-ne-none b (sym e))
at_end (x ∷ xs) a b zero e = inl e
at_end (x ∷ xs) a b (suc j) e = ⊎_elim (λ t. inl t) (λ t. inr (ap suc t.0, t.1)) (at_end xs a b j e)

-- a hit of a later turn goes behind
pub rising_push : (xs : List Hit) (x : Hit) → IsRising xs → All (IsBefore x.who.turn) xs → IsRising (xs ++ x ∷ [])
rising_push [] x r a = (All-nil (λ (y : Hit). x.who.turn < y.who.turn), tt)
rising_push (y ∷ ys) x r a = (
  All-push (λ (z : Hit). y.who.turn < z.who.turn) ys x r.0 (All-head (IsBefore x.who.turn) y ys a),
  rising_push ys x r.1 (All-tail (IsBefore x.who.turn) y ys a),
)

-- a hit that doesn't stand there goes behind
pub apart_push : (xs : List Hit) (x : Hit) → AreApart xs → ¬ (Contains xs x) → AreApart (xs ++ x ∷ [])
apart_push [] x a n = ((λ (c : Contains [] x). n c), tt)
apart_push (y ∷ ys) x a n = (
  (λ (c : Contains (ys ++ x ∷ []) y). ⊎_elim
      (λ (was : Contains ys y). a.0 was)
      (λ (same : x ≡ y). n (subst (Contains (y ∷ ys)) (sym same) (Contains-append_left (y ∷ []) ys y (Contains-push [] y))))
      (Contains-push_cases ys x y c)),
  apart_push ys x a.1 (λ (c : Contains ys x). n (Contains-append_right (y ∷ []) ys x c)),
)

-- of a list in which no hit stands twice, what stands before a hit isn't it
pub apart_before : (xs : List Hit) (x : Hit) (ys : List Hit) → AreApart (xs ++ x ∷ ys) → ¬ (Contains xs x)
apart_before [] x ys a c = absurd (omega (arith, c.1))
apart_before (z ∷ zs) x ys a c =
    ⊎_elim
    (λ (first : Contains (z ∷ []) x). ⊎_elim
    (λ (none : Contains [] x). absurd (omega (arith, none.1)))
    (λ (same : z ≡ x). a.0 (subst (Contains (zs ++ x ∷ ys)) (sym same) (Contains-append_right zs (x ∷ ys) x (Contains-append_left (x ∷ []) ys x (Contains-push [] x)))))
    (Contains-push_cases [] z x first))
    (λ (later : Contains zs x). apart_before zs x ys a.1 later)
    (Contains-append_cases (z ∷ []) zs x c)

one_contains : (caller : ℕ) (t : Taking) (ts : List Taking) (x : Hit) → (Contains (takings_of caller ts) x → Contains (hits_of ts) x) → (b : Bool) → eqb t.by caller ≡ b
    → Contains (takings_of caller (t ∷ ts)) x → Contains (t.hit ∷ hits_of ts) x
one_contains caller t ts x rest true is c =
    let kept = filter (λ (u : Taking). eqb u.by caller) ts in
    let c' : Contains (t.hit ∷ takings_of caller ts) x = subst (λ (b : Bool). Contains (hits_of (cond b (t ∷ kept) kept)) x) is c in
    ⊎_elim
    (λ (first : Contains (t.hit ∷ []) x). Contains-append_left (t.hit ∷ []) (hits_of ts) x first)
    (λ (later : Contains (takings_of caller ts) x). Contains-append_right (t.hit ∷ []) (hits_of ts) x (rest later))
    (Contains-append_cases (t.hit ∷ []) (takings_of caller ts) x c')
one_contains caller t ts x rest false is c =
    let kept = filter (λ (u : Taking). eqb u.by caller) ts in
    let c' : Contains (takings_of caller ts) x = subst (λ (b : Bool). Contains (hits_of (cond b (t ∷ kept) kept)) x) is c in
    Contains-append_right (t.hit ∷ []) (hits_of ts) x (rest c')

-- what a caller has taken was taken
pub takings_contains : (caller : ℕ) (ts : List Taking) (x : Hit) → Contains (takings_of caller ts) x → Contains (hits_of ts) x
takings_contains caller [] x c = c
takings_contains caller (t ∷ ts) x c = one_contains caller t ts x (takings_contains caller ts x) (eqb t.by caller) refl c

taking_cut : (caller : ℕ) (ts : List Taking) (t : Taking) → takings_of caller (ts ++ t ∷ []) ≡ takings_of caller ts ++ hits_of (cond (eqb t.by caller) (t ∷ []) [])
taking_cut caller ts t = ap hits_of (filter-append (λ (u : Taking). eqb u.by caller) ts (t ∷ [])) ∙ map-append (λ (u : Taking). u.hit) (filter (λ (u : Taking). eqb u.by caller) ts) (cond (eqb t.by caller) (t ∷ []) [])

-- one taking more: that caller's takings have it at the end
pub taking_here : (caller : ℕ) (ts : List Taking) (x : Hit) → takings_of caller (ts ++ (record { by = caller; hit = x }) ∷ []) ≡ takings_of caller ts ++ x ∷ []
taking_here caller ts x = taking_cut caller ts (record { by = caller; hit = x }) ∙ ap (λ b. takings_of caller ts ++ hits_of (cond b ((record { by = caller; hit = x }) ∷ []) [])) (eq-eqb caller caller refl)

-- and all others' are as they were
pub taking_else : (caller other : ℕ) (ts : List Taking) (x : Hit) → other ≢ caller → takings_of other (ts ++ (record { by = caller; hit = x }) ∷ []) ≡ takings_of other ts
taking_else caller other ts x apart = taking_cut other ts (record { by = caller; hit = x })
    ∙ (ap (λ b. takings_of other ts ++ hits_of (cond b ((record { by = caller; hit = x }) ∷ []) [])) (ne_eqb caller other (λ same. apart (sym same)))
    ∙ append-nil (takings_of other ts))

-- a hit goes from the front of the queue to the end of the takings
pub taking_line : (ts : List Taking) (caller : ℕ) (x : Hit) (items : List Hit) → hits_of ts ++ x ∷ items ≡ hits_of (ts ++ (record { by = caller; hit = x }) ∷ []) ++ items
taking_line ts caller x items =
    sym (append_assoc (hits_of ts) (x ∷ []) items)
    ∙ ap (λ l. l ++ items) (sym (map-append (λ (u : Taking). u.hit) ts ((record { by = caller; hit = x }) ∷ [])))
