-- Each step keeps the rule.
use Rattle.std.proofs.Common.{◌≡◌, ◌≢◌, ℕ, zero, suc, cond, eqb, List, [], ◌∷◌, ◌++◌, length, set, refl, sym, ap, ◌∙◌, subst, ⊎_elim, arith, append_assoc, eq-eqb, ne_eqb}
use Rattle.std.proofs.lemmas.List.Elements.{All-nil, All-push, All-contains, Contains-append_left, Contains-push, Contains-push_cases}
use Rattle.std.specs.List.{All, Contains}
use mathlib.Core.Option.{Option, none, some, some-injective, some-ne-none}
use lib.ListN.{get_elem?}
use Rattle.crossbeam_queue.specs.Fifo.{Pushes, Pops, Forks}
use Rattle.crossbeam_queue.proofs.Lists.{at_set}
use Rattle.mc_hits.specs.declared.{rule.Hit.Hit, rule.Root.Root, rule.Held.Held, rule.View.View}
use Rattle.mc_hits.specs.declared.rule.View.TheVariants as views
use Rattle.mc_hits.specs.Rule.{Taking, Ledger, Knows, IsFair, IsBefore, IsRising, AreApart, hits_of}
use Rattle.mc_hits.specs.Steps.{opening, offering, Taken, root_after, next_hand}
use Rattle.mc_hits.proofs.ListLemmas.{same_or_not, at_end, rising_push, apart_push, apart_before, takings_contains, taking_here, taking_else, taking_line}

abbrev pub ledger : (ℕ → List Hit) → (ℕ → Option ℕ) → List Taking → Ledger
ledger offers holder taken = record { offers = offers; holder = holder; taken = taken }

-- one view is changed
known_set : (l : Ledger) (seats : List View) (id : ℕ) (w : View)
    → ((j : ℕ) (u : View) → j ≢ id → get_elem? seats j ≡ some u → Knows l j u)
    → Knows l id w
    → (j : ℕ) (u : View) → get_elem? (set seats id w) j ≡ some u → Knows l j u
known_set l seats id w others mine j u e =
    ⊎_elim
    (λ (x : (j ≡ id) × (w ≡ u)). subst (λ (y : ℕ × View). Knows l y.0 y.1) (λ i. (sym x.0 i, x.1 i)) mine)
    (λ (x : (j ≢ id) × (get_elem? seats j ≡ some u)). others j u x.0 x.1)
    (at_set seats id j w u e)

-- a function with another value at one number
abbrev with_at : {A : Type 0} → ℕ → A → (ℕ → A) → ℕ → A
with_at {A} n a f j = cond (eqb j n) a (f j)

at_here : {A : Type 0} (n : ℕ) (a : A) (f : ℕ → A) → with_at n a f n ≡ a
at_here n a f = ap (λ b. cond b a (f n)) (eq-eqb n n refl)

at_else : {A : Type 0} (n : ℕ) (a : A) (f : ℕ → A) (j : ℕ) → j ≢ n → with_at n a f j ≡ f j
at_else n a f j apart = ap (λ b. cond b a (f j)) (ne_eqb j n apart)

-- what the other seats know after the holder of this caller has offered
others_offered : (o : ℕ → List Hit) (h : ℕ → Option ℕ) (t : List Taking) (caller id : ℕ) (list : List Hit) → h caller ≡ some id
    → (j : ℕ) (u : View) → j ≢ id → Knows (ledger o h t) j u → Knows (ledger (with_at caller list o) h t) j u
others_offered o h t caller id list mine j (views.Root root) apart k = (
  k.0,
  λ i le. let was = k.1 i le in (
    was.0,
    at_else caller list o i (λ (same : i ≡ caller). some-ne-none id (sym mine ∙ (ap h (sym same) ∙ was.0))) ∙ was.1,
    was.2,
  ),
)
others_offered o h t caller id list mine j (views.Hand held) apart k = (
  k.0,
  k.1 ∙ sym (at_else caller list o held.caller (λ (same : held.caller ≡ caller). apart (some-injective j id (sym k.0 ∙ (ap h same ∙ mine))))),
  k.2,
)

-- what the other seats know after the holder of this caller has taken
others_taken : (o : ℕ → List Hit) (h : ℕ → Option ℕ) (t : List Taking) (caller id : ℕ) (x : Hit) → h caller ≡ some id
    → (j : ℕ) (u : View) → j ≢ id → Knows (ledger o h t) j u → Knows (ledger o h (t ++ (record { by = caller; hit = x }) ∷ [])) j u
others_taken o h t caller id x mine j (views.Root root) apart k = (
  k.0,
  λ i le. let was = k.1 i le in (
    was.0,
    was.1,
    taking_else caller i t x (λ (same : i ≡ caller). some-ne-none id (sym mine ∙ (ap h (sym same) ∙ was.0))) ∙ was.2,
  ),
)
others_taken o h t caller id x mine j (views.Hand held) apart k = (
  k.0,
  k.1,
  k.2 ∙ sym (taking_else caller held.caller t x (λ (same : held.caller ≡ caller). apart (some-injective j id (sym k.0 ∙ (ap h same ∙ mine))))),
)

-- an offer of a later turn
pub offers : (n id : ℕ) (held : Held) (x : Hit) → x.who.caller ≡ held.caller → All (IsBefore x.who.turn) held.offers
    → Pushes IsFair n id (views.Hand held) x (λ w. w ≡ offering x (views.Hand held))
offers n id held x who later items seats room k at =
    let mine = k.known id (views.Hand held) at in
    let longer = held.offers ++ x ∷ [] in
    let all = with_at held.caller longer k.offers in
    let line = hits_of k.taken ++ items in
    let here : all held.caller ≡ longer = at_here held.caller longer k.offers in
    let fresh : ¬ (Contains line x) = λ (c : Contains line x).
    let was : Contains held.offers x = subst (λ (l : List Hit). Contains l x) (ap k.offers who ∙ sym mine.1) (k.offered x c) in
    absurd (omega (arith, All-contains (IsBefore x.who.turn) held.offers x later was)) in
    let end : (hits_of k.taken ++ items) ++ x ∷ [] ≡ hits_of k.taken ++ (items ++ x ∷ []) = append_assoc (hits_of k.taken) items (x ∷ []) in
    let w = views.Hand (record held { offers = longer }) in (
      w,
      record {
        offers = all;
        holder = k.holder;
        taken = k.taken;
        own = λ c. ⊎_elim
            (λ (same : c ≡ held.caller). subst (λ (d : ℕ). All (λ (h : Hit). h.who.caller ≡ d) (all d)) (sym same)
            (subst (All (λ (h : Hit). h.who.caller ≡ held.caller)) (sym here)
            (All-push (λ (h : Hit). h.who.caller ≡ held.caller) held.offers x (subst (All (λ (h : Hit). h.who.caller ≡ held.caller)) (sym mine.1) (k.own held.caller)) who)))
            (λ (apart : c ≢ held.caller). subst (All (λ (h : Hit). h.who.caller ≡ c)) (sym (at_else held.caller longer k.offers c apart)) (k.own c))
            (same_or_not c held.caller);
        rising = λ c. ⊎_elim
            (λ (same : c ≡ held.caller). subst (λ (d : ℕ). IsRising (all d)) (sym same)
            (subst IsRising (sym here) (rising_push held.offers x (subst IsRising (sym mine.1) (k.rising held.caller)) later)))
            (λ (apart : c ≢ held.caller). subst IsRising (sym (at_else held.caller longer k.offers c apart)) (k.rising c))
            (same_or_not c held.caller);
        offered = λ h c. ⊎_elim
            (λ (was : Contains line h). ⊎_elim
            (λ (same : h.who.caller ≡ held.caller). subst (λ (d : ℕ). Contains (all d) h) (sym same)
            (subst (λ (l : List Hit). Contains l h) (sym here) (Contains-append_left held.offers (x ∷ []) h (subst (λ (l : List Hit). Contains l h) (ap k.offers same ∙ sym mine.1) (k.offered h was)))))
            (λ (apart : h.who.caller ≢ held.caller). subst (λ (l : List Hit). Contains l h) (sym (at_else held.caller longer k.offers h.who.caller apart)) (k.offered h was))
            (same_or_not h.who.caller held.caller))
            (λ (new : x ≡ h). subst (λ (y : Hit). Contains (all y.who.caller) y) new
            (subst (λ (d : ℕ). Contains (all d) x) (sym who) (subst (λ (l : List Hit). Contains l x) (sym here) (Contains-push held.offers x))))
            (Contains-push_cases line x h (subst (λ (l : List Hit). Contains l h) (sym end) c));
        apart = subst AreApart end (apart_push line x k.apart fresh);
        known = known_set (ledger all k.holder k.taken) seats id w
            (λ j u apart e. others_offered k.offers k.holder k.taken held.caller id longer mine.0 j u apart (k.known j u e))
            (mine.0, sym here, mine.2);
      },
      refl,
    )

-- a taking
pub takes : (id : ℕ) (held : Held) → Pops IsFair id (views.Hand held) (Taken (views.Hand held))
takes id held x items seats k at =
    let mine = k.known id (views.Hand held) at in
    let t : Taking = record { by = held.caller; hit = x } in
    let taken = k.taken ++ t ∷ [] in
    let line : hits_of k.taken ++ x ∷ items ≡ hits_of taken ++ items = taking_line k.taken held.caller x items in
    let w = views.Hand (record held { takings = held.takings ++ x ∷ [] }) in (
      w,
      record {
        offers = k.offers;
        holder = k.holder;
        taken = taken;
        own = k.own;
        rising = k.rising;
        offered = λ h c. k.offered h (subst (λ (l : List Hit). Contains l h) (sym line) c);
        apart = subst AreApart line k.apart;
        known = known_set (ledger k.offers k.holder taken) seats id w
            (λ j u apart e. others_taken k.offers k.holder k.taken held.caller id x mine.0 j u apart (k.known j u e))
            (mine.0, mine.1, ap (λ l. l ++ x ∷ []) mine.2 ∙ sym (taking_here held.caller k.taken x));
      },
      (
        refl,
        λ (c : Contains held.takings x). apart_before (hits_of k.taken) x items k.apart
            (takings_contains held.caller k.taken x (subst (λ (l : List Hit). Contains l x) mine.2 c)),
      ),
    )

-- what the other seats know after the root has given out a hand
others_dealt : (o : ℕ → List Hit) (h : ℕ → Option ℕ) (t : List Taking) (id seat : ℕ) (root : Root) → Knows (ledger o h t) id (views.Root root)
    → (j : ℕ) (u : View) → j ≢ id → Knows (ledger o h t) j u → Knows (ledger o (with_at root.given (some seat) h) t) j u
others_dealt o h t id seat root mine j (views.Root other) apart k = absurd (apart (k.0 ∙ sym mine.0))
others_dealt o h t id seat root mine j (views.Hand held) apart k = (
  at_else root.given (some seat) h held.caller (λ (same : held.caller ≡ root.given). some-ne-none j (sym k.0 ∙ (ap h same ∙ (mine.1 root.given (omega arith)).0))) ∙ k.0,
  k.1,
  k.2,
)

pub deals : (id : ℕ) (root : Root) → Forks IsFair id (views.Root root) (root_after (views.Root root)) (next_hand (views.Root root))
deals id root items seats k at =
    let mine = k.known id (views.Root root) at in
    let left = root_after (views.Root root) in
    let right = next_hand (views.Root root) in
    let changed = set seats id left in
    let seat = length changed in
    let holder = with_at root.given (some seat) k.holder in
    let l = ledger k.offers holder k.taken in
    let none_yet = mine.1 root.given (omega arith) in
    record {
      offers = k.offers;
      holder = holder;
      taken = k.taken;
      own = k.own;
      rising = k.rising;
      offered = k.offered;
      apart = k.apart;
      known = λ j u e. ⊎_elim
          (λ was. known_set l seats id left
          (λ i x apart e'. others_dealt k.offers k.holder k.taken id seat root mine i x apart (k.known i x e'))
          (mine.0, λ c le. let old = mine.1 c (omega (arith, le)) in (at_else root.given (some seat) k.holder c (λ (same : c ≡ root.given). omega (arith, le, same)) ∙ old.0, old.1, old.2))
          j u was)
          (λ (new : (j ≡ seat) × (right ≡ u)). subst (λ (y : ℕ × View). Knows l y.0 y.1) (λ i. (sym new.0 i, new.1 i))
          (at_here root.given (some seat) k.holder, sym none_yet.1, sym none_yet.2))
          (at_end changed right u j e);
    }

-- the rule at the start
pub begins : IsFair [] (opening ∷ [])
begins =
    record {
      offers = λ _. [];
      holder = λ _. none;
      taken = [];
      own = λ c. All-nil (λ (h : Hit). h.who.caller ≡ c);
      rising = λ _. tt;
      offered = λ h c. c;
      apart = tt;
      known = one;
    }
  where
    one : (seat : ℕ) (v : View) → get_elem? (opening ∷ []) seat ≡ some v → Knows (ledger (λ _. []) (λ _. none) []) seat v
    one zero v e = subst (Knows (ledger (λ _. []) (λ _. none) []) 0) (some-injective opening v e) (refl, λ caller le. (refl, refl, refl))
    one (suc seat) v e = absurd (some-ne-none v (sym e))

-- the same at views that are known to be these
pub offers_as : (n id : ℕ) (held : Held) (v : View) (x : Hit) → v ≡ views.Hand held → x.who.caller ≡ held.caller → All (IsBefore x.who.turn) held.offers → Pushes IsFair n id v x (λ w. w ≡ offering x v)
offers_as n id held v x is who later = subst (λ (u : View). Pushes IsFair n id u x (λ w. w ≡ offering x u)) (sym is) (offers n id held x who later)

pub takes_as : (id : ℕ) (held : Held) (v : View) → v ≡ views.Hand held → Pops IsFair id v (Taken v)
takes_as id held v is = subst (λ (u : View). Pops IsFair id u (Taken u)) (sym is) (takes id held)

pub deals_as : (id : ℕ) (root : Root) (v : View) → v ≡ views.Root root → Forks IsFair id v (root_after v) (next_hand v)
deals_as id root v is = subst (λ (u : View). Forks IsFair id u (root_after u) (next_hand u)) (sym is) (deals id root)
