-- Which list a number is in.
use Rattle.std.proofs.Common.{◌≡◌, ℕ, zero, suc, ◌+◌, ◌-◌, ◌==◌, ◌<◌, ◌≤◌, inl, inr, List, [], ◌∷◌, Bool, Option, Some, None, refl, sym, ap, ◌∙◌, subst, arith}
use Rattle.std.specs.Prelude.{if◌then◌else◌, slice_get, IsSome, IfSome, length}
use Rattle.std.specs.Option.{option_map}
use Rattle.std.proofs.lemmas.Bool.{cases_lt, false≢true}
use Rattle.mc_item.specs.declared.{lists.Entry.Entry, lists.Seg.Seg}
use Rattle.mc_item.specs.declared.lists.Seg.TheVariants.{Hot, Warm, Cold, Temp}
use Rattle.mc_rule.specs.Lists.{Lists, list_of, find, found, found_in, segment_of, times, times_in}
use Rattle.mc_segment.proofs.{ChainLemmas.by_eq, ChainLemmas.itself, ChainLemmas.some_none, TailLemmas.stands_once, TailLemmas.once_in}

times_none : (q : ℕ) (es : List Entry) → times q es ≡ 0 → find q es ≡ None
times_none q [] h = refl
times_none q (e ∷ es) h =
    by_eq e.number q (λ b. (if b then 1 else 0) + times q es ≡ 0 → (if b then Some e else find q es) ≡ None)
    (λ same k. absurd (omega arith))
    (λ other k. times_none q es (omega arith))
    h

-- what stands at a place is the entry of its number, where that stands once
find_there : (es : List Entry) (k : ℕ) (e : Entry) → slice_get es k ≡ Some e → times e.number es ≤ 1 → find e.number es ≡ Some e
find_there [] k e h once = absurd (some_none h)
find_there (x ∷ es) zero e h once =
    let same : x ≡ e = cc in
    ap (λ (y : Entry). if x.number == y.number then Some x else find y.number es) (sym same)
    ∙ (ap (λ (b : Bool). if b then Some x else find x.number es) (itself x.number) ∙ ap (λ (y : Entry). Some y) same)
find_there (x ∷ es) (suc k) e h once =
    by_eq x.number e.number (λ b. (if b then 1 else 0) + times e.number es ≤ 1 → (if b then Some x else find e.number es) ≡ Some e)
    (λ same most. let here = stands_once es k e h in absurd (omega arith))
    (λ other most. find_there es k e h (omega arith))
    once

-- an entry of one list is found there, where its number stands once in all
found_there : (l : Lists) (s : Seg) (e : Entry) → find e.number (list_of l s) ≡ Some e → 1 ≤ times e.number (list_of l s) → times_in e.number l ≤ 1 → found e.number l ≡ Some (s, e)
found_there l Hot e h here once =
    ap (λ (o : Option Entry). found_in Hot o (found_in Warm (find e.number l.warm) (found_in Cold (find e.number l.cold) (found_in Temp (find e.number l.temp) None)))) h
found_there l Warm e h here once =
    ap (λ (o : Option Entry). found_in Hot o (found_in Warm (find e.number l.warm) (found_in Cold (find e.number l.cold) (found_in Temp (find e.number l.temp) None)))) (times_none e.number l.hot (omega arith))
    ∙ ap (λ (o : Option Entry). found_in Warm o (found_in Cold (find e.number l.cold) (found_in Temp (find e.number l.temp) None))) h
found_there l Cold e h here once =
    ap (λ (o : Option Entry). found_in Hot o (found_in Warm (find e.number l.warm) (found_in Cold (find e.number l.cold) (found_in Temp (find e.number l.temp) None)))) (times_none e.number l.hot (omega arith))
    ∙ (ap (λ (o : Option Entry). found_in Warm o (found_in Cold (find e.number l.cold) (found_in Temp (find e.number l.temp) None))) (times_none e.number l.warm (omega arith))
    ∙ ap (λ (o : Option Entry). found_in Cold o (found_in Temp (find e.number l.temp) None)) h)
found_there l Temp e h here once =
    ap (λ (o : Option Entry). found_in Hot o (found_in Warm (find e.number l.warm) (found_in Cold (find e.number l.cold) (found_in Temp (find e.number l.temp) None)))) (times_none e.number l.hot (omega arith))
    ∙ (ap (λ (o : Option Entry). found_in Warm o (found_in Cold (find e.number l.cold) (found_in Temp (find e.number l.temp) None))) (times_none e.number l.warm (omega arith))
    ∙ (ap (λ (o : Option Entry). found_in Cold o (found_in Temp (find e.number l.temp) None)) (times_none e.number l.cold (omega arith))
    ∙ ap (λ (o : Option Entry). found_in Temp o None) h))

-- what a look from the tail answers is found in the list that was looked at
pub found_read : (l : Lists) (s : Seg) (k : ℕ) (o : Option Entry) → o ≡ slice_get (list_of l s) k → ((q : ℕ) → times_in q l ≤ 1)
    → IfSome o (λ e. (find e.number (list_of l s) ≡ Some e) × (found e.number l ≡ Some (s, e)))
found_read l s k None h once = tt
found_read l s k (Some e) h once =
    let there = find_there (list_of l s) k e (sym h) (once_in e.number l s (once e.number)) in
    (there, found_there l s e there (stands_once (list_of l s) k e (sym h)) (once e.number))

abbrev chosen : Seg → Option Entry → Option Entry → Option Entry → Option Entry → Option Entry
chosen Hot a b c d = a
chosen Warm a b c d = b
chosen Cold a b c d = c
chosen Temp a b c d = d

none_some : {A : Type 0} {x : A} → None ≡ Some x → ⊥
none_some h = cc

some_seg : (s t : Seg) → Some s ≡ Some t → s ≡ t
some_seg s t h = cc

chosen_some : (a b c d : Option Entry) (s : Seg) → option_map (λ (p : Seg × Entry). p.0) (found_in Hot a (found_in Warm b (found_in Cold c (found_in Temp d None)))) ≡ Some s → IsSome (chosen s a b c d)
chosen_some (Some e) b c d s h = subst (λ (t : Seg). IsSome (chosen t (Some e) b c d)) (some_seg Hot s h) refl
chosen_some None (Some e) c d s h = subst (λ (t : Seg). IsSome (chosen t None (Some e) c d)) (some_seg Warm s h) refl
chosen_some None None (Some e) d s h = subst (λ (t : Seg). IsSome (chosen t None None (Some e) d)) (some_seg Cold s h) refl
chosen_some None None None (Some e) s h = subst (λ (t : Seg). IsSome (chosen t None None None (Some e))) (some_seg Temp s h) refl
chosen_some None None None None s h = absurd (none_some h)

-- a number is in the list of its segment
pub is_inside : (l : Lists) (q : ℕ) (s : Seg) → segment_of q l ≡ Some s → IsSome (find q (list_of l s))
is_inside l q Hot h = chosen_some (find q l.hot) (find q l.warm) (find q l.cold) (find q l.temp) Hot h
is_inside l q Warm h = chosen_some (find q l.hot) (find q l.warm) (find q l.cold) (find q l.temp) Warm h
is_inside l q Cold h = chosen_some (find q l.hot) (find q l.warm) (find q l.cold) (find q l.temp) Cold h
is_inside l q Temp h = chosen_some (find q l.hot) (find q l.warm) (find q l.cold) (find q l.temp) Temp h

nothing_found : (l : Lists) (s : Seg) (o : Option Entry) → o ≡ None → IfSome o (λ e. (find e.number (list_of l s) ≡ Some e) × (found e.number l ≡ Some (s, e)))
nothing_found l s o h =
    let P : Option Entry → Type 0 = λ x. IfSome x (λ e. (find e.number (list_of l s) ≡ Some e) × (found e.number l ≡ Some (s, e))) in
    subst P (sym h) tt

-- the same of a look from the tail, by its place from the head
pub found_tail : (l : Lists) (s : Seg) (j : ℕ) (o : Option Entry) → (j < length (list_of l s) → o ≡ slice_get (list_of l s) (length (list_of l s) - 1 - j))
    → (length (list_of l s) ≤ j → o ≡ None) → ((q : ℕ) → times_in q l ≤ 1)
    → IfSome o (λ e. (find e.number (list_of l s) ≡ Some e) × (found e.number l ≡ Some (s, e)))
found_tail l s j o within past once =
    elim (cases_lt j (length (list_of l s))) [ inl less ↦ found_read l s _ o (within less) once | inr more ↦ nothing_found l s o (past more) ]

-- what is found has the number that was asked for
pub find_number : (q : ℕ) (es : List Entry) (e : Entry) → find q es ≡ Some e → e.number ≡ q
find_number q [] e h = absurd (none_some h)
find_number q (x ∷ es) e h =
    by_eq x.number q (λ b. (if b then Some x else find q es) ≡ Some e → e.number ≡ q)
    (λ same k. let is : x ≡ e = cc in ap (λ (y : Entry). y.number) (sym is) ∙ same)
    (λ other k. find_number q es e k)
    h

-- what is found stands there
pub find_times : (q : ℕ) (es : List Entry) (e : Entry) → find q es ≡ Some e → 1 ≤ times q es
find_times q [] e h = absurd (none_some h)
find_times q (x ∷ es) e h =
    by_eq x.number q (λ b. (if b then Some x else find q es) ≡ Some e → 1 ≤ (if b then 1 else 0) + times q es)
    (λ same k. omega arith)
    (λ other k. let later = find_times q es e k in omega arith)
    h

there_as : (l : Lists) (q : ℕ) (s : Seg) (o : Option Entry) → find q (list_of l s) ≡ o → IsSome o → times_in q l ≤ 1 → segment_of q l ≡ Some s
there_as l q s None h some once = absurd (false≢true some)
there_as l q s (Some e) h some once =
    let same : e.number ≡ q = find_number q (list_of l s) e h in
    let here = find_times q (list_of l s) e h in
    let P : ℕ → Type 0 = λ n. find n (list_of l s) ≡ Some e → 1 ≤ times n (list_of l s) → times_in n l ≤ 1 → segment_of n l ≡ Some s in
    (subst P same (λ f t o. ap (option_map (λ (p : Seg × Entry). p.0)) (found_there l s e f t o))) h here once

-- a number's segment is that of the list that it is in
pub segment_is : (l : Lists) (q : ℕ) (s : Seg) → IsSome (find q (list_of l s)) → times_in q l ≤ 1 → segment_of q l ≡ Some s
segment_is l q s some once = there_as l q s (find q (list_of l s)) refl some once
