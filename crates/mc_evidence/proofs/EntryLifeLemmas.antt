-- What lawful events of a class begin and end: an entry begins with its `Linked` alone, and ends with an event that takes
-- its number out; no number begins twice.
use Rattle.std.proofs.Common.{◌≡◌, ◌≢◌, ℕ, ◌==◌, List, [], ◌∷◌, ◌++◌, Bool, true, false, Option, Some, None, refl, sym, ap, ◌∙◌, subst, inl, inr, ◌⊎◌, ◌≤◌}
use Rattle.std.specs.Option.{option_map}
use Rattle.std.proofs.lemmas.Bool.{false≢true, eqb-true}
use Rattle.std.specs.Prelude.{IsSome}
use Rattle.mc_item.specs.declared.{class_event.ClassEvent.ClassEvent, class_event.Linked.Linked, class_event.Shifted.Shifted, lists.Entry.Entry, lists.Seg.Seg}
use Rattle.mc_item.specs.declared.{lists.Seg.TheVariants.Cold}
use Rattle.mc_item.specs.declared.class_event.ClassEvent.TheVariants as events
use Rattle.mc_rule.proofs.{HistoryLemmas.lawful_at, HistoryLemmas.lawful_before, HistoryLemmas.lists_of-push, HistoryLemmas.stands_named, OnceLemmas.IsNumbered}
use Rattle.mc_rule.proofs.{OnceLemmas.numbered, EventPlaceLemmas.in_order, TestLemmas.is_some_of, TestLemmas.itself, TestLemmas.none_some, TestLemmas.some_same}
use Rattle.mc_rule.proofs.ListLemmas.{found_there, linked_found, moved_found, nowhere, other_stays, unlinked_times}
use Rattle.mc_rule.specs.{Lawful.IsLawfulByLists, Lawful.IsLawfulHistoryByLists, Lawful.is_named, Lawful.names, Partners.TakesOut, Places.Stands, Segment.Rule}
use Rattle.mc_rule.specs.Lists.{Lists, entry, find, found, list_of, lists_after, lists_of, moved, time_after, times_in, unlinked}
use Rattle.mc_evidence.proofs.{SameItemLemmas.is_kept, BeganLemmas.Once, BeganLemmas.Turns, BeganLemmas.turned}

-- the key and the cost of a number's entry, where there is one
abbrev pub kept : ℕ → List ClassEvent → Option (List ℕ × ℕ)
kept n h = option_map (λ p. (p.1.key, p.1.cost)) (found n (lists_of h))

-- an event of a class is a link of this number with this key and cost
abbrev pub IsLinkOf : ℕ → List ℕ → ℕ → ClassEvent → Type 0
IsLinkOf n key cost (events.Linked e) = (e.number ≡ n) × (e.key ≡ key) × (e.cost ≡ cost)
IsLinkOf n key cost (events.Unlinked e) = ⊥
IsLinkOf n key cost (events.Shifted e) = ⊥
IsLinkOf n key cost (events.Evicted e) = ⊥
IsLinkOf n key cost (events.Reclaimed e) = ⊥
IsLinkOf n key cost (events.Surveyed e) = ⊥
IsLinkOf n key cost (events.Refused e) = ⊥
IsLinkOf n key cost (events.Limited e) = ⊥

module _ (chunks : ℕ) (rule : Rule) where
  -- ---- what an event makes of a number's entry

  kept_other : (n : ℕ) (h : List ClassEvent) (e : ClassEvent) → names n e ≡ false → kept n (h ++ e ∷ []) ≡ kept n h
  kept_other n h e is = ap (λ l. option_map (λ (p : Seg × Entry). (p.1.key, p.1.cost)) (found n l)) (lists_of-push h e) ∙ ap (option_map (λ (p : Seg × Entry). (p.1.key, p.1.cost))) (other_stays n (lists_of h) e is)

  kept_after : (n : ℕ) (h : List ClassEvent) (e : ClassEvent) (o : Option (Seg × Entry)) → found n (lists_after (lists_of h) e) ≡ o → kept n (h ++ e ∷ []) ≡ option_map (λ (p : Seg × Entry). (p.1.key, p.1.cost)) o
  kept_after n h e o is = ap (λ l. option_map (λ (p : Seg × Entry). (p.1.key, p.1.cost)) (found n l)) (lists_of-push h e) ∙ ap (option_map (λ (p : Seg × Entry). (p.1.key, p.1.cost))) is

  pub kept_linked : (n : ℕ) (h : List ClassEvent) (e : Linked) → IsNumbered h → IsLawfulByLists chunks rule h (events.Linked e) → e.number ≡ n
      → (kept n h ≡ None) × (kept n (h ++ events.Linked e ∷ []) ≡ Some (e.key, e.cost))
  kept_linked n h e inv may same =
      let none = inv.unnamed n (subst (λ m. is_named m h ≡ false) same may.1) in (
        ap (option_map (λ (p : Seg × Entry). (p.1.key, p.1.cost))) (nowhere n (lists_of h) none),
        kept_after n h (events.Linked e) (Some (e.seg, entry e.number e.key e.cost e.moment)) (linked_found n e.seg (entry e.number e.key e.cost e.moment) (lists_of h) same none),
      )

  kept_gone : (n m : ℕ) (h : List ClassEvent) → IsNumbered h → m ≡ n → found n (unlinked m (lists_of h)) ≡ None
  kept_gone n m h inv same = subst (λ k. found n (unlinked k (lists_of h)) ≡ None) (sym same) (nowhere n (unlinked n (lists_of h)) (unlinked_times n (lists_of h) (inv.once n)))

  -- an event that takes a number out leaves no entry of it
  pub kept_left : (n : ℕ) (h : List ClassEvent) (e : ClassEvent) → IsNumbered h → TakesOut n e → kept n (h ++ e ∷ []) ≡ None
  kept_left n h (events.Linked e) inv leaves = absurd leaves
  kept_left n h (events.Unlinked e) inv leaves = kept_after n h (events.Unlinked e) None (kept_gone n e.number h inv leaves)
  kept_left n h (events.Shifted e) inv leaves = absurd leaves
  kept_left n h (events.Evicted e) inv leaves = kept_after n h (events.Evicted e) None (kept_gone n e.number h inv leaves)
  kept_left n h (events.Reclaimed e) inv leaves = kept_after n h (events.Reclaimed e) None (kept_gone n e.number h inv leaves)
  kept_left n h (events.Surveyed e) inv leaves = absurd leaves
  kept_left n h (events.Refused e) inv leaves = absurd leaves
  kept_left n h (events.Limited e) inv leaves = absurd leaves

  kept_shifted : (n : ℕ) (h : List ClassEvent) (e : Shifted) → IsNumbered h → IsLawfulByLists chunks rule h (events.Shifted e) → e.number ≡ n → kept n (h ++ events.Shifted e ∷ []) ≡ kept n h
  kept_shifted n h e inv may same =
      let there = is_some_of (find e.number (list_of (lists_of h) e.from_seg)) may.0 in
      let at : find n (list_of (lists_of h) e.from_seg) ≡ Some there.0 = subst (λ m. find m (list_of (lists_of h) e.from_seg) ≡ Some there.0) same there.1 in
      let now = subst (λ m. found n (moved m e.from_seg e.to_seg e.why e.moment (lists_of h))
      ≡ Some (e.to_seg, record (there.0) { time = time_after e.why e.moment there.0.time })) (sym same)
      (moved_found n e.from_seg e.to_seg e.why e.moment (lists_of h) there.0 at (inv.once n)) in
      kept_after n h (events.Shifted e) _ now ∙ sym (ap (option_map (λ (p : Seg × Entry). (p.1.key, p.1.cost))) (found_there n (lists_of h) e.from_seg there.0 at (inv.once n)))

  -- what wasn't listed so and now is was linked
  pub rise : (n : ℕ) (key : List ℕ) (cost : ℕ) (h : List ClassEvent) (e : ClassEvent) → IsNumbered h → IsLawfulByLists chunks rule h e → kept n h ≢ Some (key, cost) → kept n (h ++ e ∷ []) ≡ Some (key, cost)
      → IsLinkOf n key cost e
  rise n key cost h e inv may was now = by (names n e) refl
    where
      named : (x : ClassEvent) → IsLawfulByLists chunks rule h x → names n x ≡ true → kept n (h ++ x ∷ []) ≡ Some (key, cost) → IsLinkOf n key cost x
      named (events.Linked x) may is now =
          let same = eqb-true x.number n is in
          let both : (x.key, x.cost) ≡ (key, cost) = some_same _ _ (sym (kept_linked n h x inv may same).1 ∙ now) in
          (same, ap (λ p. p.0) both, ap (λ p. p.1) both)
      named (events.Unlinked x) may is now = absurd (none_some (sym (kept_left n h (events.Unlinked x) inv (eqb-true x.number n is)) ∙ now))
      named (events.Shifted x) may is now = absurd (was (sym (kept_shifted n h x inv may (eqb-true x.number n is)) ∙ now))
      named (events.Evicted x) may is now = absurd (none_some (sym (kept_left n h (events.Evicted x) inv (eqb-true x.number n is)) ∙ now))
      named (events.Reclaimed x) may is now = absurd (none_some (sym (kept_left n h (events.Reclaimed x) inv (eqb-true x.number n is)) ∙ now))
      named (events.Surveyed x) may is now = absurd (false≢true is)
      named (events.Refused x) may is now = absurd (false≢true is)
      named (events.Limited x) may is now = absurd (false≢true is)

      by : (b : Bool) → names n e ≡ b → IsLinkOf n key cost e
      by true is = named e may is now
      by false is = absurd (was (sym (kept_other n h e is) ∙ now))

  -- what was listed so and now isn't was taken out
  pub fall : (n : ℕ) (key : List ℕ) (cost : ℕ) (h : List ClassEvent) (e : ClassEvent) → IsNumbered h → IsLawfulByLists chunks rule h e → kept n h ≡ Some (key, cost) → kept n (h ++ e ∷ []) ≢ Some (key, cost)
      → TakesOut n e
  fall n key cost h e inv may was now = by (names n e) refl
    where
      named : (x : ClassEvent) → IsLawfulByLists chunks rule h x → names n x ≡ true → kept n (h ++ x ∷ []) ≢ Some (key, cost) → TakesOut n x
      named (events.Linked x) may is now = absurd (none_some (sym (kept_linked n h x inv may (eqb-true x.number n is)).0 ∙ was))
      named (events.Unlinked x) may is now = eqb-true x.number n is
      named (events.Shifted x) may is now = absurd (now (kept_shifted n h x inv may (eqb-true x.number n is) ∙ was))
      named (events.Evicted x) may is now = eqb-true x.number n is
      named (events.Reclaimed x) may is now = eqb-true x.number n is
      named (events.Surveyed x) may is now = absurd (false≢true is)
      named (events.Refused x) may is now = absurd (false≢true is)
      named (events.Limited x) may is now = absurd (false≢true is)

      by : (b : Bool) → names n e ≡ b → TakesOut n e
      by true is = named e may is now
      by false is = absurd (now (kept_other n h e is ∙ was))

  -- ---- whole histories

  link_named : (n : ℕ) (key : List ℕ) (cost : ℕ) (e : ClassEvent) → IsLinkOf n key cost e → names n e ≡ true
  link_named n key cost (events.Linked e) is = ap (λ m. m == n) is.0 ∙ itself n
  link_named n key cost (events.Unlinked e) is = absurd is
  link_named n key cost (events.Shifted e) is = absurd is
  link_named n key cost (events.Evicted e) is = absurd is
  link_named n key cost (events.Reclaimed e) is = absurd is
  link_named n key cost (events.Surveyed e) is = absurd is
  link_named n key cost (events.Refused e) is = absurd is
  link_named n key cost (events.Limited e) is = absurd is

  -- a link's number wasn't named before
  link_new : (n : ℕ) (key : List ℕ) (cost : ℕ) (h : List ClassEvent) (e : ClassEvent) → IsLawfulByLists chunks rule h e → IsLinkOf n key cost e → is_named n h ≡ false
  link_new n key cost h (events.Linked e) may is = subst (λ m. is_named m h ≡ false) is.0 may.1
  link_new n key cost h (events.Unlinked e) may is = absurd is
  link_new n key cost h (events.Shifted e) may is = absurd is
  link_new n key cost h (events.Evicted e) may is = absurd is
  link_new n key cost h (events.Reclaimed e) may is = absurd is
  link_new n key cost h (events.Surveyed e) may is = absurd is
  link_new n key cost h (events.Refused e) may is = absurd is
  link_new n key cost h (events.Limited e) may is = absurd is

  module _ (n : ℕ) (key : List ℕ) (cost : ℕ) where
    -- the number isn't listed with this key and cost; it is
    abbrev pub NotKept : List ClassEvent → Type 0
    NotKept h = kept n h ≢ Some (key, cost)

    abbrev pub Kept : List ClassEvent → Type 0
    Kept h = kept n h ≡ Some (key, cost)

    pub which_kept : (h : List ClassEvent) → NotKept h ⊎ Kept h
    which_kept h = is_kept key cost (kept n h)

    pub kept_apart : (h : List ClassEvent) → NotKept h → Kept h → ⊥
    kept_apart h was now = was now

    pub rise_at : (h : List ClassEvent) → IsLawfulHistoryByLists chunks rule h → (t : Turns NotKept Kept h) → IsLinkOf n key cost t.e
    rise_at h lawful t = rise n key cost t.before t.e (numbered chunks rule t.before (lawful_before chunks rule h t.before t.e lawful t.stands)) (lawful_at chunks rule h t.before t.e lawful t.stands) t.was t.now

    pub fall_at : (h : List ClassEvent) → IsLawfulHistoryByLists chunks rule h → (t : Turns Kept NotKept h) → TakesOut n t.e
    fall_at h lawful t = fall n key cost t.before t.e (numbered chunks rule t.before (lawful_before chunks rule h t.before t.e lawful t.stands)) (lawful_at chunks rule h t.before t.e lawful t.stands) t.was t.now

    -- an entry begins once at the most
    pub kept_once : (h : List ClassEvent) → IsLawfulHistoryByLists chunks rule h → Once NotKept Kept h
    kept_once h lawful t u =
        let first = rise_at t.before (lawful_before chunks rule h t.before t.e lawful t.stands) u in
        let second = rise_at h lawful t in
        false≢true (sym (link_new n key cost t.before t.e (lawful_at chunks rule h t.before t.e lawful t.stands) second) ∙ stands_named n t.before u.before u.e u.stands (link_named n key cost u.e first))

    -- what is listed was linked
    pub was_linked : (h : List ClassEvent) → IsLawfulHistoryByLists chunks rule h → Kept h → (before : List ClassEvent) × (e : ClassEvent) × Stands h before e × IsLinkOf n key cost e
    was_linked h lawful now =
        let t = turned NotKept Kept which_kept kept_apart h (λ k. none_some k) now in
        (t.before, t.e, t.stands, rise_at h lawful t)

  -- a number is linked once
  pub linked_once : (n : ℕ) (h b1 b2 : List ClassEvent) (key1 key2 : List ℕ) (cost1 cost2 : ℕ) (e1 e2 : ClassEvent) → IsLawfulHistoryByLists chunks rule h → Stands h b1 e1 → Stands h b2 e2
      → IsLinkOf n key1 cost1 e1 → IsLinkOf n key2 cost2 e2 → (key1 ≡ key2) × (cost1 ≡ cost2)
  linked_once n h b1 b2 key1 key2 cost1 cost2 e1 e2 lawful s1 s2 is1 is2 =
      elim (in_order h b1 b2 e1 e2 s1 s2) [
        | inl r ↦ absurd (false≢true (sym (link_new n key2 cost2 b2 e2 (lawful_at chunks rule h b2 e2 lawful s2) is2) ∙ stands_named n b2 b1 e1 r (link_named n key1 cost1 e1 is1)))
        | inr u ↦ elim u [
          | inl now ↦ same e2 (subst (IsLinkOf n key1 cost1) now.1 is1) is2
          | inr r ↦ absurd (false≢true (sym (link_new n key1 cost1 b1 e1 (lawful_at chunks rule h b1 e1 lawful s1) is1) ∙ stands_named n b1 b2 e2 r (link_named n key2 cost2 e2 is2)))
        ]
      ]
    where
      same : (e : ClassEvent) → IsLinkOf n key1 cost1 e → IsLinkOf n key2 cost2 e → (key1 ≡ key2) × (cost1 ≡ cost2)
      same (events.Linked e) p q = (sym p.1 ∙ q.1, sym p.2 ∙ q.2)
      same (events.Unlinked e) p q = absurd p
      same (events.Shifted e) p q = absurd p
      same (events.Evicted e) p q = absurd p
      same (events.Reclaimed e) p q = absurd p
      same (events.Surveyed e) p q = absurd p
      same (events.Refused e) p q = absurd p
      same (events.Limited e) p q = absurd p

-- an entry that is found is kept with its key and cost
pub kept_by : (n : ℕ) (h : List ClassEvent) (s : Seg) (x : Entry) → found n (lists_of h) ≡ Some (s, x) → kept n h ≡ Some (x.key, x.cost)
kept_by n h s x is = ap (option_map (λ (p : Seg × Entry). (p.1.key, p.1.cost))) is

-- an entry that is kept so is found
pub found_by_kept : (n : ℕ) (l : Lists) (o : Option (Seg × Entry)) (key : List ℕ) (cost : ℕ) → found n l ≡ o → option_map {U = List ℕ × ℕ} (λ (p : Seg × Entry). (p.1.key, p.1.cost)) o ≡ Some (key, cost)
    → (s : Seg) × (x : Entry) × (found n l ≡ Some (s, x)) × (x.key ≡ key) × (x.cost ≡ cost)
found_by_kept n l None key cost is h = absurd (none_some h)
found_by_kept n l (Some p) key cost is h =
    let both : (p.1.key, p.1.cost) ≡ (key, cost) = some_same _ _ h in
    (p.0, p.1, is, ap (λ (q : List ℕ × ℕ). q.0) both, ap (λ (q : List ℕ × ℕ). q.1) both)

-- a number that is listed has an entry
pub listed_by : (n : ℕ) (l : Lists) (o : Option (Seg × Entry)) → found n l ≡ o → IsSome o → (s : Seg) × (x : Entry) × (found n l ≡ Some (s, x))
listed_by n l None is h = absurd (cc)
listed_by n l (Some p) is h = (p.0, p.1, is)

-- and so has one that is in COLD
pub in_cold : (n : ℕ) (l : Lists) (o : Option Entry) → find n l.cold ≡ o → IsSome o → times_in n l ≤ 1 → (s : Seg) × (x : Entry) × (found n l ≡ Some (s, x))
in_cold n l None is h once = absurd (cc)
in_cold n l (Some x) is h once = (Cold, x, found_there n l Cold x is once)
