-- In a lawful class each number stands once at the most.
use Rattle.std.proofs.Common.{◌≡◌, ℕ, ◌≤◌, List, [], ◌∷◌, ◌++◌, Bool, true, false, Some, refl, sym, ap, ◌∙◌, subst, append_assoc, append-nil, arith}
use Rattle.std.proofs.lemmas.Bool.{false≢true, eqb-true}
use Rattle.mc_item.specs.declared.class_event.ClassEvent.{ClassEvent}
use Rattle.mc_item.specs.declared.class_event.ClassEvent.TheVariants as events
use Rattle.mc_rule.proofs.{HistoryLemmas.is_named-push, HistoryLemmas.lists_of-push, HistoryLemmas.neither, ListLemmas.linked_times, ListLemmas.moved_times}
use Rattle.mc_rule.proofs.{ListLemmas.other_times, ListLemmas.unlinked_times, TestLemmas.is_some_of}
use Rattle.mc_rule.specs.{Lawful.IsLawfulByLists, Lawful.IsLawfulByListsFrom, Lawful.IsLawfulHistoryByLists, Lawful.is_named, Lawful.names, Segment.Rule}
use Rattle.mc_rule.specs.Lists.{entry, find, list_of, lists_after, lists_of, moved, times_in, unlinked}

-- each number stands once at the most, and nowhere where no event named it
pub record IsNumbered (h : List ClassEvent) : Type 0 where
  pub once : (n : ℕ) → times_in n (lists_of h) ≤ 1
  pub unnamed : (n : ℕ) → is_named n h ≡ false → times_in n (lists_of h) ≡ 0

module _ (chunks : ℕ) (rule : Rule) where
  -- ---- how often a number stands

  named_times : (n : ℕ) (h : List ClassEvent) (e : ClassEvent) → IsNumbered h → IsLawfulByLists chunks rule h e → names n e ≡ true → times_in n (lists_after (lists_of h) e) ≤ 1
  named_times n h (events.Linked e) inv may is =
      let same = eqb-true e.number n is in
      let none = inv.unnamed n (subst (λ m. is_named m h ≡ false) same may.1) in
      let more = linked_times n e.seg (entry e.number e.key e.cost e.moment) (lists_of h) same in
      omega arith
  named_times n h (events.Unlinked e) inv may is =
      let none : times_in n (unlinked e.number (lists_of h)) ≡ 0 = subst (λ m. times_in n (unlinked m (lists_of h)) ≡ 0) (sym (eqb-true e.number n is)) (unlinked_times n (lists_of h) (inv.once n)) in
      omega arith
  named_times n h (events.Evicted e) inv may is =
      let none : times_in n (unlinked e.number (lists_of h)) ≡ 0 = subst (λ m. times_in n (unlinked m (lists_of h)) ≡ 0) (sym (eqb-true e.number n is)) (unlinked_times n (lists_of h) (inv.once n)) in
      omega arith
  named_times n h (events.Reclaimed e) inv may is =
      let none : times_in n (unlinked e.number (lists_of h)) ≡ 0 = subst (λ m. times_in n (unlinked m (lists_of h)) ≡ 0) (sym (eqb-true e.number n is)) (unlinked_times n (lists_of h) (inv.once n)) in
      omega arith
  named_times n h (events.Shifted e) inv may is =
      let same = eqb-true e.number n is in
      let there = is_some_of (find e.number (list_of (lists_of h) e.from_seg)) may.0 in
      let as_often : times_in n (moved e.number e.from_seg e.to_seg e.why e.moment (lists_of h)) ≡ times_in n (lists_of h) =
      subst (λ m. find m (list_of (lists_of h) e.from_seg) ≡ Some there.0 → times_in n (moved m e.from_seg e.to_seg e.why e.moment (lists_of h)) ≡ times_in n (lists_of h)) (sym same)
      (λ at. moved_times n e.from_seg e.to_seg e.why e.moment (lists_of h) there.0 at) there.1 in
      let was = inv.once n in
      omega arith
  named_times n h (events.Surveyed e) inv may is = absurd (false≢true is)
  named_times n h (events.Refused e) inv may is = absurd (false≢true is)
  named_times n h (events.Limited e) inv may is = absurd (false≢true is)

  still_numbered : (h : List ClassEvent) (e : ClassEvent) → IsNumbered h → IsLawfulByLists chunks rule h e → IsNumbered (h ++ e ∷ [])
  still_numbered h e inv may = record {
    once = λ n. subst (λ l. times_in n l ≤ 1) (sym (lists_of-push h e)) (by n (names n e) refl);
    unnamed = λ n none.
        let both = neither (is_named n h) (names n e) (sym (is_named-push n h e) ∙ none) in
        ap (times_in n) (lists_of-push h e) ∙ (other_times n (lists_of h) e both.1 ∙ inv.unnamed n both.0);
  }
    where
      by : (n : ℕ) (b : Bool) → names n e ≡ b → times_in n (lists_after (lists_of h) e) ≤ 1
      by n true is = named_times n h e inv may is
      by n false is =
          let same = other_times n (lists_of h) e is in
          let was = inv.once n in
          omega arith

  numbered_from : (pre es : List ClassEvent) → IsNumbered pre → IsLawfulByListsFrom chunks rule pre es → IsNumbered (pre ++ es)
  numbered_from pre [] inv lawful = subst IsNumbered (sym (append-nil pre)) inv
  numbered_from pre (e ∷ es) inv lawful = subst IsNumbered (append_assoc pre (e ∷ []) es) (numbered_from (pre ++ e ∷ []) es (still_numbered pre e inv lawful.0) lawful.1)

  -- in a lawful history each number stands once at the most
  pub numbered : (h : List ClassEvent) → IsLawfulHistoryByLists chunks rule h → IsNumbered h
  numbered h lawful = numbered_from [] h record { once = λ n. omega arith; unnamed = λ n none. refl } lawful
