-- What a class keeps, one event later.
use Rattle.std.proofs.Common.{◌≡◌, ◌+◌, ◌<◌, ◌≤◌, ◌^◌, ◌==◌, ℕ, List, [], ◌∷◌, ◌++◌, Bool, true, false, Some, None, length, refl, sym, ap, ◌∙◌, subst, append_assoc, length-append, arith}
use Rattle.std.specs.Prelude.{◌||◌, not, if◌then◌else◌, slice_get}
use Rattle.std.proofs.lemmas.{Bool.false≢true, List.append-nil, Bool.Decides.nat_tests}
use Rattle.mc_item.specs.declared.{class_event.ClassEvent.ClassEvent, config.Config.Config, item.ClassNo.ClassNo}
use Rattle.mc_item.specs.declared.class_event.ClassEvent.TheVariants as events
use Rattle.mc_item.specs.declared.config.ConfigFault.TheVariants.{Stripes, Sizes, Chunks, Percent, Factor, Callers, Events}
use Rattle.mc_item.specs.Config.{fault_of, are_stripes, are_sizes, are_chunks, are_percents, are_factors, are_callers, are_events}
use Rattle.mc_rule.proofs.HistoryLemmas.{chunks_from-push}
use Rattle.mc_rule.specs.Lists.{Lists, no_lists, lists_from, lists_of, lists_after, chunks_after, entries_linked_by, entries_linked}
use Rattle.mc_rule.specs.{Segment.Rule, Lawful.names, Lawful.is_named, Lawful.IsLawfulByLists, Lawful.IsLawfulByListsFrom}
use Rattle.mc_segment.specs.{Arena.Held, ClassState.ClassView, ClassState.class_view, ClassState.HasPlaces, ClassState.IsReplay}
use Rattle.mc_segment.proofs.ChainLemmas.{not_equal}

-- ---- one event more
pub lists_from-push : (l : Lists) (es : List ClassEvent) (e : ClassEvent) → lists_from l (es ++ e ∷ []) ≡ lists_after (lists_from l es) e
lists_from-push l [] e = refl
lists_from-push l (x ∷ es) e = lists_from-push (lists_after l x) es e

pub entries_linked-push : (es : List ClassEvent) (e : ClassEvent) → entries_linked (es ++ e ∷ []) ≡ entries_linked es + entries_linked_by e
entries_linked-push [] e = omega arith
entries_linked-push (x ∷ es) e = let later = entries_linked-push es e in omega arith

entries_linked_by-le : (e : ClassEvent) → entries_linked_by e ≤ 1
entries_linked_by-le (events.Linked e) = omega arith
entries_linked_by-le (events.Unlinked e) = omega arith
entries_linked_by-le (events.Shifted e) = omega arith
entries_linked_by-le (events.Evicted e) = omega arith
entries_linked_by-le (events.Reclaimed e) = omega arith
entries_linked_by-le (events.Surveyed e) = omega arith
entries_linked_by-le (events.Refused e) = omega arith
entries_linked_by-le (events.Limited e) = omega arith

-- the last of these events stands at the place of their number
pub last_is : (es : List ClassEvent) (e : ClassEvent) → slice_get (es ++ e ∷ []) (length es) ≡ Some e
last_is [] e = refl
last_is (x ∷ es) e = last_is es e

-- no more entries were linked than events were made
pub entries_linked-le : (es : List ClassEvent) → entries_linked es ≤ length es
entries_linked-le [] = omega arith
entries_linked-le (x ∷ es) = let later = entries_linked-le es in let one = entries_linked_by-le x in omega arith

neither : (a b : Bool) → (a || b) ≡ false → (a ≡ false) × (b ≡ false)
neither true b h = absurd (false≢true (sym h))
neither false b h = (refl, h)

not_both : (a b : Bool) → a ≡ false → b ≡ false → (a || b) ≡ false
not_both a b p q = ap (λ x. x || b) p ∙ q

pub is_named-push : (q : ℕ) (es : List ClassEvent) (e : ClassEvent) → is_named q es ≡ false → names q e ≡ false → is_named q (es ++ e ∷ []) ≡ false
is_named-push q [] e h n = not_both (names q e) false n refl
is_named-push q (x ∷ es) e h n =
    let p = neither (names q x) (is_named q es) h in
    not_both (names q x) (is_named q (es ++ e ∷ [])) p.0 (is_named-push q es e p.1 n)

pub IsLawfulByListsFrom-push : (chunks : ℕ) (rule : Rule) (before es : List ClassEvent) (e : ClassEvent) → IsLawfulByListsFrom chunks rule before es
    → IsLawfulByLists chunks rule (before ++ es) e → IsLawfulByListsFrom chunks rule before (es ++ e ∷ [])
IsLawfulByListsFrom-push chunks rule before [] e each may =
    (subst (λ (b : List ClassEvent). IsLawfulByLists chunks rule b e) (append-nil before) may, tt)
IsLawfulByListsFrom-push chunks rule before (x ∷ es) e each may =
    let here = subst (λ (b : List ClassEvent). IsLawfulByLists chunks rule b e) (sym (append_assoc before (x ∷ []) es)) may in
    (each.0, IsLawfulByListsFrom-push chunks rule (before ++ x ∷ []) es e each.1 here)

-- what a class keeps is kept by a lawful event
kept : (h later : Held) (chunks was now max_events : ℕ) (rule : Rule) (old : List ClassEvent) (e : ClassEvent) → IsReplay h chunks was max_events rule old
    → later.lists ≡ lists_after (lists_of old) e → later.next ≡ h.next + entries_linked_by e → now ≡ chunks_after was e → length old + 1 ≤ max_events
    → ((q : ℕ) → later.next ≤ q → names q e ≡ false) → IsLawfulByLists chunks rule old e → IsReplay later chunks now max_events rule (old ++ e ∷ [])
kept h later chunks was now max_events rule old e r lists next limit place fresh may =
    let grown : length (old ++ e ∷ []) ≡ length old + 1 = length-append old (e ∷ []) in
    let step : entries_linked (old ++ e ∷ []) ≡ entries_linked old + entries_linked_by e = entries_linked-push old e in
    let next_was = r.next_is in record {
      lists_is = lists ∙ sym (lists_from-push no_lists old e);
      next_is = omega (arith, next, next_was, step);
      now_is = limit ∙ (ap (λ (n : ℕ). chunks_after n e) r.now_is ∙ sym (chunks_from-push chunks old e));
      places = omega (arith, grown, place);
      limit = r.limit;
      fresh = λ q below. is_named-push q old e (r.fresh q (omega (arith, next, below))) (fresh q below);
      lawful = IsLawfulByListsFrom-push chunks rule [] old e r.lawful may;
    }

-- the same, where the class is told of as its callers see it
module _ {was : ℕ} (h : Held) (number : ClassNo) (chunks max_events : ℕ) (keeps_events : Bool) (rule : Rule) (old : List ClassEvent) (room : ℕ) (v : ClassView) (r : IsReplay h chunks was max_events rule old)
    (is : class_view number chunks max_events keeps_events rule old room ≡ v) where
  pub seen_lists : h.lists ≡ lists_of v.history
  seen_lists = r.lists_is ∙ ap (λ (x : ClassView). lists_of x.history) is

  pub seen_next : h.next ≡ entries_linked v.history
  seen_next = r.next_is ∙ ap (λ (x : ClassView). entries_linked x.history) is

  pub seen_fresh : (q : ℕ) → h.next ≤ q → is_named q v.history ≡ false
  seen_fresh q below = sym (ap (λ (x : ClassView). is_named q x.history) is) ∙ r.fresh q below

  pub keeps : (later : Held) (now : ℕ) (grown : List ClassEvent) (e : ClassEvent) → grown ≡ old ++ e ∷ [] → later.lists ≡ lists_after (lists_of v.history) e
      → later.next ≡ h.next + entries_linked_by e → now ≡ chunks_after was e → HasPlaces v 1
      → ((q : ℕ) → later.next ≤ q → names q e ≡ false) → IsLawfulByLists v.chunks v.rule v.history e → IsReplay later chunks now max_events rule grown
  keeps later now grown e more lists next limit place fresh may =
      let P : List ClassEvent → Type 0 = λ es. IsReplay later chunks now max_events rule es in
      let Q : ClassView → Type 0 = λ x. later.lists ≡ lists_after (lists_of x.history) e → HasPlaces x 1 → IsLawfulByLists x.chunks x.rule x.history e → P (old ++ e ∷ []) in
      subst P (sym more) ((subst Q is (λ l p m. kept h later chunks was now max_events rule old e r l next limit p fresh m)) lists place may)

-- a number below the next is none of those that are to come
pub not_to_come : (n next q : ℕ) → n < next → next ≤ q → (n == q) ≡ false
not_to_come n next q below above = not_equal n q (λ same. absurd (omega arith))

-- ---- a class without events
-- the last test of a configuration was passed where all were
all_passed : (a b c d e f g : Bool) → (if not a then Some Stripes else (if not b then
    Some Sizes else (if not c then Some Chunks else (if not d then Some Percent else (if not e then
    Some Factor else (if not f then Some Callers else (if not g then Some Events else None))))))) ≡ None → g ≡ true
all_passed false b c d e f g h = cc
all_passed true false c d e f g h = cc
all_passed true true false d e f g h = cc
all_passed true true true false e f g h = cc
all_passed true true true true false f g h = cc
all_passed true true true true true false g h = cc
all_passed true true true true true true false h = cc
all_passed true true true true true true true h = refl

pub sound_events : (c : Config) → fault_of c ≡ None → c.max_events ≤ 2 ^ 32
sound_events c sound =
    let events : are_events c.max_events ≡ true =
    all_passed (are_stripes c.stripes) (are_sizes c.sizes) (are_chunks c.chunks (length c.sizes)) (are_percents c.hot_percent c.warm_percent)
    (are_factors c.hot_factor c.warm_factor c.temp_ttl) (are_callers c.callers) (are_events c.max_events) sound in
    grind (arith, nat_tests)

pub opened_is : (h : Held) (chunks max_events : ℕ) (rule : Rule) (history : List ClassEvent) → h.lists ≡ no_lists → h.next ≡ 0 → history ≡ [] → max_events ≤ 2 ^ 32 → IsReplay h chunks chunks max_events rule history
opened_is h chunks max_events rule history lists next none limit =
    let P : List ClassEvent → Type 0 = λ es. IsReplay h chunks chunks max_events rule es in
    subst P (sym none) record {
      lists_is = lists;
      next_is = next;
      now_is = refl;
      places = omega arith;
      limit = limit;
      fresh = λ q below. refl;
      lawful = tt;
    }
