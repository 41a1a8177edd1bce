-- The cited item stays while the stripe's history grows.
use Rattle.std.proofs.Common.{◌≡◌, ◌≤◌, ◌+◌, ℕ, List, ◌++◌, Bool, true, false, refl, sym, ap, ◌∙◌, subst, length, take, arith, length-append}
use Rattle.std.specs.Prelude.{Option, None, IsSomeAnd, nat_le, if◌then◌else◌}
use Rattle.std.proofs.lemmas.{Bool.Decides.nat_tests, List.take_all, List.take-append-le}
use Rattle.mc_item.specs.declared.{answer.Site.Site, class_event.ClassEvent.ClassEvent, class_event.Shifted.Shifted, item.ClassNo.ClassNo, item.Item.Item}
use Rattle.mc_item.specs.declared.{lists.Entry.Entry, lists.Seg.Seg, stripe_event.StripeEvent.StripeEvent}
use Rattle.mc_item.specs.declared.class_event.ClassEvent.TheVariants as entries
use Rattle.mc_rule.proofs.{EventPlaceLemmas.each_weaker, TestLemmas.some_same}
use Rattle.mc_rule.specs.{Belonging.IsEntryOf, Cited.IsSuited, Cited.cited_in, Lawful.SuitsMove, Pairs.item_after, Pairs.link_to, Places.Each}

test_le : (a b : ℕ) → a ≤ b → nat_le a b ≡ true
test_le a b le = grind (arith, nat_tests)

at_most : (a b : ℕ) → nat_le a b ≡ true → a ≤ b
at_most a b is = grind (arith, nat_tests)

module _ (site : Site) where
  -- where so many events were seen, it is what they left
  pub cited_seen : (seen : List StripeEvent) (key : List ℕ) (at : ℕ) → at ≤ length seen → cited_in site seen key at ≡ item_after site (take at seen) key
  cited_seen seen key at le = ap (λ (b : Bool). if b then item_after site (take at seen) key else None) (test_le at (length seen) le)

  -- the item that is cited now
  pub cited_now : (seen : List StripeEvent) (key : List ℕ) → cited_in site seen key (length seen) ≡ item_after site seen key
  cited_now seen key = cited_seen seen key (length seen) (omega arith) ∙ ap (λ (h : List StripeEvent). item_after site h key) (take_all (length seen) seen (omega arith))

  -- what is cited stays while the history grows
  pub cited_later : (seen xs : List StripeEvent) (key : List ℕ) (at : ℕ) (P : Item → Type 0) → IsSomeAnd (cited_in site seen key at) P → IsSomeAnd (cited_in site (seen ++ xs) key at) P
  cited_later seen xs key at P h = by (nat_le at (length seen)) refl h
    where
      by : (b : Bool) → nat_le at (length seen) ≡ b → IsSomeAnd (if b then item_after site (take at seen) key else None) P → IsSomeAnd (cited_in site (seen ++ xs) key at) P
      by true is there =
          let le = at_most at (length seen) is in
          let more : length (seen ++ xs) ≡ length seen + length xs = length-append seen xs in
          subst (λ (o : Option Item). IsSomeAnd o P) (sym (cited_seen (seen ++ xs) key at (omega arith) ∙ ap (λ (h : List StripeEvent). item_after site h key) (take-append-le at seen xs le))) there
      by false is there = absurd there

  -- what suits a class's event suits it while the stripe's history grows
  pub suited_later : (class : ClassNo) (seen xs : List StripeEvent) (behind : List ClassEvent) (e : ClassEvent) → IsSuited site class seen behind e → IsSuited site class (seen ++ xs) behind e
  suited_later class seen xs behind (entries.Linked e) h = tt
  suited_later class seen xs behind (entries.Unlinked e) h = tt
  suited_later class seen xs behind (entries.Shifted e) h = λ s x at of. cited_later seen xs x.key e.at _ (h s x at of)
  suited_later class seen xs behind (entries.Evicted e) h = tt
  suited_later class seen xs behind (entries.Reclaimed e) h = λ s x at of. cited_later seen xs x.key e.at _ (h s x at of)
  suited_later class seen xs behind (entries.Surveyed e) h = tt
  suited_later class seen xs behind (entries.Refused e) h = tt
  suited_later class seen xs behind (entries.Limited e) h = tt

  pub all_suited_later : (class : ClassNo) (seen xs : List StripeEvent) (own : List ClassEvent) → Each (IsSuited site class seen) own → Each (IsSuited site class (seen ++ xs)) own
  all_suited_later class seen xs own each = each_weaker (IsSuited site class seen) (IsSuited site class (seen ++ xs)) own (suited_later class seen xs) each

  -- a move of an entry whose item is now as it has to be
  pub move_suits : (class : ClassNo) (stripe : List StripeEvent) (history : List ClassEvent) (key : List ℕ) (e : Shifted) → IsEntryOf history e.number key → e.at ≡ length stripe
      → IsSomeAnd (item_after site stripe key) (λ item. (item.link ≡ link_to class e.number) × SuitsMove e.why e.moment item) → IsSuited site class stripe history (entries.Shifted e)
  move_suits class stripe history key e entry at is s x there of =
      let both : (entry.seg, entry.entry) ≡ (s, x) = some_same _ _ (sym entry.there ∙ there) in
      let same : key ≡ x.key = sym entry.key_is ∙ ap (λ (p : Seg × Entry). p.1.key) both in
      let P : List ℕ → ℕ → Type 0 = λ k n. IsSomeAnd (cited_in site stripe k n) (λ item. (item.link ≡ link_to class e.number) × SuitsMove e.why e.moment item) in
      subst (λ (n : ℕ). P x.key n) (sym at) (subst (λ (k : List ℕ). P k (length stripe)) same
      (subst (λ (o : Option Item). IsSomeAnd o (λ item. (item.link ≡ link_to class e.number) × SuitsMove e.why e.moment item)) (sym (cited_now stripe key)) is))
