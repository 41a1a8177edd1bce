-- Histories of classes and of stripes with one event more, and cut at one event.
use Rattle.std.specs.Prelude.{Option, ◌||◌}
use Rattle.std.proofs.Common.{◌≡◌, ℕ, List, [], ◌∷◌, ◌++◌, Bool, true, false, refl, sym, ap, ◌∙◌, subst, append_assoc, append-nil}
use Rattle.std.proofs.lemmas.Bool.{false≢true}
use Rattle.mc_item.specs.Cache.{Cache, empty_cache}
use Rattle.mc_item.specs.Stripe.{cache_after, cache_from, cache_of, IsLegalFrom, IsLegal, MayHappen}
use Rattle.mc_item.specs.declared.{answer.Site.Site, class_event.ClassEvent.ClassEvent, item.ClassNo.ClassNo, item.Item.Item}
use Rattle.mc_item.specs.declared.{stripe_event.StripeEvent.StripeEvent}
use Rattle.mc_rule.specs.Lawful.{IsLawfulByLists, IsLawfulByListsFrom, IsLawfulFrom, IsLawfulHistory, IsLawfulHistoryByLists, is_named, names}
use Rattle.mc_rule.specs.{Lists.chunks_after, Lists.chunks_from, Lists.Lists, Lists.lists_after, Lists.lists_from, Lists.lists_of, Lists.no_lists, Places.Stands, Segment.Rule}

-- ---- a class

-- one event more
pub lists_from-push : (l : Lists) (es : List ClassEvent) (e : ClassEvent) → lists_from l (es ++ e ∷ []) ≡ lists_after (lists_from l es) e
lists_from-push l [] e = refl
lists_from-push l (x ∷ es) e = lists_from-push (lists_after l x) es e

pub lists_of-push : (es : List ClassEvent) (e : ClassEvent) → lists_of (es ++ e ∷ []) ≡ lists_after (lists_of es) e
lists_of-push es e = lists_from-push no_lists es e

-- the limit of chunks, one event later
pub chunks_from-push : (chunks : ℕ) (es : List ClassEvent) (e : ClassEvent) → chunks_from chunks (es ++ e ∷ []) ≡ chunks_after (chunks_from chunks es) e
chunks_from-push chunks [] e = refl
chunks_from-push chunks (x ∷ es) e = chunks_from-push (chunks_after chunks x) es e

either_of : (a b c : Bool) → (a || (b || c)) ≡ ((a || b) || c)
either_of true b c = refl
either_of false b c = refl

pub is_named-push : (n : ℕ) (es : List ClassEvent) (e : ClassEvent) → is_named n (es ++ e ∷ []) ≡ (is_named n es || names n e)
is_named-push n [] e = last (names n e)
  where
    last : (b : Bool) → (b || false) ≡ b
    last true = refl
    last false = refl
is_named-push n (x ∷ es) e =
    ap (λ b. names n x || b) (is_named-push n es e) ∙ either_of (names n x) (is_named n es) (names n e)

-- where one of two holds not, neither does
pub neither : (a b : Bool) → (a || b) ≡ false → (a ≡ false) × (b ≡ false)
neither true b h = absurd (false≢true (sym h))
neither false b h = (refl, h)

-- an event that stands in a history and names a number makes it a named one
named_there : (n : ℕ) (before later : List ClassEvent) (e : ClassEvent) → names n e ≡ true → is_named n (before ++ e ∷ later) ≡ true
named_there n [] later e is = ap (λ b. b || is_named n later) is
named_there n (x ∷ before) later e is = by (names n x) (named_there n before later e is)
  where
    by : (b : Bool) → is_named n (before ++ e ∷ later) ≡ true → (b || is_named n (before ++ e ∷ later)) ≡ true
    by true later_is = refl
    by false later_is = later_is

pub stands_named : (n : ℕ) (h before : List ClassEvent) (e : ClassEvent) → Stands h before e → names n e ≡ true → is_named n h ≡ true
stands_named n h before e s is = ap (is_named n) s.is ∙ named_there n before s.later e is

module _ (chunks : ℕ) (rule : Rule) where
  lawful_from : (pre mid later : List ClassEvent) (e : ClassEvent) → IsLawfulByListsFrom chunks rule pre (mid ++ e ∷ later) → IsLawfulByLists chunks rule (pre ++ mid) e
  lawful_from pre [] later e h = subst (λ (b : List ClassEvent). IsLawfulByLists chunks rule b e) (sym (append-nil pre)) h.0
  lawful_from pre (x ∷ mid) later e h =
      subst (λ (b : List ClassEvent). IsLawfulByLists chunks rule b e) (append_assoc pre (x ∷ []) mid) (lawful_from (pre ++ x ∷ []) mid later e h.1)

  lawful_front : (pre mid rest : List ClassEvent) → IsLawfulByListsFrom chunks rule pre (mid ++ rest) → IsLawfulByListsFrom chunks rule pre mid
  lawful_front pre [] rest h = tt
  lawful_front pre (x ∷ mid) rest h = (h.0, lawful_front (pre ++ x ∷ []) mid rest h.1)

  -- an event of a lawful history is lawful after those before it
  pub lawful_at : (h before : List ClassEvent) (e : ClassEvent) → IsLawfulHistoryByLists chunks rule h → Stands h before e → IsLawfulByLists chunks rule before e
  lawful_at h before e lawful s = lawful_from [] before s.later e (subst (IsLawfulHistoryByLists chunks rule) s.is lawful)

  -- and those before it are lawful
  pub lawful_before : (h before : List ClassEvent) (e : ClassEvent) → IsLawfulHistoryByLists chunks rule h → Stands h before e → IsLawfulHistoryByLists chunks rule before
  lawful_before h before e lawful s = lawful_front [] before (e ∷ s.later) (subst (IsLawfulHistoryByLists chunks rule) s.is lawful)

lawful_from-push : (chunks : ℕ) (rule : Rule) (before es : List ClassEvent) (e : ClassEvent) → IsLawfulByListsFrom chunks rule before es
    → IsLawfulByLists chunks rule (before ++ es) e → IsLawfulByListsFrom chunks rule before (es ++ e ∷ [])
lawful_from-push chunks rule before [] e each may =
    (subst (λ (b : List ClassEvent). IsLawfulByLists chunks rule b e) (append-nil before) may, tt)
lawful_from-push chunks rule before (x ∷ es) e each may =
    let here = subst (λ (b : List ClassEvent). IsLawfulByLists chunks rule b e) (sym (append_assoc before (x ∷ []) es)) may in
    (each.0, lawful_from-push chunks rule (before ++ x ∷ []) es e each.1 here)

-- a lawful event keeps a history lawful
pub lawful_push : (chunks : ℕ) (rule : Rule) (h : List ClassEvent) (e : ClassEvent) → IsLawfulHistoryByLists chunks rule h → IsLawfulByLists chunks rule h e → IsLawfulHistoryByLists chunks rule (h ++ e ∷ [])
lawful_push chunks rule h e lawful may = lawful_from-push chunks rule [] h e lawful may

by_lists_from : (class : ClassNo) (chunks : ℕ) (rule : Rule) (cited : List ℕ → ℕ → Option Item) (pre es : List ClassEvent) → IsLawfulFrom class chunks rule cited pre es → IsLawfulByListsFrom chunks rule pre es
by_lists_from class chunks rule cited pre [] h = tt
by_lists_from class chunks rule cited pre (e ∷ es) h = (h.0.0, by_lists_from class chunks rule cited (pre ++ e ∷ []) es h.1)

-- a lawful history is lawful as far as the lists tell
pub by_lists : (class : ClassNo) (chunks : ℕ) (rule : Rule) (cited : List ℕ → ℕ → Option Item) (h : List ClassEvent) → IsLawfulHistory class chunks rule cited h → IsLawfulHistoryByLists chunks rule h
by_lists class chunks rule cited h lawful = by_lists_from class chunks rule cited [] h lawful

-- ---- a stripe

module _ (site : Site) where
  legal_from : (cache : Cache) (pre mid later : List StripeEvent) (e : StripeEvent) → IsLegalFrom site cache pre (mid ++ e ∷ later) → MayHappen site (cache_from site cache mid) (pre ++ mid) e
  legal_from cache pre [] later e h = subst (λ (b : List StripeEvent). MayHappen site cache b e) (sym (append-nil pre)) h.0
  legal_from cache pre (x ∷ mid) later e h =
      subst (λ (b : List StripeEvent). MayHappen site (cache_from site (cache_after site cache x) mid) b e) (append_assoc pre (x ∷ []) mid)
      (legal_from (cache_after site cache x) (pre ++ x ∷ []) mid later e h.1)

  legal_front : (cache : Cache) (pre mid rest : List StripeEvent) → IsLegalFrom site cache pre (mid ++ rest) → IsLegalFrom site cache pre mid
  legal_front cache pre [] rest h = tt
  legal_front cache pre (x ∷ mid) rest h = (h.0, legal_front (cache_after site cache x) (pre ++ x ∷ []) mid rest h.1)

  -- an event of a legal history may happen behind those before it
  pub legal_at : (h before : List StripeEvent) (e : StripeEvent) → IsLegal site h → Stands h before e → MayHappen site (cache_of site before) before e
  legal_at h before e legal s = legal_from empty_cache [] before s.later e (subst (IsLegal site) s.is legal)

  -- and those before it are legal
  pub legal_before : (h before : List StripeEvent) (e : StripeEvent) → IsLegal site h → Stands h before e → IsLegal site before
  legal_before h before e legal s = legal_front empty_cache [] before (e ∷ s.later) (subst (IsLegal site) s.is legal)

  -- a beginning of a legal history is legal
  pub legal_first : (first rest : List StripeEvent) → IsLegal site (first ++ rest) → IsLegal site first
  legal_first first rest legal = legal_front empty_cache [] first rest legal
