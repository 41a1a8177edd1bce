-- Histories cut at one event.
use Rattle.std.proofs.Common.{◌≡◌, ◌+◌, List, [], ◌∷◌, ◌++◌, refl, sym, ap, ◌∙◌, subst, append_assoc, ◌⊎◌, inl, inr, length, arith, length-append, zero, suc, ◌<◌, ℕ}
use Rattle.std.specs.Prelude.{slice_get, Some}
use Rattle.mc_rule.specs.Places.{Each, Stands}

module _ {E : Type 0} where
  nothing_stands : (before later : List E) (e : E) → [] ≡ before ++ e ∷ later → ⊥
  nothing_stands [] later e is = cc
  nothing_stands (b ∷ before) later e is = cc

  -- in no history nothing stands
  pub none_stands : (before : List E) (e : E) → Stands [] before e → ⊥
  none_stands before e s = nothing_stands before s.later e s.is

  -- the last event of a history stands behind all others
  pub last_stands : (h : List E) (x : E) → Stands (h ++ x ∷ []) h x
  last_stands h x = record { later = []; is = refl }

  -- what stands in a history stands in a longer one
  pub still_stands : (h xs before : List E) (e : E) → Stands h before e → Stands (h ++ xs) before e
  still_stands h xs before e s = record {
    later = s.later ++ xs;
    is = ap (λ (t : List E). t ++ xs) s.is ∙ append_assoc before (e ∷ s.later) xs;
  }

  cut : (h before later : List E) (x e : E) → h ++ x ∷ [] ≡ before ++ e ∷ later → ((before ≡ h) × (e ≡ x)) ⊎ Stands h before e
  cut [] [] later x e is = inl (refl, cc)
  cut [] (b ∷ before) later x e is =
      let rest : [] ≡ before ++ e ∷ later = cc in
      absurd (nothing_stands before later e rest)
  cut (y ∷ h) [] later x e is =
      let same : y ≡ e = cc in
      inr record { later = h; is = ap (λ (z : E). z ∷ h) same }
  cut (y ∷ h) (b ∷ before) later x e is =
      let same : y ≡ b = cc in
      let rest : h ++ x ∷ [] ≡ before ++ e ∷ later = cc in
      elim (cut h before later x e rest) [
        | inl now ↦ inl (ap (λ (t : List E). b ∷ t) now.0 ∙ ap (λ (z : E). z ∷ h) (sym same), now.1)
        | inr s ↦ inr record { later = s.later; is = ap (λ (z : E). z ∷ h) same ∙ ap (λ (t : List E). b ∷ t) s.is }
      ]

  -- an event of a history with one event more is that one, or stood there before
  pub last_or_before : (h before : List E) (x e : E) → Stands (h ++ x ∷ []) before e → ((before ≡ h) × (e ≡ x)) ⊎ Stands h before e
  last_or_before h before x e s = cut h before s.later x e s.is

  -- what each event does, each event of a history with one more does that does it
  pub each_push : (P : List E → E → Type 0) (h : List E) (x : E) → Each P h → P h x → Each P (h ++ x ∷ [])
  each_push P h x each here before e s =
      elim (last_or_before h before x e s) [
        | inl now ↦ subst (λ (b : List E). P b e) (sym now.0) (subst (λ (y : E). P h y) (sym now.1) here)
        | inr old ↦ each before e old
      ]

  -- what each event does, each does where that follows
  pub each_weaker : (P Q : List E → E → Type 0) (h : List E) → ((before : List E) (e : E) → P before e → Q before e) → Each P h → Each Q h
  each_weaker P Q h follows each before e s = follows before e (each before e s)

  order : (h b1 b2 l1 l2 : List E) (x1 x2 : E) → h ≡ b1 ++ x1 ∷ l1 → h ≡ b2 ++ x2 ∷ l2 → Stands b2 b1 x1 ⊎ (((b1 ≡ b2) × (x1 ≡ x2)) ⊎ Stands b1 b2 x2)
  order h [] [] l1 l2 x1 x2 p q = inr (inl (refl, cc))
  order h [] (c ∷ b2) l1 l2 x1 x2 p q =
      let same : c ≡ x1 = cc in
      inl record { later = b2; is = ap (λ (z : E). z ∷ b2) same }
  order h (b ∷ b1) [] l1 l2 x1 x2 p q =
      let same : b ≡ x2 = cc in
      inr (inr record { later = b1; is = ap (λ (z : E). z ∷ b1) same })
  order h (b ∷ b1) (c ∷ b2) l1 l2 x1 x2 p q =
      let same : b ≡ c = cc in
      let rest : b1 ++ x1 ∷ l1 ≡ b2 ++ x2 ∷ l2 = cc in
      elim (order (b1 ++ x1 ∷ l1) b1 b2 l1 l2 x1 x2 refl rest) [
        | inl s ↦ inl record { later = s.later; is = ap (λ (z : E). z ∷ b2) (sym same) ∙ ap (λ (t : List E). b ∷ t) s.is }
        | inr r ↦ elim r [
          | inl now ↦ inr (inl (ap (λ (z : E). z ∷ b1) same ∙ ap (λ (t : List E). c ∷ t) now.0, now.1))
          | inr s ↦ inr (inr record { later = s.later; is = ap (λ (z : E). z ∷ b1) same ∙ ap (λ (t : List E). c ∷ t) s.is })
        ]
      ]

  -- of two events of a history one stands before the other, or they are one
  pub in_order : (h b1 b2 : List E) (x1 x2 : E) → Stands h b1 x1 → Stands h b2 x2 → Stands b2 b1 x1 ⊎ (((b1 ≡ b2) × (x1 ≡ x2)) ⊎ Stands b1 b2 x2)
  in_order h b1 b2 x1 x2 s t = order h b1 b2 s.later t.later x1 x2 s.is t.is

  -- an event's place is below the length
  pub place_below : (h b : List E) (x : E) → Stands h b x → length b < length h
  place_below h b x s =
      let long : length h ≡ length b + length (x ∷ s.later) = ap length s.is ∙ length-append b (x ∷ s.later) in
      omega arith

  -- an event that stands behind others is at the place of their number
  pub at_place : (h b : List E) (x : E) → Stands h b x → slice_get h (length b) ≡ Some x
  at_place h b x s = ap (λ (t : List E). slice_get t (length b)) s.is ∙ here b s.later
    where
      here : (b later : List E) → slice_get (b ++ x ∷ later) (length b) ≡ Some x
      here [] later = refl
      here (y ∷ b) later = here b later

  -- the event at a place stands behind as many others
  pub stands_at : (h : List E) (place : ℕ) (x : E) → slice_get h place ≡ Some x → (b : List E) × Stands h b x × (length b ≡ place)
  stands_at [] place x is = absurd (cc)
  stands_at (y ∷ h) zero x is = ([], record { later = h; is = ap (λ (z : E). z ∷ h) cc }, refl)
  stands_at (y ∷ h) (suc place) x is =
      let later = stands_at h place x is in
      (y ∷ later.0, record { later = later.1.later; is = ap (λ (t : List E). y ∷ t) later.1.is }, ap suc later.2)

  -- a place of a history has one event
  pub one_stands : (h b1 b2 : List E) (x1 x2 : E) → Stands h b1 x1 → Stands h b2 x2 → length b1 ≡ length b2 → (b1 ≡ b2) × (x1 ≡ x2)
  one_stands h b1 b2 x1 x2 s t same =
      elim (in_order h b1 b2 x1 x2 s t) [
        | inl r ↦
            let long : length b2 ≡ length b1 + length (x1 ∷ r.later) = ap length r.is ∙ length-append b1 (x1 ∷ r.later) in
            absurd (omega arith)
        | inr u ↦ elim u [
          | inl now ↦ now
          | inr r ↦
              let long : length b1 ≡ length b2 + length (x2 ∷ r.later) = ap length r.is ∙ length-append b2 (x2 ∷ r.later) in
              absurd (omega arith)
        ]
      ]

  -- what stands before an event of a history stands in the history
  pub stood_before : (h b1 b2 : List E) (x1 x2 : E) → Stands h b2 x2 → Stands b2 b1 x1 → Stands h b1 x1
  stood_before h b1 b2 x1 x2 s t =
      subst (λ (g : List E). Stands g b1 x1) (sym s.is) (still_stands b2 (x2 ∷ s.later) b1 x1 t)
