-- Facts that a growing history gains and loses: when something is so at last that wasn't at first, it began to be.
use Rattle.std.proofs.Common.{◌≡◌, List, [], ◌∷◌, ◌++◌, refl, sym, ap, ◌∙◌, subst, append_assoc, append-nil, ◌⊎◌, inl, inr}
use Rattle.mc_rule.proofs.EventPlaceLemmas.{still_stands}
use Rattle.mc_rule.specs.Places.{Stands}

-- an event of a history with which something ended and something else began
pub record Turns {E : Type 0} (A B : List E → Type 0) (h : List E) : Type 0 where
  pub before : List E
  pub e : E
  pub stands : Stands h before e
  pub was : A before
  pub now : B (before ++ e ∷ [])

-- an event of later ones with which it did
record TurnsLater {E : Type 0} (A B : List E → Type 0) (pre es : List E) : Type 0 where
  mid : List E
  e : E
  stands : Stands es mid e
  was : A (pre ++ mid)
  now : B ((pre ++ mid) ++ e ∷ [])

module _ {E : Type 0} (A B : List E → Type 0) (which : (h : List E) → A h ⊎ B h) (apart : (h : List E) → A h → B h → ⊥) where
  turn_from : (pre es : List E) → A pre → B (pre ++ es) → TurnsLater A B pre es
  turn_from pre [] was now = absurd (apart pre was (subst B (append-nil pre) now))
  turn_from pre (e ∷ es) was now =
      let later = turn_from (pre ++ e ∷ []) es in
      elim (which (pre ++ e ∷ [])) [
        | inl not_yet ↦
            let r = later not_yet (subst B (sym (append_assoc pre (e ∷ []) es)) now) in
            let same : (pre ++ e ∷ []) ++ r.mid ≡ pre ++ e ∷ r.mid = append_assoc pre (e ∷ []) r.mid in record {
              mid = e ∷ r.mid;
              e = r.e;
              stands = record { later = r.stands.later; is = ap (λ (t : List E). e ∷ t) r.stands.is };
              was = subst A same r.was;
              now = subst (λ (t : List E). B (t ++ r.e ∷ [])) same r.now;
            }
        | inr here ↦
            let same : pre ++ [] ≡ pre = append-nil pre in record {
              mid = [];
              e = e;
              stands = record { later = es; is = refl };
              was = subst A (sym same) was;
              now = subst (λ (t : List E). B (t ++ e ∷ [])) (sym same) here;
            }
      ]

  -- what is so at last and wasn't at first began
  pub turned : (h : List E) → A [] → B h → Turns A B h
  turned h was now =
      let r = turn_from [] h was now in
      record { before = r.mid; e = r.e; stands = r.stands; was = r.was; now = r.now }

  -- what was so once and isn't at last ended after that
  pub turned_after : (h before : List E) (e : E) → Stands h before e → A (before ++ e ∷ []) → B h → (t : Turns A B h) × Stands t.before before e
  turned_after h before e s was now =
      let whole : h ≡ (before ++ e ∷ []) ++ s.later = s.is ∙ sym (append_assoc before (e ∷ []) s.later) in
      let r = turn_from (before ++ e ∷ []) s.later was (subst B whole now) in
      let t : Turns A B h =
      record {
        before = (before ++ e ∷ []) ++ r.mid;
        e = r.e;
        stands =
            record {
              later = r.stands.later;
              is = whole ∙ ap (λ (t : List E). (before ++ e ∷ []) ++ t) r.stands.is ∙ sym (append_assoc (before ++ e ∷ []) r.mid (r.e ∷ r.stands.later));
            };
        was = r.was;
        now = r.now;
      } in
      (t, still_stands (before ++ e ∷ []) r.mid before e record { later = []; is = refl })

-- what began and isn't so at last has ended
pub stays : {E : Type 0} (A B : List E → Type 0) → ((h : List E) → A h ⊎ B h) → ((h : List E) → A h → B h → ⊥) → (h : List E) → Turns A B h → B h ⊎ Turns B A h
stays {E = E} A B which apart h t =
    let turn : (h : List E) → B h ⊎ A h = λ x. elim (which x) as (λ (y : A x ⊎ B x). B x ⊎ A x) [ inl a ↦ inr a | inr b ↦ inl b ] in
    elim (which h) [
      | inl a ↦ inr (turned_after B A turn (λ x b y. apart x y b) h t.before t.e t.stands t.now a).0
      | inr b ↦ inl b
    ]

-- something begins at most once
abbrev pub Once : {E : Type 0} → (List E → Type 0) → (List E → Type 0) → List E → Type 0
Once A B h = (t : Turns A B h) → Turns A B t.before → ⊥

-- what begins at most once, and is so at last, hasn't ended
pub lasts : {E : Type 0} (A B : List E → Type 0) → ((h : List E) → A h ⊎ B h) → ((h : List E) → A h → B h → ⊥) → A [] → (h : List E) → Once A B h → B h → Turns B A h → ⊥
lasts A B which apart start h once now f =
    let after = turned_after A B which apart h f.before f.e f.stands f.now now in
    let first = turned A B which apart f.before start f.was in
    once after.0 record {
      before = first.before;
      e = first.e;
      stands = grown after.0.before f.before f.e first.before first.e after.1 first.stands;
      was = first.was;
      now = first.now;
    }
  where
    grown : {E : Type 0} (h b2 : List E) (x2 : E) (b1 : List E) (x1 : E) → Stands h b2 x2 → Stands b2 b1 x1 → Stands h b1 x1
    grown {E = E} h b2 x2 b1 x1 s t = subst (λ (g : List E). Stands g b1 x1) (sym s.is) (still_stands b2 (x2 ∷ s.later) b1 x1 t)

-- what one history has the other has, where each beginning of the one is a beginning of the other, and each end of the
-- other an end of the one
pub both_have : {E F : Type 0} (A B : List E → Type 0) (C D : List F → Type 0)
    → ((h : List E) → A h ⊎ B h) → ((h : List E) → A h → B h → ⊥) → ((h : List F) → C h ⊎ D h) → ((h : List F) → C h → D h → ⊥)
    → (h : List E) (k : List F) → A [] → Once A B h → (Turns A B h → Turns C D k) → (Turns D C k → Turns B A h) → B h → D k
both_have A B C D which apart which_other apart_other h k start once began ended now =
    elim (stays C D which_other apart_other k (began (turned A B which apart h start now))) [
      | inl here ↦ here
      | inr gone ↦ absurd (lasts A B which apart start h once now (ended gone))
    ]
