-- Whether a key and a cost, or a link and a cost, are these.
use Rattle.std.proofs.Common.{◌≡◌, ◌≢◌, ℕ, List, Option, Some, None, ap, ◌∙◌, ◌⊎◌, inl, inr}
use Rattle.mc_item.specs.declared.item.Link.{Link}
use Rattle.mc_rule.proofs.TestLemmas.{none_some, same_key, same_number}

-- whether a key and a cost are these
pub is_kept : (key : List ℕ) (cost : ℕ) (o : Option (List ℕ × ℕ)) → (o ≢ Some (key, cost)) ⊎ (o ≡ Some (key, cost))
is_kept key cost None = inl (λ h. none_some h)
is_kept key cost (Some p) =
    elim (same_key p.0 key) [
      | inl apart ↦ inl (λ h. apart cc)
      | inr one ↦ elim (same_number p.1 cost) [
        | inl apart ↦ inl (λ h. apart cc)
        | inr two ↦ inr (ap (λ (k : List ℕ). Some (k, p.1)) one ∙ ap (λ (c : ℕ). Some (key, c)) two)
      ]
    ]

-- a link by its numbers
abbrev link_with : ℕ → ℕ → Link
link_with class number = record { class = record { 0 = class }; number = number }

-- whether a link and a cost are these
pub is_held : (link : Link) (cost : ℕ) (o : Option (Link × ℕ)) → (o ≢ Some (link, cost)) ⊎ (o ≡ Some (link, cost))
is_held link cost None = inl (λ h. none_some h)
is_held link cost (Some p) =
    elim (same_number p.0.class.0 link.class.0) [
      | inl apart ↦ inl (λ h. apart cc)
      | inr one ↦ elim (same_number p.0.number link.number) [
        | inl apart ↦ inl (λ h. apart cc)
        | inr two ↦ elim (same_number p.1 cost) [
          | inl apart ↦ inl (λ h. apart cc)
          | inr three ↦
              inr (ap (λ (a : ℕ). Some (link_with a p.0.number, p.1)) one ∙ (ap (λ (b : ℕ). Some (link_with link.class.0 b, p.1)) two ∙ ap (λ (c : ℕ). Some (link, c)) three))
        ]
      ]
    ]
