-- A number that has a place has a slot.
use Rattle.std.proofs.Common.{◌≡◌, ℕ, Option, Some, None, true, refl}
use Rattle.std.specs.Prelude.{nat_eq, is_some}
use Rattle.std.specs.HashMap.{get}
use Rattle.mc_segment.specs.declared.arena.Listed.{Listed}
use Rattle.mc_segment.specs.Slots.{Slots, flattened, slot, has_slot}
use Rattle.mc_segment.proofs.ChainLemmas.{some_none}

pub has_place : (slots : Slots) (n : ℕ) (p : Listed) → slot slots n ≡ Some p → has_slot slots n ≡ true
has_place slots n p is =
    (elim (get nat_eq slots n) as (λ (o : Option (Option Listed)). flattened o ≡ Some p → is_some o ≡ true) [ None ↦ λ k. absurd (some_none k) | Some o ↦ λ _. refl ]) is
