-- A history as contracts see it.
use Rattle.std.specs.Prelude.{ℕ, Bool, List, refl}
use Rattle.std.specs.Coded.{Coded, code_by, coded×, coded_ℕ, coded_bool, coded_list}

-- a history: its events, oldest first, how many more need no memory, and whether the machine keeps them
pub record Events (E : Type 0) : Type 0 where
  pub items : List E
  pub room : ℕ
  pub kept : Bool

-- a code for histories: a history is determined by these three parts
abbrev pub events_code : {E : Type 0} → Coded E → Coded (Events E)
events_code {E} code =
    code_by (List E × (ℕ × Bool)) (coded× (coded_list code) (coded× coded_ℕ coded_bool)) (λ h. (h.items, (h.room, h.kept)))
    (λ p. record { items = p.0; room = p.1.0; kept = p.1.1 }) (λ _. refl)
