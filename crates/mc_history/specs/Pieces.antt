-- The pieces that a history's events lie in.
use Rattle.std.specs.Prelude.{ℕ, ◌≡◌, ◌+◌, ◌-◌, ◌*◌, ◌^◌, ◌<◌, ◌≤◌, List, ◌++◌, Vec, length, vec_capacity}
use Rattle.std.specs.{List.All, List.flat_map, declared.alloc.Global.Global}
use Rattle.mc_history.specs.declared.pieces.Pieces.{Pieces}

-- the events of the full pieces, one piece after another, then those of the last
abbrev pub events_of : {E : Type 0} → Pieces E → List E
events_of ps = flat_map (λ p. p.items) ps.full.items ++ ps.last.items

-- the places that the last piece has left, and 4,096 in each piece ahead
abbrev pub room_of : {E : Type 0} → Pieces E → ℕ
room_of ps = vec_capacity ps.last - length ps.last.items + 4096 * length ps.ahead.items

-- a full piece has 4,096 events
abbrev pub IsFullPiece : {E : Type 0} → Vec E Global → Type 0
IsFullPiece p = length p.items ≡ 4096

-- a piece ahead of the last one is empty, and has 4,096 places
pub record IsAhead {E : Type 0} (p : Vec E Global) : Type 0 where
  pub none : length p.items ≡ 0
  pub places : vec_capacity p ≡ 4096

-- pieces are sound: full ones have 4,096 events, the last has 0 or 4,096 places, `full` has capacity for those ahead, and all
-- places can be counted
pub record ArePiecesSound {E : Type 0} (ps : Pieces E) : Type 0 where
  pub full : All IsFullPiece ps.full.items
  pub last : 0 < vec_capacity ps.last → vec_capacity ps.last ≡ 4096
  pub ahead : All IsAhead ps.ahead.items
  pub behind : length ps.full.items + length ps.ahead.items ≤ vec_capacity ps.full
  pub places : 4096 * (length ps.full.items + length ps.ahead.items) + vec_capacity ps.last ≤ 2 ^ 63

-- what a history keeps: its pieces are sound, and the last has a place left if there are pieces ahead
pub record ArePiecesKept {E : Type 0} (ps : Pieces E) : Type 0 where
  pub sound : ArePiecesSound ps
  pub place : 0 < length ps.ahead.items → length ps.last.items < vec_capacity ps.last
