-- The classes that a command is lent, before and after it.
use Rattle.std.specs.Prelude.{◌≡◌, ◌≢◌, ◌⊎◌, List, [], ◌∷◌, Option, Some, None}
use Rattle.mc_item.specs.declared.item.Link.{Link}
use Rattle.mc_segment.specs.ClassState.{ClassView}

-- a fact holds of each class
abbrev pub OfEachClass : (ClassView → Type 0) → List ClassView → Type 0
OfEachClass P [] = Unit {0}
OfEachClass P (v ∷ vs) = P v × OfEachClass P vs

-- a relation holds between each class before and that class after
abbrev pub EachPair : (ClassView → ClassView → Type 0) → List ClassView → List ClassView → Type 0
EachPair R [] [] = Unit {0}
EachPair R (v ∷ vs) (w ∷ ws) = R v w × EachPair R vs ws
EachPair R [] (w ∷ ws) = ⊥
EachPair R (v ∷ vs) [] = ⊥

-- no two classes have the same number
abbrev pub AreDistinct : List ClassView → Type 0
AreDistinct [] = Unit {0}
AreDistinct (v ∷ vs) = OfEachClass (λ w. v.number ≢ w.number) vs × AreDistinct vs

-- the class of a link is lent
abbrev pub IsLent : List ClassView → Link → Type 0
IsLent [] link = ⊥
IsLent (v ∷ vs) link = (v.number ≡ link.class) ⊎ IsLent vs link

-- the class of a link is lent, if there is a link
abbrev pub IsLentIf : List ClassView → Option Link → Type 0
IsLentIf vs None = Unit {0}
IsLentIf vs (Some link) = IsLent vs link
