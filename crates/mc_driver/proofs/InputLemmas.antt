-- The scripts that an input is cut into.
use Rattle.std.proofs.Common.{◌≡◌, ◌∙◌, List, [], ◌∷◌, ◌++◌, ap, append_assoc, sym, map}
use Rattle.std.proofs.lemmas.List.{map-append}

-- what is shown of the items so far, and those that are left, are all, and so they are with one item more
pub front_more : {X Y : Type 0} (f : Y → X) (old new : List Y) (y : Y) (all rest left : List X) → new ≡ old ++ y ∷ [] → rest ≡ f y ∷ left → map f old ++ rest ≡ all → map f new ++ left ≡ all
front_more {Y = Y} f old new y all rest left is split so =
    ap (λ (ys : List Y). map f ys ++ left) is ∙ ap (λ xs. xs ++ left) (map-append f old (y ∷ [])) ∙ append_assoc (map f old) (f y ∷ []) left ∙ ap (λ xs. map f old ++ xs) (sym split) ∙ so
