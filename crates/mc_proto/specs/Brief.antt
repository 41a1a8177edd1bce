-- What a function that may leave a line unread says of the requests before it and after it.
use Rattle.std.specs.Prelude.{ℕ, ◌≡◌, List, [], ◌∷◌, ◌++◌, Bool, true, false}
use Rattle.mc_proto.specs.{Grammar.IsFine, Table.tokens_say}
use Rattle.mc_proto.specs.declared.{request.Limits.Limits, request.Request.Request, state.Said.TheVariants.Whole}

-- a line with these tokens was read, and the one request that they say came behind the others; or it wasn't, and none came
abbrev pub IsReadIf : Bool → List (List ℕ) → (before after : List Request) → Type 0
IsReadIf true line before after =
    (r : Request) × (after ≡ before ++ r ∷ []) × ((limits : Limits) → (tokens_say limits line ≡ Whole r) × IsFine limits (Whole r))
IsReadIf false line before after = after ≡ before
