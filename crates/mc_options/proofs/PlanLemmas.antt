-- What follows of a plan: of its configuration, and of its moments.
use Rattle.std.proofs.Common.{◌≡◌, ◌≤◌, ◌^◌, ℕ, List, Bool, false, Option, Some, None, arith, refl, subst, sym}
use Rattle.std.specs.{List.All, Option.unwrap_or}
use Rattle.mc_item.specs.declared.{config.Config.Config}
use Rattle.mc_options.specs.Asked.{AreMomentsNamed, with_events, with_stripes, with_temp_ttl}

-- a number of stripes is left as it was where none is given
pub stripes_given : (stripes : Option ℕ) (config : Config) → record config { stripes = unwrap_or stripes config.stripes } ≡ with_stripes stripes config
stripes_given None config = refl
stripes_given (Some n) config = refl

-- and so are the life in TEMP and the limit of events
pub ends_given : (ttl events : Option ℕ) (temp : Bool) (config : Config)
    → record config { temp = temp; temp_ttl = unwrap_or ttl config.temp_ttl; max_events = unwrap_or events config.max_events; keeps_events = false }
    ≡ with_events events (with_temp_ttl ttl (record config { temp = temp; keeps_events = false }))
ends_given None None temp config = refl
ends_given None (Some n) temp config = refl
ends_given (Some n) None temp config = refl
ends_given (Some n) (Some m) temp config = refl

-- moments that words ask for are early
pub moments_early : (text : Option (List ℕ)) (moments : List ℕ) → AreMomentsNamed text moments → All (λ moment. moment ≤ 2 ^ 62) moments
moments_early None moments none = subst (All (λ moment. moment ≤ 2 ^ 62)) (sym none) (λ i d below. absurd (omega (arith, below)))
moments_early (Some text) moments named = named.allowed.early
