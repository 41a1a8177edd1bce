-- Why a run ends with a status: a sound configuration is sound for each number of scripts that may be run, so an input isn't
-- run for their number alone; and which status tells of callers.
use Rattle.std.proofs.Common.{◌≡◌, ◌≢◌, ◌≤◌, ◌<◌, ◌+◌, ◌⊎◌, inl, inr, ℕ, Bool, true, false, not, leb, List, length, Option, Some, None, zero, suc, refl, subst, sym, ap, ◌∙◌, ◌∷◌, [], take, slice_index_or, arith}
use Rattle.std.specs.Prelude.{if◌then◌else◌}
use Rattle.std.proofs.lemmas.{Bool.Decides.leb_tells, Bool.Decides.nat_tests, List.length-take}
use Rattle.std.specs.List.{All}
use Rattle.clap.specs.Words.{HasKind, Text, kind_of}
use Rattle.clap.specs.declared.error.Error.{Error as Refusal}
use Rattle.clap.specs.declared.error.kind.ErrorKind.TheVariants.{DisplayHelp, DisplayVersion, OutOfMemory}
use Rattle.mc_item.specs.Config.{are_callers, are_chunks, are_events, are_factors, are_percents, are_sizes, are_stripes, fault_of}
use Rattle.mc_item.specs.declared.{config.Config.Config, config.ConfigFault.ConfigFault}
use Rattle.mc_item.specs.declared.config.ConfigFault.TheVariants.{Stripes, Sizes, Chunks, Percent, Factor, Callers, Events}
use Rattle.mc_script.specs.declared.outcome.Outcome.{Outcome}
use Rattle.mc_script.specs.declared.outcome.Outcome.TheVariants.{Done, Memory, HistoryFull, Input, Output}
use Rattle.mc_options.specs.Words.{refusals}
use Rattle.mc_driver.specs.{Input.IsUnrun, Run.with_callers, Status.AreMistaken, Status.IsFirstFault, Status.status_of}
use Rattle.mc_driver.specs.declared.fault.RunFault.{RunFault}
use Rattle.mc_driver.specs.declared.fault.RunFault.TheVariants as unrun

-- tests that find no fault find none where those behind the first find none either
kept : (b : Bool) (fault : ConfigFault) (rest rest' : Option ConfigFault) → (rest ≡ None → rest' ≡ None)
    → (if not b then Some fault else rest) ≡ None → (if not b then Some fault else rest') ≡ None
kept true fault rest rest' goes none = goes none
kept false fault rest rest' goes none = cc

-- tests that find no fault go on behind the first
behind : (b : Bool) (fault : ConfigFault) (rest : Option ConfigFault) → (if not b then Some fault else rest) ≡ None → rest ≡ None
behind true fault rest none = none
behind false fault rest none = cc

-- so many callers may be
few_callers : (scripts : ℕ) → scripts ≤ 62 → are_callers (scripts + 2) ≡ true
few_callers scripts few = grind (arith, nat_tests)

-- tests that begin with so many callers find what those behind find
passed : (b : Bool) (rest : Option ConfigFault) → b ≡ true → rest ≡ None → (if not b then Some Callers else rest) ≡ None
passed true rest is none = none
passed false rest is none = cc

-- what the tests find of a configuration with so many callers from that of the callers on, and from each before it on
abbrev from_callers : Config → ℕ → Option ConfigFault
from_callers c callers = if not (are_callers callers) then Some Callers else if not (are_events c.max_events) then Some Events else None

abbrev from_factors : Config → ℕ → Option ConfigFault
from_factors c callers = if not (are_factors c.hot_factor c.warm_factor c.temp_ttl) then Some Factor else from_callers c callers

abbrev from_percents : Config → ℕ → Option ConfigFault
from_percents c callers = if not (are_percents c.hot_percent c.warm_percent) then Some Percent else from_factors c callers

abbrev from_chunks : Config → ℕ → Option ConfigFault
from_chunks c callers = if not (are_chunks c.chunks (length c.sizes)) then Some Chunks else from_percents c callers

abbrev from_sizes : Config → ℕ → Option ConfigFault
from_sizes c callers = if not (are_sizes c.sizes) then Some Sizes else from_chunks c callers

-- callers that may be are no fault where those before were none
callers_pass : (scripts : ℕ) (c : Config) → scripts ≤ 62 → from_callers c c.callers ≡ None → from_callers c (scripts + 2) ≡ None
callers_pass scripts c few none =
    passed (are_callers (scripts + 2)) (if not (are_events c.max_events) then Some Events else None) (few_callers scripts few)
    (behind (are_callers c.callers) Callers (if not (are_events c.max_events) then Some Events else None) none)

-- a sound configuration is sound for so many scripts
pub sound_for : (scripts : ℕ) (c : Config) → scripts ≤ 62 → fault_of c ≡ None → fault_of (with_callers scripts c) ≡ None
sound_for scripts c few =
    let callers = scripts + 2 in
    kept (are_stripes c.stripes) Stripes (from_sizes c c.callers) (from_sizes c callers)
    (kept (are_sizes c.sizes) Sizes (from_chunks c c.callers) (from_chunks c callers)
    (kept (are_chunks c.chunks (length c.sizes)) Chunks (from_percents c c.callers) (from_percents c callers)
    (kept (are_percents c.hot_percent c.warm_percent) Percent (from_factors c c.callers) (from_factors c callers)
    (kept (are_factors c.hot_factor c.warm_factor c.temp_ttl) Factor (from_callers c c.callers) (from_callers c callers)
    (callers_pass scripts c few)))))

-- where a sound configuration isn't sound for so many scripts, they are more than 62
too_many : (scripts : ℕ) (c : Config) → fault_of c ≡ None → (fault_of (with_callers scripts c) ≡ None → ⊥)
    → ((leb scripts 62 ≡ true) × (scripts ≤ 62)) ⊎ ((leb scripts 62 ≡ false) × (62 < scripts)) → 62 < scripts
too_many scripts c sound unsound (inl few) = absurd (unsound (sound_for scripts c few.1 sound))
too_many scripts c sound unsound (inr many) = many.1

-- an input for a sound configuration that isn't run for another reason than want of memory is cut into more than 62 scripts
pub unrun_for_number : (fault : RunFault) (c : Config) (input : List ℕ) → fault_of c ≡ None → fault ≢ unrun.NoMemory
    → IsUnrun fault c input → IsUnrun unrun.Scripts c input
unrun_for_number unrun.NoMemory c input sound other why = absurd (other refl)
unrun_for_number unrun.Configuration c input sound other why =
    (why.0, why.1, too_many (length why.0) c sound why.2 (leb_tells (length why.0) 62))
unrun_for_number unrun.Scripts c input sound other why = why

-- a caller whose status is 0 is done
pub done_by_status : (follow : Bool) (outcome : Outcome) → status_of follow outcome ≡ 0 → outcome ≡ Done
done_by_status follow Done none = refl
done_by_status follow Memory none = cc
done_by_status follow HistoryFull none = cc
done_by_status true Output none = cc
done_by_status false Output none = cc
done_by_status follow Input none = cc

-- no status of a caller is above 3, and none is 2
status_small : (follow : Bool) (outcome : Outcome) → status_of follow outcome ≤ 3
status_small follow Done = omega arith
status_small follow Memory = omega arith
status_small follow HistoryFull = omega arith
status_small true Output = omega arith
status_small false Output = omega arith
status_small follow Input = omega arith

status_not_two : (follow : Bool) (outcome : Outcome) → status_of follow outcome ≡ 2 → ⊥
status_not_two follow Done two = omega (arith, two)
status_not_two follow Memory two = omega (arith, two)
status_not_two follow HistoryFull two = omega (arith, two)
status_not_two true Output two = omega (arith, two)
status_not_two false Output two = omega (arith, two)
status_not_two follow Input two = omega (arith, two)

-- so neither is what tells of a run's callers
pub told_small : (follow : Bool) (status : ℕ) (ended : List Outcome) → (0 < status → IsFirstFault follow status ended) → status ≤ 3
told_small follow zero ended first = omega arith
told_small follow (suc n) ended first =
    let fault = first (omega arith) in
    subst (λ k. k ≤ 3) (fault.told Done) (status_small follow (slice_index_or ended fault.place Done))

pub told_not_two : (follow : Bool) (status : ℕ) (ended : List Outcome) → (0 < status → IsFirstFault follow status ended) → status ≡ 2 → ⊥
told_not_two follow status ended first two =
    let fault = first (omega (arith, two)) in
    status_not_two follow (slice_index_or ended fault.place Done) (fault.told Done ∙ two)

-- where the first fault's status is 1, no write of a conversation failed
pub not_output : (ended : List Outcome) → IsFirstFault true 1 ended → (outcome : Outcome) → slice_index_or ended 0 outcome ≢ Output
not_output [] fault outcome is = absurd (omega (arith, fault.within))
not_output (x ∷ xs) fault outcome is = first fault.place (fault.told outcome) (λ some. fault.done 0 outcome (omega (arith, some, fault.within, length-take fault.place (x ∷ xs))))
  where
    not_both : (y : Outcome) → y ≡ Done → y ≡ Output → ⊥
    not_both y one two = cc

    first : (place : ℕ) → status_of true (slice_index_or (x ∷ xs) place outcome) ≡ 1
        → (0 < place → slice_index_or (take place (x ∷ xs)) 0 outcome ≡ Done) → ⊥
    first zero told done = omega (arith, sym told ∙ ap (status_of true) is)
    first (suc place) told done = not_both x (done (omega arith)) is

-- nor where all callers are done
pub all_done : (ended : List Outcome) → 0 < length ended → All (λ outcome. outcome ≡ Done) ended → (outcome : Outcome) → slice_index_or ended 0 outcome ≢ Output
all_done ended some all outcome is = not_both (sym (all 0 outcome some) ∙ is)
  where
    not_both : Done ≡ Output → ⊥
    not_both e = cc

-- words that their reader refuses, though memory wasn't wanting, and shows neither help nor the version for, are mistaken
pub mistaken : (words : List Text) (e : Refusal) → HasKind (refusals words) e → (kind_of e ≡ OutOfMemory → ⊥)
    → (kind_of e ≢ DisplayHelp) × (kind_of e ≢ DisplayVersion) → AreMistaken words
mistaken words e (inl memory) none shows = absurd (none memory)
mistaken words e (inr among) none shows = record { kind = kind_of e; refused = among; no_help = shows.0; no_version = shows.1 }
