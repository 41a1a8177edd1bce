-- The works of a run, each at its place: what was to be done there, and what is left.
use Rattle.std.proofs.Common.{◌≡◌, ◌+◌, ◌<◌, ◌≤◌, ℕ, zero, suc, List, [], ◌∷◌, ◌++◌, length, map, refl, sym, ap, ◌∙◌, subst, arith, append_assoc, length-append, take, drop}
use Rattle.std.specs.Prelude.{Some, slice_get, slice_index_or}
use Rattle.std.specs.Option.{option_map}
use Rattle.std.proofs.lemmas.{List.length-map, List.map-append, Option.get_or_from_slice_get, Option.slice_get-get_or, Option.slice_get-map}
use Rattle.mc_item.specs.declared.config.Config.{Config}
use Rattle.mc_hits.specs.Views.{HitsView, tables_of}
use Rattle.mc_proto.specs.declared.request.Limits.{Limits}
use Rattle.mc_script.specs.declared.{outcome.Outcome.Outcome, upkeep.Keeper.Keeper, upkeep.Keeper.TheVariants.Maintainer}
use Rattle.mc_script.specs.declared.{upkeep.Keeper.TheVariants.Crawler}
use Rattle.mc_store.specs.Passes.{ArePasses, PassView, new_pass}
use Rattle.mc_store.proofs.NumberOrderLemmas.{get_some}
use Rattle.mc_driver.specs.Jobs.{HasWorked, IsAtStart, MayRun, MayRunAll, ends_in, works_of}
use Rattle.mc_driver.specs.declared.{jobs.Work.Work, jobs.Work.TheVariants.Script, jobs.Work.TheVariants.Upkeep}
use Rattle.mc_driver.proofs.StandingCallLemmas.{grow_nothing}

module _ {E : Type 0} (gave : E → E → List ℕ → Type 0) (at_end : E → Type 0) (taken : E → List ℕ) (reads writes : E → ℕ) (config : Config) (queues : List HitsView) (limits : Limits) (moments : List ℕ) where
  -- the caller of this number has worked: what it was to do and what it left, how that ended, and its pass behind it
  pub record HasWorkedAt (before after : List (Work E)) (passes : List PassView) (outcomes : List Outcome) (caller : ℕ) : Type 0 where
    pub work : Work E
    pub work' : Work E
    pub pass : PassView
    pub outcome : Outcome
    pub was : slice_get before caller ≡ Some work
    pub is : slice_get after caller ≡ Some work'
    pub passed : slice_get passes caller ≡ Some pass
    pub ended : slice_get outcomes caller ≡ Some outcome
    pub has : HasWorked gave at_end taken reads writes config limits moments (new_pass (tables_of queues) caller) pass outcome work work'

  -- each caller has, where each of their jobs was done
  pub worked_at : {X : Type 0} (pass_of : X → PassView) (work_in : X → Work E) (outcome_of : X → Outcome) (jobs done : List X) (callers : ℕ) → length done ≡ length jobs
      → ArePasses (tables_of queues) callers (map pass_of jobs)
      → ((i : ℕ) (d : X) → i < length jobs → HasWorked gave at_end taken reads writes config limits moments (pass_of (slice_index_or jobs i d))
      (pass_of (slice_index_or done i d)) (outcome_of (slice_index_or done i d)) (work_in (slice_index_or jobs i d)) (work_in (slice_index_or done i d)))
      → (i : ℕ) → i < callers → HasWorkedAt (map work_in jobs) (map work_in done) (map pass_of done) (map outcome_of done) i
  worked_at {X = X} pass_of work_in outcome_of jobs done callers same passes each i below =
      let begun = passes.each i below in
      let inside : i < length jobs = inside_map pass_of jobs i (new_pass (tables_of queues) i) begun in
      let g = get_some jobs i inside in
      let h = get_some done i (omega (arith, inside, same)) in
      let job = get_or_from_slice_get jobs i g.0 g.0 g.1 in
      let left = get_or_from_slice_get done i h.0 g.0 h.1 in
      let first : pass_of g.0 ≡ new_pass (tables_of queues) i = some_is (sym (slice_get-map pass_of jobs i ∙ ap (option_map pass_of) g.1) ∙ begun) in
      let has = each i g.0 inside in
      let has' = subst (λ (x : X). HasWorked gave at_end taken reads writes config limits moments (pass_of x) (pass_of (slice_index_or done i g.0))
      (outcome_of (slice_index_or done i g.0)) (work_in x) (work_in (slice_index_or done i g.0))) job has in
      let has'' = subst (λ (x : X). HasWorked gave at_end taken reads writes config limits moments (pass_of g.0) (pass_of x) (outcome_of x) (work_in g.0) (work_in x)) left has' in
      record {
        work = work_in g.0;
        work' = work_in h.0;
        pass = pass_of h.0;
        outcome = outcome_of h.0;
        was = slice_get-map work_in jobs i ∙ ap (option_map work_in) g.1;
        is = slice_get-map work_in done i ∙ ap (option_map work_in) h.1;
        passed = slice_get-map pass_of done i ∙ ap (option_map pass_of) h.1;
        ended = slice_get-map outcome_of done i ∙ ap (option_map outcome_of) h.1;
        has = subst (λ (p : PassView). HasWorked gave at_end taken reads writes config limits moments p (pass_of h.0) (outcome_of h.0) (work_in g.0) (work_in h.0)) first has'';
      }
    where
      some_is : {A : Type 0} {a b : A} → Some a ≡ Some b → a ≡ b
      some_is e = cc

      inside_map : {A B : Type 0} (f : A → B) (xs : List A) (k : ℕ) (y : B) → slice_get (map f xs) k ≡ Some y → k < length xs
      inside_map f [] k y e = absurd (cc)
      inside_map f (x ∷ xs) zero y e = omega arith
      inside_map f (x ∷ xs) (suc k) y e = let in_rest = inside_map f xs k y e in omega (arith, in_rest)

module _ {E : Type 0} where
  -- the first so many of these works are scripts
  pub record AreScripts (works : List (Work E)) (n : ℕ) : Type 0 where
    pub each : (i : ℕ) → i < n → (ends : E) × (slice_get works i ≡ Some (Script ends))

  -- behind the first
  scripts_behind : (work : Work E) (works : List (Work E)) (n : ℕ) → AreScripts (work ∷ works) (suc n) → AreScripts works n
  scripts_behind work works n all = record { each = λ i below. all.each (suc i) (omega (arith, below)) }

  -- the source and sink of a script stand among those of all, at its place
  pub ends_at : (works : List (Work E)) (n i : ℕ) (left d : E) → AreScripts works n → i < n → slice_get works i ≡ Some (Script left) → slice_index_or (ends_in works) i d ≡ left
  ends_at [] n i left d all below there = absurd (cc)
  ends_at (Script ends ∷ works) n zero left d all below there = cc there
  ends_at (Script ends ∷ works) zero (suc i) left d all below there = absurd (omega (arith, below))
  ends_at (Script ends ∷ works) (suc n) (suc i) left d all below there = ends_at works n i left d (scripts_behind (Script ends) works n all) (omega (arith, below)) there
  ends_at (Upkeep keeper ∷ works) n i left d all below there =
      let first = all.each 0 (omega (arith, below)) in
      absurd (cc first.1)

  -- there are as many sources and sinks as scripts, where two works of upkeep follow them
  pub ends_many : (works : List (Work E)) (n : ℕ) (one two : Keeper) → AreScripts works n → slice_get works n ≡ Some (Upkeep one)
      → slice_get works (suc n) ≡ Some (Upkeep two) → length works ≡ suc (suc n) → length (ends_in works) ≡ n
  ends_many [] n one two all first second long = absurd (cc)
  ends_many (Upkeep keeper ∷ Upkeep other ∷ []) zero one two all first second long = refl
  ends_many (Upkeep keeper ∷ Script ends ∷ works) zero one two all first second long = absurd (cc)
  ends_many (Upkeep keeper ∷ []) zero one two all first second long = absurd (cc)
  ends_many (Upkeep keeper ∷ Upkeep other ∷ work ∷ works) zero one two all first second long = absurd (omega (arith, long))
  ends_many (Script ends ∷ works) zero one two all first second long = absurd (cc)
  ends_many (Script ends ∷ works) (suc n) one two all first second long =
      let rest = ends_many works n one two (scripts_behind (Script ends) works n all) first second (omega (arith, long)) in
      omega (arith, rest)
  ends_many (Upkeep keeper ∷ works) (suc n) one two all first second long =
      let at = all.each 0 (omega arith) in
      absurd (cc at.1)

  -- where a script stands among the works of a run
  pub script_at : (scripts : List E) (i : ℕ) (d : E) → i < length scripts → slice_get (works_of scripts) i ≡ Some (Script (slice_index_or scripts i d))
  script_at [] i d below = absurd (omega (arith, below))
  script_at (ends ∷ scripts) zero d below = refl
  script_at (ends ∷ scripts) (suc i) d below = script_at scripts i d (omega (arith, below))

  -- and where upkeep does
  pub maintainer_at : (scripts : List E) → slice_get (works_of scripts) (length scripts) ≡ Some (Upkeep Maintainer)
  maintainer_at [] = refl
  maintainer_at (ends ∷ scripts) = maintainer_at scripts

  pub crawler_at : (scripts : List E) → slice_get (works_of scripts) (suc (length scripts)) ≡ Some (Upkeep Crawler)
  crawler_at [] = refl
  crawler_at (ends ∷ scripts) = crawler_at scripts

  -- how many works there are
  pub works_many : (scripts : List E) → length (works_of scripts) ≡ length scripts + 2
  works_many [] = refl
  works_many (ends ∷ scripts) = let rest = works_many scripts in omega (arith, rest)

module _ {E : Type 0} where
  -- the sources and sinks of two lists of works are those of the one and then of the other
  pub ends_in-append : (xs ys : List (Work E)) → ends_in (xs ++ ys) ≡ ends_in xs ++ ends_in ys
  ends_in-append [] ys = refl
  ends_in-append (Script ends ∷ xs) ys = ap (λ (es : List E). ends ∷ es) (ends_in-append xs ys)
  ends_in-append (Upkeep keeper ∷ xs) ys = ends_in-append xs ys

  -- a work has one source and sink at most
  pub one_end : (work : Work E) → length (ends_in (work ∷ [])) ≤ 1
  one_end (Script ends) = omega arith
  one_end (Upkeep keeper) = omega arith

-- what two jobs behind others are is what they show of themselves
pub two_more : {X Y : Type 0} (f : X → Y) (jobs more all : List X) (j k : X) (a b : Y) → more ≡ jobs ++ j ∷ [] → all ≡ more ++ k ∷ [] → f j ≡ a → f k ≡ b → map f all ≡ map f jobs ++ a ∷ b ∷ []
two_more {X = X} {Y = Y} f jobs more all j k a b one two first second =
    ap (map f) (two ∙ ap (λ (xs : List X). xs ++ k ∷ []) one ∙ append_assoc jobs (j ∷ []) (k ∷ [])) ∙ map-append f jobs (j ∷ k ∷ [])
    ∙ ap (λ (y : Y). map f jobs ++ y ∷ f k ∷ []) first ∙ ap (λ (y : Y). map f jobs ++ a ∷ y ∷ []) second

-- where each script has its pass, two are left
pub two_left : {X P W E : Type 0} (p : X → P) (w : X → W) (f : E → W) (jobs : List X) (passes all : List P) (scripts yielded : List E)
    → map p jobs ++ passes ≡ all → map w jobs ≡ map f yielded → length all ≡ length scripts + 2 → scripts ≡ yielded → length passes ≡ 2
two_left p w f jobs passes all scripts yielded had made many taken =
    omega (arith, ap length had, length-append (map p jobs) passes, length-map jobs p, ap length made, length-map jobs w, length-map yielded f, many, ap length taken)

-- and they are those that are taken off the front
pub both_taken : {P : Type 0} (passes rest : List P) (a b : P) → length passes ≡ 2 → a ≡ slice_index_or passes 0 a → rest ≡ take 0 passes ++ drop (0 + 1) passes → b ≡ slice_index_or rest 0 b → passes ≡ a ∷ b ∷ []
both_taken [] rest a b two first left second = absurd (omega (arith, two))
both_taken (x ∷ []) rest a b two first left second = absurd (omega (arith, two))
both_taken {P = P} (x ∷ y ∷ []) rest a b two first left second =
    let next : b ≡ y = second ∙ ap (λ (l : List P). slice_index_or l 0 b) left in
    ap (λ (l : P). l ∷ y ∷ []) (sym first) ∙ ap (λ (l : P). a ∷ l ∷ []) (sym next)
both_taken (x ∷ y ∷ z ∷ more) rest a b two first left second = absurd (omega (arith, two))

-- one item more is shown last
pub shown_more : {X Y : Type 0} (f : X → Y) (xs : List X) (x : X) (old new : List Y) → new ≡ old ++ f x ∷ [] → old ≡ map f xs → new ≡ map f (xs ++ x ∷ [])
shown_more {Y = Y} f xs x old new one is = one ∙ ap (λ (ys : List Y). ys ++ f x ∷ []) is ∙ sym (map-append f xs (x ∷ []))

-- the items so far are fewer than all
pub fewer : {X : Type 0} (all yielded rest : List X) (x : X) → all ≡ yielded ++ x ∷ rest → length yielded < length all
fewer all yielded rest x is = omega (arith, ap length is, length-append yielded (x ∷ rest))

-- the pass of a caller that has had no turn is at its start
starts : (config : Config) (queues : List HitsView) (caller : ℕ) → 0 < config.stripes → IsAtStart config (new_pass (tables_of queues) caller)
starts config queues caller some = record {
  may = record { some = some; turns = refl };
  first = refl;
  none = record { stand = grow_nothing config _; at = λ n below. tt; rising = λ n below. tt; own = record { each = λ turn call at. absurd (cc at) }; turns = refl; before = record { each = λ k span at. absurd (cc at) } };
}

-- each job begins with such a pass
pub all_start : {X : Type 0} (pass_of : X → PassView) (config : Config) (queues : List HitsView) (jobs : List X) (passes : List PassView) (callers : ℕ) → map pass_of jobs ≡ passes
    → ArePasses (tables_of queues) callers passes → 0 < config.stripes
    → (i : ℕ) (d : X) → i < length jobs → IsAtStart config (pass_of (slice_index_or jobs i d))
all_start pass_of config queues jobs passes callers are all some i d below =
    let inside : i < callers = omega (arith, below, length-map jobs pass_of, ap length are, all.many) in
    let begun : slice_get (map pass_of jobs) i ≡ Some (new_pass (tables_of queues) i) = ap (λ (ps : List PassView). slice_get ps i) are ∙ all.each i inside in
    let here = slice_get-map pass_of jobs i ∙ ap (option_map pass_of) (slice_get-get_or jobs i d below) in
    subst (IsAtStart config) (only_some (sym begun ∙ here)) (starts config queues i some)
  where
    only_some : {A : Type 0} {a b : A} → Some a ≡ Some b → a ≡ b
    only_some e = cc

found : {A : Type 0} {a b : A} → Some a ≡ Some b → a ≡ b
found e = cc

module _ {E : Type 0} (gave : E → E → List ℕ → Type 0) (taken : E → List ℕ) (reads writes over : E → ℕ) (may_ask : E → Type 0) (limits : Limits) where
  -- each work of a run may be done, where each of its scripts may run
  works_may : (scripts : List E) → MayRunAll gave taken reads writes over may_ask limits scripts → (k : ℕ) (work : Work E) → slice_get (works_of scripts) k ≡ Some work
      → MayRun gave taken reads writes over may_ask limits work
  works_may [] all zero work there = subst (MayRun gave taken reads writes over may_ask limits) (found there) tt
  works_may [] all (suc zero) work there = subst (MayRun gave taken reads writes over may_ask limits) (found there) tt
  works_may [] all (suc (suc k)) work there = absurd (cc)
  works_may (ends ∷ scripts) all zero work there = subst (MayRun gave taken reads writes over may_ask limits) (found there) (all 0 ends (omega arith))
  works_may (ends ∷ scripts) all (suc k) work there = works_may scripts (λ i d below. all (suc i) d (omega (arith, below))) k work there

  -- and so may each job
  pub jobs_may : {X : Type 0} (work_in : X → Work E) (jobs : List X) (scripts : List E) → map work_in jobs ≡ works_of scripts → MayRunAll gave taken reads writes over may_ask limits scripts
      → (i : ℕ) (d : X) → i < length jobs → MayRun gave taken reads writes over may_ask limits (work_in (slice_index_or jobs i d))
  jobs_may work_in jobs scripts are all i d below =
      works_may scripts all i (work_in (slice_index_or jobs i d)) (subst (λ works. slice_get works i ≡ Some (work_in (slice_index_or jobs i d))) are
      (slice_get-map work_in jobs i ∙ ap (option_map work_in) (slice_get-get_or jobs i d below)))
