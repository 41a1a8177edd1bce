-- A run of the scripts that an input is cut into is a run of the input.
use Rattle.std.proofs.Common.{◌≡◌, ◌∙◌, ◌+◌, ◌++◌, ◌<◌, ℕ, false, List, [], ◌∷◌, ap, arith, length, map, subst, subst₂, sym, refl}
use Rattle.std.specs.Prelude.{if◌then◌else◌, slice_index_or}
use Rattle.std.specs.List.{All, flat_map}
use Rattle.std.proofs.lemmas.{List.get_or-map, List.length-map, List.Elements.All-map, List.Folds.flat_map-map}
use Rattle.mc_item.specs.declared.config.Config.{Config}
use Rattle.mc_proto.specs.Scripts as cut
use Rattle.mc_script.specs.declared.{outcome.Outcome.Outcome, upkeep.Keeper.TheVariants.Crawler, upkeep.Keeper.TheVariants.Maintainer}
use Rattle.mc_script.specs.declared.outcome.Outcome.TheVariants as outcomes
use Rattle.mc_store.specs.Finals.{FinalView}
use Rattle.mc_driver.specs.{Called.AreByCallers, Called.AreWholeTurns, Input.AreRun, Input.IsRunOf, Input.ToAndFrom}
use Rattle.mc_driver.specs.{Left.AreKeepersDone, Left.IsKeptUp, Left.IsRunDone, Left.IsScriptLeft}
use Rattle.mc_driver.specs.Run.{IsAccepted, callers_at_work, histories_left, limits_of, with_callers}

-- there is an item where there are some
an_item : {X : Type 0} (xs : List X) (i : ℕ) → i < length xs → X
an_item [] i below = absurd (omega (arith, below))
an_item (x ∷ xs) i below = x

module _ {K : Type 0} (taken : K → List ℕ) (writes : K → ℕ) where
  -- a script's ends, as lists of bytes
  abbrev shown : List ℕ × K → ToAndFrom
  shown ends = (ends.0, record { bytes = taken ends.1; misses = writes ends.1; stops = 0 })

  first_shown : (scripts : List (List ℕ × K)) → map (λ (s : ToAndFrom). s.0) (map shown scripts) ≡ map (λ s. s.0) scripts
  first_shown [] = refl
  first_shown (s ∷ ss) = ap (λ xs. s.0 ∷ xs) (first_shown ss)

  module _ (config : Config) (moments : List ℕ) (scripts ends : List (List ℕ × K)) (ended : List Outcome) (final : FinalView)
      (left : IsRunDone (λ (a b : List ℕ × K) (came : List ℕ). a.0 ≡ came ++ b.0) (λ a. a.0 ≡ []) (λ a. taken a.1) (λ a. 0) (λ a. writes a.1) config moments scripts ends ended final) where
    many : length (map shown scripts) ≡ length scripts
    many = length-map scripts shown

    script_shown : (i : ℕ) (d : ToAndFrom) (outcome : Outcome) → i < length (map shown scripts)
        → IsScriptLeft (λ (a b : ToAndFrom) (came : List ℕ). a.0 ≡ came ++ b.0) (λ a. a.0 ≡ []) (λ a. a.1.bytes) (λ a. if false then a.1.stops else 0) (λ a. a.1.misses) config (histories_left final) i
        (slice_index_or (map shown scripts) i d) (slice_index_or (map shown ends) i d) (slice_index_or ended i outcome)
    script_shown i d outcome within =
        let below : i < length scripts = omega (arith, within, many) in
        let e = an_item scripts i below in
        let was = left.each i e outcome below in
        subst₂ (λ a b. IsScriptLeft (λ (a b : ToAndFrom) (came : List ℕ). a.0 ≡ came ++ b.0) (λ a. a.0 ≡ []) (λ a. a.1.bytes) (λ a. if false then a.1.stops else 0)
        (λ a. a.1.misses) config (histories_left final) i a b (slice_index_or ended i outcome))
        (sym (get_or-map shown scripts i e d below)) (sym (get_or-map shown ends i e d (omega (arith, below, left.pairs))))
        (record { leaves = record { came = was.leaves.came; since = was.leaves.since; leaves = was.leaves.leaves }; counted = was.counted })

    all_shown : AreRun false config moments (map shown scripts) (map shown ends) ended final
    all_shown = record {
      each = script_shown;
      maintained = subst (λ n. (outcome : Outcome) → IsKeptUp Maintainer config moments n (slice_index_or ended n outcome) (histories_left final)) (sym many) left.maintained;
      crawled = subst (λ n. (outcome : Outcome) → IsKeptUp Crawler config moments (n + 1) (slice_index_or ended (n + 1) outcome) (histories_left final)) (sym many) left.crawled;
      idle = subst (λ n. moments ≡ [] → AreKeepersDone n ended) (sym many) left.idle;
      whole = subst (λ n. (i : ℕ) (outcome : Outcome) → i < n + 2 → slice_index_or ended i outcome ≡ outcomes.Done → AreWholeTurns config i (histories_left final)) (sym many) left.whole;
      by = subst (λ n. AreByCallers config (callers_at_work n moments) (histories_left final)) (sym many) left.by;
      many = left.many ∙ ap (λ n. n + 2) (sym many);
      pairs = length-map ends shown ∙ left.pairs ∙ sym many;
      store = left.store;
    }

  -- a run of the scripts that an input is cut into, each from its own bytes to a sink that has taken nothing
  pub run_of : (config : Config) (moments input : List ℕ) (sources : List (List ℕ)) (scripts ends : List (List ℕ × K)) (ended : List Outcome) (final : FinalView)
      → map (λ s. s.0) scripts ≡ sources → All (λ s. taken s.1 ≡ []) scripts → cut.AreScripts (limits_of config) input sources → IsAccepted (length scripts) config
      → IsRunDone (λ (a b : List ℕ × K) (came : List ℕ). a.0 ≡ came ++ b.0) (λ a. a.0 ≡ []) (λ a. taken a.1) (λ a. 0) (λ a. writes a.1) (with_callers (length scripts) config) moments scripts ends ended final
      → IsRunOf false config moments input (flat_map (λ e. taken e.1) ends) ended final
  run_of config moments input sources scripts ends ended final from fresh are accepted left = record {
    scripts = map shown scripts;
    accepted = subst (λ n. IsAccepted n config) (sym (length-map scripts shown)) accepted;
    are = subst (cut.AreScripts (limits_of config) input) (sym (first_shown scripts ∙ from)) are;
    fresh = All-map (λ (s : ToAndFrom). s.1.bytes ≡ []) shown scripts fresh;
    left = map shown ends;
    run = subst (λ n. AreRun false (with_callers n config) moments (map shown scripts) (map shown ends) ended final) (sym (length-map scripts shown))
        (all_shown (with_callers (length scripts) config) moments scripts ends ended final left);
    texts = sym (flat_map-map (λ (s : ToAndFrom). s.1.bytes) shown ends);
  }
