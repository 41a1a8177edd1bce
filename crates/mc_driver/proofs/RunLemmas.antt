-- What a run leaves, put together of what each of its callers left.
use Rattle.std.proofs.Common.{◌≡◌, ◌+◌, ◌<◌, ℕ, suc, List, [], ◌∷◌, ◌++◌, None, length, map, take, drop, refl, sym, ap, ◌∙◌, subst, arith}
use Rattle.std.specs.Prelude.{Some, slice_get, slice_index_or}
use Rattle.std.proofs.lemmas.{List.length-map, List.take-append-le, List.take_all, Option.get_or_from_slice_get}
use Rattle.mc_item.specs.declared.config.Config.{Config}
use Rattle.mc_script.specs.{Calls.Notes, Run.first_moment, Upkeep.KeepsUp, Upkeep.work_of}
use Rattle.mc_script.specs.Script.{Answered, all_exchanges, requests_of}
use Rattle.mc_script.specs.declared.{outcome.Outcome.Outcome, upkeep.Keeper.Keeper, upkeep.Keeper.TheVariants.Maintainer}
use Rattle.mc_script.specs.declared.{upkeep.Keeper.TheVariants.Crawler}
use Rattle.mc_hits.specs.Views.{HitsView, tables_of}
use Rattle.mc_proto.specs.declared.request.Limits.{Limits}
use Rattle.mc_script.specs.declared.outcome.Outcome.TheVariants as outcomes
use Rattle.mc_store.specs.{Finals.AreClasses, Finals.AreStripes, Finals.FinalView, Passes.ArePasses, Passes.PassView}
use Rattle.mc_driver.specs.{Called.AreItsCalls, Called.IsCompared, Jobs.HasWorked, Jobs.Works, Jobs.ends_in, Jobs.works_of, Left.IsKeptUp}
use Rattle.mc_driver.specs.{Left.IsRunDone, Left.IsScriptLeft, Run.IsStore, Run.histories_left, Run.limits_of}
use Rattle.mc_driver.specs.declared.{jobs.Work.Work, jobs.Work.TheVariants.Script, jobs.Work.TheVariants.Upkeep}
use Rattle.mc_driver.proofs.{ComparedPassLemmas.whole_left, ComparedPassLemmas.works_left}
use Rattle.mc_driver.proofs.{LeftEventLemmas.by_working}
use Rattle.mc_driver.proofs.JobLemmas.{AreScripts, HasWorkedAt, crawler_at, ends_at, ends_many, maintainer_at, script_at, worked_at, works_many}

-- nothing has no item
nothing_split : {A : Type 0} (xs : List A) (x : A) (ys : List A) → [] ≡ xs ++ x ∷ ys → ⊥
nothing_split [] x ys is = absurd (cc is)
nothing_split (z ∷ zs) x ys is = absurd (cc is)

-- where there is no work none was broken off, and no call was made
none_kept : (outcome : Outcome) (limits : Limits) (notes : Notes) (caller : ℕ) → KeepsUp outcome limits [] notes caller → (outcome ≡ outcomes.Done) × notes [] None
none_kept outcomes.Done limits notes caller kept = (refl, none_asked kept.answered kept.asked kept.calls)
  where
    none_asked : (answered : List Answered) → requests_of answered ≡ [] → notes (all_exchanges limits caller 0 first_moment answered) None → notes [] None
    none_asked [] asked calls = calls
    none_asked (a ∷ more) asked calls = absurd (cc asked)
none_kept outcomes.Memory limits notes caller off = absurd (nothing_split _ _ _ off.asked)
none_kept outcomes.HistoryFull limits notes caller off = absurd (nothing_split _ _ _ off.asked)
none_kept outcomes.Input limits notes caller none = absurd none
none_kept outcomes.Output limits notes caller none = absurd none

some_is : {A : Type 0} {a b : A} → Some a ≡ Some b → a ≡ b
some_is e = cc

module _ {E : Type 0} (gave : E → E → List ℕ → Type 0) (at_end : E → Type 0) (taken : E → List ℕ) (reads writes : E → ℕ) (config : Config) (queues : List HitsView) (moments : List ℕ) where
  -- a script leaves a script
  script_works : (notes : Notes) (caller : ℕ) (outcome : Outcome) (ends : E) (work' : Work E)
      → Works gave at_end taken reads writes (limits_of config) moments notes caller outcome (Script ends) work'
      → (left : E) × (work' ≡ Script left) × Works gave at_end taken reads writes (limits_of config) moments notes caller outcome (Script ends) (Script left)
  script_works notes caller outcome ends (Script left) works = (left, refl, works)
  script_works notes caller outcome ends (Upkeep keeper) works = absurd works

  -- and upkeep leaves upkeep
  upkeep_works : (notes : Notes) (caller : ℕ) (outcome : Outcome) (keeper : Keeper) (work' : Work E)
      → Works gave at_end taken reads writes (limits_of config) moments notes caller outcome (Upkeep keeper) work'
      → (work' ≡ Upkeep keeper) × KeepsUp outcome (limits_of config) (work_of keeper moments) notes caller
  upkeep_works notes caller outcome keeper (Script left) works = absurd works
  upkeep_works notes caller outcome keeper (Upkeep left) works = (ap (λ (k : Keeper). Upkeep k) works.0, works.1)

  module _ (scripts : List E) (after : List (Work E)) (passes : List PassView) (ended : List Outcome) (final : FinalView)
      (all : AreStripes final.board config final.stripes) (all_classes : AreClasses final.board config final.classes)
      (worked : (i : ℕ) → i < length scripts + 2 → HasWorkedAt gave at_end taken reads writes config queues (limits_of config) moments (works_of scripts) after passes ended i)
      (compared : (k : ℕ) (p : PassView) → slice_get passes k ≡ Some p → IsCompared p final) where
    -- what a caller's work leaves, by what it was to do
    left_at : (i : ℕ) → (below : i < length scripts + 2) → (work : Work E) → slice_get (works_of scripts) i ≡ Some work
        → Works gave at_end taken reads writes (limits_of config) moments (AreItsCalls config i (histories_left final)) i (worked i below).outcome work (worked i below).work'
    left_at i below work there =
        let w = worked i below in
        let same : w.work ≡ work = some_is (sym w.was ∙ there) in
        subst (λ (x : Work E). Works gave at_end taken reads writes (limits_of config) moments (AreItsCalls config i (histories_left final)) i w.outcome x w.work') same
        (works_left gave at_end taken reads writes config queues (limits_of config) moments final all all_classes i w.pass w.outcome w.work w.work' w.has (compared i w.pass w.passed))

    -- the first works that are left are scripts
    scripts_left : AreScripts after (length scripts)
    scripts_left = record {
      each = λ i below.
          let inside : i < length scripts + 2 = omega (arith, below) in
          let w = worked i inside in
          let g = some_at scripts i below in
          let s = script_works (AreItsCalls config i (histories_left final)) i w.outcome _ w.work' (left_at i inside (Script (slice_index_or scripts i g)) (script_at scripts i g below)) in
          (s.0, w.is ∙ ap (λ (x : Work E). Some x) s.1);
    }
      where
        some_at : (xs : List E) (i : ℕ) → i < length xs → E
        some_at [] i below = absurd (omega (arith, below))
        some_at (x ∷ xs) i below = x

    -- what each script leaves
    script_left : (i : ℕ) (d : E) (outcome : Outcome) → i < length scripts
        → IsScriptLeft gave at_end taken reads writes config (histories_left final) i (slice_index_or scripts i d) (slice_index_or (ends_in after) i d) (slice_index_or ended i outcome)
    script_left i d outcome below =
        let inside : i < length scripts + 2 = omega (arith, below) in
        let w = worked i inside in
        let s = script_works (AreItsCalls config i (histories_left final)) i w.outcome _ w.work' (left_at i inside (Script (slice_index_or scripts i d)) (script_at scripts i d below)) in
        let here = ends_at after (length scripts) i s.0 d scripts_left below (w.is ∙ ap (λ (x : Work E). Some x) s.1) in
        let how = get_or_from_slice_get ended i w.outcome outcome w.ended in
        subst (λ (e : E). IsScriptLeft gave at_end taken reads writes config (histories_left final) i (slice_index_or scripts i d) e (slice_index_or ended i outcome)) (sym here)
        (subst (λ (o : Outcome). IsScriptLeft gave at_end taken reads writes config (histories_left final) i (slice_index_or scripts i d) s.0 o) (sym how) (record { leaves = s.2.0; counted = s.2.1 }))

    -- what upkeep leaves, as the work at this place
    kept_left : (i : ℕ) (keeper : Keeper) (outcome : Outcome) → i < length scripts + 2 → slice_get (works_of scripts) i ≡ Some (Upkeep keeper)
        → IsKeptUp keeper config moments i (slice_index_or ended i outcome) (histories_left final)
    kept_left i keeper outcome below there =
        let w = worked i below in
        let k = upkeep_works (AreItsCalls config i (histories_left final)) i w.outcome keeper w.work' (left_at i below (Upkeep keeper) there) in
        subst (λ (o : Outcome). IsKeptUp keeper config moments i o (histories_left final)) (sym (get_or_from_slice_get ended i w.outcome outcome w.ended)) k.1

    -- without moments it is done, and made nothing
    kept_idle : (i : ℕ) (keeper : Keeper) (outcome : Outcome) → i < length scripts + 2 → slice_get (works_of scripts) i ≡ Some (Upkeep keeper) → moments ≡ []
        → (slice_index_or ended i outcome ≡ outcomes.Done) × AreItsCalls config i (histories_left final) [] None
    kept_idle i keeper outcome below there none =
        none_kept (slice_index_or ended i outcome) (limits_of config) (AreItsCalls config i (histories_left final)) i
        (subst (λ (ms : List ℕ). IsKeptUp keeper config ms i (slice_index_or ended i outcome) (histories_left final)) none (kept_left i keeper outcome below there))

    -- it stands where it stood
    upkeep_stays : (i : ℕ) (keeper : Keeper) → i < length scripts + 2 → slice_get (works_of scripts) i ≡ Some (Upkeep keeper) → slice_get after i ≡ Some (Upkeep keeper)
    upkeep_stays i keeper below there =
        let w = worked i below in
        w.is ∙ ap (λ (x : Work E). Some x) (upkeep_works (AreItsCalls config i (histories_left final)) i w.outcome keeper w.work' (left_at i below (Upkeep keeper) there)).0

    -- all of it
    pub is_left : (ends : List E) → ends ≡ ends_in after → config.callers ≡ length scripts + 2 → length ended ≡ length scripts + 2 → length after ≡ length scripts + 2 → IsStore config final
        → IsRunDone gave at_end taken reads writes config moments scripts ends ended final
    is_left ends is callers many long store =
        let next : suc (length scripts) ≡ length scripts + 1 = omega arith in
        let crawler : slice_get (works_of scripts) (length scripts + 1) ≡ Some (Upkeep Crawler) = subst (λ (n : ℕ). slice_get (works_of scripts) n ≡ Some (Upkeep Crawler)) next (crawler_at scripts) in
        record {
          each = λ i d outcome below.
              subst (λ (es : List E). IsScriptLeft gave at_end taken reads writes config (histories_left final) i (slice_index_or scripts i d)
              (slice_index_or es i d) (slice_index_or ended i outcome)) (sym is) (script_left i d outcome below);
          maintained = λ outcome. kept_left (length scripts) Maintainer outcome (omega arith) (maintainer_at scripts);
          crawled = λ outcome. kept_left (length scripts + 1) Crawler outcome (omega arith) crawler;
          idle = λ none. record {
            maintainer = λ outcome. (kept_idle (length scripts) Maintainer outcome (omega arith) (maintainer_at scripts) none).0;
            crawler = λ outcome. (kept_idle (length scripts + 1) Crawler outcome (omega arith) crawler none).0;
          };
          whole = λ i outcome below so.
              let w = worked i below in
              whole_left gave at_end taken reads writes config queues (limits_of config) moments final all all_classes i w.pass w.outcome w.work w.work' w.has (compared i w.pass w.passed)
              (sym (get_or_from_slice_get ended i w.outcome outcome w.ended) ∙ so);
          by = by_working config final all all_classes (length scripts) moments callers
              (λ none. (
                (kept_idle (length scripts) Maintainer outcomes.Done (omega arith) (maintainer_at scripts) none).1,
                (kept_idle (suc (length scripts)) Crawler outcomes.Done (omega arith) (crawler_at scripts) none).1,
              ));
          many = many;
          pairs = ap length is
              ∙ ends_many after (length scripts) Maintainer Crawler scripts_left (upkeep_stays (length scripts) Maintainer (omega arith) (maintainer_at scripts))
              (upkeep_stays (suc (length scripts)) Crawler (omega arith) (crawler_at scripts)) (omega (arith, long));
          store = store;
        }

  -- a run's jobs, done, leave it
  pub run_left : {X : Type 0} (pass_of : X → PassView) (work_in : X → Work E) (outcome_of : X → Outcome) (jobs done : List X) (scripts : List E) (final : FinalView)
      → AreStripes final.board config final.stripes → AreClasses final.board config final.classes → length done ≡ length jobs → ArePasses (tables_of queues) config.callers (map pass_of jobs)
      → map work_in jobs ≡ works_of scripts
      → ((i : ℕ) (d : X) → i < length jobs → HasWorked gave at_end taken reads writes config (limits_of config) moments (pass_of (slice_index_or jobs i d))
      (pass_of (slice_index_or done i d)) (outcome_of (slice_index_or done i d)) (work_in (slice_index_or jobs i d)) (work_in (slice_index_or done i d)))
      → ((k : ℕ) (p : PassView) → slice_get (map pass_of done) k ≡ Some p → IsCompared p final) → config.callers ≡ length scripts + 2 → IsStore config final
      → IsRunDone gave at_end taken reads writes config moments scripts (ends_in (map work_in done)) (map outcome_of done) final
  run_left {X = X} pass_of work_in outcome_of jobs done scripts final all all_classes same passes works each compared callers store =
      let passes' = subst (λ (n : ℕ). ArePasses (tables_of queues) n (map pass_of jobs)) callers passes in
      let many : length done ≡ length scripts + 2 = omega (arith, same, length-map jobs work_in, ap length works, works_many scripts) in
      let worked : (i : ℕ) → i < length scripts + 2 → HasWorkedAt gave at_end taken reads writes config queues (limits_of config) moments (works_of scripts) (map work_in done) (map pass_of done) (map outcome_of done) i =
      λ i below. subst (λ (ws : List (Work E)). HasWorkedAt gave at_end taken reads writes config queues (limits_of config) moments ws (map work_in done) (map pass_of done) (map outcome_of done) i) works
      (worked_at gave at_end taken reads writes config queues (limits_of config) moments pass_of work_in outcome_of jobs done (length scripts + 2) same passes' each i below) in
      is_left scripts (map work_in done) (map pass_of done) (map outcome_of done) final all all_classes worked compared (ends_in (map work_in done)) refl
      callers (omega (arith, many, length-map done outcome_of)) (omega (arith, many, length-map done work_in)) store

-- what is written back over all of a vector is all of it
pub written_back : {X : Type 0} (old new : List X) (n : ℕ) → n ≡ length old → length new ≡ length old → take n (new ++ drop (length new) old) ≡ new
written_back old new n long same = take-append-le n new (drop (length new) old) (omega (arith, long, same)) ∙ take_all n new (omega (arith, long, same))
