-- What a caller's work leaves in the store of a run, where its pass was compared with that store.
use Rattle.std.proofs.Common.{◌≡◌, ◌++◌, ℕ, List, [], Option, None, refl, subst}
use Rattle.mc_item.specs.declared.{config.Config.Config}
use Rattle.mc_hits.specs.Views.{HitsView, tables_of}
use Rattle.mc_proto.specs.declared.request.Limits.{Limits}
use Rattle.mc_script.specs.{Calls.Notes, Exchanges.Exchange, Exchanges.Failure, Run.Leaves, Upkeep.KeepsUp, Upkeep.work_of}
use Rattle.mc_script.specs.declared.{outcome.Outcome.Outcome}
use Rattle.mc_script.specs.declared.outcome.Outcome.TheVariants as outcomes
use Rattle.mc_store.specs.{Finals.AreClasses, Finals.AreStripes, Finals.FinalView, Passes.PassView, Passes.new_pass}
use Rattle.mc_driver.specs.Called.{AreInTurn, AreItsCalls, AreWholeTurns, IsCompared}
use Rattle.mc_driver.specs.{Caller.AreNoted, Jobs.HasWorked, Jobs.Works, Run.histories_left}
use Rattle.mc_driver.specs.declared.{jobs.Work.Work, jobs.Work.TheVariants.Script, jobs.Work.TheVariants.Upkeep}
use Rattle.mc_driver.proofs.{ScriptFactLemmas.keeps_up_as, ScriptFactLemmas.leaves_as, RunLeavesLemmas.left_calls, LeftEventLemmas.whole_turns}

module _ {E : Type 0} (gave : E → E → List ℕ → Type 0) (at_end : E → Type 0) (taken : E → List ℕ) (reads writes : E → ℕ) where
  -- what is known of a caller's calls may be said by another fact that follows
  works_as : (limits : Limits) (moments : List ℕ) (notes notes' : Notes) (caller : ℕ) (outcome : Outcome) (work work' : Work E)
      → ((calls : List Exchange) (end : Option Failure) → notes calls end → notes' calls end)
      → Works gave at_end taken reads writes limits moments notes caller outcome work work' → Works gave at_end taken reads writes limits moments notes' caller outcome work work'
  works_as limits moments notes notes' caller outcome (Script ends) (Script left) follows works =
      let of = works.0 in (
        record {
          came = of.came;
          since = of.since;
          leaves = λ rest over. leaves_as notes notes' caller follows limits (taken ends) (taken left) outcome (of.came ++ rest) rest (of.leaves rest over);
        },
        works.1,
      )
  works_as limits moments notes notes' caller outcome (Upkeep keeper) (Upkeep left) follows works = (works.0, keeps_up_as notes notes' caller follows limits (work_of keeper moments) outcome works.1)
  works_as limits moments notes notes' caller outcome (Script ends) (Upkeep left) follows works = works
  works_as limits moments notes notes' caller outcome (Upkeep keeper) (Script left) follows works = works

  -- where it is done, none of its calls failed
  works_done : (limits : Limits) (moments : List ℕ) (notes : Notes) (caller : ℕ) (outcome : Outcome) (work work' : Work E) → outcome ≡ outcomes.Done
      → Works gave at_end taken reads writes limits moments notes caller outcome work work' → (calls : List Exchange) × notes calls None
  works_done limits moments notes caller outcome (Script ends) (Script left) is works =
      let of = works.0 in
      let ended = subst (λ (o : Outcome). Leaves o limits (of.came ++ []) [] (taken ends) (taken left) notes caller) is (of.leaves [] (λ over. refl)) in
      (_, ended.run.calls)
  works_done limits moments notes caller outcome (Upkeep keeper) (Upkeep left) is works =
      let kept = subst (λ (o : Outcome). KeepsUp o limits (work_of keeper moments) notes caller) is works.1 in
      (_, kept.calls)
  works_done limits moments notes caller outcome (Script ends) (Upkeep left) is works = absurd works
  works_done limits moments notes caller outcome (Upkeep keeper) (Script left) is works = absurd works

  module _ (config : Config) (queues : List HitsView) (limits : Limits) (moments : List ℕ) (final : FinalView) (all : AreStripes final.board config final.stripes)
      (all_classes : AreClasses final.board config final.classes) (caller : ℕ) (pass : PassView) (outcome : Outcome) (work work' : Work E)
      (has : HasWorked gave at_end taken reads writes config limits moments (new_pass (tables_of queues) caller) pass outcome work work') (compared : IsCompared pass final) where
    -- the calls that it has noted, as the store shows them
    shown : (calls : List Exchange) (end : Option Failure) → AreNoted config pass calls end → AreItsCalls config caller (histories_left final) calls end
    shown calls end noted = subst (λ (k : ℕ). AreItsCalls config k (histories_left final) calls end) has.caller (left_calls config final all all_classes pass compared calls end noted)

    own : (calls : List Exchange) (end : Option Failure) → AreNoted config pass calls end → AreInTurn caller calls
    own calls end noted = subst (λ (k : ℕ). AreInTurn k calls) has.caller noted.own

    -- a caller's work as the store shows it
    pub works_left : Works gave at_end taken reads writes limits moments (AreItsCalls config caller (histories_left final)) caller outcome work work'
    works_left = works_as limits moments (AreNoted config pass) (AreItsCalls config caller (histories_left final)) caller outcome work work' shown has.works

    -- where it was done, each event in its name has its call
    pub whole_left : outcome ≡ outcomes.Done → AreWholeTurns config caller (histories_left final)
    whole_left is =
        let known = works_done limits moments (AreNoted config pass) caller outcome work work' is has.works in
        whole_turns config caller (histories_left final) known.0 (shown known.0 None known.1) (own known.0 None known.1)
