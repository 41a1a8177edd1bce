-- Upkeep on its way, one moment further.
use Rattle.std.proofs.Common.{◌≡◌, ◌+◌, ◌<◌, ℕ, suc, List, [], ◌∷◌, ◌++◌, refl, sym, ap, ◌∙◌, append_assoc, arith, subst, length, length-append, take, drop}
use Rattle.std.specs.Prelude.{None, slice_index_or}
use Rattle.std.specs.List.{flat_map}
use Rattle.std.proofs.Math.Seq.{take-suc}
use Rattle.std.proofs.lemmas.List.{take-append-drop}
use Rattle.mc_item.specs.declared.fault.Fault.{Fault}
use Rattle.mc_proto.specs.declared.{request.Limits.Limits, request.Request.Request}
use Rattle.mc_proto.specs.declared.request.Request.TheVariants as requests
use Rattle.mc_script.specs.{Calls.Answers, Calls.AreBrokenOff, Calls.BreaksAmong, Calls.CallsView, Calls.IsSameCaller, Progress.HasAnswered, Run.first_moment}
use Rattle.mc_script.specs.Script.{Answered, all_exchanges, answered, calls_of, moment_after, moment_behind, requests_of, turn_behind}
use Rattle.mc_script.specs.Upkeep.{HasBrokenOff, HasKeptUp, WorksAll, directive_of, many_calls, work_of}
use Rattle.mc_script.specs.declared.{upkeep.Keeper.Keeper, upkeep.Keeper.TheVariants.Maintainer, upkeep.Keeper.TheVariants.Crawler}
use Rattle.mc_script.proofs.{MadeCallLemmas.makes_none, ProgressLemmas.answered_more, ProgressLemmas.broken, ProgressLemmas.requests_of-append}

-- the work at these moments was done so far; the texts that a script would print are gathered nowhere
pub record HasKept (limits : Limits) (keeper : Keeper) (moments : List ℕ) (now : CallsView) : Type 0 where
  pub answered : List Answered
  pub asked : requests_of answered ≡ work_of keeper moments
  pub text : List ℕ
  pub moment : ℕ
  pub state : HasAnswered limits answered [] [] text now moment

-- nothing yet
pub kept_none : (limits : Limits) (keeper : Keeper) (now : CallsView) → now.turn ≡ 0 → now.notes [] None → HasKept limits keeper [] now
kept_none limits keeper now first none = record {
  answered = [];
  asked = refl;
  text = [];
  moment = first_moment;
  state = record { whole = tt; printed = []; took = refl; texts = refl; notes_all = none; turn_is = first; moment_is = refl };
}

-- the moment is set
abbrev set_moment : (limits : Limits) (now : CallsView) (before at : ℕ) (text : List ℕ) → Answers limits (requests.At at) before now now text (text ++ [])
set_moment limits now before at text = record { answers = []; texts = refl; makes = makes_none now }

-- the work at two lists of moments is that of the one and then of the other
work_of-append : (keeper : Keeper) (xs ys : List ℕ) → work_of keeper (xs ++ ys) ≡ work_of keeper xs ++ work_of keeper ys
work_of-append keeper [] ys = refl
work_of-append keeper (x ∷ xs) ys = ap (λ (rs : List Request). requests.At x ∷ directive_of keeper ∷ rs) (work_of-append keeper xs ys)

-- a directive of upkeep sets no moment
keeps_moment : (keeper : Keeper) (moment : ℕ) → moment_after moment (directive_of keeper) ≡ moment
keeps_moment Maintainer moment = refl
keeps_moment Crawler moment = refl

-- the work at these moments was done, and then that at one moment more
module _ {limits : Limits} {keeper : Keeper} {moments : List ℕ} {now : CallsView} (kept : HasKept limits keeper moments now) (moment : ℕ) where
  abbrev before : List Answered
  before = kept.answered ++ answered (requests.At moment) [] ∷ []

  -- the moment is set behind the work so far
  at_moment : HasAnswered limits before [] [] (kept.text ++ []) now moment
  at_moment = answered_more kept.state (set_moment limits now kept.moment moment kept.text) refl

  -- one moment more
  pub kept_more : {next : CallsView} → WorksAll limits keeper moment now next → HasKept limits keeper (moments ++ moment ∷ []) next
  kept_more {next = next} works =
      let by : Answers limits (directive_of keeper) moment now next (kept.text ++ []) _ = record { answers = works.answers; texts = refl; makes = works.makes } in
      record {
        answered = before ++ answered (directive_of keeper) works.answers ∷ [];
        asked = requests_of-append before (answered (directive_of keeper) works.answers ∷ [])
            ∙ ap (λ (rs : List Request). rs ++ directive_of keeper ∷ []) (requests_of-append kept.answered (answered (requests.At moment) [] ∷ []))
            ∙ append_assoc (requests_of kept.answered) (requests.At moment ∷ []) (directive_of keeper ∷ [])
            ∙ ap (λ (rs : List Request). rs ++ requests.At moment ∷ directive_of keeper ∷ []) kept.asked
            ∙ sym (work_of-append keeper moments (moment ∷ []));
        text = _;
        moment = moment;
        state = answered_more at_moment by (sym (keeps_moment keeper moment));
      }

  -- a call failed at the next moment
  pub kept_fails : {fault : Fault} {all : List ℕ} {first next : CallsView} (later : List ℕ) → IsSameCaller first now
      → BreaksAmong fault (calls_of limits (directive_of keeper)) moment now next
      → IsSameCaller now next → all ≡ moments ++ moment ∷ later → HasBrokenOff fault limits (work_of keeper all) next.notes first.caller
  kept_fails {fault = fault} {next = next} later so_far fails same split =
      record {
        answered = before;
        request = directive_of keeper;
        back = work_of keeper later;
        asked = ap (work_of keeper) split ∙ work_of-append keeper moments (moment ∷ later)
            ∙ ap (λ (rs : List Request). rs ++ requests.At moment ∷ directive_of keeper ∷ work_of keeper later) (sym kept.asked)
            ∙ sym (append_assoc (requests_of kept.answered) (requests.At moment ∷ []) (directive_of keeper ∷ work_of keeper later))
            ∙ ap (λ (rs : List Request). rs ++ directive_of keeper ∷ work_of keeper later) (sym (requests_of-append kept.answered (answered (requests.At moment) [] ∷ [])));
        whole = at_moment.whole;
        cut = subst (λ (n : ℕ). AreBrokenOff fault (calls_of limits (directive_of keeper)) n (turn_behind limits 0 before) (moment_behind first_moment before)
            (all_exchanges limits n 0 first_moment before) next.notes) (same.caller ∙ so_far.caller) (broken at_moment fails same.caller);
      }

-- all of it was done
pub kept_all : {limits : Limits} {keeper : Keeper} {moments all : List ℕ} {first now : CallsView} → IsSameCaller first now → HasKept limits keeper moments now
    → moments ≡ all → HasKeptUp limits (work_of keeper all) now.notes first.caller
kept_all {limits = limits} {keeper = keeper} {now = now} same kept is = record {
  answered = kept.answered;
  asked = kept.asked ∙ ap (work_of keeper) is;
  whole = kept.state.whole;
  calls = subst (λ (n : ℕ). now.notes (all_exchanges limits n 0 first_moment kept.answered) None) same.caller kept.state.notes_all;
}

-- the turn behind requests is that many calls further
turn_many : (limits : Limits) (turn : ℕ) (all : List Answered) → turn_behind limits turn all ≡ turn + length (flat_map (calls_of limits) (requests_of all))
turn_many limits turn [] = omega arith
turn_many limits turn (a ∷ more) =
    let rest = turn_many limits (turn + length (calls_of limits a.request)) more in
    omega (arith, rest, length-append (calls_of limits a.request) (flat_map (calls_of limits) (requests_of more)))

-- who did all of the work has had a turn for each of its calls
pub kept_turns : {limits : Limits} {keeper : Keeper} {moments all : List ℕ} {now : CallsView} → HasKept limits keeper moments now → moments ≡ all
    → now.turn ≡ many_calls limits keeper all
kept_turns {limits = limits} {keeper = keeper} {now = now} kept is =
    let turns = turn_many limits 0 kept.answered in
    let had : now.turn ≡ length (flat_map (calls_of limits) (requests_of kept.answered)) = omega (arith, kept.state.turn_is, turns) in
    had ∙ ap (λ (rs : List Request). length (flat_map (calls_of limits) rs)) kept.asked ∙ ap (many_calls limits keeper) is

-- one item more is taken
pub taken_more : (xs : List ℕ) (n d : ℕ) → n < length xs → take n xs ++ slice_index_or xs n d ∷ [] ≡ take (n + 1) xs
taken_more xs n d below = let next : n + 1 ≡ suc n = omega arith in sym (ap (λ (k : ℕ). take k xs) next ∙ take-suc xs n d below)

-- a list is cut at an item
pub cut_at : (xs : List ℕ) (n d : ℕ) → n < length xs → xs ≡ take n xs ++ slice_index_or xs n d ∷ drop (suc n) xs
cut_at xs n d below =
    sym (take-append-drop (suc n) xs) ∙ ap (λ (ys : List ℕ). ys ++ drop (suc n) xs) (take-suc xs n d below) ∙ append_assoc (take n xs) (slice_index_or xs n d ∷ []) (drop (suc n) xs)
