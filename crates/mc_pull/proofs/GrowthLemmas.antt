-- Classes that only grow: what may be walked may be walked later.
use Rattle.std.proofs.Common.{zero, suc, ◌≡◌, ℕ, List, [], ◌∷◌, ◌++◌, Some, None, refl, sym, ap, ◌∙◌, subst, length, append_assoc}
use Rattle.std.specs.Prelude.{slice_get}
use Rattle.std.proofs.lemmas.List.{append-nil}
use Rattle.mc_item.specs.declared.{class_event.ClassEvent.ClassEvent, config.Config.Config, item.Who.Who, lists.Seg.Seg}
use Rattle.mc_segment.specs.declared.surveying.Survey.{Survey}
use Rattle.mc_segment.specs.ClassState.{ClassView}
use Rattle.mc_pull.specs.declared.{judge.Mode.Mode, judge.Mode.TheVariants.Plain, judge.Mode.TheVariants.Evict, judge.Mode.TheVariants.Force}
use Rattle.mc_pull.specs.{Growth.GainsEvents, Growth.KeepsSince, Question.IsSurveyIn, Question.MayWalk, Question.IsClassOf, Walker.Walker, Walker.walker_of}

pub grows_itself : (c : ClassView) → GainsEvents c c
grows_itself c = record { same = refl; events = []; history_is = sym (append-nil c.history) }

pub grows_both : (a b c : ClassView) → GainsEvents a b → GainsEvents b c → GainsEvents a c
grows_both a b c first more = record {
  same = more.same ∙ ap (λ (x : ClassView). record x { history = c.history; room = c.room }) first.same;
  events = first.events ++ more.events;
  history_is = more.history_is ∙ (ap (λ (h : List ClassEvent). h ++ more.events) first.history_is ∙ append_assoc a.history first.events more.events);
}

-- a class that has only grown was made with the same configuration
pub class_later : (config : Config) (c d : ClassView) → IsClassOf config c → GainsEvents c d → IsClassOf config d
class_later config c d of grows =
    subst (IsClassOf config) (sym grows.same) record { bounded = of.bounded; chunks = of.chunks; max_events = of.max_events; keeps_events = of.keeps_events; rule = of.rule }

none_some : {A : Type 0} {x : A} → None ≡ Some x → ⊥
none_some h = cc

slice_get-more : {A : Type 0} (xs ys : List A) (k : ℕ) (x : A) → slice_get xs k ≡ Some x → slice_get (xs ++ ys) k ≡ Some x
slice_get-more [] ys k x h = absurd (none_some h)
slice_get-more (y ∷ xs) ys zero x h = h
slice_get-more (y ∷ xs) ys (suc k) x h = slice_get-more xs ys k x h

-- the last of some values stands at the place of their number before it
pub slice_get-last : {A : Type 0} (xs : List A) (x : A) → slice_get (xs ++ x ∷ []) (length xs) ≡ Some x
slice_get-last [] x = refl
slice_get-last (y ∷ xs) x = slice_get-last xs x

-- a survey stays where it is
pub survey_later : (c d : ClassView) (who : Who) (moment : ℕ) (survey : Survey) → GainsEvents c d → IsSurveyIn c.history who moment survey → IsSurveyIn d.history who moment survey
survey_later c d who moment survey grows there =
    subst (λ (h : List ClassEvent). IsSurveyIn h who moment survey) (sym grows.history_is) (slice_get-more c.history grows.events survey.place _ there)

pub may_later : (c d : ClassView) (s : Seg) (mode : Mode) (who : Who) (moment : ℕ) → GainsEvents c d → MayWalk c s mode who moment → MayWalk d s mode who moment
may_later c d s (Plain survey) who moment grows may = survey_later c d who moment survey grows may
may_later c d s Evict who moment grows may = may
may_later c d s Force who moment grows may = may

-- what a walker kept of a class that has grown is what one kept of the class before
pub kept_later : {S : Type 0} (keeps : Walker → S → List ClassEvent → S → List ClassEvent → Type 0) (who : Who) (moment : ℕ) (a b : ClassView) → GainsEvents a b
    → (gate gate_new : S) (history history_new : List ClassEvent) → KeepsSince (keeps (walker_of b who moment)) gate history gate_new history_new
    → KeepsSince (keeps (walker_of a who moment)) gate history gate_new history_new
kept_later keeps who moment a b grows gate gate_new history history_new kept =
    subst (λ (x : ClassView). KeepsSince (keeps (walker_of x who moment)) gate history gate_new history_new) grows.same kept
