-- A stripe as a look found it, by what was seen of it before and after.
use Rattle.std.proofs.Common.{◌≡◌, ◌<◌, ◌++◌, ◌∙◌, ℕ, List, [], ◌∷◌, Option, Some, None, ap, append_assoc, subst, sym}
use Rattle.std.specs.Prelude.{IfSome}
use Rattle.std.proofs.lemmas.List.{append-nil, append_cancel_left}
use mathlib.Core.List.{IsPrefix}
use Rattle.mc_item.specs.declared.stripe_event.StripeEvent.{StripeEvent}
use Rattle.mc_board.specs.{Histories.Grows, Histories.list_at}
use Rattle.mc_board.specs.declared.rule.Sight.{Sight}
use Rattle.mc_board.proofs.PrefixLemmas.{prefix_self, prefix_trans}
use Rattle.mc_board.proofs.SeenLemmas.{list_at_other}
use Rattle.mc_evidence.proofs.SeenLemmas.{stripes_grow}
use Rattle.mc_evidence.specs.Seen.{stripe_events}
use Rattle.mc_stripe.specs.StripeState.{Stripe}
use Rattle.mc_pull.specs.Looks.{answer_by, judged_by}
use Rattle.mc_pull.specs.declared.{looking.Answer.Answer, looking.Judged.Judged}
use Rattle.mc_item.specs.declared.{class_event.ClassEvent.ClassEvent, config.Config.Config, event.Event.Event, item.ClassNo.ClassNo, item.StripeNo.StripeNo}
use Rattle.mc_store.proofs.GateLemmas.{no_class_lock}
use Rattle.mc_store.specs.{Locked.class_lock, Sides.ClassSide, Sides.class_told, Walking.class_sight, Walking.with_class}
use Rattle.mc_store.specs.Reached.{AreJudgedBy, GainsAnswers, IsSeenState, IsStateBetween, seen_stripes}

-- it was so after less, and before more
pub state_wider : (stripes : ℕ) (less older newer more : ℕ → List StripeEvent) → ((n : ℕ) → n < stripes → IsPrefix (less n) (older n)) → ((n : ℕ) → n < stripes → IsPrefix (newer n) (more n)) → (s : Stripe)
    → IsStateBetween stripes older newer s → IsStateBetween stripes less more s
state_wider stripes less older newer more begins grows s state =
    let n = s.site.stripe in
    record {
      of = state.of;
      after = prefix_trans (less n) (older n) s.history (begins n state.of) state.after;
      before = prefix_trans s.history (newer n) (more n) state.before (grows n state.of);
    }

-- what was seen of a stripe begins what is seen later
pub seen_grows : (stripes : ℕ) (a b : Sight) → Grows a b → (n : ℕ) → n < stripes → IsPrefix (seen_stripes a n) (seen_stripes b n)
seen_grows stripes a b grows n of = stripes_grow (list_at a.seen) (list_at b.seen) grows.at n

-- a token that was told of a stripe's whole history has seen the stripe so
pub state_told : (stripes : ℕ) (first told last : Sight) (s : Stripe) → s.site.stripe < stripes → Grows first told → Grows told last → seen_stripes told s.site.stripe ≡ s.history
    → IsStateBetween stripes (seen_stripes first) (seen_stripes last) s
state_told stripes first told last s of before after is =
    let n = s.site.stripe in
    record {
      of = of;
      after = subst (IsPrefix (seen_stripes first n)) is (seen_grows stripes first told before n of);
      before = subst (λ (h : List StripeEvent). IsPrefix h (seen_stripes last n)) is (seen_grows stripes told last after n of);
    }

-- ---- the states of a gate's answers
-- what holds of them holds in other words, too
pub judged_more : (R Q : Stripe → Type 0) → ((s : Stripe) → R s → Q s) → (answers : List Answer) → AreJudgedBy R answers → AreJudgedBy Q answers
judged_more R Q more [] judged = tt
judged_more R Q more (a ∷ answers) judged = (by a.judged judged.0, judged_more R Q more answers judged.1)
  where
    by : (j : Option Judged) → IfSome j (λ x. R (judged_by x)) → IfSome j (λ x. Q (judged_by x))
    by None is = tt
    by (Some x) is = more (judged_by x) is

judged_both : (R : Stripe → Type 0) (xs ys : List Answer) → AreJudgedBy R xs → AreJudgedBy R ys → AreJudgedBy R (xs ++ ys)
judged_both R [] ys first more = more
judged_both R (a ∷ xs) ys first more = (first.0, judged_both R xs ys first.1 more)

-- a state that a stripe had after more and before less
pub state_sees : (stripes : ℕ) (less older newer more : Sight) → Grows less older → Grows newer more → (s : Stripe) → IsSeenState stripes older newer s → IsSeenState stripes less more s
state_sees stripes less older newer more begins grows s state =
    state_wider stripes (seen_stripes less) (seen_stripes older) (seen_stripes newer) (seen_stripes more) (seen_grows stripes less older begins) (seen_grows stripes newer more grows) s state

-- a gate that gained none, one, or first some and then others
pub answers_none : (stripes : ℕ) (before after : Sight) (old new : List Answer) → new ≡ old → GainsAnswers stripes before after old new
answers_none stripes before after old new is = record { answers = []; answers_are = is ∙ sym (append-nil old); states = tt }

pub answers_one : (stripes : ℕ) (before after : Sight) (old new : List Answer) (stripe : StripeNo) (j : Option Judged) → new ≡ old ++ answer_by stripe j ∷ []
    → IfSome j (λ x. IsSeenState stripes before after (judged_by x)) → GainsAnswers stripes before after old new
answers_one stripes before after old new stripe j is state = record { answers = answer_by stripe j ∷ []; answers_are = is; states = (state, tt) }

pub answers_both : (stripes : ℕ) (a b c : Sight) (xs ys zs : List Answer) → Grows a b → Grows b c → GainsAnswers stripes a b xs ys → GainsAnswers stripes b c ys zs → GainsAnswers stripes a c xs zs
answers_both stripes a b c xs ys zs begins grows first more = record {
  answers = first.answers ++ more.answers;
  answers_are = more.answers_are ∙ (ap (λ (l : List Answer). l ++ more.answers) first.answers_are ∙ append_assoc xs first.answers more.answers);
  states = judged_both (IsSeenState stripes a c) first.answers more.answers
      (judged_more (IsSeenState stripes a b) (IsSeenState stripes a c) (λ s is. state_sees stripes a a b c (prefix_all a) grows s is) first.answers first.states)
      (judged_more (IsSeenState stripes b c) (IsSeenState stripes a c) (λ s is. state_sees stripes a b c c begins (prefix_all c) s is) more.answers more.states);
}
  where
    prefix_all : (sight : Sight) → Grows sight sight
    prefix_all sight = record { at = λ lock. prefix_self (list_at sight.seen lock) }

-- a gate that passed an entry
pub answers_passed : (stripes : ℕ) (a b : Sight) (xs ys zs : List Answer) (stripe : StripeNo) → Grows a b → GainsAnswers stripes a b xs ys → zs ≡ ys ++ answer_by stripe None ∷ [] → GainsAnswers stripes a b xs zs
answers_passed stripes a b xs ys zs stripe begins first is =
    answers_both stripes a b b xs ys zs begins (record { at = λ lock. prefix_self (list_at b.seen lock) }) first (answers_one stripes b b ys zs stripe None is tt)

-- the answers by which something was done are those that the gate gained
pub gained_states : (stripes : ℕ) (before after : Sight) (old new xs : List Answer) → GainsAnswers stripes before after old new → new ≡ old ++ xs → AreJudgedBy (IsSeenState stripes before after) xs
gained_states stripes before after old new xs gains is =
    subst (AreJudgedBy (IsSeenState stripes before after)) (append_cancel_left old gains.answers xs (sym gains.answers_are ∙ is)) gains.states

-- what a class has seen of the stripes begins what it has seen later, its own history aside
pub class_states : (config : Config) (x y : Sight) (a b : ClassNo) (h k : List ClassEvent) → Grows (with_class config a h x) (with_class config b k y) → (n : ℕ) → n < config.stripes
    → IsPrefix (seen_stripes x n) (seen_stripes y n)
class_states config x y a b h k grows n of =
    subst (λ (l : List Event). IsPrefix (stripe_events l) (seen_stripes y n)) (list_at_other x.seen (class_lock config a) n (class_told h) (no_class_lock config a n of))
    (subst (λ (l : List Event). IsPrefix (seen_stripes (with_class config a h x) n) (stripe_events l)) (list_at_other y.seen (class_lock config b) n (class_told k) (no_class_lock config b n of))
    (seen_grows config.stripes (with_class config a h x) (with_class config b k y) grows n of))

-- a state that a stripe had by what a class had seen then, by what it had seen still later
pub side_later : (config : Config) (a b c : ClassSide) → Grows (class_sight config b) (class_sight config c) → (s : Stripe) → IsSeenState config.stripes a.sight b.sight s
    → IsSeenState config.stripes a.sight c.sight s
side_later config a b c grows =
    state_wider config.stripes (seen_stripes a.sight) (seen_stripes a.sight) (seen_stripes b.sight) (seen_stripes c.sight) (λ n of. prefix_self (seen_stripes a.sight n))
    (class_states config b.sight c.sight b.class.number c.class.number b.class.history c.class.history grows)

-- a state that a stripe had after what a class had seen, after what it had seen still earlier
pub side_earlier : (config : Config) (a b c : ClassSide) → Grows (class_sight config a) (class_sight config b) → (s : Stripe) → IsSeenState config.stripes b.sight c.sight s
    → IsSeenState config.stripes a.sight c.sight s
side_earlier config a b c grows =
    state_wider config.stripes (seen_stripes a.sight) (seen_stripes b.sight) (seen_stripes c.sight) (seen_stripes c.sight)
    (class_states config a.sight b.sight a.class.number b.class.number a.class.history b.class.history grows) (λ n of. prefix_self (seen_stripes c.sight n))
