-- Short histories; and small laws of a step: which fault was answered, what a stripe was made with, where a refusal stands.
use Rattle.std.proofs.Common.{Result, Ok, Err, refl, subst, sym, ap, ◌∙◌, inl, inr, arith, suc}
use Rattle.std.specs.Prelude.{ℕ, ◌≡◌, ◌<◌, ◌+◌, ◌⊎◌, ◌++◌, List, [], ◌∷◌, Some, length, IfErr, IfOk, IsErrAnd, MatchResult, OnErr, slice_get}
use Rattle.mc_item.specs.declared.{answer.Site.Site, config.Config.Config, fault.Fault.Fault, fault.Fault.TheVariants.HistoryFull, item.ClassNo.ClassNo, item.Who.Who}
use Rattle.mc_item.specs.declared.{class_event.ClassEvent.ClassEvent, event.Event.Event}
use Rattle.mc_segment.specs.{ClassCalls.Makes, ClassCalls.refused_event, ClassState.ClassView}
use Rattle.mc_stripe.specs.{StripeCalls.KeepsSite, StripeState.Stripe}
use Rattle.mc_pull.specs.Question.{IsStripeOf}
use Rattle.mc_pull.proofs.GrowthLemmas.{slice_get-last}
use Rattle.atomic_table.specs.Seated.{TableId}
use Rattle.mc_board.specs.Histories.{Grows, list_at}
use Rattle.mc_board.specs.declared.rule.Sight.{Sight}
use Rattle.mc_board.proofs.PrefixLemmas.{prefix_length}
use Rattle.mc_store.specs.{Locked.IsHeldClass, Locked.class_lock, Locked.locks_for, Serving.HasSeenShort, Serving.IsShortFor, Full.LacksPlaces, Sides.ClassSide, Sides.class_told}

err_same : {T : Type 0} (x y : Fault) → ◌≡◌ {A = Result T Fault} (Err x) (Err y) → x ≡ y
err_same x y h = cc

-- an error that was handed on is the one that was answered
pub err_is : {T : Type 0} (f : Fault) (r : Result T Fault) → IsErrAnd r (λ x. x ≡ f) → r ≡ Err HistoryFull → f ≡ HistoryFull
err_is f (Ok x) gives is = absurd gives
err_is f (Err e) gives is = sym gives ∙ err_same e HistoryFull is

-- what holds of an error holds of one that was handed on
pub match_err : {T : Type 0} (P : T → Type 0) (E : Type 0) (f : Fault) (r : Result T Fault) → IsErrAnd r (λ x. x ≡ f) → E → MatchResult r P (λ fault. E)
match_err P E f (Ok x) gives it = absurd gives
match_err P E f (Err e) gives it = it

-- what is told of both outcomes, in other words
pub match_more : {T : Type 0} (r : Result T Fault) (P Q : T → Type 0) (E F : Type 0) → ((x : T) → P x → Q x) → (E → F) → IfOk r P → OnErr r E → MatchResult r Q (λ fault. F)
match_more (Ok x) P Q E F more less p e = more x p
match_more (Err f) P Q E F more less p e = less e

pub match_both : {T : Type 0} (r : Result T Fault) (P Q : T → Type 0) (E F : Fault → Type 0) → ((x : T) → P x → Q x) → ((f : Fault) → E f → F f) → IfOk r P → IfErr r E → MatchResult r Q F
match_both (Ok x) P Q E F more less p e = more x p
match_both (Err f) P Q E F more less p e = less f e

-- what holds of each error holds of one that was handed on
pub match_any : {T : Type 0} (P : T → Type 0) (F : Fault → Type 0) (f : Fault) (r : Result T Fault) → IsErrAnd r (λ x. x ≡ f) → ((e : Fault) → F e) → MatchResult r P F
match_any P F f (Ok x) gives it = absurd gives
match_any P F f (Err e) gives it = it e

-- the parts of what is told of both outcomes
pub match_ok : {T : Type 0} (r : Result T Fault) (P : T → Type 0) (F : Fault → Type 0) → MatchResult r P F → IfOk r P
match_ok (Ok x) P F it = it
match_ok (Err f) P F it = tt

pub match_fault : {T : Type 0} (r : Result T Fault) (P : T → Type 0) (F : Fault → Type 0) → MatchResult r P F → IfErr r F
match_fault (Ok x) P F it = tt
match_fault (Err f) P F it = it

-- what is told of an answer in two clauses
pub if_ok_both : {T : Type 0} (r : Result T Fault) (P Q : T → Type 0) → IfOk r P → IfOk r Q → IfOk r (λ x. P x × Q x)
if_ok_both (Ok x) P Q p q = (p, q)
if_ok_both (Err f) P Q p q = tt

-- what holds of an error, by what is told of it
pub if_err_by : {T : Type 0} (r : Result T Fault) (P F : Fault → Type 0) → ((e : Fault) → r ≡ Err e → P e → F e) → IfErr r P → IfErr r F
if_err_by (Ok x) P F by it = tt
if_err_by (Err f) P F by it = by f refl it

-- what holds of one error holds of the answer that handed it on
pub if_err_of : {T : Type 0} (f : Fault) (r : Result T Fault) (F : Fault → Type 0) → IsErrAnd r (λ x. x ≡ f) → F f → IfErr r F
if_err_of f (Ok x) F gives it = absurd gives
if_err_of f (Err e) F gives it = subst F (sym gives) it

-- a stripe that was made with a configuration is still, whatever it gained
pub stripe_made : (config : Config) (s s_new : Stripe) → KeepsSite s s_new → IsStripeOf config s → IsStripeOf config s_new
stripe_made config s s_new site made = record {
  stripes = ap (λ (t : Site). t.stripes) site.site ∙ made.stripes;
  sizes = ap (λ (t : Site). t.sizes) site.site ∙ made.sizes;
  limit = site.limit ∙ made.limit;
  keeps_events = site.keeps_events ∙ made.keeps_events;
}

-- a refusal that was made stands at its place
pub noted_at : (c c_new : ClassView) (who : Who) (place : ℕ) → Makes c c_new (refused_event who) → place ≡ length c.history → slice_get c_new.history place ≡ Some (refused_event who)
noted_at c c_new who place makes at =
    ap (λ (v : ClassView). slice_get v.history place) makes
    ∙ (ap (λ (k : ℕ). slice_get (c.history ++ refused_event who ∷ []) k) at ∙ slice_get-last c.history (refused_event who))

-- as many events are told as there are
pub class_length : (es : List ClassEvent) → length (class_told es) ≡ length es
class_length [] = refl
class_length (e ∷ es) = ap suc (class_length es)

-- a class whose whole history was seen lacks places for so many events
pub short_class : (table : TableId) (config : Config) (side : ClassSide) (sight : Sight) (events : ℕ) → IsHeldClass table config side → list_at sight.seen side.lock ≡ class_told side.class.history
    → side.class.max_events < length side.class.history + events → LacksPlaces config sight side.class.number events
short_class table config side sight events kept told short = record {
  is = kept.is;
  short =
      let limit = kept.made_with.max_events in
      let at : list_at sight.seen (class_lock config side.class.number) ≡ class_told side.class.history = ap (λ (n : ℕ). list_at sight.seen n) (sym kept.lock_is) ∙ told in
      let long : length (list_at sight.seen (class_lock config side.class.number)) ≡ length side.class.history = ap (λ (l : List Event). length l) at ∙ class_length side.class.history in
      omega (arith, limit, long, short);
}

-- what was seen short stays so as more is seen
pub short_grows : (config : Config) (a b : Sight) {class : ClassNo} → Grows a b → IsShortFor config class a → IsShortFor config class b
short_grows config a b grows seen = record {
  is = seen.is;
  lock = seen.lock;
  of = seen.of;
  full =
      let longer = prefix_length (list_at a.seen seen.lock) (list_at b.seen seen.lock) (grows.at seen.lock) in
      let was = seen.full in
      omega (arith, longer, was);
}

-- what is short for a class is one of the store's
pub short_lock : (config : Config) (sight : Sight) {class : ClassNo} → IsShortFor config class sight → HasSeenShort config sight
short_lock config sight {class = class} seen =
    record { lock = seen.lock; of = below seen.of; short = let full = seen.full in omega (arith, full); stripe = λ of. seen.full }
  where
    below : (seen.lock ≡ class_lock config class) ⊎ (seen.lock < config.stripes) → seen.lock < locks_for config
    below (inl same) =
        let first = seen.is.0 in
        let last = seen.is.1 in
        omega (arith, first, last, same)
    below (inr stripe) = omega (arith, stripe)

-- and so is a class that lacks two places
pub two_short : (config : Config) (sight : Sight) (class : ClassNo) → LacksPlaces config sight class 2 → HasSeenShort config sight
two_short config sight class lacks =
    let first = lacks.is.0 in
    let last = lacks.is.1 in
    record { lock = class_lock config class; of = omega (arith, first, last); short = lacks.short; stripe = λ of. absurd (omega (arith, of)) }
