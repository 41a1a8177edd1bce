-- What a call enters in its caller's account: nothing, one step after another, and what the board lacked of a lock's history.
use Rattle.std.proofs.Common.{◌≡◌, ◌==◌, ◌<◌, ◌+◌, ◌⊎◌, ℕ, zero, suc, Bool, true, false, Option, None, List, [], ◌∷◌, ◌++◌, Some, cond, length, slice_get, refl, sym, ap, ◌∙◌, subst, inl, inr, ⊎_elim, append_assoc, arith}
use Rattle.std.specs.Prelude.{◌≤◌, IsSomeAnd}
use Rattle.std.proofs.lemmas.List.{append-nil}
use Rattle.mc_item.specs.declared.{call_event.CallEvent.CallEvent, command.Command.Command, config.Config.Config, event.Event.Event, item.ClassNo.ClassNo, item.Who.Who}
use mathlib.Core.List.{IsPrefix}
use Rattle.mc_hits.specs.Views.{HandsView}
use Rattle.mc_board.specs.{Accounts.IsEntered, Accounts.with_new, Accounts.with_span, Histories.Grows, Histories.list_at, Histories.with_seen}
use Rattle.mc_board.specs.declared.{rule.Sight.Sight, rule.Span.Span}
use Rattle.mc_board.proofs.{AccountLemmas.get_either, AccountLemmas.get_longer, PrefixLemmas.prefix_self, PrefixLemmas.same_or_not}
use Rattle.mc_board.proofs.SeenLemmas.{Grows-trans, list_at_other, list_at_same}
use Rattle.mc_store.specs.{Accounts.Enters, Accounts.IsOfStretch, Accounts.IsOfWalk, Accounts.StillCalls, Accounts.Stretch}
use Rattle.mc_store.specs.{Locked.class_lock, Passes.CallerView, Passes.HasAsked, Passes.PassView, Passes.pass_of}

-- ---- places that were seen

-- what holds of the element at a place of a list holds of it in a longer one
some_longer : (P : Event → Type 0) (xs ys : List Event) (place : ℕ) → IsPrefix xs ys → IsSomeAnd (slice_get xs place) P → IsSomeAnd (slice_get ys place) P
some_longer P xs ys place more has = by (slice_get xs place) refl has
  where
    by : (o : Option Event) → slice_get xs place ≡ o → IsSomeAnd o P → IsSomeAnd (slice_get ys place) P
    by (Some event) at it = subst (λ (o : Option Event). IsSomeAnd o P) (sym (get_longer xs ys place event more at)) it
    by None at it = absurd it

-- each place below a list's length has an element
there : (P : Event → Type 0) (xs : List Event) (place : ℕ) → place < length xs → ((event : Event) → slice_get xs place ≡ Some event → P event) → IsSomeAnd (slice_get xs place) P
there P [] place below all = absurd (omega (arith, below))
there P (x ∷ xs) zero below all = all x refl
there P (x ∷ xs) (suc place) below all = there P xs place (omega (arith, below)) all

-- the events of a lock up to a place were seen, and all may be there
pub seen_all : (Suits : (lock place : ℕ) → Event → Type 0) (after : Sight) (lock from until : ℕ) → until ≤ length (list_at after.seen lock)
    → ((place : ℕ) (event : Event) → from ≤ place → place < until → Suits lock place event)
    → (place : ℕ) → from ≤ place → place < until → IsSomeAnd (slice_get (list_at after.seen lock) place) (Suits lock place)
seen_all Suits after lock from until within all place low high = there (Suits lock place) (list_at after.seen lock) place (omega (arith, within, high)) (λ event at. all place event low high)

-- the events of a lock from one place to the end were seen, and each may be there
pub seen_each : (Suits : (lock place : ℕ) → Event → Type 0) (after : Sight) (lock from until : ℕ) (told : List Event) → list_at after.seen lock ≡ told → until ≡ length told
    → ((place : ℕ) (event : Event) → from ≤ place → slice_get told place ≡ Some event → Suits lock place event)
    → (place : ℕ) → from ≤ place → place < until → IsSomeAnd (slice_get (list_at after.seen lock) place) (Suits lock place)
seen_each Suits after lock from until told is end each place low high =
    subst (λ (l : List Event). IsSomeAnd (slice_get l place) (Suits lock place)) (sym is)
    (there (Suits lock place) told place (subst (λ (n : ℕ). place < n) end high) (λ event at. each place event low at))

-- ---- sights

-- nothing was lost to sight
pub grows_itself : (sight : Sight) → Grows sight sight
grows_itself sight = record { at = λ lock. prefix_self (list_at sight.seen lock) }

-- what was seen grows with a lock's whole history, if both grow
pub whole_grows : {x y : Sight} (lock : ℕ) (told told_new : List Event) → IsPrefix told told_new → Grows x y → Grows (with_seen x lock told) (with_seen y lock told_new)
whole_grows {x = x} {y = y} lock told told_new more grows = record { at = λ at. ⊎_elim (λ same. here at same) (λ other. beside at other) (same_or_not at lock) }
  where
    here : (at : ℕ) → at ≡ lock → IsPrefix (list_at (with_seen x lock told).seen at) (list_at (with_seen y lock told_new).seen at)
    here at same = subst (λ (k : ℕ). IsPrefix (list_at (with_seen x lock told).seen k) (list_at (with_seen y lock told_new).seen k)) (sym same)
        (subst (λ (l : List Event). IsPrefix l (list_at (with_seen y lock told_new).seen lock)) (sym (list_at_same x.seen lock told))
        (subst (λ (l : List Event). IsPrefix told l) (sym (list_at_same y.seen lock told_new)) more))

    beside : (at : ℕ) → (at ≡ lock → ⊥) → IsPrefix (list_at (with_seen x lock told).seen at) (list_at (with_seen y lock told_new).seen at)
    beside at other = subst (λ (l : List Event). IsPrefix l (list_at (with_seen y lock told_new).seen at)) (sym (list_at_other x.seen lock at told other))
        (subst (λ (l : List Event). IsPrefix (list_at x.seen at) l) (sym (list_at_other y.seen lock at told_new other)) (grows.at at))

-- a sight with a lock's whole history is behind another, if that has seen this history, and all else that it has
pub whole_shared : (x : Sight) {y : Sight} (lock : ℕ) (told : List Event) → IsPrefix told (list_at y.seen lock) → ((at : ℕ) → (at ≡ lock → ⊥) → IsPrefix (list_at x.seen at) (list_at y.seen at))
    → Grows (with_seen x lock told) y
whole_shared x {y = y} lock told has others = record { at = λ at. ⊎_elim (λ same. here at same) (λ other. beside at other) (same_or_not at lock) }
  where
    here : (at : ℕ) → at ≡ lock → IsPrefix (list_at (with_seen x lock told).seen at) (list_at y.seen at)
    here at same = subst (λ (k : ℕ). IsPrefix (list_at (with_seen x lock told).seen k) (list_at y.seen k)) (sym same)
        (subst (λ (l : List Event). IsPrefix l (list_at y.seen lock)) (sym (list_at_same x.seen lock told)) has)

    beside : (at : ℕ) → (at ≡ lock → ⊥) → IsPrefix (list_at (with_seen x lock told).seen at) (list_at y.seen at)
    beside at other = subst (λ (l : List Event). IsPrefix l (list_at y.seen at)) (sym (list_at_other x.seen lock at told other)) (others at other)

-- ---- accounts

-- nothing was entered
pub enters_none : (Suits : (lock place : ℕ) → Event → Type 0) (turn : ℕ) {after : Sight} (made : List Span) → Enters Suits turn after made made
enters_none Suits turn made = record {
  spans = [];
  made_is = sym (append-nil made);
  turns = λ i span at. absurd (cc at);
  each = λ lock place entered. absurd (cc entered.there);
}

-- the account is as it was
pub enters_same : (Suits : (lock place : ℕ) → Event → Type 0) (turn : ℕ) {after : Sight} (made made_new : List Span) → made_new ≡ made → Enters Suits turn after made made_new
enters_same Suits turn {after = after} made made_new is = subst (Enters Suits turn after made) (sym is) (enters_none Suits turn made)

-- by now more was seen
pub enters_later : (Suits : (lock place : ℕ) → Event → Type 0) (turn : ℕ) {mid after : Sight} (made made_new : List Span) → Grows mid after → Enters Suits turn mid made made_new
    → Enters Suits turn after made made_new
enters_later Suits turn {mid = mid} {after = after} made made_new grows enters = record {
  spans = enters.spans;
  made_is = enters.made_is;
  turns = enters.turns;
  each = λ lock place entered. some_longer (Suits lock place) (list_at mid.seen lock) (list_at after.seen lock) place (grows.at lock) (enters.each lock place entered);
}

-- what is entered by one list of spans or another
entered_either : (xs ys : List Span) (turn lock place : ℕ) → IsEntered (xs ++ ys) turn lock place → IsEntered xs turn lock place ⊎ IsEntered ys turn lock place
entered_either xs ys turn lock place entered = ⊎_elim
    (λ at. inl (record { index = entered.index; span = entered.span; there = at; turn_is = entered.turn_is; lock_is = entered.lock_is; within = entered.within }))
    (λ (at : (j : ℕ) × (length xs + j ≡ entered.index) × (slice_get ys j ≡ Some entered.span)).
    inr (record { index = at.0; span = entered.span; there = at.2; turn_is = entered.turn_is; lock_is = entered.lock_is; within = entered.within }))
    (get_either xs ys entered.index entered.span entered.there)

-- one step after another
pub enters_both : (Suits : (lock place : ℕ) → Event → Type 0) (turn : ℕ) {mid after : Sight} (a b c : List Span) → Enters Suits turn mid a b → Grows mid after → Enters Suits turn after b c
    → Enters Suits turn after a c
enters_both Suits turn {mid = mid} {after = after} a b c before grows more =
    let first = enters_later Suits turn {mid = mid} {after = after} a b grows before in
    record {
      spans = first.spans ++ more.spans;
      made_is = more.made_is ∙ (ap (λ (l : List Span). l ++ more.spans) first.made_is ∙ append_assoc a first.spans more.spans);
      turns = λ i span at. ⊎_elim (λ t. first.turns i span t)
          (λ (t : (j : ℕ) × (length first.spans + j ≡ i) × (slice_get more.spans j ≡ Some span)). more.turns t.0 span t.2)
          (get_either first.spans more.spans i span at);
      each = λ lock place entered. ⊎_elim (λ e. first.each lock place e) (λ e. more.each lock place e) (entered_either first.spans more.spans turn lock place entered);
    }

-- what holds of an element holds of it by another name
some_more : (P Q : Event → Type 0) (o : Option Event) → ((event : Event) → P event → Q event) → IsSomeAnd o P → IsSomeAnd o Q
some_more P Q (Some event) more it = more event it
some_more P Q None more it = it

-- what a call may make, another may make, too
pub enters_more : (Suits Others : (lock place : ℕ) → Event → Type 0) (turn : ℕ) {after : Sight} (made made_new : List Span) → ((lock place : ℕ) (event : Event) → Suits lock place event → Others lock place event)
    → Enters Suits turn after made made_new → Enters Others turn after made made_new
enters_more Suits Others turn {after = after} made made_new more enters = record {
  spans = enters.spans;
  made_is = enters.made_is;
  turns = enters.turns;
  each = λ lock place entered. some_more (Suits lock place) (Others lock place) (slice_get (list_at after.seen lock) place) (λ event it. more lock place event it) (enters.each lock place entered);
}

-- nothing or one span was entered
enters_if : (Suits : (lock place : ℕ) → Event → Type 0) {after : Sight} (made : List Span) (span : Span) (none : Bool)
    → ((place : ℕ) → span.from ≤ place → place < span.until → IsSomeAnd (slice_get (list_at after.seen span.lock) place) (Suits span.lock place))
    → Enters Suits span.turn after made (cond none made (with_span made span))
enters_if Suits made span true suits = enters_none Suits span.turn made
enters_if Suits {after = after} made span false suits = record { spans = span ∷ []; made_is = refl; turns = turns; each = each }
  where
    turns : (i : ℕ) (other : Span) → slice_get (span ∷ []) i ≡ Some other → other.turn ≡ span.turn
    turns zero other at = let same : span ≡ other = cc at in ap (λ (s : Span). s.turn) (sym same)
    turns (suc i) other at = absurd (cc at)

    only : (i : ℕ) (other : Span) → slice_get (span ∷ []) i ≡ Some other → other ≡ span
    only zero other at = let same : span ≡ other = cc at in sym same
    only (suc i) other at = absurd (cc at)

    each : (lock place : ℕ) → IsEntered (span ∷ []) span.turn lock place → IsSomeAnd (slice_get (list_at after.seen lock) place) (Suits lock place)
    each lock place entered =
        let same = only entered.index entered.span entered.there in
        let at : span.lock ≡ lock = ap (λ (s : Span). s.lock) (sym same) ∙ entered.lock_is in
        let within : (span.from ≤ place) × (place < span.until) = subst (λ (s : Span). (s.from ≤ place) × (place < s.until)) same entered.within in
        subst (λ (k : ℕ). IsSomeAnd (slice_get (list_at after.seen k) place) (Suits k place)) at (suits place within.0 within.1)

-- the events that the board lacked of a lock's history were entered
pub enters_new : (Suits : (lock place : ℕ) → Event → Type 0) {after : Sight} (made : List Span) (turn lock from until : ℕ)
    → ((place : ℕ) → from ≤ place → place < until → IsSomeAnd (slice_get (list_at after.seen lock) place) (Suits lock place)) → Enters Suits turn after made (with_new made turn lock from until)
enters_new Suits made turn lock from until suits = enters_if Suits made (record { turn = turn; lock = lock; from = from; until = until }) (from == until) suits

-- what was entered by a call in a class, both by other names
pub enters_in : (Suits : ClassNo → (lock place : ℕ) → Event → Type 0) (class class_is : ClassNo) (turn turn_is : ℕ) {after : Sight} (made made_is made_new : List Span) → class ≡ class_is → turn ≡ turn_is
    → made ≡ made_is → Enters (Suits class) turn after made made_new → Enters (Suits class_is) turn_is after made_is made_new
enters_in Suits class class_is turn turn_is {after = after} made made_is made_new of in_turn from enters =
    subst (λ (c : ClassNo). Enters (Suits c) turn_is after made_is made_new) of
    (subst (λ (n : ℕ). Enters (Suits class) n after made_is made_new) in_turn (subst (λ (m : List Span). Enters (Suits class) turn after m made_new) from enters))

-- ---- callers

-- nothing was entered
pub still_none : (Suits : (lock place : ℕ) → Event → Type 0) (turn : ℕ) {sight : Sight} (caller : CallerView) → StillCalls Suits turn sight sight caller caller
still_none Suits turn {sight = sight} caller = record { number_is = refl; calls_are = refl; sees = grows_itself sight; enters = enters_none Suits turn caller.made }

-- the caller is as it was, and more was seen
pub still_same : (Suits : (lock place : ℕ) → Event → Type 0) (turn : ℕ) {x y : Sight} (caller caller_new : CallerView) → Grows x y → caller_new ≡ caller → StillCalls Suits turn x y caller caller_new
still_same Suits turn {x = x} {y = y} caller caller_new grows is =
    subst (StillCalls Suits turn x y caller) (sym is) (record { number_is = refl; calls_are = refl; sees = grows; enters = enters_none Suits turn caller.made })

-- one step after another
pub still_both : (Suits : (lock place : ℕ) → Event → Type 0) (turn : ℕ) {x y z : Sight} (a b c : CallerView) → StillCalls Suits turn x y a b → StillCalls Suits turn y z b c → StillCalls Suits turn x z a c
still_both Suits turn {x = x} {y = y} {z = z} a b c first more = record {
  number_is = more.number_is ∙ first.number_is;
  calls_are = more.calls_are ∙ first.calls_are;
  sees = Grows-trans x y z first.sees more.sees;
  enters = enters_both Suits turn a.made b.made c.made first.enters more.sees more.enters;
}

-- less was seen before, and more by now
pub still_seen : (Suits : (lock place : ℕ) → Event → Type 0) (turn : ℕ) {w x y z : Sight} (caller caller_new : CallerView) → Grows w x → Grows y z → StillCalls Suits turn x y caller caller_new
    → StillCalls Suits turn w z caller caller_new
still_seen Suits turn {w = w} {x = x} {y = y} {z = z} caller caller_new before after still = record {
  number_is = still.number_is;
  calls_are = still.calls_are;
  sees = Grows-trans w x z before (Grows-trans x y z still.sees after);
  enters = enters_later Suits turn caller.made caller_new.made after still.enters;
}

-- what a call may make, another may make, too
pub still_more : (Suits Others : (lock place : ℕ) → Event → Type 0) (turn : ℕ) {x y : Sight} (caller caller_new : CallerView) → ((lock place : ℕ) (event : Event) → Suits lock place event → Others lock place event)
    → StillCalls Suits turn x y caller caller_new → StillCalls Others turn x y caller caller_new
still_more Suits Others turn caller caller_new more still = record {
  number_is = still.number_is;
  calls_are = still.calls_are;
  sees = still.sees;
  enters = enters_more Suits Others turn caller.made caller_new.made more still.enters;
}

-- the events that the board lacked of a lock's history were entered
pub still_new : (Suits : (lock place : ℕ) → Event → Type 0) {x y : Sight} (caller caller_new : CallerView) (turn lock from until : ℕ)
    → caller_new ≡ record caller { made = with_new caller.made turn lock from until } → Grows x y
    → ((place : ℕ) → from ≤ place → place < until → IsSomeAnd (slice_get (list_at y.seen lock) place) (Suits lock place)) → StillCalls Suits turn x y caller caller_new
still_new Suits {x = x} {y = y} caller caller_new turn lock from until is grows suits =
    subst (StillCalls Suits turn x y caller) (sym is)
    (record { number_is = refl; calls_are = refl; sees = grows; enters = enters_new Suits caller.made turn lock from until suits })

-- what was asked for was asked for still
pub still_asked : (Suits : (lock place : ℕ) → Event → Type 0) (turn : ℕ) {x y : Sight} (caller caller_new : CallerView) (who : Who) (command : Command) (moment : ℕ)
    → StillCalls Suits turn x y caller caller_new → HasAsked caller who command moment → HasAsked caller_new who command moment
still_asked Suits turn caller caller_new who command moment still asked = record {
  number = asked.number ∙ sym still.number_is;
  before = asked.before;
  last = still.calls_are ∙ asked.last;
  turn = asked.turn;
}

-- the pass of a caller whose call goes on, with another sight
pub still_pass : (Suits : (lock place : ℕ) → Event → Type 0) (turn : ℕ) {x y : Sight} (caller caller_new : CallerView) (sight sight_new : Sight) (hands : HandsView) (pass : PassView)
    → StillCalls Suits turn x y caller caller_new → pass_of caller sight hands ≡ pass → pass_of caller_new sight_new hands ≡ record pass { sight = sight_new; made = caller_new.made }
still_pass Suits turn caller caller_new sight sight_new hands pass still is =
    let numbered : ℕ → PassView = λ n. record (pass_of caller_new sight_new hands) { caller = n } in
    let called : List CallEvent → PassView = λ calls. pass_of (record { number = caller.number; calls = calls; made = caller_new.made }) sight_new hands in
    ap numbered still.number_is ∙ (ap called still.calls_are ∙ ap (λ (p : PassView). record p { sight = sight_new; made = caller_new.made }) is)

-- ---- steps

-- what the board lacked of the class was entered in a walk, in this stretch, and was seen
pub still_walked : (config : Config) (class : ClassNo) (stretch : Stretch) {x y : Sight} (caller caller_new : CallerView) (turn lock from until : ℕ)
    → caller_new ≡ record caller { made = with_new caller.made turn lock from until } → Grows x y → until ≤ length (list_at y.seen lock) → lock ≡ class_lock config class
    → (stretch.from ≤ from) × (until ≤ stretch.until) → StillCalls (IsOfStretch config class stretch) turn x y caller caller_new
still_walked config class stretch {x = x} {y = y} caller caller_new turn lock from until is grows within at bounds =
    let Suits = IsOfStretch config class stretch in
    let first = bounds.0 in
    let last = bounds.1 in
    still_new Suits caller caller_new turn lock from until is grows
    (seen_all Suits y lock from until within (λ place event low high. inl (at, (omega (arith, first, low), omega (arith, last, high)))))

-- what the board lacked of a stripe was entered in a walk, and was seen
pub still_looked : (config : Config) (class : ClassNo) (stretch : Stretch) {x y : Sight} (caller caller_new : CallerView) (turn lock from until : ℕ)
    → caller_new ≡ record caller { made = with_new caller.made turn lock from until } → Grows x y → until ≤ length (list_at y.seen lock) → lock < config.stripes
    → StillCalls (IsOfStretch config class stretch) turn x y caller caller_new
still_looked config class stretch {x = x} {y = y} caller caller_new turn lock from until is grows within of =
    let Suits = IsOfStretch config class stretch in
    still_new Suits caller caller_new turn lock from until is grows (seen_all Suits y lock from until within (λ place event low high. inr of))

-- a stretch lies in a longer one
pub still_longer : (config : Config) (class : ClassNo) (stretch longer : Stretch) (turn : ℕ) {x y : Sight} (caller caller_new : CallerView)
    → (longer.from ≤ stretch.from) × (stretch.until ≤ longer.until) → StillCalls (IsOfStretch config class stretch) turn x y caller caller_new
    → StillCalls (IsOfStretch config class longer) turn x y caller caller_new
still_longer config class stretch longer turn caller caller_new bounds still =
    still_more (IsOfStretch config class stretch) (IsOfStretch config class longer) turn caller caller_new (λ lock place event it. in_longer lock place event it) still
  where
    in_longer : (lock place : ℕ) (event : Event) → IsOfStretch config class stretch lock place event → IsOfStretch config class longer lock place event
    in_longer lock place event (inl it) =
        let first = bounds.0 in
        let last = bounds.1 in
        let low = it.1.0 in
        let high = it.1.1 in
        inl (it.0, (omega (arith, first, low), omega (arith, last, high)))
    in_longer lock place event (inr it) = inr it

-- a walk in a stretch is one in the class
pub still_anywhere : (config : Config) (class : ClassNo) (stretch : Stretch) (turn : ℕ) {x y : Sight} (caller caller_new : CallerView)
    → StillCalls (IsOfStretch config class stretch) turn x y caller caller_new → StillCalls (IsOfWalk config class) turn x y caller caller_new
still_anywhere config class stretch turn caller caller_new still =
    still_more (IsOfStretch config class stretch) (IsOfWalk config class) turn caller caller_new (λ lock place event it. anywhere lock place event it) still
  where
    anywhere : (lock place : ℕ) (event : Event) → IsOfStretch config class stretch lock place event → IsOfWalk config class lock place event
    anywhere lock place event (inl it) = inl it.0
    anywhere lock place event (inr it) = inr it
