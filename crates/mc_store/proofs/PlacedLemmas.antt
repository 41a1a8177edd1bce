-- Where a caller's commands were answered: each place has its command, in what was seen of the stripes and in a closed store.
use Rattle.std.proofs.Common.{◌≡◌, ◌<◌, ◌+◌, ◌-◌, ℕ, zero, suc, List, [], ◌∷◌, ◌++◌, Some, None, Result, Ok, Err, slice_get, length, length-append, append_assoc, refl, sym, ap, ◌∙◌, subst, ⊎_elim, arith}
use Rattle.std.specs.Prelude.{IfErr, IfOk, IsSomeAnd, Option}
use Rattle.std.proofs.lemmas.List.{append-nil}
use mathlib.Core.List.{IsPrefix}
use Rattle.atomic_table.specs.Seated.{TableId}
use Rattle.mc_item.specs.declared.{call_event.CallEvent.CallEvent, command.Command.Command, config.Config.Config, fault.Fault.Fault, item.Who.Who}
use Rattle.mc_item.specs.declared.{reply.Reply.Reply, stripe_event.Did.Did, stripe_event.StripeEvent.StripeEvent}
use Rattle.mc_item.specs.declared.call_event.Answered as answers
use Rattle.mc_item.specs.declared.call_event.CallEvent.TheVariants.{Answered, Asked, Crawled, Juggled, Limits}
use Rattle.mc_item.specs.declared.stripe_event.StripeEvent.TheVariants as events
use Rattle.mc_board.specs.Histories.{Grows, list_at}
use Rattle.mc_board.specs.declared.rule.Sight.{Sight}
use Rattle.mc_evidence.specs.Seen.{stripe_events, stripes_seen}
use Rattle.mc_evidence.proofs.SeenLemmas.{stripe_events-map, stripes_grow}
use Rattle.mc_store.specs.Callers.{HasNoAnswer, IsCalled, IsNext, IsPlace, IsUnanswered, answered_at, asked_for, moment_of, placed_from, placed_in, turns_of}
use Rattle.mc_store.specs.{Calls.IsCutBy, Calls.IsRepliedBy, Finals.AreItsOwn, Finals.AreJustPlaced, Finals.AreStripes, Finals.HasNoDid}
use Rattle.mc_store.specs.{Finals.IsBehindStripes, Finals.stripe_histories, Finals.stripe_history, Headline.answered_did, Sides.StripeSide, Sides.stripe_told}
use Rattle.mc_store.specs.Passes.{ArePlaced, CallerView, HasAsked, IsDidBy, IsPlacedIn, PassView, caller_of, next_who}
use Rattle.mc_store.specs.declared.placed.Placed.{Placed}
use Rattle.mc_store.proofs.{AnsweredTurnLemmas.behind_same, CallerLemmas.get_append, ClosedLemmas.stripe_begins, NextTurnLemmas.turn_more, NextTurnLemmas.turns_both}
use Rattle.mc_store.proofs.{NumberOrderLemmas.get_before, NumberOrderLemmas.get_some}

-- ---- what a caller's history gives

module _ (turns : ℕ) where
  from_nothing : (ys : List CallEvent) → placed_from turns ys ≡ placed_from (turns + 0) ys
  from_nothing ys = let same : turns ≡ turns + 0 = omega arith in ap (λ (n : ℕ). placed_from n ys) same

placed_append : (turns : ℕ) (xs ys : List CallEvent) → placed_from turns (xs ++ ys) ≡ placed_from turns xs ++ placed_from (turns + length (turns_of xs)) ys
placed_append turns [] ys = from_nothing turns ys
placed_append turns (Asked a ∷ xs) ys =
    let same : turns + 1 + length (turns_of xs) ≡ turns + length (turns_of (Asked a ∷ xs)) = omega arith in
    placed_append (turns + 1) xs ys ∙ ap (λ (n : ℕ). placed_from (turns + 1) xs ++ placed_from n ys) same
placed_append turns (Juggled w ∷ xs) ys =
    let same : turns + 1 + length (turns_of xs) ≡ turns + length (turns_of (Juggled w ∷ xs)) = omega arith in
    placed_append (turns + 1) xs ys ∙ ap (λ (n : ℕ). placed_from (turns + 1) xs ++ placed_from n ys) same
placed_append turns (Crawled w ∷ xs) ys =
    let same : turns + 1 + length (turns_of xs) ≡ turns + length (turns_of (Crawled w ∷ xs)) = omega arith in
    placed_append (turns + 1) xs ys ∙ ap (λ (n : ℕ). placed_from (turns + 1) xs ++ placed_from n ys) same
placed_append turns (Limits l ∷ xs) ys =
    let same : turns + 1 + length (turns_of xs) ≡ turns + length (turns_of (Limits l ∷ xs)) = omega arith in
    placed_append (turns + 1) xs ys ∙ ap (λ (n : ℕ). placed_from (turns + 1) xs ++ placed_from n ys) same
placed_append turns (Answered a ∷ xs) ys =
    ap (λ (ps : List Placed). record { turn = turns - 1; stripe = a.stripe; place = a.place } ∷ ps) (placed_append turns xs ys)

no_more : {A : Type 0} (x : A) (xs : List A) → length (x ∷ xs) ≡ 1 → xs ≡ []
no_more x [] one = refl
no_more x (y ∷ ys) one = absurd (omega (arith, one))

-- a call isn't an answer
none_placed : (turns : ℕ) (es : List CallEvent) → length es ≡ 1 → length (turns_of es) ≡ 1 → placed_from turns es ≡ []
none_placed turns [] one call = absurd (omega (arith, one))
none_placed turns (Asked a ∷ es) one call = ap (placed_from (turns + 1)) (no_more (Asked a) es one)
none_placed turns (Juggled w ∷ es) one call = ap (placed_from (turns + 1)) (no_more (Juggled w) es one)
none_placed turns (Crawled w ∷ es) one call = ap (placed_from (turns + 1)) (no_more (Crawled w) es one)
none_placed turns (Limits l ∷ es) one call = ap (placed_from (turns + 1)) (no_more (Limits l) es one)
none_placed turns (Answered a ∷ es) one call =
    let none = ap (λ (l : List CallEvent). length (turns_of l)) (no_more (Answered a) es one) in
    absurd (omega (arith, none, call))

pub call_places : (calls es : List CallEvent) → length es ≡ 1 → length (turns_of es) ≡ 1 → placed_in (calls ++ es) ≡ placed_in calls
call_places calls es one call =
    placed_append 0 calls es ∙ (ap (λ (ps : List Placed). placed_in calls ++ ps) (none_placed (0 + length (turns_of calls)) es one call) ∙ append-nil (placed_in calls))

-- the place of an answer to a caller's last call
abbrev pub place_of : List CallEvent → ℕ → ℕ → Placed
place_of calls stripe place = record { turn = length (turns_of calls) - 1; stripe = record { 0 = stripe }; place = place }

pub answer_places : (calls : List CallEvent) (stripe place : ℕ) → placed_in (calls ++ answered_at stripe place ∷ []) ≡ placed_in calls ++ place_of calls stripe place ∷ []
answer_places calls stripe place =
    let same : 0 + length (turns_of calls) ≡ length (turns_of calls) = omega arith in
    placed_append 0 calls (answered_at stripe place ∷ [])
    ∙ ap (λ (n : ℕ). placed_in calls ++ record { turn = n - 1; stripe = record { 0 = stripe }; place = place } ∷ []) same

-- ---- what was seen of the stripes

some_more : {A : Type 0} (P : A → Type 0) (xs ys : List A) (k : ℕ) → IsPrefix xs ys → (o : Option A) → slice_get xs k ≡ o → IsSomeAnd o P → IsSomeAnd (slice_get ys k) P
some_more P xs ys k p None is there = absurd there
some_more P xs ys k p (Some x) is there =
    subst (λ (o : Option _). IsSomeAnd o P) (sym (ap (λ (l : List _). slice_get l k) (sym p.1) ∙ get_before xs p.0 x k is)) there

placed_more : (caller : ℕ) (placed : Placed) (a b : ℕ → List StripeEvent) → IsPrefix (a placed.stripe.0) (b placed.stripe.0) → IsPlacedIn caller a placed → IsPlacedIn caller b placed
placed_more caller placed a b p there =
    some_more (IsDidBy (record { caller = caller; turn = placed.turn })) (a placed.stripe.0) (b placed.stripe.0) placed.place p (slice_get (a placed.stripe.0) placed.place) refl there

abbrev Seen : Sight → ℕ → List StripeEvent
Seen sight = stripes_seen (list_at sight.seen)

-- more is seen
pub placed_sees : (config : Config) (caller : CallerView) (old new : Sight) → Grows old new → ArePlaced config caller (Seen old) → ArePlaced config caller (Seen new)
placed_sees config caller old new more all = record {
  each = λ placed is.
      let was = all.each placed is in
      (was.0, placed_more caller.number placed (Seen old) (Seen new) (stripes_grow (list_at old.seen) (list_at new.seen) more.at placed.stripe.0) was.1);
}

-- a caller with the same places
pub placed_same : (config : Config) (old new : CallerView) (stripes : ℕ → List StripeEvent) → new.number ≡ old.number → placed_in new.calls ≡ placed_in old.calls
    → ArePlaced config old stripes → ArePlaced config new stripes
placed_same config old new stripes number same all = record {
  each = λ placed is.
      subst (λ (n : ℕ). (placed.stripe.0 < config.stripes) × IsPlacedIn n stripes placed) (sym number)
      (all.each placed (is.0, subst (λ (ps : List Placed). slice_get ps is.0 ≡ Some placed) same is.1));
}

none_some : {A : Type 0} {x : A} → None ≡ Some x → ⊥
none_some h = cc

-- a caller without calls
pub placed_none : (config : Config) (caller : CallerView) (stripes : ℕ → List StripeEvent) → caller.calls ≡ [] → ArePlaced config caller stripes
placed_none config caller stripes empty = record {
  each = λ placed is. absurd (none_some (subst (λ (calls : List CallEvent). slice_get (placed_in calls) is.0 ≡ Some placed) empty is.1));
}

only_one : {A : Type 0} (x y : A) (k : ℕ) → slice_get (x ∷ []) k ≡ Some y → x ≡ y
only_one x y zero e = cc e
only_one x y (suc k) e = absurd (none_some e)

-- one place more
placed_push : (config : Config) (old new : CallerView) (stripes : ℕ → List StripeEvent) (last : Placed) → new.number ≡ old.number → placed_in new.calls ≡ placed_in old.calls ++ last ∷ []
    → ArePlaced config old stripes → (last.stripe.0 < config.stripes) × IsPlacedIn old.number stripes last → ArePlaced config new stripes
placed_push config old new stripes last number more all one = record {
  each = λ placed is.
      let P : ℕ → Placed → Type 0 = λ n p. (p.stripe.0 < config.stripes) × IsPlacedIn n stripes p in
      subst (λ (n : ℕ). P n placed) (sym number)
      (⊎_elim
      (λ (was : slice_get (placed_in old.calls) is.0 ≡ Some placed). all.each placed (is.0, was))
      (λ (t : (j : ℕ) × (is.0 ≡ length (placed_in old.calls) + j) × (slice_get (last ∷ []) j ≡ Some placed)). subst (P old.number) (only_one last placed t.0 t.2) one)
      (get_append (placed_in old.calls) (last ∷ []) placed is.0 (subst (λ (ps : List Placed). slice_get ps is.0 ≡ Some placed) more is.1)));
}

get_next : {A : Type 0} (xs ys : List A) (x : A) → slice_get (xs ++ x ∷ ys) (length xs) ≡ Some x
get_next [] ys x = refl
get_next (z ∷ zs) ys x = get_next zs ys x

from_zero : (n : ℕ) → 0 + n ≡ n
from_zero n = omega arith

get_last : {A : Type 0} (xs : List A) (x : A) → slice_get (xs ++ x ∷ []) (length xs) ≡ Some x
get_last [] x = refl
get_last (y ∷ ys) x = get_last ys x

-- ---- a command

module _ (config : Config) (number : ℕ) (before after : PassView) (command : Command) (moment : ℕ) (below : number < config.stripes) (same : after.caller ≡ before.caller)
    (turns : length (turns_of before.calls) ≡ before.turn) (grows : Grows before.sight after.sight)
    (all : ArePlaced config (record (caller_of before) { calls = before.calls ++ asked_for command moment ∷ [] }) (Seen before.sight)) where
  abbrev asked : List CallEvent
  asked = before.calls ++ asked_for command moment ∷ []

  abbrev begun : CallerView
  begun = record (caller_of before) { calls = asked }

  begun_places : ArePlaced config begun (Seen after.sight)
  begun_places = placed_sees config begun before.sight after.sight grows all

  placed_replied : (reply : Reply) → IsRepliedBy config number before after command moment reply → ArePlaced config (caller_of after) (Seen after.sight)
  placed_replied reply by =
      let answered = by.replied.answered in
      let did : Did = answered_did (next_who before) command moment answered.reply answered.room in
      let history = by.old.history ++ answered.before in
      let place = by.replied.place in
      let stripe : by.old.site.stripe ≡ number = by.grew.number_is in
      let noted : after.calls ≡ asked ++ answered_at number place ∷ [] = by.replied.noted ∙ ap (λ (n : ℕ). asked ++ answered_at n place ∷ []) stripe in
      let more : length (turns_of asked) ≡ length (turns_of before.calls) + 1 = turns_both before.calls (asked_for command moment ∷ []) in
      let turn : length (turns_of asked) - 1 ≡ before.turn = omega (arith, more, turns) in
      let seen : Seen after.sight number ≡ history ++ events.Did did ∷ [] = ap stripe_events by.grew.now ∙ (stripe_events-map by.new.history ∙ answered.history_is) in
      let here : slice_get (Seen after.sight number) place ≡ Some (events.Did did) =
      ap (λ (h : List StripeEvent). slice_get h place) seen ∙ (ap (slice_get (history ++ events.Did did ∷ [])) answered.place_is ∙ get_last history (events.Did did)) in
      let there : IsPlacedIn before.caller (Seen after.sight) (place_of asked number place) =
      subst (λ (o : Option StripeEvent). IsSomeAnd o (IsDidBy (record { caller = before.caller; turn = length (turns_of asked) - 1 }))) (sym here)
      (ap (λ (n : ℕ). record { caller = before.caller; turn = n }) (sym turn)) in
      placed_push config begun (caller_of after) (Seen after.sight) (place_of asked number place) same (ap placed_in noted ∙ answer_places asked number place) begun_places (below, there)

  placed_cut : (fault : Fault) → IsCutBy config number before after command moment fault → ArePlaced config (caller_of after) (Seen after.sight)
  placed_cut fault cut = placed_same config begun (caller_of after) (Seen after.sight) same (ap placed_in cut.noted) begun_places

  pub placed_shared : (r : Result Reply Fault) → IfOk r (IsRepliedBy config number before after command moment)
      → IfErr r (IsCutBy config number before after command moment) → ArePlaced config (caller_of after) (Seen after.sight)
  placed_shared (Ok reply) replied cut = placed_replied reply replied
  placed_shared (Err fault) replied cut = placed_cut fault cut

-- ---- a caller that was asked

pub asked_unanswered : (caller : CallerView) (who : Who) (command : Command) (moment : ℕ) → HasAsked caller who command moment → IsUnanswered caller.calls
asked_unanswered caller who command moment asked = record { before = asked.before; call = asked_for command moment; moment = moment; last = asked.last; is_call = refl }

-- ---- a closed store

module _ (table : TableId) (config : Config) (pass : PassView) (stripes : List StripeSide) (are : AreStripes table config stripes) where
  -- what was seen of a stripe begins its history
  seen_begins : IsBehindStripes pass.sight stripes → (k : ℕ) → k < config.stripes → IsPrefix (Seen pass.sight k) (stripe_histories stripes k)
  seen_begins behind k below =
      let g = get_some stripes k (omega (arith, below, are.many)) in
      let under = are.each k g.0 g.1 in
      let seen = subst (λ (n : ℕ). IsPrefix (list_at pass.sight.seen n) (stripe_told g.0.stripe.history)) (under.kept.lock_is ∙ under.number_is) (behind.each k g.0 g.1).seen in
      subst (IsPrefix (Seen pass.sight k)) (sym (ap stripe_history g.1)) (stripe_begins (list_at pass.sight.seen k) g.0.stripe.history seen)

  placed_there : IsBehindStripes pass.sight stripes → ArePlaced config (caller_of pass) (Seen pass.sight) → ArePlaced config (caller_of pass) (stripe_histories stripes)
  placed_there behind all = record {
    each = λ placed is.
        let was = all.each placed is in
        (was.0, placed_more pass.caller placed (Seen pass.sight) (stripe_histories stripes) (seen_begins behind placed.stripe.0 was.0) was.1);
  }

  -- a command of the caller is at a place that the caller's history gives
  is_place : AreItsOwn pass stripes → (k place : ℕ) (s : StripeSide) (did : Did) → slice_get stripes k ≡ Some s → slice_get s.stripe.history place ≡ Some (events.Did did)
      → did.who.caller ≡ pass.caller → IsPlace pass.calls (record { turn = did.who.turn; stripe = record { 0 = k }; place = place })
  is_place own k place s did there at by = placed_next (own.each k s place (events.Did did) there at by)
    where
      answer_first : (call : CallEvent) (behind : List CallEvent) (stripe place : ℕ) → IsNext (answered_at stripe place) behind → (rest : List CallEvent) × (behind ≡ answered_at stripe place ∷ rest)
      answer_first call [] stripe place next = absurd next
      answer_first call (e ∷ es) stripe place next = (es, ap (λ (x : CallEvent). x ∷ es) next)

      placed_next : IsCalled pass.calls k place (events.Did did) → IsPlace pass.calls (record { turn = did.who.turn; stripe = record { 0 = k }; place = place })
      placed_next called =
          let begun = called.begun in
          let answer = answer_first begun.call begun.behind k place called.own.1 in
          let so_far = begun.before ++ begun.call ∷ [] in
          let split : pass.calls ≡ so_far ++ answered_at k place ∷ answer.0 =
          begun.split ∙ (ap (λ (l : List CallEvent). begun.before ++ begun.call ∷ l) answer.1 ∙ sym (append_assoc begun.before (begun.call ∷ []) (answered_at k place ∷ answer.0))) in
          let turns : length (turns_of so_far) ≡ did.who.turn + 1 =
          omega (arith, turns_both begun.before (begun.call ∷ []), turn_more begun.call [] called.moment begun.handed, begun.turn_is) in
          let turn : length (turns_of so_far) - 1 ≡ did.who.turn = omega (arith, turns) in
          let more : placed_in pass.calls ≡ placed_in so_far ++ place_of so_far k place ∷ placed_from (0 + length (turns_of so_far)) answer.0 =
          ap placed_in split ∙ (placed_append 0 so_far (answered_at k place ∷ answer.0)
          ∙ ap (λ (n : ℕ). placed_in so_far ++ record { turn = n - 1; stripe = record { 0 = k }; place = place } ∷ placed_from (0 + length (turns_of so_far)) answer.0) (from_zero (length (turns_of so_far)))) in (
            length (placed_in so_far),
            ap (λ (ps : List Placed). slice_get ps (length (placed_in so_far))) more
                ∙ (get_next (placed_in so_far) (placed_from (0 + length (turns_of so_far)) answer.0) (place_of so_far k place)
                ∙ ap (λ (n : ℕ). Some (record { turn = n; stripe = record { 0 = k }; place = place })) turn),
          )

  placed_only : AreItsOwn pass stripes → (placed : Placed) → IsPlacedIn pass.caller (stripe_histories stripes) placed → IsPlace pass.calls placed
  placed_only own placed there = at_stripe (slice_get stripes placed.stripe.0) refl there
    where
      at_event : (s : StripeSide) → slice_get stripes placed.stripe.0 ≡ Some s → (o : Option StripeEvent) → slice_get s.stripe.history placed.place ≡ o
          → IsSomeAnd o (IsDidBy (record { caller = pass.caller; turn = placed.turn })) → IsPlace pass.calls placed
      at_event s is None at there = absurd there
      at_event s is (Some (events.Did did)) at there =
          subst (λ (n : ℕ). IsPlace pass.calls (record { turn = n; stripe = placed.stripe; place = placed.place })) (ap (λ (w : Who). w.turn) there)
          (is_place own placed.stripe.0 placed.place s did is at (ap (λ (w : Who). w.caller) there))
      at_event s is (Some (events.Lost lost)) at there = absurd there
      at_event s is (Some (events.Cooled cooled)) at there = absurd there

      at_stripe : (o : Option StripeSide) → slice_get stripes placed.stripe.0 ≡ o
          → IsSomeAnd (slice_get (stripe_history o) placed.place) (IsDidBy (record { caller = pass.caller; turn = placed.turn })) → IsPlace pass.calls placed
      at_stripe None is there = absurd there
      at_stripe (Some s) is there = at_event s is (slice_get s.stripe.history placed.place) refl there

  -- the caller's commands are just those at its places
  pub placed_just : AreItsOwn pass stripes → IsBehindStripes pass.sight stripes → ArePlaced config (caller_of pass) (Seen pass.sight) → AreJustPlaced config pass stripes
  placed_just own behind all = record { there = placed_there behind all; only = placed_only own }

-- ---- a turn that failed

no_answer : (stripe place : ℕ) (behind : List CallEvent) → HasNoAnswer behind → IsNext (answered_at stripe place) behind → ⊥
no_answer stripe place [] none next = next
no_answer stripe place (Asked a ∷ es) none next = cc next
no_answer stripe place (Juggled w ∷ es) none next = cc next
no_answer stripe place (Crawled w ∷ es) none next = cc next
no_answer stripe place (Limits l ∷ es) none next = cc next
no_answer stripe place (Answered a ∷ es) none next = none

-- has no command in a closed store
pub failed_unanswered : (pass : PassView) (stripes : List StripeSide) (before behind : List CallEvent) (call : CallEvent) (moment : ℕ) → AreItsOwn pass stripes
    → pass.calls ≡ before ++ call ∷ behind → moment_of call ≡ Some moment → HasNoAnswer behind → HasNoDid (record { caller = pass.caller; turn = length (turns_of before) }) stripes
failed_unanswered pass stripes before behind call moment own split is none = record {
  each = λ k s place did there at same.
      let called = own.each k s place (events.Did did) there at (ap (λ (w : Who). w.caller) same) in
      let begun = called.begun in
      let turns : length (turns_of before) ≡ length (turns_of begun.before) = sym (begun.turn_is ∙ ap (λ (w : Who). w.turn) same) in
      let follows = behind_same before begun.before call begun.call behind begun.behind moment called.moment (sym split ∙ begun.split) turns is begun.handed in
      no_answer k place behind none (subst (IsNext (answered_at k place)) (sym follows) called.own.1);
}

-- ---- a caller's last event

answered_none : (a : answers.Answered) (call : CallEvent) (moment : ℕ) → Answered a ≡ call → moment_of call ≡ Some moment → ⊥
answered_none a call moment same is = none_some (ap moment_of same ∙ is)

last_of : {A : Type 0} (xs ys : List A) (x y : A) → xs ++ x ∷ [] ≡ ys ++ y ∷ [] → x ≡ y
last_of [] [] x y same = cc same
last_of {A} [] (z ∷ zs) x y same =
    let long : 1 ≡ length ((z ∷ zs) ++ y ∷ []) = ap (λ (l : List A). length l) same in absurd (omega (arith, long, length-append (z ∷ zs) (y ∷ [])))
last_of {A} (z ∷ zs) [] x y same =
    let long : length ((z ∷ zs) ++ x ∷ []) ≡ 1 = ap (λ (l : List A). length l) same in absurd (omega (arith, long, length-append (z ∷ zs) (x ∷ [])))
last_of (w ∷ ws) (z ∷ zs) x y same = last_of ws zs x y (tail_of w z (ws ++ x ∷ []) (zs ++ y ∷ []) same)
  where
    tail_of : {B : Type 0} (a b : B) (rest more : List B) → a ∷ rest ≡ b ∷ more → rest ≡ more
    tail_of a b rest more e = cc e

-- an answer is no call
pub last_answered : (calls : List CallEvent) (stripe place : ℕ) → IsUnanswered (calls ++ answered_at stripe place ∷ []) → ⊥
last_answered calls stripe place unanswered =
    answered_none (record { stripe = record { 0 = stripe }; place = place }) unanswered.call unanswered.moment
    (last_of calls unanswered.before (answered_at stripe place) unanswered.call unanswered.last) unanswered.is_call
