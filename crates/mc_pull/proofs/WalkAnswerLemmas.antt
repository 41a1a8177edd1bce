-- One answer more on the way of a walk.
use Rattle.std.proofs.Common.{length, ◌≡◌, ℕ, ◌+◌, ◌-◌, ◌<◌, ◌≤◌, List, [], ◌∷◌, ◌++◌, Bool, true, false, Some, None, Option, refl, sym, ap, ◌∙◌, subst, arith, append_assoc}
use Rattle.mc_item.specs.declared.{class_event.ClassEvent.ClassEvent, config.Config.Config, item.Who.Who, lists.Entry.Entry, lists.Seg.Seg}
use Rattle.mc_rule.specs.Lists.{lists_of, list_of}
use Rattle.mc_segment.specs.ClassState.{ClassView}
use Rattle.mc_pull.specs.declared.{judge.Done.Done, judge.Mode.Mode, looking.Answer.Answer, looking.Judged.Judged, pulled.Pulled.Pulled}
use Rattle.mc_pull.specs.declared.judge.Done.TheVariants as done
use Rattle.mc_pull.specs.{Growth.GainsFor, Growth.looks_for_chunk, Looks.done_in, Pulled.sum_of, Pulled.counts_after, Pulled.counts_if, Pulled.is_end_if}
use Rattle.mc_pull.specs.Walk.{Pull, pull, Way, way, next_entry, events_at, is_going, step, run, IsAnswer, IsAlong, start_of, IsWalk}
use Rattle.mc_pull.proofs.{ChunkEventLemmas.gains_both, ChunkEventLemmas.suits_answered, LengthLemmas.few_taken, LengthLemmas.answer_passes}

pub run-push : (p : Pull) (w : Way) (xs : List Answer) (a : Answer) → run p w (xs ++ a ∷ []) ≡ step p (run p w xs) a
run-push p w [] a = refl
run-push p w (x ∷ xs) a = run-push p (step p w x) xs a

pub IsAlong-push : (p : Pull) (w : Way) (xs : List Answer) (a : Answer) → IsAlong p w xs → IsAnswer p (run p w xs) a → IsAlong p w (xs ++ a ∷ [])
IsAlong-push p w [] a along here = (here, tt)
IsAlong-push p w (x ∷ xs) a along here = (along.0, IsAlong-push p (step p w x) xs a along.1 here)

-- a walk under way, with the answers so far
pub record OnWay (p : Pull) (old new : List Answer) (w : Way) : Type 0 where
  pub xs : List Answer
  pub answers : new ≡ old ++ xs
  pub along : IsAlong p (start_of p) xs
  pub at : run p (start_of p) xs ≡ w

module _ (p : Pull) (old : List Answer) where
  pub answered : (new later : List Answer) (w after : Way) (a : Answer) → OnWay p old new w → IsAnswer p w a → later ≡ new ++ a ∷ [] → step p w a ≡ after → OnWay p old later after
  answered new later w after a on here is next = record {
    xs = on.xs ++ a ∷ [];
    answers = is ∙ (ap (λ (ys : List Answer). ys ++ a ∷ []) on.answers ∙ append_assoc old on.xs (a ∷ []));
    along = IsAlong-push p (start_of p) on.xs a on.along (subst (λ (v : Way). IsAnswer p v a) (sym on.at) here);
    at = run-push p (start_of p) on.xs a ∙ (ap (λ (v : Way). step p v a) on.at ∙ next);
  }

  pub whole : (new : List Answer) (w : Way) → OnWay p old new w → is_going p w ≡ false → (xs : List Answer) × (new ≡ old ++ xs) × IsWalk p xs w.history w.pulled
  whole new w on over = (
    on.xs,
    on.answers,
    record {
      along = on.along;
      ends = ap (is_going p) on.at ∙ over;
      history_is = ap (λ (v : Way). v.history) (sym on.at);
      pulled_is = ap (λ (v : Way). v.pulled) (sym on.at);
    },
  )

-- ---- counts stay small
counts_sum : (d : Done) (p : Pulled) → sum_of (counts_after d p) ≤ sum_of p + 1
counts_sum done.Reclaimed p = omega arith
counts_sum done.ToWarm p = omega arith
counts_sum done.WithinWarm p = omega arith
counts_sum done.ToCold p = omega arith
counts_sum done.Evicted p = omega arith
counts_sum done.Stayed p = omega arith
counts_sum (done.Alive expiry) p = omega arith
counts_sum done.Stranger p = omega arith

pub counts_if-sum : (o : Option Done) (p : Pulled) → sum_of (counts_if o p) ≤ sum_of p + 1
counts_if-sum None p = omega arith
counts_if-sum (Some made) p = counts_sum made p

-- ---- an answer more
-- an answer on the class as it is now is one on the class as it was at the start
pub from_start : (c : ClassView) (history : List ClassEvent) (room : ℕ) (s : Seg) (mode : Mode) (who : Who) (moment : ℕ) (config : Config) (w : Way) (a : Answer)
    → IsAnswer (pull (record c { history = history; room = room }) s mode who moment config) w a → IsAnswer (pull c s mode who moment config) w a
from_start c history room s mode who moment config w a h = record { goes = h.goes; asks = h.asks }

-- what holds at each look of a walk
pub record OnLooks (c now : ClassView) (old new : List Answer) (s : Seg) (mode : Mode) (who : Who) (moment : ℕ) (config : Config) (left : ℕ) (pulled : Pulled) : Type 0 where
  pub on : OnWay (pull c s mode who moment config) old new (way now.history left pulled false)
  pub gains : GainsFor (looks_for_chunk mode) c now
  pub few : sum_of pulled + left ≤ 5
  pub enough : pulled.passed + left ≤ length (list_of (lists_of now.history) s)

events_at-start : (c : ClassView) (h : List ClassEvent) (room : ℕ) (s : Seg) (mode : Mode) (who : Who) (moment : ℕ) (config : Config) (w : Way) (o : Option Entry) (j : Option Judged)
    → events_at (pull (record c { history = h; room = room }) s mode who moment config) w o j ≡ events_at (pull c s mode who moment config) w o j
events_at-start c h room s mode who moment config w None j = refl
events_at-start c h room s mode who moment config w (Some e) j = refl

module _ {c now after : ClassView} {old new later : List Answer} {s : Seg} {mode : Mode} {who : Who} {moment : ℕ} {config : Config} {left : ℕ} {pulled next : Pulled} (a : Answer)
    (on : OnLooks c now old new s mode who moment config left pulled)
    (here : IsAnswer (pull now s mode who moment config) (way now.history left pulled false) a)
    (is : later ≡ new ++ a ∷ [])
    (made : after.history ≡ (step (pull now s mode who moment config) (way now.history left pulled false) a).history)
    (same : after ≡ record now { history = after.history; room = after.room })
    (count : next ≡ counts_if (done_in a.judged) pulled) where
  abbrev walk : Pull
  walk = pull c s mode who moment config

  abbrev before : Way
  before = way now.history left pulled false

  abbrev made_events : List ClassEvent
  made_events = events_at walk before (next_entry walk before) a.judged

  asked_first : IsAnswer walk before a
  asked_first = from_start c now.history now.room s mode who moment config before a
      (subst (λ (x : ClassView). IsAnswer (pull x s mode who moment config) before a) on.gains.grows.same here)

  made_is : after.history ≡ now.history ++ made_events
  made_is = made
      ∙ (ap (λ (x : ClassView). (step (pull x s mode who moment config) before a).history) on.gains.grows.same
      ∙ ap (λ (es : List ClassEvent). now.history ++ es)
      (events_at-start c now.history now.room s mode who moment config before (next_entry walk before) a.judged))

  step_is : step walk before a ≡ way after.history (left - 1) next (is_end_if (done_in a.judged))
  step_is = ap (λ (h : List ClassEvent). way h (left - 1) (counts_if (done_in a.judged) pulled) (is_end_if (done_in a.judged))) (sym made_is)
      ∙ ap (λ (p : Pulled). way after.history (left - 1) p (is_end_if (done_in a.judged))) (sym count)

  pub looked_way : (stopped : Bool) → is_end_if (done_in a.judged) ≡ stopped → OnWay walk old later (way after.history (left - 1) next stopped)
  looked_way stopped stop =
      answered walk old new later before (way after.history (left - 1) next stopped) a on.on asked_first is
      (step_is ∙ ap (λ (b : Bool). way after.history (left - 1) next b) stop)

  pub looked_more : GainsFor (looks_for_chunk mode) now after
  looked_more = record {
    grows = record { same = same; events = made_events; history_is = made_is };
    each = suits_answered walk before a (next_entry walk before) asked_first.asks;
  }

  pub looked_on : 0 < left → is_end_if (done_in a.judged) ≡ false → OnLooks c after old later s mode who moment config (left - 1) next
  looked_on some stop = record {
    on = looked_way false stop;
    gains = gains_both (looks_for_chunk mode) c now after on.gains looked_more;
    few = omega (arith, on.few, counts_if-sum (done_in a.judged) pulled, ap sum_of count, some);
    enough = omega (
      arith,
      on.enough,
      few_taken now.history made_events s,
      answer_passes walk before (next_entry walk before) a.judged,
      ap (λ (x : Pulled). x.passed) count,
      ap (λ (h : List ClassEvent). length (list_of (lists_of h) s)) made_is,
      some,
    );
  }

  -- the walk ends where it stops
  pub looked_whole : is_end_if (done_in a.judged) ≡ true → (xs : List Answer) × (later ≡ old ++ xs) × IsWalk walk xs after.history next
  looked_whole stop = whole walk old later (way after.history (left - 1) next true) (looked_way true stop) refl
