-- Which events walks, hits and burials make: those of a search for a chunk, or those of upkeep.
use Rattle.std.proofs.Common.{length, inl, inr, ◌≡◌, ◌++◌, ◌∷◌, [], ℕ, List, Bool, true, false, Option, Some, None, Result, Ok, Err, refl, sym, ap, append_assoc, ◌∙◌, subst}
use Rattle.std.specs.Prelude.{◌&&◌, not, if◌then◌else◌, IsSomeAnd, OnErr, OnOk}
use Rattle.std.specs.List.{All}
use Rattle.std.proofs.lemmas.List.{append-nil}
use Rattle.std.proofs.lemmas.List.Elements.{All-append, All-cons, All-nil}
use Rattle.mc_item.specs.{Cache.Cache, Item.is_dead}
use Rattle.mc_item.specs.declared.{class_event.ClassEvent.ClassEvent, config.Config.Config, fault.Fault.Fault, item.Item.Item, item.Who.Who, item.StripeNo.StripeNo}
use Rattle.mc_item.specs.declared.{lists.Entry.Entry}
use Rattle.mc_item.specs.declared.class_event.Why.TheVariants as whys
use Rattle.mc_item.specs.Measure.{stripe_of}
use Rattle.mc_rule.specs.Lists.{lists_of}
use Rattle.mc_segment.specs.{ClassCalls.Makes, ClassCalls.Stays, ClassCalls.reclaimed_event, ClassCalls.surveyed_event, ClassState.ClassView, ClassState.with_room, Entries.entry_of}
use Rattle.mc_stripe.specs.StripeState.{cache_now}
use Rattle.mc_pull.specs.declared.{judge.Done.Done, judge.Judge.Judge, looking.Answer.Answer, looking.Judged.Judged}
use Rattle.mc_pull.specs.declared.judge.Judge.TheVariants.{Walk, Dead, Hit}
use Rattle.mc_pull.specs.declared.judge.Mode.TheVariants.{Plain, Evict, Force}
use Rattle.mc_pull.specs.declared.judge.Done.TheVariants as done
use Rattle.mc_pull.specs.Growth.{GainsEvents, GainsFor, SuitsUpkeep, SuitsWalk, looks_for_chunk}
use Rattle.mc_pull.specs.{Judgement.done_by, Judgement.done_of, Judgement.done_with, Judgement.has_link, Looks.IsJudgedIf, Looks.events_if, Looks.judged_by}
use Rattle.mc_pull.specs.{Outcome.is_due, Outcome.is_over, Question.Question, Settled.class_with, Settled.cold_events, Settled.done_class_events}
use Rattle.mc_pull.specs.Settled.{warm_events}
use Rattle.mc_pull.specs.Walk.{Pull, Way, class_at, events_at, question_at}
use Rattle.mc_pull.proofs.{OutcomeLemmas.Means, OutcomeLemmas.done_is, OutcomeLemmas.outcome_means}

-- ---- what a history gains

-- nothing
pub gains_itself : (looks : Bool) (c : ClassView) → GainsFor looks c c
gains_itself looks c = record { grows = record { same = refl; events = []; history_is = sym (append-nil c.history) }; each = All-nil (SuitsWalk looks) }

-- first this, then that
pub gains_both : (looks : Bool) (a b c : ClassView) → GainsFor looks a b → GainsFor looks b c → GainsFor looks a c
gains_both looks a b c first more = record {
  grows = record {
    same = more.grows.same ∙ ap (λ (x : ClassView). record x { history = c.history; room = c.room }) first.grows.same;
    events = first.grows.events ++ more.grows.events;
    history_is = more.grows.history_is ∙ (ap (λ (h : List ClassEvent). h ++ more.grows.events) first.grows.history_is ∙ append_assoc a.history first.grows.events more.grows.events);
  };
  each = All-append (SuitsWalk looks) first.grows.events more.grows.events first.each more.each;
}

-- no event, though its memory may have changed
pub gains_nothing : (looks : Bool) (a b : ClassView) → GainsEvents a b → b.history ≡ a.history → GainsFor looks a b
gains_nothing looks a b grows stays = record {
  grows = record { same = grows.same; events = []; history_is = stays ∙ sym (append-nil a.history) };
  each = All-nil (SuitsWalk looks);
}

-- ---- what a judgement makes

-- whether what is asked is a walk that looks for a chunk
abbrev pub judge_looks : Judge → Bool
judge_looks (Walk s mode passed) = looks_for_chunk mode
judge_looks Dead = false
judge_looks Hit = false

active_forced : whys.Active ≡ whys.Forced → ⊥
active_forced h = cc

hit_forced : whys.Hit ≡ whys.Forced → ⊥
hit_forced h = cc

true_false : true ≡ false → ⊥
true_false h = cc

surveyed_forced : (b : Bool) (place : ℕ) → (if b then whys.Over place else whys.Old place) ≡ whys.Forced → ⊥
surveyed_forced true place h = cc
surveyed_forced false place h = cc

alone : (looks : Bool) (e : ClassEvent) → SuitsWalk looks e → All (SuitsWalk looks) (e ∷ [])
alone looks e suits = All-cons (SuitsWalk looks) e [] suits (All-nil (SuitsWalk looks))

suits_warm : (q : Question) (at : ℕ) (j : Judge) → All (SuitsWalk (judge_looks j)) (warm_events q at j)
suits_warm q at (Walk s (Plain survey) passed) = alone false _ active_forced
suits_warm q at (Walk s Evict passed) = alone true _ (inl refl)
suits_warm q at (Walk s Force passed) = alone true _ (inl refl)
suits_warm q at Dead = All-nil SuitsUpkeep
suits_warm q at Hit = alone false _ hit_forced

suits_cold : (c : ClassView) (q : Question) (at : ℕ) (j : Judge) → All (SuitsWalk (judge_looks j)) (cold_events c q at j)
suits_cold c q at (Walk s (Plain survey) passed) = alone false _ (surveyed_forced (is_over c.rule (lists_of c.history) s survey) survey.place)
suits_cold c q at (Walk s Evict passed) = alone true _ (inr refl)
suits_cold c q at (Walk s Force passed) = alone true _ (inr refl)
suits_cold c q at Dead = All-nil SuitsUpkeep
suits_cold c q at Hit = All-nil SuitsUpkeep

suits_reclaimed : (looks : Bool) (who : Who) (number moment at : ℕ) → All (SuitsWalk looks) (reclaimed_event who number moment at ∷ [])
suits_reclaimed true who number moment at = alone true _ tt
suits_reclaimed false who number moment at = alone false _ tt

evicted_stranger : done.Evicted ≡ done.Stranger → ⊥
evicted_stranger h = cc

dead_evicts : (b : Bool) (item : Item) → (if b then done.Reclaimed else done.Alive item.expiry) ≡ done.Evicted → ⊥
dead_evicts true item h = cc
dead_evicts false item h = cc

hit_evicts : (b : Bool) → (if b then done.ToWarm else done.Stayed) ≡ done.Evicted → ⊥
hit_evicts true h = cc
hit_evicts false h = cc

-- an entry is taken only on a walk that looks for a chunk
module _ (c : ClassView) (q : Question) where
  taken_by : (judge : Judge) (e : Entry) (item : Item) → judge_looks judge ≡ false → done_by c.rule (lists_of c.history) q.moment judge e item ≡ done.Evicted → ⊥
  taken_by (Walk s mode passed) e item off is =
      let due = is_due c.rule (lists_of c.history) s mode q.moment e in
      let means = subst (Means s mode (is_dead item q.moment) item.marks.active due) is (outcome_means s mode (is_dead item q.moment) item.marks.active due) in
      true_false (sym (ap looks_for_chunk means.2) ∙ off)
  taken_by Dead e item off is = dead_evicts (is_dead item q.moment) item is
  taken_by Hit e item off is = hit_evicts (item.marks.active && not (is_dead item q.moment)) is

  taken_item : (e : Entry) (o : Option Item) → judge_looks q.judge ≡ false
      → IsSomeAnd o (λ item. (has_link c.number q.number item ≡ true) × (done_by c.rule (lists_of c.history) q.moment q.judge e item ≡ done.Evicted)) → ⊥
  taken_item e None off h = h
  taken_item e (Some item) off h = taken_by q.judge e item off h.1

  taken_entry : (cache : Cache) (o : Option Entry) → judge_looks q.judge ≡ false → done_with c cache q o ≡ done.Evicted → ⊥
  taken_entry cache None off is = evicted_stranger (sym is)
  taken_entry cache (Some e) off is = taken_item e (cache.items e.key) off (done_is c cache q done.Evicted evicted_stranger (Some e) is)

  -- what doesn't look for a chunk evicts nothing
  pub evicts_nothing : (cache : Cache) → judge_looks q.judge ≡ false → done.Evicted ≡ done_of c cache q → ⊥
  evicts_nothing cache off is = taken_entry cache (entry_of q.number (lists_of c.history)) off (sym is)

  suits_evicted : (cache : Cache) (at : ℕ) (looks : Bool) → judge_looks q.judge ≡ looks → done.Evicted ≡ done_of c cache q → All (SuitsWalk looks) (done_class_events c q at done.Evicted)
  suits_evicted cache at true on is = alone true _ tt
  suits_evicted cache at false off is = absurd (evicts_nothing cache off is)

  -- what is done makes only events of its kind of walk
  pub suits_done : (cache : Cache) (at : ℕ) (d : Done) → d ≡ done_of c cache q → All (SuitsWalk (judge_looks q.judge)) (done_class_events c q at d)
  suits_done cache at done.Reclaimed is = suits_reclaimed (judge_looks q.judge) q.who q.number q.moment at
  suits_done cache at done.ToWarm is = suits_warm q at q.judge
  suits_done cache at done.WithinWarm is = suits_warm q at q.judge
  suits_done cache at done.ToCold is = suits_cold c q at q.judge
  suits_done cache at done.Evicted is = suits_evicted cache at (judge_looks q.judge) refl is
  suits_done cache at done.Stayed is = All-nil (SuitsWalk (judge_looks q.judge))
  suits_done cache at (done.Alive expiry) is = All-nil (SuitsWalk (judge_looks q.judge))
  suits_done cache at done.Stranger is = All-nil (SuitsWalk (judge_looks q.judge))

  -- so does an answer
  pub suits_judged : (config : Config) (number : StripeNo) (j : Option Judged) → IsJudgedIf config number c q j → All (SuitsWalk (judge_looks q.judge)) (events_if c q j)
  suits_judged config number None told = All-nil (SuitsWalk (judge_looks q.judge))
  suits_judged config number (Some j) told = suits_done (cache_now (judged_by j)) (length (judged_by j).history) j.done told.done_is

  -- a class after an answer
  pub gains_judged : (config : Config) (number : StripeNo) (j : Option Judged) (c_new : ClassView) → IsJudgedIf config number c q j
      → c_new ≡ class_with c (events_if c q j) c_new.room → GainsFor (judge_looks q.judge) c c_new
  gains_judged config number j c_new told is = record {
    grows = record {
      same = is ∙ ap (λ (h : List ClassEvent). record c { history = h; room = c_new.room }) (sym (ap (λ (v : ClassView). v.history) is));
      events = events_if c q j;
      history_is = ap (λ (v : ClassView). v.history) is;
    };
    each = suits_judged config number j told;
  }

-- so does an answer on a walk
pub suits_answered : (p : Pull) (w : Way) (a : Answer) (o : Option Entry)
    → IsSomeAnd o (λ e. (a.stripe ≡ stripe_of e.key p.config.stripes) × IsJudgedIf p.config a.stripe (class_at p.class w.history) (question_at p w e) a.judged)
    → All (SuitsWalk (looks_for_chunk p.mode)) (events_at p w o a.judged)
suits_answered p w a None asks = All-nil (SuitsWalk (looks_for_chunk p.mode))
suits_answered p w a (Some e) asks = suits_judged (class_at p.class w.history) (question_at p w e) p.config a.stripe a.judged asks.1

-- a class that made no event
pub gains_room : (looks : Bool) (c c_new : ClassView) → c_new ≡ with_room c c_new.room → GainsFor looks c c_new
gains_room looks c c_new is = record {
  grows = record {
    same = is ∙ ap (λ (h : List ClassEvent). record c { history = h; room = c_new.room }) (sym (ap (λ (v : ClassView). v.history) is));
    events = [];
    history_is = ap (λ (v : ClassView). v.history) is ∙ sym (append-nil c.history);
  };
  each = All-nil (SuitsWalk looks);
}

-- a class that was surveyed, or couldn't be
pub gains_surveyed : {T : Type 0} (c c_new : ClassView) (who : Who) (moment : ℕ) (r : Result T Fault) → OnOk r (Makes c c_new (surveyed_event c who moment))
    → OnErr r (Stays c c_new) → GainsFor false c c_new
gains_surveyed c c_new who moment (Ok x) made stays = record {
  grows = record {
    same = made ∙ ap (λ (h : List ClassEvent). record c { history = h; room = c_new.room }) (sym (ap (λ (v : ClassView). v.history) made));
    events = surveyed_event c who moment ∷ [];
    history_is = ap (λ (v : ClassView). v.history) made;
  };
  each = alone false (surveyed_event c who moment) tt;
}
gains_surveyed c c_new who moment (Err f) made stays = gains_room false c c_new stays.0
