-- What a walker leaves by a gate that has one stripe at hand: visit by visit, and where its search was in vain.
use Rattle.std.proofs.Common.{length, arith, ◌≤◌, ◌≡◌, ◌≢◌, ℕ, List, [], ◌∷◌, ◌++◌, Bool, true, false, Result, Ok, Err, inl, inr, refl, sym, ap, ◌∙◌, subst, append_assoc, append-nil}
use Rattle.std.specs.Prelude.{◌&&◌, not, Option, Some, None, IsSome, IsSomeAnd, OnOk, OnErr, nat_lt, option_map, if◌then◌else◌}
use Rattle.std.proofs.lemmas.{Bool.Decides.nat_tests, List.append_cancel_left}
use Rattle.mc_item.specs.{Cache.Cache, Item.is_dead, Measure.stripe_of, Stripe.IsAlive}
use Rattle.mc_item.specs.declared.{answer.Site.Site, class_event.ClassEvent.ClassEvent, config.Config.Config, fault.Fault.Fault, item.Item.Item}
use Rattle.mc_item.specs.declared.{item.StripeNo.StripeNo, item.Who.Who, lists.Entry.Entry, lists.Seg.Seg, stripe_event.StripeEvent.StripeEvent}
use Rattle.mc_item.specs.declared.class_event.ClassEvent.TheVariants as entries
use Rattle.mc_item.specs.declared.lists.Seg.TheVariants as segs
use Rattle.mc_item.specs.declared.stripe_event.StripeEvent.TheVariants as events
use Rattle.mc_evidence.specs.{Losses.AreNoCommands, Refusals.HasTried}
use Rattle.mc_rule.specs.{Belonging.IsEntryOf, Lawful.IsIn, Lawful.IsListed, Pairs.item_after, Places.Stands, Segment.Rule}
use Rattle.mc_rule.specs.Lists.{IsFull, Lists, chunks_from, count_of, find, found, found_in, lists_of}
use Rattle.mc_segment.specs.{ClassState.ClassView, ClassState.with_room, Entries.entry_of}
use Rattle.mc_stripe.specs.StripeState.{Stripe, cache_now}
use Rattle.mc_pull.specs.declared.{judge.Done.Done, judge.Judge.Judge, judge.Judge.TheVariants.Dead, judge.Judge.TheVariants.Hit}
use Rattle.mc_pull.specs.declared.{judge.Judge.TheVariants.Walk, looking.Answer.Answer, looking.Judged.Judged}
use Rattle.mc_pull.specs.declared.judge.Done.TheVariants as done
use Rattle.mc_pull.specs.Growth as classes
use Rattle.mc_pull.specs.{Judgement.done_by, Judgement.done_of, Lone.AreMadeBy, Lone.StripeGrows, Looks.IsAnswered, Looks.answer_by, Looks.events_if, Looks.judged_by, Outcome.is_due}
use Rattle.mc_pull.specs.{Question.HasKeyOf, Question.MayJudge, Question.MayJudgeBy, Question.Question, Rounds.IsRoom, Rounds.Rounds, Rounds.rounds}
use Rattle.mc_pull.specs.{Settled.done_class_events, Settled.cold_events, Settled.warm_events, Walker.Walker, Walker.walker_of}
use Rattle.mc_pull.specs.Tried.{AreHad, AreTries, IsNoneNear, IsTried, IsTry}
use Rattle.mc_pull.proofs.OutcomeLemmas.{Means, done_is, outcome_means}
use Rattle.mc_store.proofs.CommandLemmas.{alive_behind}
use Rattle.mc_store.specs.{Earned.HasSearched, Earned.HasSearchedForAny, Looked.AreOfOthers, Looked.HasLooked, Looked.IsKnown, Looked.IsOfOther}

true_false : true ≡ false → ⊥
true_false h = cc

-- ---- one visit after another

-- nothing was done
pub looked_itself : (stripes : ℕ) (w : Walker) (s : Stripe) (xs : List Answer) (h : List ClassEvent) → HasLooked stripes w s xs xs h h
looked_itself stripes w s xs h = record { answers = []; answers_are = sym (append-nil xs); had = tt; events = []; history_is = sym (append-nil h); others = λ key of alive. tt }

others_both : (key : List ℕ) (h es more : List ClassEvent) → AreOfOthers key h es → AreOfOthers key (h ++ es) more → AreOfOthers key h (es ++ more)
others_both key h [] more first last = subst (λ (x : List ClassEvent). AreOfOthers key x more) (append-nil h) last
others_both key h (e ∷ es) more first last =
    (first.0, others_both key (h ++ e ∷ []) es more first.1 (subst (λ (x : List ClassEvent). AreOfOthers key x more) (sym (append_assoc h (e ∷ []) es)) last))

had_both : (number : StripeNo) (xs ys : List Answer) → AreHad number xs → AreHad number ys → AreHad number (xs ++ ys)
had_both number [] ys first last = last
had_both number (x ∷ xs) ys first last = (first.0, had_both number xs ys first.1 last)

no_commands : (w : Walker) (es : List StripeEvent) → AreMadeBy w es → AreNoCommands es
no_commands w [] made = tt
no_commands w (events.Did did ∷ es) made = absurd made.0
no_commands w (events.Lost lost ∷ es) made = no_commands w es made.1
no_commands w (events.Cooled cooled ∷ es) made = no_commands w es made.1

-- an item that is alive is alive or gone behind a walk
grown_alive : (w : Walker) (s s_new : Stripe) (key : List ℕ) → StripeGrows w s s_new → IsAlive ((cache_now s).items key) w.moment → IsAlive ((cache_now s_new).items key) w.moment
grown_alive w s s_new key grows alive =
    subst (λ (t : Site). IsAlive (item_after t s_new.history key) w.moment) (sym grows.site.site)
    (subst (λ (h : List StripeEvent). IsAlive (item_after s.site h key) w.moment) (sym grows.history_is)
    (alive_behind s.site key w.moment s.history grows.events (no_commands w grows.events grows.each) alive))

-- one thing after another
pub looked_both : (stripes : ℕ) (w : Walker) (s mid : Stripe) (xs ys zs : List Answer) (a b c : List ClassEvent) → HasLooked stripes w s xs ys a b
    → StripeGrows w s mid → HasLooked stripes w mid ys zs b c → HasLooked stripes w s xs zs a c
looked_both stripes w s mid xs ys zs a b c first grows more =
    let number : mid.site.stripe ≡ s.site.stripe = ap (λ (t : Site). t.stripe) grows.site.site in
    record {
      answers = first.answers ++ more.answers;
      answers_are = more.answers_are ∙ (ap (λ (l : List Answer). l ++ more.answers) first.answers_are ∙ append_assoc xs first.answers more.answers);
      had = had_both (record { 0 = s.site.stripe }) first.answers more.answers first.had (subst (λ (n : ℕ). AreHad (record { 0 = n }) more.answers) number more.had);
      events = first.events ++ more.events;
      history_is = more.history_is ∙ (ap (λ (l : List ClassEvent). l ++ more.events) first.history_is ∙ append_assoc a first.events more.events);
      others = λ key of alive.
          others_both key a first.events more.events (first.others key of alive)
          (subst (λ (l : List ClassEvent). AreOfOthers key l more.events) first.history_is
          (more.others key (subst (λ (n : ℕ). stripe_of key stripes ≡ record { 0 = n }) (sym number) of) (grown_alive w s mid key grows alive)));
    }

-- ---- one entry

-- what is in one list is in the lists
has_here : (s : Seg) (o : Option Entry) (other : Option (Seg × Entry)) → IsSome o → IsSome (found_in s o other)
has_here s None other there = absurd (true_false (sym there))
has_here s (Some e) other there = refl

has_later : (s : Seg) (o : Option Entry) (other : Option (Seg × Entry)) → IsSome other → IsSome (found_in s o other)
has_later s None other there = there
has_later s (Some e) other there = refl

listed_in : (s : Seg) (n : ℕ) (l : Lists) → IsIn s n l → IsListed n l
listed_in segs.Hot n l there = has_here segs.Hot (find n l.hot) _ there
listed_in segs.Warm n l there = has_later segs.Hot (find n l.hot) _ (has_here segs.Warm (find n l.warm) _ there)
listed_in segs.Cold n l there = has_later segs.Hot (find n l.hot) _ (has_later segs.Warm (find n l.warm) _ (has_here segs.Cold (find n l.cold) _ there))
listed_in segs.Temp n l there = has_later segs.Hot (find n l.hot) _ (has_later segs.Warm (find n l.warm) _ (has_later segs.Cold (find n l.cold) _ (has_here segs.Temp (find n l.temp) None there)))

-- an entry that may be judged is in a list
pub judged_listed : (c : ClassView) (q : Question) → MayJudge c q → IsListed q.number (lists_of c.history)
judged_listed c q may = by q.judge may
  where
    by : (judge : Judge) → MayJudgeBy c q.who q.number q.moment judge → IsListed q.number (lists_of c.history)
    by (Walk s mode passed) on = listed_in s q.number (lists_of c.history) on.listed
    by Dead there = there
    by Hit cold = listed_in segs.Cold q.number (lists_of c.history) cold

dead_by : (rule : Rule) (l : Lists) (moment : ℕ) (judge : Judge) (e : Entry) (item : Item) → done_by rule l moment judge e item ≡ done.Reclaimed → is_dead item moment ≡ true
dead_by rule l moment (Walk s mode passed) e item is =
    let due = is_due rule l s mode moment e in
    subst (Means s mode (is_dead item moment) item.marks.active due) is (outcome_means s mode (is_dead item moment) item.marks.active due)
dead_by rule l moment Dead e item is = by (is_dead item moment) is
  where
    by : (b : Bool) → (if b then done.Reclaimed else done.Alive item.expiry) ≡ done.Reclaimed → b ≡ true
    by true h = refl
    by false h = cc
dead_by rule l moment Hit e item is = absurd (by (item.marks.active && not (is_dead item moment)) is)
  where
    by : (b : Bool) → (if b then done.ToWarm else done.Stayed) ≡ done.Reclaimed → ⊥
    by true h = cc h
    by false h = cc h

reclaimed_stranger : done.Reclaimed ≡ done.Stranger → ⊥
reclaimed_stranger h = cc

-- a key has an item, which is dead
abbrev HasDead : Cache → ℕ → List ℕ → Type 0
HasDead cache moment key = IsSomeAnd (cache.items key) (λ item. is_dead item moment ≡ true)

some_more : {A : Type 0} (o : Option A) (P Q : A → Type 0) → ((x : A) → P x → Q x) → IsSomeAnd o P → IsSomeAnd o Q
some_more None P Q more p = absurd p
some_more (Some x) P Q more p = more x p

alive_dead : (o : Option Item) (moment : ℕ) → IsAlive o moment → IsSomeAnd o (λ item. is_dead item moment ≡ true) → ⊥
alive_dead None moment alive dead = dead
alive_dead (Some item) moment alive dead = true_false (sym dead ∙ alive)

of_entry : (o : Option (Seg × Entry)) (P : Entry → Type 0) → IsSomeAnd (option_map (λ (p : Seg × Entry). p.1) o) P → IsSomeAnd o (λ there. P there.1)
of_entry None P p = absurd p
of_entry (Some x) P p = p

module _ (c : ClassView) (q : Question) where
  -- an entry has another key
  abbrev HasOther : List ℕ → Type 0
  HasOther key = IsSomeAnd (found q.number (lists_of c.history)) (λ there. there.1.key ≢ key)

  -- what was reclaimed had a dead item
  reclaimed_other : (s : Stripe) (key : List ℕ) → IsAlive ((cache_now s).items key) q.moment → done_of c (cache_now s) q ≡ done.Reclaimed → HasOther key
  reclaimed_other s key alive is =
      let there = done_is c (cache_now s) q done.Reclaimed reclaimed_stranger (entry_of q.number (lists_of c.history)) is in
      some_more (found q.number (lists_of c.history)) (λ x. HasDead (cache_now s) q.moment x.1.key) (λ x. x.1.key ≢ key)
      (λ x dead same. alive_dead ((cache_now s).items key) q.moment alive (subst (HasDead (cache_now s) q.moment) same dead))
      (of_entry (found q.number (lists_of c.history)) (λ e. HasDead (cache_now s) q.moment e.key)
      (some_more (entry_of q.number (lists_of c.history)) _ (λ e. HasDead (cache_now s) q.moment e.key)
      (λ e by. some_more ((cache_now s).items e.key) _ (λ item. is_dead item q.moment ≡ true) (λ item made. dead_by c.rule (lists_of c.history) q.moment q.judge e item made.1) by) there))

  -- an entry of another stripe has another key
  apart_other : (config : Config) (stripe number : StripeNo) (key : List ℕ) → MayJudge c q → HasKeyOf stripe config c q → stripe ≢ number → stripe_of key config.stripes ≡ number → HasOther key
  apart_other config stripe number key may keyed apart of = by (found q.number (lists_of c.history)) refl (judged_listed c q may)
    where
      by : (o : Option (Seg × Entry)) → found q.number (lists_of c.history) ≡ o → IsSome o → IsSomeAnd o (λ there. there.1.key ≢ key)
      by None is there = absurd (true_false (sym there))
      by (Some x) is there = λ same.
          apart (sym (keyed.key x.1 (ap (λ (o : Option (Seg × Entry)). option_map (λ (p : Seg × Entry). p.1) o) is)) ∙ (ap (λ (k : List ℕ). stripe_of k config.stripes) same ∙ of))

  warm_others : (key : List ℕ) (at : ℕ) (judge : Judge) → AreOfOthers key c.history (warm_events q at judge)
  warm_others key at (Walk s mode passed) = (tt, tt)
  warm_others key at Dead = tt
  warm_others key at Hit = (tt, tt)

  cold_others : (key : List ℕ) (at : ℕ) (judge : Judge) → AreOfOthers key c.history (cold_events c q at judge)
  cold_others key at (Walk s mode passed) = (tt, tt)
  cold_others key at Dead = tt
  cold_others key at Hit = tt

  -- the events of what was done reclaim no entry of a key, unless they reclaim this one's
  events_others : (key : List ℕ) (at : ℕ) (d : Done) → (d ≡ done.Reclaimed → HasOther key) → AreOfOthers key c.history (done_class_events c q at d)
  events_others key at done.Reclaimed other = (other refl, tt)
  events_others key at done.ToWarm other = warm_others key at q.judge
  events_others key at done.WithinWarm other = warm_others key at q.judge
  events_others key at done.ToCold other = cold_others key at q.judge
  events_others key at done.Evicted other = (tt, tt)
  events_others key at done.Stayed other = tt
  events_others key at (done.Alive expiry) other = tt
  events_others key at done.Stranger other = tt

  -- ---- a visit of another stripe
  away : (config : Config) (w : Walker) (s : Stripe) (stripe : StripeNo) (xs xs_new : List Answer) (history_new : List ClassEvent) (j : Option Judged)
      → MayJudge c q → HasKeyOf stripe config c q → stripe ≢ record { 0 = s.site.stripe }
      → xs_new ≡ xs ++ answer_by stripe j ∷ [] → history_new ≡ c.history ++ events_if c q j → HasLooked config.stripes w s xs xs_new c.history history_new
  away config w s stripe xs xs_new history_new j may keyed apart answered is = record {
    answers = answer_by stripe j ∷ [];
    answers_are = answered;
    had = (λ same. absurd (apart same), tt);
    events = events_if c q j;
    history_is = is;
    others = λ key of alive. by key of j;
  }
    where
      by : (key : List ℕ) → stripe_of key config.stripes ≡ record { 0 = s.site.stripe } → (o : Option Judged) → AreOfOthers key c.history (events_if c q o)
      by key of None = tt
      by key of (Some x) = events_others key (length (judged_by x).history) x.done (λ is. apart_other config stripe (record { 0 = s.site.stripe }) key may keyed apart of)

  -- nothing happened
  pub same_after : (stripes : ℕ) (w : Walker) (s : Stripe) (xs xs_new : List Answer) (c_new : ClassView) → c_new ≡ with_room c c_new.room → xs_new ≡ xs → HasLooked stripes w s xs xs_new c.history c_new.history
  same_after stripes w s xs xs_new c_new same none = record {
    answers = [];
    answers_are = none ∙ sym (append-nil xs);
    had = tt;
    events = [];
    history_is = ap (λ (v : ClassView). v.history) same ∙ sym (append-nil c.history);
    others = λ key of alive. tt;
  }

  pub looked_away : (R : Stripe → Type 0) (config_at config : Config) (w : Walker) (s : Stripe) (stripe : StripeNo) (xs xs_new : List Answer) (c_new : ClassView) (made : Option Done)
      (r : Result Bool Fault) → MayJudge c q
      → HasKeyOf stripe config c q → stripe ≢ record { 0 = s.site.stripe } → OnOk r (IsAnswered R config_at stripe q c c_new xs xs_new made)
      → OnErr r ((c_new ≡ with_room c c_new.room) × (xs_new ≡ xs)) → HasLooked config.stripes w s xs xs_new c.history c_new.history
  looked_away R config_at config w s stripe xs xs_new c_new made (Ok had) may keyed apart answered err =
      away config w s stripe xs xs_new c_new.history answered.judged may keyed apart answered.answers (ap (λ (v : ClassView). v.history) answered.class)
  looked_away R config_at config w s stripe xs xs_new c_new made (Err fault) may keyed apart answered err = same_after config.stripes w s xs xs_new c_new err.0 err.1

  -- ---- a visit of the stripe at hand
  -- what a judgement with the stripe tells, where the stripe had only seen more
  pub known_at : (config config_at : Config) (s learnt : Stripe) (stripe : StripeNo) (j : Judged) → config_at ≡ config → learnt ≡ s → stripe ≡ record { 0 = s.site.stripe } → HasKeyOf stripe config_at c q
      → (HasKeyOf (record { 0 = learnt.site.stripe }) config c q → IsKnown c learnt q j) → IsKnown c s q j
  known_at config config_at s learnt stripe j names same at keyed told =
      subst (λ (t : Stripe). IsKnown c t q j) same
      (told (subst (λ (k : Config). HasKeyOf (record { 0 = learnt.site.stripe }) k c q) names
      (subst (λ (n : StripeNo). HasKeyOf n config_at c q) (at ∙ sym (ap (λ (t : Stripe). record { 0 = t.site.stripe }) same)) keyed)))

  pub looked_here : (config : Config) (s : Stripe) (stripe : StripeNo) (xs xs_new : List Answer) (history_new : List ClassEvent) (j : Judged) → IsKnown c s q j
      → xs_new ≡ xs ++ answer_by stripe (Some j) ∷ [] → history_new ≡ c.history ++ events_if c q (Some j) → HasLooked config.stripes (walker_of c q.who q.moment) s xs xs_new c.history history_new
  looked_here config s stripe xs xs_new history_new j known answered is = record {
    answers = answer_by stripe (Some j) ∷ [];
    answers_are = answered;
    had = (λ same. known.known, tt);
    events = events_if c q (Some j);
    history_is = is;
    others = λ key of alive. events_others key (length (judged_by j).history) j.done (λ is. reclaimed_other s key alive (sym known.done_is ∙ is));
  }

-- ---- a search in vain
-- the entry of another key
other_key : (key : List ℕ) (before : List ClassEvent) (number : ℕ) → IsSomeAnd (found number (lists_of before)) (λ there. there.1.key ≢ key) → (other : List ℕ) × IsEntryOf before number other × (other ≢ key)
other_key key before number apart = by (found number (lists_of before)) refl apart
  where
    by : (o : Option (Seg × Entry)) → found number (lists_of before) ≡ o → IsSomeAnd o (λ there. there.1.key ≢ key) → (other : List ℕ) × IsEntryOf before number other × (other ≢ key)
    by None is none = absurd none
    by (Some x) is other = (x.1.key, record { seg = x.0; entry = x.1; there = is; key_is = refl }, other)

try_for : (who : Who) (key : List ℕ) (history before : List ClassEvent) (e : ClassEvent) → Stands history before e → IsTry who e → IsOfOther key before e → HasTried history who key
try_for who key history before (entries.Evicted e) stands tries other = inl (before, e, stands, tries)
try_for who key history before (entries.Shifted e) stands tries other = inr (inl (before, e, stands, tries))
try_for who key history before (entries.Reclaimed e) stands tries other = inr (inr (before, e, stands, (tries, other_key key before e.number other)))
try_for who key history before (entries.Linked e) stands tries other = absurd tries
try_for who key history before (entries.Unlinked e) stands tries other = absurd tries
try_for who key history before (entries.Surveyed e) stands tries other = absurd tries
try_for who key history before (entries.Refused e) stands tries other = absurd tries
try_for who key history before (entries.Limited e) stands tries other = absurd tries

-- whoever tried, and reclaimed no entry of its own key, has tried for it
pub tried_for : (stripes : ℕ) (number : StripeNo) (who : Who) (key : List ℕ) (before after es : List ClassEvent) → IsTried stripes number who before after
    → after ≡ before ++ es → AreOfOthers key before es → HasSearched stripes number who key after
tried_for stripes number who key before after es tried is others =
    by tried.tries tried.history_is tried.each tried.none (subst (AreOfOthers key before) (append_cancel_left before es tried.tries (sym is ∙ tried.history_is))
    others)
  where
    by : (ts : List ClassEvent) → after ≡ before ++ ts → AreTries who ts
        → (ts ≡ [] → IsNoneNear stripes number segs.Cold after × IsNoneNear stripes number segs.Hot after) → AreOfOthers key before ts → HasSearched stripes number who key after
    by [] split each none other = inr (none refl)
    by (t ∷ ts) split each none other = inl (try_for who key after before t (record { later = ts; is = split }) each.0 other.0)

lt_not : (a b : ℕ) → b ≤ a → nat_lt a b ≡ false
lt_not a b few = grind (arith, nat_tests)

-- a search that left its class full found nothing
pub full_vain : (config : Config) (v v_new : ClassView) (who : Who) (moment : ℕ) (xs : List Answer) (there : Bool) → classes.GainsEvents v v_new → IsRoom (rounds v who moment config) v.history xs v_new.history there
    → IsFull v_new.chunks v_new.history → there ≡ false
full_vain config v v_new who moment xs there grows room full =
    room.found_is ∙ lt_not (count_of (lists_of v_new.history)) (chunks_from v.chunks v_new.history)
    (subst (λ (n : ℕ). IsFull n v_new.history) (ap (λ (c : ClassView). c.chunks) grows.same) full)

-- and has tried for each key of the stripe at hand whose item isn't dead, by rounds that asked it wherever they came upon it
pub tried_any : (config config_at : Config) (c : ClassView) (who : Who) (moment : ℕ) (s : Stripe) (xs xs_new ys : List Answer) (h_new : List ClassEvent) (there : Bool) → config_at ≡ config
    → ((r : Rounds) (before after : List ClassEvent) (answers : List Answer) (number : StripeNo) → IsRoom r before answers after false → AreHad number answers → IsTried r.config.stripes number r.who before after)
    → HasLooked config.stripes (walker_of c who moment) s xs xs_new c.history h_new → xs_new ≡ xs ++ ys
    → IsRoom (rounds c who moment config_at) c.history ys h_new there → there ≡ false → HasSearchedForAny config.stripes s who moment h_new
tried_any config config_at c who moment s xs xs_new ys h_new there names law looked answered room vain =
    let number : StripeNo = record { 0 = s.site.stripe } in
    let had = subst (λ (l : List Answer). AreHad number l) (append_cancel_left xs looked.answers ys (sym looked.answers_are ∙ answered)) looked.had in
    let in_vain = subst (λ (b : Bool). IsRoom (rounds c who moment config_at) c.history ys h_new b) vain room in
    let tried = subst (λ (k : Config). IsTried k.stripes number who c.history h_new) names (law (rounds c who moment config_at) c.history h_new ys number in_vain had) in
    λ key of alive. tried_for config.stripes number who key c.history h_new looked.events tried looked.history_is (looked.others key of alive)
