-- A search for a chunk that found none has tried: its walks took, moved or reclaimed an entry, or passed all that they looked at.
use Rattle.std.proofs.Common.{length, ◌≡◌, ◌≢◌, ℕ, zero, suc, ◌+◌, ◌<◌, ◌≤◌, ◌&&◌, ◌⊎◌, if◌then◌else◌, List, [], ◌∷◌, ◌++◌, Bool, true, false, Some, None}
use Rattle.std.proofs.Common.{Option, inl, inr, refl, sym, ap, ◌∙◌, subst, arith, append_assoc, reverse, nat_eq}
use Rattle.std.specs.Prelude.{IsSomeAnd, nat_lt, nat_le, not}
use Rattle.std.proofs.lemmas.{Bool.Decides.nat_tests, List.append-nil, List.length-append, List.length-reverse, Option.slice_get_within}
use Rattle.mc_item.specs.{Cache.Cache, Item.is_dead, Measure.stripe_of}
use Rattle.mc_item.specs.declared.{class_event.ClassEvent.ClassEvent, item.Item.Item, item.StripeNo.StripeNo, item.Who.Who, lists.Entry.Entry, lists.Seg.Seg}
use Rattle.mc_item.specs.declared.{lists.Seg.TheVariants.Hot, lists.Seg.TheVariants.Cold}
use Rattle.mc_rule.specs.{Lists.Lists, Lists.chunks_from, Lists.count_of, Lists.from_tail, Lists.lists_of, Lists.list_of, Segment.Rule}
use Rattle.mc_segment.specs.{Entries.entry_of, ClassState.ClassView}
use Rattle.mc_stripe.specs.StripeState.{cache_now}
use Rattle.mc_pull.specs.declared.{judge.Done.Done, judge.Judge.TheVariants.Walk, judge.Mode.Mode, judge.Mode.TheVariants.Evict, judge.Mode.TheVariants.Force}
use Rattle.mc_pull.specs.declared.{looking.Answer.Answer, looking.Judged.Judged, pulled.Pulled.Pulled}
use Rattle.mc_pull.specs.declared.judge.Done.TheVariants as done
use Rattle.mc_pull.specs.{Judgement.done_by, Judgement.done_if, Judgement.done_of, Judgement.done_with, Judgement.has_link, Looks.IsJudgedIf, Looks.done_in, Looks.judged_by, Outcome.is_due}
use Rattle.mc_pull.specs.{Outcome.is_end, Outcome.outcome_of, Pulled.counts_after, Pulled.counts_if, Pulled.did_something, Pulled.is_end_if, Question.question, Settled.done_class_events, Tried.AreHad}
use Rattle.mc_pull.specs.{Tried.AreTries, Tried.IsNoneNear, Tried.IsTried}
use Rattle.mc_pull.specs.Rounds.{ForcesHot, IsRoom, IsRoomRound, Repeats, Rounds, Walks}
use Rattle.mc_pull.specs.Walk.{IsAlong, IsAnswer, Pull, Way, class_at, events_at, is_going, is_wanted, next_entry, numbers_passed, pull, question_at, run, start_of, step}

-- ---- events of walks are tries
tries_both : (who : Who) (xs ys : List ClassEvent) → AreTries who xs → AreTries who ys → AreTries who (xs ++ ys)
tries_both who [] ys none more = more
tries_both who (x ∷ xs) ys tries more = (tries.0, tries_both who xs ys tries.1 more)

-- what was done with an entry that a walk looked at
done_tries : (c : ClassView) (who : Who) (number : ℕ) (s : Seg) (mode : Mode) (passed : List ℕ) (moment at : ℕ) (d : Done) → AreTries who (done_class_events c (question who number (Walk s mode passed) moment) at d)
done_tries c who number s mode passed moment at done.Reclaimed = (refl, tt)
done_tries c who number s mode passed moment at done.ToWarm = (refl, tt)
done_tries c who number s mode passed moment at done.WithinWarm = (refl, tt)
done_tries c who number s mode passed moment at done.ToCold = (refl, tt)
done_tries c who number s mode passed moment at done.Evicted = (refl, tt)
done_tries c who number s mode passed moment at done.Stayed = tt
done_tries c who number s mode passed moment at (done.Alive expiry) = tt
done_tries c who number s mode passed moment at done.Stranger = tt

-- one history has tries more than another
abbrev pub Tried : Who → List ClassEvent → List ClassEvent → Type 0
Tried who before after = (es : List ClassEvent) × (after ≡ before ++ es) × AreTries who es

tried_none : (who : Who) (h : List ClassEvent) → Tried who h h
tried_none who h = ([], sym (append-nil h), tt)

abbrev tried_both : (who : Who) (a b c : List ClassEvent) → Tried who a b → Tried who b c → Tried who a c
tried_both who a b c first second = (
  first.0 ++ second.0,
  second.1 ∙ (ap (λ (h : List ClassEvent). h ++ second.0) first.1 ∙ append_assoc a first.0 second.0),
  tries_both who first.0 second.0 first.2 second.2,
)

-- what was tried left nothing more than before only where it left each part so
tried_same : (who : Who) (a b c : List ClassEvent) → Tried who a b → Tried who b c → c ≡ a → b ≡ a
tried_same who a b c first second same = by first.0 first.1
  where
    long : (es : List ClassEvent) → b ≡ a ++ es → length a ≡ length a + length es + length second.0
    long es is =
        omega (
          arith,
          ap (λ (h : List ClassEvent). length h) same,
          ap (λ (h : List ClassEvent). length h) second.1,
          ap (λ (h : List ClassEvent). length h) is,
          length-append b second.0,
          length-append a es,
        )

    by : (es : List ClassEvent) → b ≡ a ++ es → b ≡ a
    by [] is = is ∙ append-nil a
    by (e ∷ es) is = absurd (omega (arith, long (e ∷ es) is))

-- a look's events are tries
look_tries : (p : Pull) (w : Way) (o : Option Entry) (j : Option Judged) → AreTries p.who (events_at p w o j)
look_tries p w None j = tt
look_tries p w (Some e) None = tt
look_tries p w (Some e) (Some j) = done_tries (class_at p.class w.history) p.who e.number p.seg p.mode (numbers_passed p w) p.moment (length (judged_by j).history) j.done

run_tried : (p : Pull) (w : Way) (xs : List Answer) → Tried p.who w.history (run p w xs).history
run_tried p w [] = tried_none p.who w.history
run_tried p w (a ∷ xs) =
    tried_both p.who w.history (step p w a).history (run p (step p w a) xs).history
    (events_at p w (next_entry p w) a.judged, refl, look_tries p w (next_entry p w) a.judged)
    (run_tried p (step p w a) xs)

pub walk_tried : (r : Rounds) (s : Seg) (mode : Mode) (before after : List ClassEvent) (xs : List Answer) (pulled : Pulled) → Walks r s mode before xs after pulled → Tried r.who before after
walk_tried r s mode before after xs pulled walk =
    subst (λ (h : List ClassEvent). Tried r.who before h) (sym walk.history_is)
    (run_tried (pull (class_at r.class before) s mode r.who r.moment r.config) (start_of (pull (class_at r.class before) s mode r.who r.moment r.config))
    xs)

-- ---- an entry that was had and is no stranger leaves an event, where an item is wanted
-- an outcome that makes an event of the class
abbrev leaves_event : Done → Bool
leaves_event done.Reclaimed = true
leaves_event done.ToWarm = true
leaves_event done.WithinWarm = true
leaves_event done.ToCold = true
leaves_event done.Evicted = true
leaves_event done.Stayed = false
leaves_event (done.Alive expiry) = false
leaves_event done.Stranger = false

-- a walk that wants an entry of a list does something with each that isn't a stranger
abbrev IsWanting : Seg → Mode → Type 0
IsWanting s mode = (dead active due : Bool) → leaves_event (outcome_of s mode dead active due) ≡ true

cold_wanting : IsWanting Cold Evict
cold_wanting true active due = refl
cold_wanting false active due = refl

hot_wanting : IsWanting Hot Force
hot_wanting true active due = refl
hot_wanting false true due = refl
hot_wanting false false due = refl

true_false : true ≡ false → ⊥
true_false h = cc

event_there : (c : ClassView) (who : Who) (number : ℕ) (s : Seg) (mode : Mode) (passed : List ℕ) (moment at : ℕ) (d : Done) → leaves_event d ≡ true
    → length (done_class_events c (question who number (Walk s mode passed) moment) at d) ≡ 1
event_there c who number s mode passed moment at done.Reclaimed h = refl
event_there c who number s mode passed moment at done.ToWarm h = refl
event_there c who number s mode passed moment at done.WithinWarm h = refl
event_there c who number s mode passed moment at done.ToCold h = refl
event_there c who number s mode passed moment at done.Evicted h = refl
event_there c who number s mode passed moment at done.Stayed h = absurd (true_false (sym h))
event_there c who number s mode passed moment at (done.Alive expiry) h = absurd (true_false (sym h))
event_there c who number s mode passed moment at done.Stranger h = absurd (true_false (sym h))

-- what is done leaves an event, or the entry is a stranger
abbrev IsDoneSo : Done → Type 0
IsDoneSo d = (leaves_event d ≡ true) ⊎ (d ≡ done.Stranger)

module _ (s : Seg) (mode : Mode) (wanting : IsWanting s mode) where
  with_link : (b : Bool) (d : Done) → leaves_event d ≡ true → IsDoneSo (if b then d else done.Stranger)
  with_link true d made = inl made
  with_link false d made = inr refl

  with_item : (class : _) (number moment : ℕ) (rule : Rule) (l : Lists) (passed : List ℕ) (e : Entry) (o : Option Item) → IsDoneSo (done_if class number o (done_by rule l moment (Walk s mode passed) e))
  with_item class number moment rule l passed e None = inr refl
  with_item class number moment rule l passed e (Some item) =
      with_link (has_link class number item) (done_by rule l moment (Walk s mode passed) e item)
      (wanting (is_dead item moment) item.marks.active (is_due rule l s mode moment e))

  with_entry : (c : ClassView) (cache : Cache) (who : Who) (number : ℕ) (passed : List ℕ) (moment : ℕ) (o : Option Entry) → IsDoneSo (done_with c cache (question who number (Walk s mode passed) moment) o)
  with_entry c cache who number passed moment None = inr refl
  with_entry c cache who number passed moment (Some e) = with_item c.number number moment c.rule (lists_of c.history) passed e (cache.items e.key)

  done_so : (c : ClassView) (cache : Cache) (who : Who) (number : ℕ) (passed : List ℕ) (moment : ℕ) → IsDoneSo (done_of c cache (question who number (Walk s mode passed) moment))
  done_so c cache who number passed moment = with_entry c cache who number passed moment (entry_of number (lists_of c.history))

-- ---- a look that left no event passed its entry
pub record HasPassed (p : Pull) (w : Way) (a : Answer) (number : StripeNo) : Type 0 where
  pub goes_on : is_end_if (done_in a.judged) ≡ false
  pub counts : counts_if (done_in a.judged) w.pulled ≡ record w.pulled { passed = w.pulled.passed + 1 }
  pub apart : (e : Entry) → next_entry p w ≡ Some e → stripe_of e.key p.config.stripes ≢ number

none_some : {A : Type 0} {x : A} → None ≡ Some x → ⊥
none_some h = cc

same_some : {A : Type 0} (a b : A) → Some a ≡ Some b → a ≡ b
same_some a b h = cc

module _ (p : Pull) (w : Way) (number : StripeNo) (wanting : IsWanting p.seg p.mode) where
  -- that a stripe which is asked for is had, and knows the entry
  abbrev Knows : StripeNo → Option Judged → Type 0
  Knows stripe j = stripe ≡ number → IsSomeAnd j (λ x. x.done ≢ done.Stranger)

  apart_by : (stripe : StripeNo) (e0 : Entry) (o : Option Entry) (j : Option Judged) → o ≡ Some e0 → stripe ≡ stripe_of e0.key p.config.stripes → Knows stripe j → (IsSomeAnd j (λ x. x.done ≢ done.Stranger) → ⊥)
      → (e : Entry) → o ≡ Some e → stripe_of e.key p.config.stripes ≢ number
  apart_by stripe e0 o j is of knows not e there same =
      let one = same_some e0 e (sym is ∙ there) in
      not (knows (of ∙ (ap (λ (x : Entry). stripe_of x.key p.config.stripes) one ∙ same)))

  stranger : (stripe : StripeNo) (e0 : Entry) (j : Judged) → next_entry p w ≡ Some e0 → stripe ≡ stripe_of e0.key p.config.stripes → Knows stripe (Some j)
      → j.done ≡ done.Stranger → HasPassed p w (record { stripe = stripe; judged = Some j }) number
  stranger stripe e0 j is of knows so = record {
    goes_on = ap is_end so;
    counts = ap (λ (x : Done). counts_after x w.pulled) so;
    apart = apart_by stripe e0 (next_entry p w) (Some j) is of knows (λ known. known so);
  }

  by_judged : (stripe : StripeNo) (e0 : Entry) (j : Option Judged) → next_entry p w ≡ Some e0 → stripe ≡ stripe_of e0.key p.config.stripes → IsJudgedIf p.config stripe (class_at p.class w.history) (question_at p w e0) j
      → Knows stripe j → length (events_at p w (Some e0) j) ≡ 0 → HasPassed p w (record { stripe = stripe; judged = j }) number
  by_judged stripe e0 None is of judged knows none = record { goes_on = refl; counts = refl; apart = apart_by stripe e0 (next_entry p w) None is of knows (λ known. known) }
  by_judged stripe e0 (Some j) is of judged knows none =
      let so = subst IsDoneSo (sym judged.done_is) (done_so p.seg p.mode wanting (class_at p.class w.history) (cache_now (judged_by j)) p.who e0.number (numbers_passed p w) p.moment) in
      elim so [
        | inl made ↦ absurd (omega (arith, none, event_there (class_at p.class w.history) p.who e0.number p.seg p.mode (numbers_passed p w) p.moment (length (judged_by j).history) j.done made))
        | inr is_stranger ↦ stranger stripe e0 j is of knows is_stranger
      ]

  by_entry : (stripe : StripeNo) (j : Option Judged) (o : Option Entry) → next_entry p w ≡ o
      → IsSomeAnd o (λ e. (stripe ≡ stripe_of e.key p.config.stripes) × IsJudgedIf p.config stripe (class_at p.class w.history) (question_at p w e) j)
      → Knows stripe j → length (events_at p w o j) ≡ 0 → HasPassed p w (record { stripe = stripe; judged = j }) number
  by_entry stripe j None is asks knows none = absurd asks
  by_entry stripe j (Some e0) is asks knows none = by_judged stripe e0 j is asks.0 asks.1 knows none

  pub looked : (a : Answer) → IsAnswer p w a → Knows a.stripe a.judged → length (events_at p w (next_entry p w) a.judged) ≡ 0 → HasPassed p w a number
  looked a asked knows none = by_entry a.stripe a.judged (next_entry p w) refl asked.asks knows none

-- ---- a walk that left no event passed all that it may look at
pub record IsIdle (p : Pull) (w : Way) (number : StripeNo) (after : Pulled) : Type 0 where
  pub none_near : (place : ℕ) (e : Entry) → w.pulled.passed ≤ place → place < w.pulled.passed + w.left → from_tail (list_of (lists_of w.history) p.seg) place ≡ Some e → stripe_of e.key p.config.stripes ≢ number
  pub idle : after.reclaimed + after.moved + after.evicted ≡ w.pulled.reclaimed + w.pulled.moved + w.pulled.evicted

and_true : (b : Bool) → (b && true) ≡ false → b ≡ false
and_true true h = absurd (true_false h)
and_true false h = refl

none_left : (left : ℕ) → nat_lt 0 left ≡ false → left ≡ 0
none_left left h = grind (arith, nat_tests)

no_look : (ended wanted : Bool) (left : ℕ) → ended ≡ false → wanted ≡ true → (not ended && (nat_lt 0 left && wanted)) ≡ false → left ≡ 0
no_look true wanted left e b h = absurd (true_false e)
no_look false false left e b h = absurd (true_false (sym b))
no_look false true left e b h = none_left left (and_true (nat_lt 0 left) h)

module _ (p : Pull) (number : StripeNo) (wanting : IsWanting p.seg p.mode) (h : List ClassEvent) (full : is_wanted p.mode p.class.chunks h ≡ true) where
  pub passes : (w : Way) (xs : List Answer) → w.history ≡ h → w.ended ≡ false → IsAlong p w xs → AreHad number xs → is_going p (run p w xs) ≡ false → (run p w xs).history ≡ h → IsIdle p w number (run p w xs).pulled
  passes w [] here going along had over same =
      let wanted = ap (λ (x : List ClassEvent). is_wanted p.mode p.class.chunks x) here ∙ full in
      let left = no_look w.ended (is_wanted p.mode p.class.chunks w.history) w.left going wanted over in
      record { none_near = λ place e from to there. absurd (omega (arith, from, to, left)); idle = refl }
  passes w (a ∷ xs) here going along had over same =
      let next = step p w a in
      let look = tried_step in
      let stays = tried_same p.who w.history next.history (run p next xs).history look (run_tried p next xs) (same ∙ sym here) in
      let none : length (events_at p w (next_entry p w) a.judged) ≡ 0 = omega (arith, ap (λ (x : List ClassEvent). length x) stays, length-append w.history (events_at p w (next_entry p w) a.judged)) in
      let passed = looked p w number wanting a along.0 had.0 none in
      let rest = passes next xs (stays ∙ here) passed.goes_on along.1 had.1 over same in
      record { none_near = near passed rest stays; idle = idle passed rest }
    where
      tried_step : Tried p.who w.history (step p w a).history
      tried_step = (events_at p w (next_entry p w) a.judged, refl, look_tries p w (next_entry p w) a.judged)

      idle : HasPassed p w a number → IsIdle p (step p w a) number (run p (step p w a) xs).pulled
          → (run p (step p w a) xs).pulled.reclaimed + (run p (step p w a) xs).pulled.moved + (run p (step p w a) xs).pulled.evicted ≡ w.pulled.reclaimed + w.pulled.moved + w.pulled.evicted
      idle passed rest = rest.idle ∙ ap (λ (x : Pulled). x.reclaimed + x.moved + x.evicted) passed.counts

      near : HasPassed p w a number → IsIdle p (step p w a) number (run p (step p w a) xs).pulled → (step p w a).history ≡ w.history
          → (place : ℕ) (e : Entry) → w.pulled.passed ≤ place → place < w.pulled.passed + w.left → from_tail (list_of (lists_of w.history) p.seg) place ≡ Some e → stripe_of e.key p.config.stripes ≢ number
      near passed rest stays place e from to there =
          by (nat_eq w.pulled.passed place) refl
        where
          first : w.pulled.passed ≡ place → stripe_of e.key p.config.stripes ≢ number
          first is = passed.apart e (ap (λ (n : ℕ). from_tail (list_of (lists_of w.history) p.seg) n) is ∙ there)

          count : (step p w a).pulled.passed ≡ w.pulled.passed + 1
          count = ap (λ (x : Pulled). x.passed) passed.counts

          behind : w.pulled.passed ≢ place → stripe_of e.key p.config.stripes ≢ number
          behind isnt =
              rest.none_near place e (omega (arith, from, isnt, count)) (omega (arith, from, to, isnt, count))
              (ap (λ (x : List ClassEvent). from_tail (list_of (lists_of x) p.seg) place) stays ∙ there)

          by : (b : Bool) → nat_eq w.pulled.passed place ≡ b → stripe_of e.key p.config.stripes ≢ number
          by true is = first (grind (arith, nat_tests))
          by false is = behind (grind (arith, nat_tests))

-- ---- a walk, a round, all rounds
wanted_full : (count chunks : ℕ) → nat_lt count chunks ≡ false → nat_le chunks count ≡ true
wanted_full count chunks h = grind (arith, nat_tests)

idle_not : (reclaimed moved evicted : ℕ) → reclaimed + moved + evicted ≡ 0 → nat_lt 0 (reclaimed + moved + evicted) ≡ false
idle_not reclaimed moved evicted h = ap (λ (n : ℕ). nat_lt 0 n) h

module _ (r : Rounds) (s : Seg) (mode : Mode) (number : StripeNo) (wanting : IsWanting s mode) (h : List ClassEvent) (full : is_wanted mode r.class.chunks h ≡ true)
    (xs : List Answer) (after : List ClassEvent) (pulled : Pulled) (walk : Walks r s mode h xs after pulled) (had : AreHad number xs) (same : after ≡ h) where
  abbrev here : Pull
  here = pull (class_at r.class h) s mode r.who r.moment r.config

  all : IsIdle here (start_of here) number (run here (start_of here) xs).pulled
  all = passes here number wanting h full (start_of here) xs refl refl walk.along had walk.ends (sym walk.history_is ∙ same)

  pub none_near : IsNoneNear r.config.stripes number s h
  none_near place e few there =
      let within = slice_get_within (reverse (list_of (lists_of h) s)) place e there in
      all.none_near place e (omega arith) (omega (arith, few, within, length-reverse (list_of (lists_of h) s))) there

  pub did_nothing : did_something pulled ≡ false
  did_nothing =
      ap did_something walk.pulled_is ∙ idle_not _ _ _ all.idle

had_both : (number : StripeNo) (xs ys : List Answer) → AreHad number (xs ++ ys) → AreHad number xs × AreHad number ys
had_both number [] ys had = (tt, had)
had_both number (x ∷ xs) ys had =
    let rest = had_both number xs ys had.1 in
    ((had.0, rest.0), rest.1)

forced_tried : (r : Rounds) (did : Bool) (before after : List ClassEvent) (xs : List Answer) → ForcesHot r did before xs after → Tried r.who before after
forced_tried r true before after xs forced = subst (λ (h : List ClassEvent). Tried r.who before h) (sym forced.1) (tried_none r.who before)
forced_tried r false before after xs forced = walk_tried r Hot Force before after xs forced.0 forced.1

round_tried : (r : Rounds) (before after : List ClassEvent) (xs : List Answer) → IsRoomRound r before xs after → Tried r.who before after
round_tried r before after xs round =
    tried_both r.who before round.between after (walk_tried r Cold Evict before round.between round.cold round.pulled round.cold_is)
    (forced_tried r (did_something round.pulled) round.between after round.hot round.hot_is)

rounds_tried : (r : Rounds) (times : ℕ) (before after : List ClassEvent) (xs : List Answer) → Repeats (IsRoomRound r) times before xs after → Tried r.who before after
rounds_tried r zero before after xs each = subst (λ (h : List ClassEvent). Tried r.who before h) (sym each.1) (tried_none r.who before)
rounds_tried r (suc times) before after xs each =
    tried_both r.who before each.0 after (rounds_tried r times before each.0 each.1 each.3) (round_tried r each.0 after each.2 each.4)

module _ (r : Rounds) (number : StripeNo) (h after : List ClassEvent) (xs : List Answer) (round : IsRoomRound r h xs after) (had : AreHad number xs) (same : after ≡ h) where
  split : AreHad number round.cold × AreHad number round.hot
  split = had_both number round.cold round.hot (subst (AreHad number) round.answers had)

  between_same : round.between ≡ h
  between_same =
      tried_same r.who h round.between after (walk_tried r Cold Evict h round.between round.cold round.pulled round.cold_is)
      (forced_tried r (did_something round.pulled) round.between after round.hot round.hot_is) same

  full : nat_le (chunks_from r.class.chunks h) (count_of (lists_of h)) ≡ true
  full = wanted_full (count_of (lists_of h)) (chunks_from r.class.chunks h) round.full

  pub cold_none : IsNoneNear r.config.stripes number Cold h
  cold_none = none_near r Cold Evict number cold_wanting h full round.cold round.between round.pulled round.cold_is split.0 between_same

  forced : ForcesHot r false round.between round.hot after
  forced = subst (λ (b : Bool). ForcesHot r b round.between round.hot after) (did_nothing r Cold Evict number cold_wanting h full round.cold round.between round.pulled round.cold_is split.0 between_same) round.hot_is

  pub hot_none : IsNoneNear r.config.stripes number Hot h
  hot_none =
      none_near r Hot Force number hot_wanting h full round.hot after forced.0
      (subst (λ (x : List ClassEvent). Walks r Hot Force x round.hot after forced.0) between_same forced.1) split.1 same

none_both : (xs ys : List ClassEvent) → xs ++ ys ≡ [] → ys ≡ []
none_both [] ys h = h
none_both (x ∷ xs) ys h = absurd (omega (arith, ap (λ (zs : List ClassEvent). length zs) h))

-- rounds in vain tried
pub tried_in_vain : (r : Rounds) (before after : List ClassEvent) (xs : List Answer) (number : StripeNo) → IsRoom r before xs after false → AreHad number xs → IsTried r.config.stripes number r.who before after
tried_in_vain r before after xs number room had =
    of_ten (subst (λ (n : ℕ). Repeats (IsRoomRound r) n before xs after) (room.tries refl) room.each)
  where
    of_ten : Repeats (IsRoomRound r) 10 before xs after → IsTried r.config.stripes number r.who before after
    of_ten each =
        let mid = each.0 in
        let first = rounds_tried r 9 before mid each.1 each.3 in
        let last = round_tried r mid after each.2 each.4 in
        let both = tried_both r.who before mid after first last in
        let rest = had_both number each.1 each.2 (subst (AreHad number) each.5 had) in
        record {
          tries = both.0;
          history_is = both.1;
          each = both.2;
          none = λ no_try.
              let idle = none_both first.0 last.0 no_try in
              let same : after ≡ mid = last.1 ∙ (ap (λ (es : List ClassEvent). mid ++ es) idle ∙ append-nil mid) in (
                subst (IsNoneNear r.config.stripes number Cold) (sym same) (cold_none r number mid after each.2 each.4 rest.1 same),
                subst (IsNoneNear r.config.stripes number Hot) (sym same) (hot_none r number mid after each.2 each.4 rest.1 same),
              );
        }
