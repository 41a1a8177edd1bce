-- One link is crawled: its kind by what a gate has told, and the class's events.
use Rattle.std.proofs.Common.{◌≡◌, ◌+◌, ℕ, Bool, true, false, if◌then◌else◌, List, [], ◌∷◌, ◌++◌, Option, Some, None, refl, sym, ap, ◌∙◌, subst, length, arith, nat_lt, ◌-◌, ◌/◌}
use Rattle.std.proofs.lemmas.List.{append-nil}
use Rattle.mc_item.specs.declared.{class_event.ClassEvent.ClassEvent, item.ClassNo.ClassNo, item.Expiry.Expiry, item.Expiry.TheVariants.Never}
use Rattle.mc_item.specs.declared.{item.Expiry.TheVariants.At, item.StripeNo.StripeNo, item.Item.Item, lists.Entry.Entry, counts.Histogram.Histogram}
use Rattle.mc_item.specs.{Cache.Cache, Item.is_dead, Measure.stripe_of}
use Rattle.mc_rule.specs.{Lists.Lists, Lists.lists_of, Segment.Rule}
use Rattle.mc_segment.specs.{ClassState.ClassView, Entries.entry_of}
use Rattle.mc_stripe.specs.StripeState.{Stripe, cache_now}
use Rattle.mc_pull.specs.declared.{judge.Done.Done, judge.Judge.TheVariants.Dead, looking.Answer.Answer, looking.Judged.Judged}
use Rattle.mc_pull.specs.declared.judge.Done.TheVariants as done
use Rattle.mc_pull.specs.{Growth.GainsEvents, Judgement.done_by, Judgement.done_if, Judgement.done_with, Judgement.has_link, Looks.IsReachedIf, Looks.answer_by}
use Rattle.mc_pull.specs.{Looks.done_in, Looks.events_if, Looks.judged_by, Settled.done_class_events, Settled.class_with}
use Rattle.mc_pull.proofs.GrowthLemmas.{grows_itself}
use Rattle.mc_crawl.specs.declared.kind.Kind.{Kind}
use Rattle.mc_crawl.specs.declared.kind.Kind.TheVariants as kinds
use Rattle.mc_crawl.specs.Crawl.{AreReclaims, Crawl, IsCrawled, IsKindIf, IsLookIf, Reclaims, asked_by}
use Rattle.mc_crawl.specs.{CrawlCount.counted_as, CrawlKind.kind_alive, CrawlKind.kind_done, CrawlKind.kind_if, CrawlKind.kind_answered, CrawlKind.kind_with}

none_some : {A : Type 0} {x : A} → None ≡ Some x → ⊥
none_some h = cc

-- ---- the kind by what was done is the kind by the item
by_tests : (moment : ℕ) (expiry : Expiry) (linked dead : Bool)
    → kind_done moment (if linked then (if dead then done.Reclaimed else done.Alive expiry) else done.Stranger) ≡ (if linked then (if dead then kinds.Reclaimed else kind_alive moment expiry) else kinds.Passed)
by_tests moment expiry true true = refl
by_tests moment expiry true false = refl
by_tests moment expiry false dead = refl

by_item : (class : ClassNo) (number moment : ℕ) (rule : Rule) (l : Lists) (e : Entry) (o : Option Item) → kind_done moment (done_if class number o (done_by rule l moment Dead e)) ≡ kind_if class number moment o
by_item class number moment rule l e None = refl
by_item class number moment rule l e (Some item) = by_tests moment item.expiry (has_link class number item) (is_dead item moment)

by_entry : (q : Crawl) (c : ClassView) (cache : Cache) (o : Option Entry) (e : Entry) → o ≡ Some e → kind_done q.moment (done_with c cache (asked_by q) o) ≡ kind_with c.number cache q.number q.moment o
by_entry q c cache None e is = absurd (none_some is)
by_entry q c cache (Some e') e is = by_item c.number q.number q.moment c.rule (lists_of c.history) e' (cache.items e'.key)

kind_by : (R : Stripe → Type 0) (q : Crawl) (c : ClassView) (e : Entry) (stripe : _) (j : Option Judged) → entry_of q.number (lists_of c.history) ≡ Some e
    → IsReachedIf R q.config stripe c (asked_by q) j → IsKindIf R q stripe c j (kind_answered q.moment (done_in j))
kind_by R q c e stripe None is judged = refl
kind_by R q c e stripe (Some j) is judged = record {
  judged = judged.0;
  reached = judged.1;
  kind_is = ap (kind_done q.moment) judged.0.done_is ∙ by_entry q c (cache_now (judged_by j)) (entry_of q.number (lists_of c.history)) e is;
}

-- the kind by what was answered
pub kind_answered_is : (R : Stripe → Type 0) (q : Crawl) (c : ClassView) (e : Entry) (stripe : StripeNo) (j : Option Judged) (k : Kind) → entry_of q.number (lists_of c.history) ≡ Some e
    → IsKindIf R q stripe c j k → k ≡ kind_answered q.moment (done_in j)
kind_answered_is R q c e stripe None k is kind = kind
kind_answered_is R q c e stripe (Some j) k is kind =
    kind.kind_is
    ∙ sym (ap (kind_done q.moment) kind.judged.done_is ∙ by_entry q c (cache_now (judged_by j)) (entry_of q.number (lists_of c.history)) e is)

-- an entry that was looked at was crawled
pub looked : (R : Stripe → Type 0) (q : Crawl) (c c_new : ClassView) (xs ys : List Answer) (e : Entry) (stripe : StripeNo) (j : Option Judged) → entry_of q.number (lists_of c.history) ≡ Some e
    → stripe ≡ stripe_of e.key q.config.stripes → ys ≡ xs ++ answer_by stripe j ∷ [] → c_new ≡ class_with c (events_if c (asked_by q) j) c_new.room
    → IsReachedIf R q.config stripe c (asked_by q) j → IsCrawled R q c c_new xs ys (kind_answered q.moment (done_in j))
looked R q c c_new xs ys e stripe j is place answers class judged =
    let there = subst (λ (s : StripeNo). IsReachedIf R q.config s c (asked_by q) j) place judged in
    subst (IsLookIf R q c c_new xs ys (kind_answered q.moment (done_in j))) (sym is)
    record {
      judged = j;
      answers = subst (λ (s : StripeNo). ys ≡ xs ++ answer_by s j ∷ []) place answers;
      class = class;
      kind_is = kind_by R q c e (stripe_of e.key q.config.stripes) j is there;
    }

-- ---- the events of the class
-- so many events, each a reclaim of this call and moment, as one of this kind is counted
record Told (q : Crawl) (es : List ClassEvent) (k : Kind) : Type 0 where
  each : AreReclaims q.who q.moment es
  count : (h : Histogram) → (counted_as k h).reclaimed ≡ h.reclaimed + length es

told_nothing : (q : Crawl) (k : Kind) → ((h : Histogram) → (counted_as k h).reclaimed ≡ h.reclaimed) → Told q [] k
told_nothing q k same = record { each = tt; count = λ h. same h ∙ omega arith }

told_left : (q : Crawl) (far : Bool) (minute : ℕ) → Told q [] (if far then kinds.HourPlus else kinds.Minute minute)
told_left q true minute = told_nothing q kinds.HourPlus (λ h. refl)
told_left q false minute = told_nothing q (kinds.Minute minute) (λ h. refl)

told_alive : (q : Crawl) (expiry : Expiry) → Told q [] (kind_alive q.moment expiry)
told_alive q Never = told_nothing q kinds.NoExpiry (λ h. refl)
told_alive q (At end) = told_left q (nat_lt 3599 (end - q.moment)) ((end - q.moment) / 60)

told_tests : (q : Crawl) (c : ClassView) (at : ℕ) (expiry : Expiry) (linked dead : Bool)
    → Told q (done_class_events c (asked_by q) at (if linked then (if dead then done.Reclaimed else done.Alive expiry) else done.Stranger)) (if linked then
    (if dead then kinds.Reclaimed else kind_alive q.moment expiry) else kinds.Passed)
told_tests q c at expiry true true = record { each = ((refl, refl), tt); count = λ h. refl }
told_tests q c at expiry true false = told_alive q expiry
told_tests q c at expiry false dead = told_nothing q kinds.Passed (λ h. refl)

told_item : (q : Crawl) (c : ClassView) (at : ℕ) (rule : Rule) (l : Lists) (e : Entry) (o : Option Item)
    → Told q (done_class_events c (asked_by q) at (done_if c.number q.number o (done_by rule l q.moment Dead e))) (kind_if c.number q.number q.moment o)
told_item q c at rule l e None = told_nothing q kinds.Passed (λ h. refl)
told_item q c at rule l e (Some item) = told_tests q c at item.expiry (has_link c.number q.number item) (is_dead item q.moment)

told_with : (q : Crawl) (c : ClassView) (at : ℕ) (cache : Cache) (o : Option Entry) → Told q (done_class_events c (asked_by q) at (done_with c cache (asked_by q) o)) (kind_with c.number cache q.number q.moment o)
told_with q c at cache None = told_nothing q kinds.Gone (λ h. refl)
told_with q c at cache (Some e) = told_item q c at c.rule (lists_of c.history) e (cache.items e.key)

told_if : (R : Stripe → Type 0) (q : Crawl) (c : ClassView) (stripe : StripeNo) (j : Option Judged) (k : Kind) → IsKindIf R q stripe c j k → Told q (events_if c (asked_by q) j) k
told_if R q c stripe None k is = subst (Told q []) (sym is) (told_nothing q kinds.Passed (λ h. refl))
told_if R q c stripe (Some j) k is =
    subst (Told q (done_class_events c (asked_by q) (length (judged_by j).history) j.done)) (sym is.kind_is)
    (subst (λ (d : Done). Told q (done_class_events c (asked_by q) (length (judged_by j).history) d)
    (kind_with c.number (cache_now (judged_by j)) q.number q.moment (entry_of q.number (lists_of c.history)))) (sym is.judged.done_is)
    (told_with q c (length (judged_by j).history) (cache_now (judged_by j)) (entry_of q.number (lists_of c.history))))

module _ (R : Stripe → Type 0) (q : Crawl) (c c_new : ClassView) (xs ys : List Answer) (k : Kind) where
  reclaims_if : (h : Histogram) (o : Option Entry) → IsLookIf R q c c_new xs ys k o → Reclaims q.who q.moment c.history c_new.history h.reclaimed (counted_as k h).reclaimed
  reclaims_if h None gone =
      let told : Told q [] k = subst (Told q []) (sym gone.kind_is) (told_nothing q kinds.Gone (λ h. refl)) in
      record { events = []; each = tt; history_is = ap (λ (v : ClassView). v.history) gone.class ∙ sym (append-nil c.history); count = told.count h }
  reclaims_if h (Some e) look =
      let told = told_if R q c (stripe_of e.key q.config.stripes) look.judged k look.kind_is in
      record { events = events_if c (asked_by q) look.judged; each = told.each; history_is = ap (λ (v : ClassView). v.history) look.class; count = told.count h }

  grows_if : (o : Option Entry) → IsLookIf R q c c_new xs ys k o → GainsEvents c c_new
  grows_if None gone = subst (GainsEvents c) (sym gone.class) (grows_itself c)
  grows_if (Some e) look =
      let more : c_new.history ≡ c.history ++ events_if c (asked_by q) look.judged = ap (λ (v : ClassView). v.history) look.class in
      record {
        same = look.class ∙ ap (λ (h : List ClassEvent). record c { history = h; room = c_new.room }) (sym more);
        events = events_if c (asked_by q) look.judged;
        history_is = more;
      }

  -- the class has as many events more as were counted as reclaimed
  pub crawled_reclaims : (h : Histogram) → IsCrawled R q c c_new xs ys k → Reclaims q.who q.moment c.history c_new.history h.reclaimed (counted_as k h).reclaimed
  crawled_reclaims h crawled = reclaims_if h (entry_of q.number (lists_of c.history)) crawled

  -- the class has only grown
  pub crawled_grows : IsCrawled R q c c_new xs ys k → GainsEvents c c_new
  crawled_grows crawled = grows_if (entry_of q.number (lists_of c.history)) crawled

-- a kind that goes by some states goes by others of which more is known
module _ (R Q : Stripe → Type 0) (more : (s : Stripe) → R s → Q s) (q : Crawl) (c c_new : ClassView) (xs ys : List Answer) (k : Kind) where
  kind_more : (stripe : StripeNo) (j : Option Judged) → IsKindIf R q stripe c j k → IsKindIf Q q stripe c j k
  kind_more stripe None is = is
  kind_more stripe (Some j) is = record { judged = is.judged; reached = more (judged_by j) is.reached; kind_is = is.kind_is }

  look_more : (o : Option Entry) → IsLookIf R q c c_new xs ys k o → IsLookIf Q q c c_new xs ys k o
  look_more None gone = gone
  look_more (Some e) look = record { judged = look.judged; answers = look.answers; class = look.class; kind_is = kind_more (stripe_of e.key q.config.stripes) look.judged look.kind_is }

  pub crawled_more : IsCrawled R q c c_new xs ys k → IsCrawled Q q c c_new xs ys k
  crawled_more crawled = look_more (entry_of q.number (lists_of c.history)) crawled
