-- What living items add to a histogram, count by count.
use Rattle.std.proofs.Common.{◌≡◌, ◌≢◌, ◌+◌, ◌-◌, ◌*◌, ◌/◌, ◌<◌, ◌≤◌, ◌&&◌, ℕ, Bool, true, false, if◌then◌else◌, List, [], ◌∷◌, Option, Some, None, refl, sym, ap, ◌∙◌}
use Rattle.std.proofs.Common.{subst, length, arith, cond, get_or, set, nat_lt, nat_eq}
use Rattle.std.specs.Prelude.{nat_le, slice_index}
use Rattle.std.specs.List.{filter}
use Rattle.std.proofs.lemmas.{Bool.Decides.nat_tests, List.append-nil, List.append_cancel_left, List.get_or-set_other, List.length-set, Grind.get_or-set_at}
use Rattle.mc_item.specs.declared.{counts.Histogram.Histogram, item.Expiry.Expiry, item.Expiry.TheVariants.Never, item.Expiry.TheVariants.At}
use Rattle.mc_item.specs.declared.lists.Entry.{Entry}
use Rattle.mc_item.specs.Measure.{stripe_of}
use Rattle.mc_rule.specs.Lists.{lists_of}
use Rattle.mc_segment.specs.{Entries.entry_of}
use Rattle.mc_pull.specs.declared.{looking.Answer.Answer, looking.Judged.Judged}
use Rattle.mc_pull.specs.declared.judge.Done.TheVariants as done
use Rattle.mc_pull.specs.Looks.{answer_by, judgement}
use Rattle.mc_crawl.specs.declared.kind.Kind.{Kind}
use Rattle.mc_crawl.specs.declared.kind.Kind.TheVariants as kinds
use Rattle.mc_crawl.specs.{Crawl.IsKindIf, Crawl.IsLookIf, CrawlCount.counted_as, CrawlKind.kind_alive}
use Rattle.mc_crawl.specs.CrawlLiving.{CrawlsAllLiving, CrawlsLiving, Sighting, has_at_least, has_minutes, how_many, never_expires, seconds_left, seconds_to, with_all_living, with_living}
use Rattle.mc_crawl.proofs.CrawlLemmas.{kind_answered_is}

-- ---- one item
-- one more, if a test passes
abbrev one_if : Bool → ℕ
one_if b = cond b 1 0

-- the kind of an item with so many seconds left, by whether they are an hour
abbrev left_kind : Bool → ℕ → Kind
left_kind far left = if far then kinds.HourPlus else kinds.Minute (left / 60)

never_left : (far : Bool) (left : ℕ) (h : Histogram) → (counted_as (left_kind far left) h).no_expiry ≡ h.no_expiry
never_left true left h = refl
never_left false left h = refl

never_one : (moment : ℕ) (expiry : Expiry) (h : Histogram) → (counted_as (kind_alive moment expiry) h).no_expiry ≡ h.no_expiry + one_if (never_expires (seconds_to moment expiry))
never_one moment Never h = refl
never_one moment (At end) h = never_left (nat_lt 3599 (end - moment)) (end - moment) h ∙ omega arith

hour_left : (far : Bool) (left : ℕ) (h : Histogram) → (counted_as (left_kind far left) h).hour_plus ≡ h.hour_plus + one_if far
hour_left true left h = refl
hour_left false left h = omega arith

far_same : (left : ℕ) → nat_lt 3599 left ≡ nat_le 3600 left
far_same left = grind (arith, nat_tests)

hour_one : (moment : ℕ) (expiry : Expiry) (h : Histogram) → (counted_as (kind_alive moment expiry) h).hour_plus ≡ h.hour_plus + one_if (has_at_least 3600 (seconds_to moment expiry))
hour_one moment Never h = omega arith
hour_one moment (At end) h = hour_left (nat_lt 3599 (end - moment)) (end - moment) h ∙ ap (λ (b : Bool). h.hour_plus + one_if b) (far_same (end - moment))

-- the count of a minute
module _ (minute : ℕ) (inside : minute < 60) where
  raised : (ns : List ℕ) (i : ℕ) (b : Bool) → nat_eq i minute ≡ b → i < length ns → get_or (set ns i (get_or ns i 0 + 1)) minute 0 ≡ get_or ns minute 0 + one_if b
  raised ns i true is within =
      let same : minute ≡ i = grind (arith, nat_tests) in
      get_or-set_at ns i minute (get_or ns i 0 + 1) 0 same within ∙ ap (λ (k : ℕ). get_or ns k 0 + 1) (sym same)
  raised ns i false is within =
      let other : minute ≢ i = grind (arith, nat_tests) in
      get_or-set_other ns i minute (get_or ns i 0 + 1) 0 other ∙ omega arith

  minute_test : (left : ℕ) → left < 3600 → nat_eq (left / 60) minute ≡ (nat_le (60 * minute) left && nat_lt left (60 * (minute + 1)))
  minute_test left short = grind (arith, nat_tests)

  past_test : (left : ℕ) → 3600 ≤ left → (nat_le (60 * minute) left && nat_lt left (60 * (minute + 1))) ≡ false
  past_test left long = grind (arith, nat_tests)

  minute_left : (far : Bool) (left : ℕ) (h : Histogram) → nat_lt 3599 left ≡ far → length h.minutes ≡ 60
      → get_or (counted_as (left_kind far left) h).minutes minute 0 ≡ get_or h.minutes minute 0 + one_if (nat_le (60 * minute) left && nat_lt left (60 * (minute + 1)))
  minute_left true left h is all =
      let long : 3600 ≤ left = grind (arith, nat_tests) in
      sym (ap (λ (b : Bool). get_or h.minutes minute 0 + one_if b) (past_test left long) ∙ omega arith)
  minute_left false left h is all =
      let short : left < 3600 = grind (arith, nat_tests) in
      raised h.minutes (left / 60) (nat_eq (left / 60) minute) refl (omega arith) ∙ ap (λ (b : Bool). get_or h.minutes minute 0 + one_if b) (minute_test left short)

  minute_one : (moment : ℕ) (expiry : Expiry) (h : Histogram) → length h.minutes ≡ 60
      → get_or (counted_as (kind_alive moment expiry) h).minutes minute 0 ≡ get_or h.minutes minute 0 + one_if (has_minutes minute (seconds_to moment expiry))
  minute_one moment Never h all = omega arith
  minute_one moment (At end) h all = minute_left (nat_lt 3599 (end - moment)) (end - moment) h refl all

all_left : (far : Bool) (left : ℕ) (h : Histogram) → length (counted_as (left_kind far left) h).minutes ≡ length h.minutes
all_left true left h = refl
all_left false left h = length-set h.minutes (left / 60) (get_or h.minutes (left / 60) 0 + 1)

all_one : (moment : ℕ) (expiry : Expiry) (h : Histogram) → length (counted_as (kind_alive moment expiry) h).minutes ≡ length h.minutes
all_one moment Never h = refl
all_one moment (At end) h = all_left (nat_lt 3599 (end - moment)) (end - moment) h

-- the counts that living items leave as they are
abbrev others : Histogram → ℕ × ℕ × ℕ
others h = (h.reclaimed, h.passed, h.gone)

others_left : (far : Bool) (left : ℕ) (h : Histogram) → others (counted_as (left_kind far left) h) ≡ others h
others_left true left h = refl
others_left false left h = refl

others_one : (moment : ℕ) (expiry : Expiry) (h : Histogram) → others (counted_as (kind_alive moment expiry) h) ≡ others h
others_one moment Never h = refl
others_one moment (At end) h = others_left (nat_lt 3599 (end - moment)) (end - moment) h

-- ---- all items
filter_first : {A : Type 0} (b : Bool) (x : A) (xs : List A) → length (cond b (x ∷ xs) xs) ≡ one_if b + length xs
filter_first true x xs = omega arith
filter_first false x xs = omega arith

-- a count that each item raises by a test, as long as something holds that each item keeps
module _ (count : Histogram → ℕ) (test : Option ℕ → Bool) (P : Histogram → Type 0) (keeps : (moment : ℕ) (expiry : Expiry) (h : Histogram) → P h → P (counted_as (kind_alive moment expiry) h))
    (one : (moment : ℕ) (expiry : Expiry) (h : Histogram) → P h → count (counted_as (kind_alive moment expiry) h) ≡ count h + one_if (test (seconds_to moment expiry))) where
  each : (seen : List Sighting) (h : Histogram) → P h → count (with_all_living seen h) ≡ count h + how_many test seen
  each [] h holds = omega arith
  each (s ∷ seen) h holds =
      let rest = each seen (with_living s h) (keeps s.moment s.expiry h holds) in
      omega (arith, rest, one s.moment s.expiry h holds, filter_first (test (seconds_left s)) s (filter (λ (x : Sighting). test (seconds_left x)) seen))

pub never_all : (seen : List Sighting) (h : Histogram) → (with_all_living seen h).no_expiry ≡ h.no_expiry + how_many never_expires seen
never_all seen h = each (λ h. h.no_expiry) never_expires (λ h. Unit {0}) (λ moment expiry h holds. tt) (λ moment expiry h holds. never_one moment expiry h) seen h tt

pub hour_all : (seen : List Sighting) (h : Histogram) → (with_all_living seen h).hour_plus ≡ h.hour_plus + how_many (has_at_least 3600) seen
hour_all seen h = each (λ h. h.hour_plus) (has_at_least 3600) (λ h. Unit {0}) (λ moment expiry h holds. tt) (λ moment expiry h holds. hour_one moment expiry h) seen h tt

pub minute_all : (seen : List Sighting) (h : Histogram) (minute : ℕ) → length h.minutes ≡ 60 → minute < 60
    → slice_index (with_all_living seen h).minutes minute ≡ slice_index h.minutes minute + how_many (has_minutes minute) seen
minute_all seen h minute all inside =
    each (λ h. get_or h.minutes minute 0) (has_minutes minute) (λ h. length h.minutes ≡ 60) (λ moment expiry h holds. all_one moment expiry h ∙ holds) (minute_one minute inside) seen h all

pub seen_all : (seen : List Sighting) (h : Histogram) → (with_all_living seen h).seen ≡ h.seen + length seen
seen_all [] h = omega arith
seen_all (s ∷ seen) h = omega (arith, seen_all seen (with_living s h))

others_all : (seen : List Sighting) (h : Histogram) → others (with_all_living seen h) ≡ others h
others_all [] h = refl
others_all (s ∷ seen) h = others_all seen (with_living s h) ∙ others_one s.moment s.expiry h

pub reclaimed_all : (seen : List Sighting) (h : Histogram) → (with_all_living seen h).reclaimed ≡ h.reclaimed
reclaimed_all seen h = ap (λ (x : ℕ × ℕ × ℕ). x.0) (others_all seen h)

pub passed_all : (seen : List Sighting) (h : Histogram) → (with_all_living seen h).passed ≡ h.passed
passed_all seen h = ap (λ (x : ℕ × ℕ × ℕ). x.1) (others_all seen h)

pub gone_all : (seen : List Sighting) (h : Histogram) → (with_all_living seen h).gone ≡ h.gone
gone_all seen h = ap (λ (x : ℕ × ℕ × ℕ). x.2) (others_all seen h)

-- ---- crawls
none_one : {A : Type 0} (x : A) → [] ≡ x ∷ [] → ⊥
none_one x h = cc

first_same : {A : Type 0} {x y : A} → x ∷ [] ≡ y ∷ [] → x ≡ y
first_same h = cc

module _ (s : Sighting) (h h_new : Histogram) (crawl : CrawlsLiving s h h_new) where
  open crawl use {q, class, class_new, before, after, kind, stripe, state}

  lived : Judged
  lived = judgement (done.Alive s.expiry) state

  by_entry : (o : Option Entry) → entry_of q.number (lists_of class.history) ≡ o → IsLookIf (λ state. Unit {0}) q class class_new before after kind o → kind ≡ kind_alive q.moment s.expiry
  by_entry None is gone =
      let empty : [] ≡ answer_by stripe (Some (judgement (done.Alive s.expiry) state)) ∷ [] =
      append_cancel_left before [] (answer_by stripe (Some (judgement (done.Alive s.expiry) state)) ∷ []) (append-nil before ∙ (sym gone.answers ∙ crawl.answered)) in
      absurd (none_one _ empty)
  by_entry (Some e) is look =
      let asked = stripe_of e.key q.config.stripes in
      let same = first_same (append_cancel_left before (answer_by asked look.judged ∷ []) (answer_by stripe (Some (judgement (done.Alive s.expiry) state)) ∷ []) (sym look.answers ∙ crawl.answered)) in
      let told = ap (λ (a : Answer). a.judged) same in
      kind_answered_is (λ state. Unit {0}) q class e asked (Some (judgement (done.Alive s.expiry) state)) kind is
      (subst (λ (j : Option Judged). IsKindIf (λ state. Unit {0}) q asked class j kind) told look.kind_is)

  living : h_new ≡ with_living s h
  living =
      crawl.counted
      ∙ ap (λ (k : Kind). counted_as k h) (by_entry (entry_of q.number (lists_of class.history)) refl crawl.crawled ∙ ap (λ (moment : ℕ). kind_alive moment s.expiry) crawl.moment_is)

pub crawled_living : (seen : List Sighting) (h h_new : Histogram) → CrawlsAllLiving seen h h_new → h_new ≡ with_all_living seen h
crawled_living [] h h_new crawls = crawls
crawled_living (s ∷ seen) h h_new crawls = crawled_living seen crawls.0 h_new crawls.2 ∙ ap (with_all_living seen) (living s h crawls.0 crawls.1)
