-- What a pass has seen of a crawl adds up.
use Rattle.std.proofs.Common.{◌≡◌, ◌+◌, ℕ, List, [], ◌∷◌, ◌++◌, Result, Ok, Err, refl, sym, ap, ◌∙◌, subst, inl, inr, arith, length, append_assoc, zero, suc, Option, slice_get}
use Rattle.std.specs.Prelude.{◌<◌, ◌≤◌, IsSomeAnd, MatchResult, OnErr, OnOk}
use mathlib.Core.List.{IsPrefix}
use Rattle.mc_item.specs.declared.{class_event.ClassEvent.ClassEvent, config.Config.Config, counts.Histogram.Histogram, event.Event.Event}
use Rattle.mc_item.specs.declared.{event.Event.TheVariants.Call, event.Event.TheVariants.Class, event.Event.TheVariants.Stripe, fault.Fault.Fault, fault.Fault.TheVariants.HistoryFull}
use Rattle.mc_store.specs.Serving.{IsShortFor}
use Rattle.mc_item.specs.declared.{item.ClassNo.ClassNo, item.Link.Link, item.Who.Who, stripe_event.StripeEvent.StripeEvent}
use Rattle.mc_item.specs.Counts.{no_counts}
use Rattle.mc_board.specs.Histories.{Grows, list_at}
use Rattle.mc_board.specs.declared.{rule.Sight.Sight, rule.Span.Span}
use Rattle.mc_rule.specs.Lists.{count_of, lists_of}
use Rattle.mc_board.proofs.{AccountLemmas.get_last, PrefixLemmas.prefix_self, PrefixLemmas.prefix_trans}
use Rattle.mc_segment.specs.ClassState.{ClassView, opened}
use Rattle.mc_pull.specs.declared.looking.Answer.{Answer}
use Rattle.mc_crawl.specs.{Crawl.AreReclaims, Crawl.HasCounted, Crawl.Reclaims, Crawl.crawl, CrawlCount.IsBalanced, Snapshot.links_of}
use Rattle.mc_stripe.specs.declared.trying.Turn.{Turn}
use Rattle.mc_store.specs.{Accounts.Enters, Accounts.IsOfStretch, Accounts.IsOfStretches, Accounts.IsWithin, Accounts.Stretch, Accounts.stretch_of, Calls.IsSeenGrowOf, Locked.class_lock}
use Rattle.mc_store.specs.{Callers.crawling_of, Passes.PassView, Passes.next_who, Sides.class_told}
use Rattle.mc_store.specs.Crawls.{AreCountedFirst, AreLinksCounted, CountsLink, CountsOne, HasCountedLink, HasReclaims, IsCrawledBy, IsCrawledTill, IsLinkCounted, IsSeenSound, IsSnapshot, ShowsReclaims}
use Rattle.mc_store.proofs.AccountLemmas.{enters_both, enters_later, enters_more, enters_same}
use Rattle.mc_crawl.proofs.CrawlLemmas.{crawled_more}
use Rattle.mc_store.specs.Reached.{IsStateBetween, seen_stripes}
use Rattle.mc_store.proofs.ReachedLemmas.{seen_grows, state_wider}
use Rattle.mc_store.proofs.SyncedStepLemmas.{map_append}

-- at least none is there
reclaims_none : (who : Who) (moment : ℕ) (es : List Event) → HasReclaims who moment 0 es
reclaims_none who moment [] = refl
reclaims_none who moment (Stripe e ∷ es) = reclaims_none who moment es
reclaims_none who moment (Call e ∷ es) = reclaims_none who moment es
reclaims_none who moment (Class e ∷ es) = inl (reclaims_none who moment es)

-- those of two lists
reclaims_both : (who : Who) (moment n m : ℕ) (xs ys : List Event) → HasReclaims who moment n xs → HasReclaims who moment m ys → HasReclaims who moment (n + m) (xs ++ ys)
reclaims_both who moment n m [] ys none more = subst (λ (k : ℕ). HasReclaims who moment k ys) (omega (arith, none)) more
reclaims_both who moment n m (Stripe e ∷ xs) ys some more = reclaims_both who moment n m xs ys some more
reclaims_both who moment n m (Call e ∷ xs) ys some more = reclaims_both who moment n m xs ys some more
reclaims_both who moment n m (Class e ∷ xs) ys (inl some) more = inl (reclaims_both who moment n m xs ys some more)
reclaims_both who moment n m (Class e ∷ xs) ys (inr t) more =
    let count = t.1.1 in
    inr (t.0, (t.1.0 + m, omega (arith, count), reclaims_both who moment t.1.0 m xs ys t.1.2 more))

-- events that are all such are as many as they are
reclaims_all : (who : Who) (moment : ℕ) (es : List ClassEvent) → AreReclaims who moment es → HasReclaims who moment (length es) (class_told es)
reclaims_all who moment [] all = refl
reclaims_all who moment (e ∷ es) all = inr (all.0, (length es, omega (arith), reclaims_all who moment es all.1))

-- what was seen later shows no less
pub shows_none : (config : Config) (class : ClassNo) (a b : Sight) (who : Who) (moment n : ℕ) → Grows a b → ShowsReclaims config class a b who moment n n
shows_none config class a b who moment n grows = record {
  events = (grows.at (class_lock config class)).0;
  events_are = (grows.at (class_lock config class)).1;
  many = 0;
  count_is = omega (arith);
  reclaims = reclaims_none who moment (grows.at (class_lock config class)).0;
}

-- one link after another
pub shows_both : (config : Config) (class : ClassNo) (a b c : Sight) (who : Who) (moment n m k : ℕ) → ShowsReclaims config class a b who moment n m → ShowsReclaims config class b c who moment m k
    → ShowsReclaims config class a c who moment n k
shows_both config class a b c who moment n m k first more =
    let one = first.count_is in
    let two = more.count_is in
    record {
      events = first.events ++ more.events;
      events_are = sym (append_assoc (list_at a.seen (class_lock config class)) first.events more.events) ∙ (ap (λ (l : List Event). l ++ more.events) first.events_are ∙ more.events_are);
      many = first.many + more.many;
      count_is = omega (arith, one, two);
      reclaims = reclaims_both who moment first.many more.many first.events more.events first.reclaims more.reclaims;
    }

-- one link, under the lock
pub shows_one : (config : Config) (class : ClassNo) (before after : Sight) (who : Who) (moment n m : ℕ) (old new : List ClassEvent) → IsPrefix (list_at before.seen (class_lock config class)) (class_told old)
    → list_at after.seen (class_lock config class) ≡ class_told new → Reclaims who moment old new n m → ShowsReclaims config class before after who moment n m
shows_one config class before after who moment n m old new seen now made = record {
  events = seen.0 ++ class_told made.events;
  events_are = sym (append_assoc (list_at before.seen (class_lock config class)) seen.0 (class_told made.events))
      ∙ (ap (λ (l : List Event). l ++ class_told made.events) seen.1 ∙ (sym (map_append Class old made.events) ∙ (sym (ap class_told made.history_is) ∙ sym now)));
  many = length made.events;
  count_is = made.count;
  reclaims =
      subst (λ (k : ℕ). HasReclaims who moment k (seen.0 ++ class_told made.events)) (omega (arith))
      (reclaims_both who moment 0 (length made.events) seen.0 (class_told made.events) (reclaims_none who moment seen.0) (reclaims_all who moment made.events made.each));
}

-- what is told of each success, in other words
pub on_ok_more : {T : Type 0} (r : Result T Fault) (P Q : Type 0) → (P → Q) → OnOk r P → OnOk r Q
on_ok_more (Ok x) P Q more p = more p
on_ok_more (Err f) P Q more p = tt

-- what is told of both outcomes, in other words
pub match_ends : {T : Type 0} (r : Result T Fault) (P Q E F : Type 0) → (P → Q) → (E → F) → MatchResult r (λ x. P) (λ f. E) → MatchResult r (λ x. Q) (λ f. F)
match_ends (Ok x) P Q E F more less it = more it
match_ends (Err f) P Q E F more less it = less it

pub match_on : {T : Type 0} (r : Result T Fault) (P E : Type 0) → OnOk r P → OnErr r E → MatchResult r (λ x. P) (λ f. E)
match_on (Ok x) P E it none = it
match_on (Err f) P E none it = it

-- a snapshot is seen by whoever has seen more
pub snapshot_later : (config : Config) (class : ClassNo) (a b c : Sight) (count : ℕ) → IsSnapshot config class a b count → Grows b c → IsSnapshot config class a c count
snapshot_later config class a b c count snapshot more = record {
  history = snapshot.history;
  begins = snapshot.begins;
  now = prefix_trans (class_told snapshot.history) (list_at b.seen (class_lock config class)) (list_at c.seen (class_lock config class)) snapshot.now (more.at (class_lock config class));
  count_is = snapshot.count_is;
  links = snapshot.links;
  links_are = snapshot.links_are;
}

-- a class that was told of whole was taken down
pub snapshot_taken : (config : Config) (class : ClassNo) (before after : Sight) (c : ClassView) (links : List Link) → c.number ≡ class → IsPrefix (list_at before.seen (class_lock config class)) (class_told c.history)
    → list_at after.seen (class_lock config class) ≡ class_told c.history → links ≡ links_of c → length links ≡ count_of (lists_of c.history)
    → (snapshot : IsSnapshot config class before after (length links)) × (snapshot.links ≡ links) × (list_at after.seen (class_lock config class) ≡ class_told snapshot.history)
snapshot_taken config class before after c links number seen now are count = (
  record {
    history = c.history;
    begins = seen;
    now = subst (λ (l : List Event). IsPrefix (class_told c.history) l) (sym now) (prefix_self (class_told c.history));
    count_is = count;
    links = links;
    links_are = are ∙ ap (λ (n : ClassNo). links_of (record (opened config n) { history = c.history })) number;
  },
  refl,
  now,
)

-- a link that was crawled was counted
pub counts_one : (config : Config) (older newer : ℕ → List StripeEvent) (c c_new : ClassView) (turn : Turn) (link : Link) (xs ys : List Answer) (h h_new : Histogram) (r : Result Unit Fault)
    → OnOk r (HasCounted (IsStateBetween config.stripes older newer) (crawl turn.who link.number turn.moment config) c c_new xs ys h h_new) → OnOk r (CountsOne config older newer c c_new turn link h h_new)
counts_one config older newer c c_new turn link xs ys h h_new (Ok x) made = record {
  counted = record { kind = made.kind; answers = xs; answers_new = ys; crawled = made.crawled; counts = made.counts };
  seen = made.seen;
  reclaims = made.reclaims;
}
counts_one config older newer c c_new turn link xs ys h h_new (Err f) made = tt

-- a link that was counted after what was seen was so after less, and by more that is seen
module _ (config : Config) (less older newer more : ℕ → List StripeEvent) (begins : (n : ℕ) → n < config.stripes → IsPrefix (less n) (older n)) (grows : (n : ℕ) → n < config.stripes → IsPrefix (newer n) (more n)) where
  counts_wider : (c c_new : ClassView) (who : Who) (moment : ℕ) (link : Link) (h h_new : Histogram) → CountsLink config older newer c c_new who moment link h h_new
      → CountsLink config less more c c_new who moment link h h_new
  counts_wider c c_new who moment link h h_new counts = record {
    kind = counts.kind;
    answers = counts.answers;
    answers_new = counts.answers_new;
    crawled = crawled_more (IsStateBetween config.stripes older newer) (IsStateBetween config.stripes less more) (state_wider config.stripes less older newer more begins grows)
        (crawl who link.number moment config) c c_new counts.answers counts.answers_new counts.kind counts.crawled;
    counts = counts.counts;
  }

  pub one_wider : (c c_new : ClassView) (turn : Turn) (link : Link) (h h_new : Histogram) → CountsOne config older newer c c_new turn link h h_new → CountsOne config less more c c_new turn link h h_new
  one_wider c c_new turn link h h_new one =
      record { counted = counts_wider c c_new turn.who turn.moment link h h_new one.counted; seen = one.seen; reclaims = one.reclaims }

  link_wider : (class : ClassNo) (a b : List Event) (who : Who) (moment : ℕ) (link : Link) (stretch : Stretch) (h h_new : Histogram) → IsLinkCounted config class older newer a b who moment link stretch h h_new
      → IsLinkCounted config class less more a b who moment link stretch h h_new
  link_wider class a b who moment link stretch h h_new one = record {
    old = one.old;
    new = one.new;
    made_with = one.made_with;
    number_is = one.number_is;
    begins = one.begins;
    now = one.now;
    stretch_is = one.stretch_is;
    counted = counts_wider one.old one.new who moment link h h_new one.counted;
  }

  pub links_wider : (class : ClassNo) (a b : List Event) (who : Who) (moment : ℕ) (links : List Link) (stretches : List Stretch) (h h_new : Histogram)
      → AreLinksCounted config class older newer a b who moment links stretches h h_new → AreLinksCounted config class less more a b who moment links stretches h h_new
  links_wider class a b who moment [] [] h h_new counted = counted
  links_wider class a b who moment [] (stretch ∷ stretches) h h_new counted = absurd counted
  links_wider class a b who moment (link ∷ links) [] h h_new counted = absurd counted
  links_wider class a b who moment (link ∷ links) (stretch ∷ stretches) h h_new counted =
      (counted.0, counted.1, link_wider class a counted.0 who moment link stretch h counted.1 counted.2, links_wider class counted.0 b who moment links stretches counted.1 h_new counted.3)

-- a link was counted under the lock
pub link_counted : (config : Config) (class : ClassNo) (before after : Sight) (who : Who) (moment : ℕ) (link : Link) (h h_new : Histogram) (c c_new : ClassView) → IsSeenGrowOf config class before after c c_new.history
    → CountsLink config (seen_stripes before) (seen_stripes after) c c_new who moment link h h_new
    → IsLinkCounted config class (seen_stripes before) (seen_stripes after) (list_at before.seen (class_lock config class)) (list_at after.seen (class_lock config class)) who moment link
    (stretch_of c c_new) h h_new
link_counted config class before after who moment link h h_new c c_new grew counts = record {
  old = c;
  new = c_new;
  made_with = grew.made_with;
  number_is = grew.number_is;
  begins = grew.seen;
  now = grew.now;
  stretch_is = refl;
  counted = counts;
}

-- and the pass has come to see what was reclaimed
pub link_seen : (config : Config) (class : ClassNo) (before after : Sight) (turn : Turn) (link : Link) (h h_new : Histogram) (c c_new : ClassView) → IsSeenGrowOf config class before after c c_new.history
    → CountsOne config (seen_stripes before) (seen_stripes after) c c_new turn link h h_new → HasCountedLink config class before after turn link (stretch_of c c_new) h h_new
link_seen config class before after turn link h h_new c c_new grew made = record {
  seen = made.seen;
  reclaims = shows_one config class before after turn.who turn.moment h.reclaimed h_new.reclaimed c.history c_new.history grew.seen grew.now made.reclaims;
  counted = link_counted config class before after turn.who turn.moment link h h_new c c_new grew made.counted;
}

-- what a link's crawl entered, by the names that class and account have outside the lock, once more was seen
pub link_entered : (config : Config) (class : ClassNo) (turn : ℕ) {mid after : Sight} (told c c_new : ClassView) (made made_is made_new : List Span) → told ≡ c → c.number ≡ class → made ≡ made_is → Grows mid after
    → Enters (IsOfStretch config told.number (stretch_of told c_new)) turn mid made made_new → Enters (IsOfStretch config class (stretch_of c c_new)) turn after made_is made_new
link_entered config class turn {mid = mid} {after = after} told c c_new made made_is made_new of number from grows enters =
    let Suits = IsOfStretch config class (stretch_of c c_new) in
    enters_later Suits turn {mid = mid} {after = after} made_is made_new grows
    (subst (λ (m : List Span). Enters Suits turn mid m made_new) from
    (subst (λ (n : ClassNo). Enters (IsOfStretch config n (stretch_of c c_new)) turn mid made made_new) number
    (subst (λ (v : ClassView). Enters (IsOfStretch config v.number (stretch_of v c_new)) turn mid made made_new) of enters)))

-- a place that is in one of some stretches is in one of them and another
within_longer : (stretches : List Stretch) (stretch : Stretch) (place k : ℕ) → IsSomeAnd (slice_get stretches k) (λ s. IsWithin s place)
    → IsSomeAnd (slice_get (stretches ++ stretch ∷ []) k) (λ s. IsWithin s place)
within_longer [] stretch place k within = absurd within
within_longer (s ∷ stretches) stretch place zero within = within
within_longer (s ∷ stretches) stretch place (suc k) within = within_longer stretches stretch place k within

-- what may be made in some stretches may be made in them and another
in_longer : (config : Config) (class : ClassNo) (stretches : List Stretch) (stretch : Stretch) (lock place : ℕ) (event : Event) → IsOfStretches config class stretches lock place event
    → IsOfStretches config class (stretches ++ stretch ∷ []) lock place event
in_longer config class stretches stretch lock place event (inl it) = inl (it.0, (it.1.0, within_longer stretches stretch place it.1.0 it.1.1))
in_longer config class stretches stretch lock place event (inr it) = inr it

-- what may be made in a stretch may be made in others and it
in_last : (config : Config) (class : ClassNo) (stretches : List Stretch) (stretch : Stretch) (lock place : ℕ) (event : Event) → IsOfStretch config class stretch lock place event
    → IsOfStretches config class (stretches ++ stretch ∷ []) lock place event
in_last config class stretches stretch lock place event (inl it) =
    inl (it.0, (length stretches, subst (λ (o : Option Stretch). IsSomeAnd o (λ s. IsWithin s place)) (sym (get_last stretches stretch)) it.1))
in_last config class stretches stretch lock place event (inr it) = inr it

-- one link more entered its events
enters_link : (config : Config) (class : ClassNo) (turn : ℕ) {mid after : Sight} (stretches : List Stretch) (stretch : Stretch) (a b c : List Span) → Enters (IsOfStretches config class stretches) turn mid a b
    → Grows mid after → Enters (IsOfStretch config class stretch) turn after b c → Enters (IsOfStretches config class (stretches ++ stretch ∷ [])) turn after a c
enters_link config class turn {mid = mid} {after = after} stretches stretch a b c some grows one =
    let All = IsOfStretches config class (stretches ++ stretch ∷ []) in
    enters_both All turn {mid = mid} {after = after} a b c
    (enters_more (IsOfStretches config class stretches) All turn {after = mid} a b (in_longer config class stretches stretch) some) grows
    (enters_more (IsOfStretch config class stretch) All turn {after = after} b c (in_last config class stretches stretch) one)

-- what was made in no stretch of the class was made in any
in_none : (config : Config) (class : ClassNo) (stretches : List Stretch) (lock place : ℕ) (event : Event) → IsOfStretches config class [] lock place event
    → IsOfStretches config class stretches lock place event
in_none config class stretches lock place event (inl it) = absurd it.1.1
in_none config class stretches lock place event (inr it) = inr it

-- and so was what was made in an empty one
in_empty : (config : Config) (class : ClassNo) (stretch : Stretch) → stretch.until ≤ stretch.from → (lock place : ℕ) (event : Event) → IsOfStretch config class stretch lock place event
    → IsOfStretches config class [] lock place event
in_empty config class stretch none lock place event (inl it) =
    let low = it.1.0 in
    let high = it.1.1 in absurd (omega (arith, none, low, high))
in_empty config class stretch none lock place event (inr it) = inr it

-- a crawl that left its class's history as it was entered no event of it
pub enters_no_link : (config : Config) (class : ClassNo) (turn : ℕ) {after : Sight} (c c_new : ClassView) (made made_new : List Span) → c_new.history ≡ c.history
    → Enters (IsOfStretch config class (stretch_of c c_new)) turn after made made_new → Enters (IsOfStretches config class []) turn after made made_new
enters_no_link config class turn {after = after} c c_new made made_new same enters =
    let long : length c_new.history ≡ length c.history = ap (λ (h : List ClassEvent). length h) same in
    let none : length c_new.history ≤ length c.history = omega (arith, long) in
    enters_more (IsOfStretch config class (stretch_of c c_new)) (IsOfStretches config class []) turn {after = after} made made_new (in_empty config class (stretch_of c c_new) none) enters

-- one link more was counted
pub links_counted-more : (config : Config) (class : ClassNo) (older newer : ℕ → List StripeEvent) (a b c : List Event) (who : Who) (moment : ℕ) (links : List Link) (stretches : List Stretch)
    (link : Link) (stretch : Stretch) (h m n : Histogram)
    → AreLinksCounted config class older newer a b who moment links stretches h m → IsLinkCounted config class older newer b c who moment link stretch m n
    → AreLinksCounted config class older newer a c who moment (links ++ link ∷ []) (stretches ++ stretch ∷ []) h n
links_counted-more config class older newer a b c who moment [] [] link stretch h m n none one = (
  c,
  n,
  subst (λ (x : Histogram). IsLinkCounted config class older newer a c who moment link stretch x n) none.1
      (subst (λ (l : List Event). IsLinkCounted config class older newer l c who moment link stretch m n) none.0 one),
  (refl, refl),
)
links_counted-more config class older newer a b c who moment [] (s ∷ stretches) link stretch h m n some one = absurd some
links_counted-more config class older newer a b c who moment (l ∷ links) [] link stretch h m n some one = absurd some
links_counted-more config class older newer a b c who moment (l ∷ links) (s ∷ stretches) link stretch h m n some one =
    (some.0, some.1, some.2, links_counted-more config class older newer some.0 b c who moment links stretches link stretch some.1 m n some.3 one)

-- links that were counted by what was seen are so by what is seen later
counted_later : (config : Config) (class : ClassNo) (first mid last : Sight) (a b : List Event) (who : Who) (moment : ℕ) (links : List Link) (stretches : List Stretch) (h h_new : Histogram) → Grows mid last
    → AreLinksCounted config class (seen_stripes first) (seen_stripes mid) a b who moment links stretches h h_new
    → AreLinksCounted config class (seen_stripes first) (seen_stripes last) a b who moment links stretches h h_new
counted_later config class first mid last a b who moment links stretches h h_new grows counted =
    links_wider config (seen_stripes first) (seen_stripes first) (seen_stripes mid) (seen_stripes last) (λ n of. prefix_self _) (seen_grows config.stripes mid last grows) class a b who moment links stretches
    h h_new counted

-- of a snapshot's links the first ones were counted, and the account gained only what their crawls made
pub record CountsSoFar (config : Config) (class : ClassNo) (before after : PassView) (who : Who) (moment : ℕ) (links done : List Link) (histogram : Histogram) : Type 0 where
  pub snapshot : IsSnapshot config class before.sight after.sight (length links)
  pub links_are : snapshot.links ≡ links
  pub stretches : List Stretch
  pub counted : AreLinksCounted config class (seen_stripes before.sight) (seen_stripes after.sight) (class_told snapshot.history) (list_at after.sight.seen (class_lock config class)) who moment done
      stretches no_counts histogram
  pub entered : Enters (IsOfStretches config class stretches) who.turn after.sight before.made after.made

-- none of them
pub so_far_none : (config : Config) (class : ClassNo) (before after : PassView) (who : Who) (moment : ℕ) (links : List Link) (h : Histogram) → h ≡ no_counts
    → (snapshot : IsSnapshot config class before.sight after.sight (length links)) × (snapshot.links ≡ links) × (list_at after.sight.seen (class_lock config class) ≡ class_told snapshot.history)
    → after.made ≡ before.made → CountsSoFar config class before after who moment links [] h
so_far_none config class before after who moment links h none taken same = record {
  snapshot = taken.0;
  links_are = taken.1;
  stretches = [];
  counted = (taken.2, none);
  entered = enters_same (IsOfStretches config class []) who.turn before.made after.made same;
}

-- one more
pub so_far_more : (config : Config) (class : ClassNo) (a b c : PassView) (who : Who) (moment : ℕ) (links done more : List Link) (link : Link) (stretch : Stretch) (h h_new : Histogram)
    → CountsSoFar config class a b who moment links done h → Grows a.sight b.sight → Grows b.sight c.sight
    → IsLinkCounted config class (seen_stripes b.sight) (seen_stripes c.sight) (list_at b.sight.seen (class_lock config class)) (list_at c.sight.seen (class_lock config class)) who moment link stretch
    h h_new
    → Enters (IsOfStretch config class stretch) who.turn c.sight b.made c.made → done ++ link ∷ [] ≡ more → CountsSoFar config class a c who moment links more h_new
unfolding snapshot_later
so_far_more config class a b c who moment links done more link stretch h h_new some first grows one entered is = record {
  snapshot = snapshot_later config class a.sight b.sight c.sight (length links) some.snapshot grows;
  links_are = some.links_are;
  stretches = some.stretches ++ stretch ∷ [];
  counted =
      subst
      (λ (l : List Link). AreLinksCounted config class (seen_stripes a.sight) (seen_stripes c.sight) (class_told some.snapshot.history) (list_at c.sight.seen (class_lock config class)) who moment l
      (some.stretches ++ stretch ∷ []) no_counts h_new)
      is
      (links_counted-more config class (seen_stripes a.sight) (seen_stripes c.sight) (class_told some.snapshot.history) (list_at b.sight.seen (class_lock config class))
      (list_at c.sight.seen (class_lock config class)) who moment done some.stretches link stretch no_counts h h_new
      (counted_later config class a.sight b.sight c.sight (class_told some.snapshot.history) (list_at b.sight.seen (class_lock config class)) who moment done some.stretches no_counts h grows some.counted)
      (link_wider config (seen_stripes a.sight) (seen_stripes b.sight) (seen_stripes c.sight) (seen_stripes c.sight) (seen_grows config.stripes a.sight b.sight first) (λ n of. prefix_self _) class
      (list_at b.sight.seen (class_lock config class)) (list_at c.sight.seen (class_lock config class)) who moment link stretch h h_new one));
  entered = enters_link config class who.turn {mid = b.sight} {after = c.sight} some.stretches stretch a.made b.made c.made some.entered grows entered;
}

-- all of them, and so the class was crawled
pub so_far_all : (config : Config) (class : ClassNo) (before after : PassView) (moment : ℕ) (links done : List Link) (h : Histogram)
    → CountsSoFar config class before after (next_who before) moment links done h → done ≡ links → h.seen ≡ length links → IsBalanced h
    → ShowsReclaims config class before.sight after.sight (next_who before) moment 0 h.reclaimed → IsSeenSound config class after.sight
    → after.calls ≡ before.calls ++ crawling_of class moment ∷ [] → IsCrawledBy config class before after moment h
so_far_all config class before after moment links done h all is count balanced reclaims sound noted = record {
  snapshot = record {
    history = all.snapshot.history;
    begins = all.snapshot.begins;
    now = all.snapshot.now;
    count_is = count ∙ all.snapshot.count_is;
    links = all.snapshot.links;
    links_are = all.snapshot.links_are;
  };
  balanced = balanced;
  reclaims = reclaims;
  sound = sound;
  stretches = all.stretches;
  counted =
      subst
      (λ (l : List Link). AreLinksCounted config class (seen_stripes before.sight) (seen_stripes after.sight) (class_told all.snapshot.history) (list_at after.sight.seen (class_lock config class))
      (next_who before) moment l all.stretches no_counts h)
      (is ∙ sym all.links_are) all.counted;
  account = all.entered;
  noted = noted;
}

-- or a fault ended it behind some of them
pub so_far_till : (config : Config) (class : ClassNo) (a b c : PassView) (who : Who) (moment : ℕ) (links done : List Link) (h : Histogram) → CountsSoFar config class a b who moment links done h
    → who ≡ next_who a → AreCountedFirst done links → Grows b.sight c.sight → Enters (IsOfStretches config class []) who.turn c.sight b.made c.made → c.calls ≡ a.calls ++ crawling_of class moment ∷ []
    → (fault : Fault) → (fault ≡ HistoryFull → IsShortFor config class c.sight) → IsCrawledTill config class a c moment fault
so_far_till config class a b c who moment links done h some is begins grows last noted fault full =
    let lock = class_lock config class in
    let Suits = IsOfStretches config class some.stretches in
    record {
      history = some.snapshot.history;
      begins = some.snapshot.begins;
      links = done;
      some = subst (AreCountedFirst done) (sym some.links_are ∙ some.snapshot.links_are) begins;
      stretches = some.stretches;
      until = list_at b.sight.seen lock;
      now = grows.at lock;
      histogram = h;
      counted =
          subst
          (λ (w : Who). AreLinksCounted config class (seen_stripes a.sight) (seen_stripes c.sight) (class_told some.snapshot.history) (list_at b.sight.seen lock) w moment done some.stretches no_counts h) is
          (counted_later config class a.sight b.sight c.sight (class_told some.snapshot.history) (list_at b.sight.seen lock) who moment done some.stretches no_counts h grows some.counted);
      account = subst (λ (w : Who). Enters Suits w.turn c.sight a.made c.made) is
          (enters_both Suits who.turn {mid = b.sight} {after = c.sight} a.made b.made c.made some.entered grows
          (enters_more (IsOfStretches config class []) Suits who.turn {after = c.sight} b.made c.made (in_none config class some.stretches) last));
      noted = noted;
      full = full;
    }

-- or before the first
pub till_none : (config : Config) (class : ClassNo) (before after : PassView) (moment : ℕ) → IsSeenSound config class after.sight → Grows before.sight after.sight → after.made ≡ before.made
    → after.calls ≡ before.calls ++ crawling_of class moment ∷ [] → (fault : Fault) → (fault ≡ HistoryFull → IsShortFor config class after.sight)
    → IsCrawledTill config class before after moment fault
till_none config class before after moment sound grows made noted fault full =
    let lock = class_lock config class in
    let whole = sound.history in
    record {
      history = whole;
      begins = subst (IsPrefix (list_at before.sight.seen lock)) sound.now (grows.at lock);
      links = [];
      some = ((links_of (record (opened config class) { history = whole }), refl), inl refl);
      stretches = [];
      until = class_told whole;
      now = subst (IsPrefix (class_told whole)) (sym sound.now) (prefix_self (class_told whole));
      histogram = no_counts;
      counted = (refl, refl);
      account = enters_same (IsOfStretches config class []) before.turn before.made after.made made;
      noted = noted;
      full = full;
    }
