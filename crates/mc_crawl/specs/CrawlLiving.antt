-- What living items add to a histogram, by filters of the seconds that they have left (own).
use Rattle.std.specs.Prelude.{ℕ, ◌≡◌, ◌+◌, ◌-◌, ◌*◌, ◌++◌, ◌&&◌, List, [], ◌∷◌, Bool, true, false, Option, Some, None, length, nat_lt, nat_le}
use Rattle.std.specs.List.{filter}
use Rattle.mc_item.specs.declared.{counts.Histogram.Histogram, item.Expiry.Expiry, item.Expiry.TheVariants.Never, item.Expiry.TheVariants.At}
use Rattle.mc_item.specs.declared.item.StripeNo.{StripeNo}
use Rattle.mc_segment.specs.ClassState.{ClassView}
use Rattle.mc_stripe.specs.StripeState.{Stripe}
use Rattle.mc_pull.specs.declared.looking.Answer.{Answer}
use Rattle.mc_pull.specs.declared.judge.Done.TheVariants as done
use Rattle.mc_pull.specs.Looks.{answer_by, judgement}
use Rattle.mc_crawl.specs.declared.kind.Kind.{Kind}
use Rattle.mc_crawl.specs.{Crawl.Crawl, Crawl.IsCrawled, CrawlCount.counted_as, CrawlKind.kind_alive}

-- an item that was seen alive: when it expires, and when it was seen
pub record Sighting : Type 0 where
  pub expiry : Expiry
  pub moment : ℕ

-- how many seconds an item with this expiry has left at a moment, and no number if it never expires
abbrev pub seconds_to : ℕ → Expiry → Option ℕ
seconds_to moment Never = None
seconds_to moment (At end) = Some (end - moment)

-- the seconds that an item had left when it was seen
abbrev pub seconds_left : Sighting → Option ℕ
seconds_left s = seconds_to s.moment s.expiry

-- the item never expires
abbrev pub never_expires : Option ℕ → Bool
never_expires None = true
never_expires (Some left) = false

-- the item expires, but has at least so many seconds left
abbrev pub has_at_least : ℕ → Option ℕ → Bool
has_at_least low None = false
has_at_least low (Some left) = nat_le low left

-- the item expires, and has fewer seconds left
abbrev pub has_below : ℕ → Option ℕ → Bool
has_below high None = false
has_below high (Some left) = nat_lt left high

-- the item has so many whole minutes left, and not one more
abbrev pub has_minutes : ℕ → Option ℕ → Bool
has_minutes minute left = has_at_least (60 * minute) left && has_below (60 * (minute + 1)) left

-- how many of these items pass a test of the seconds that they had left
abbrev pub how_many : (Option ℕ → Bool) → List Sighting → ℕ
how_many test seen = length (filter (λ s. test (seconds_left s)) seen)

-- the histogram after one more item was seen alive
abbrev pub with_living : Sighting → Histogram → Histogram
with_living s h = counted_as (kind_alive s.moment s.expiry) h

-- the histogram after each of these items was seen alive, one after the other
abbrev pub with_all_living : List Sighting → Histogram → Histogram
with_all_living [] h = h
with_all_living (s ∷ seen) h = with_all_living seen (with_living s h)

-- a link was crawled as `crawl_one` says, and by the gate's answer its item lived
pub record CrawlsLiving (s : Sighting) (h h_new : Histogram) : Type 0 where
  pub q : Crawl
  pub class : ClassView
  pub class_new : ClassView
  pub before : List Answer
  pub after : List Answer
  pub kind : Kind
  pub stripe : StripeNo
  pub state : Stripe
  pub crawled : IsCrawled (λ state. Unit {0}) q class class_new before after kind
  pub answered : after ≡ before ++ answer_by stripe (Some (judgement (done.Alive s.expiry) state)) ∷ []
  pub moment_is : q.moment ≡ s.moment
  pub counted : h_new ≡ counted_as kind h

-- links were crawled, one after the other, and by the gate's answers all their items lived
abbrev pub CrawlsAllLiving : List Sighting → Histogram → Histogram → Type 0
CrawlsAllLiving [] h h_new = h_new ≡ h
CrawlsAllLiving (s ∷ seen) h h_new = (mid : Histogram) × CrawlsLiving s h mid × CrawlsAllLiving seen mid h_new
