-- What the crawl of a link changes in a class and in a gate's answers, and the kind that the link counts as.
use Rattle.std.specs.Prelude.{ℕ, ◌≡◌, ◌+◌, ◌++◌, List, [], ◌∷◌, Option, Some, None, length}
use Rattle.mc_item.specs.declared.{class_event.ClassEvent.ClassEvent, config.Config.Config, counts.Histogram.Histogram}
use Rattle.mc_item.specs.declared.{item.StripeNo.StripeNo, item.Who.Who, lists.Entry.Entry}
use Rattle.mc_item.specs.declared.class_event.ClassEvent.TheVariants as events
use Rattle.mc_item.specs.Measure.{stripe_of}
use Rattle.mc_rule.specs.Lists.{lists_of}
use Rattle.mc_segment.specs.{ClassState.ClassView, Entries.entry_of}
use Rattle.mc_stripe.specs.StripeState.{Stripe, cache_now}
use Rattle.mc_pull.specs.declared.{judge.Judge.TheVariants.Dead, looking.Answer.Answer, looking.Judged.Judged}
use Rattle.mc_pull.specs.{Looks.IsJudged, Looks.answer_by, Looks.events_if, Looks.judged_by, Question.Question, Question.question, Settled.class_with}
use Rattle.mc_crawl.specs.declared.kind.Kind.{Kind}
use Rattle.mc_crawl.specs.declared.kind.Kind.TheVariants as kinds
use Rattle.mc_crawl.specs.{CrawlCount.counted_as, CrawlKind.kind_of}
use Rattle.mc_pull.specs.declared.context.Context.{Context}

-- a crawl of a link: the call that makes it, the link's number, the time, and the configuration
pub record Crawl : Type 0 where
  pub who : Who
  pub number : ℕ
  pub moment : ℕ
  pub config : Config

-- the crawl with these parts
abbrev pub crawl : Who → ℕ → ℕ → Config → Crawl
crawl who number moment config = record { who = who; number = number; moment = moment; config = config }

-- the crawl of an entry by a call's step
abbrev pub crawl_by : Context → ℕ → Crawl
crawl_by context number = crawl context.turn.who number context.turn.moment context.config.now

-- what a crawl asks of an entry: only whether its item is dead
abbrev pub asked_by : Crawl → Question
asked_by q = question q.who q.number Dead q.moment

-- an entry whose stripe was reached counts as this kind, by what the stripe held at that look, and `R` holds of that state
pub record IsKindBy (R : Stripe → Type 0) (q : Crawl) (stripe : StripeNo) (c : ClassView) (j : Judged) (k : Kind) : Type 0 where
  pub judged : IsJudged q.config stripe c (asked_by q) j
  pub reached : R (judged_by j)
  pub kind_is : k ≡ kind_of c (cache_now (judged_by j)) q.number q.moment

-- an entry counts as this kind by a gate's answer: as passed, if the stripe was not reached
abbrev pub IsKindIf : (Stripe → Type 0) → Crawl → StripeNo → ClassView → Option Judged → Kind → Type 0
IsKindIf R q stripe c None k = k ≡ kinds.Passed
IsKindIf R q stripe c (Some j) k = IsKindBy R q stripe c j k

-- an entry was looked at: its key's stripe was asked for once, the class gained just that answer's events, and this is its kind
pub record IsLook (R : Stripe → Type 0) (q : Crawl) (c c_new : ClassView) (xs ys : List Answer) (k : Kind) (e : Entry) : Type 0 where
  pub judged : Option Judged
  pub answers : ys ≡ xs ++ answer_by (stripe_of e.key q.config.stripes) judged ∷ []
  pub class : c_new ≡ class_with c (events_if c (asked_by q) judged) c_new.room
  pub kind_is : IsKindIf R q (stripe_of e.key q.config.stripes) c judged k

-- the link's entry is no longer there: no stripe was asked for, nothing changed, and the link counts as gone
pub record IsGone (c c_new : ClassView) (xs ys : List Answer) (k : Kind) : Type 0 where
  pub answers : ys ≡ xs
  pub class : c_new ≡ c
  pub kind_is : k ≡ kinds.Gone

-- the entry was looked at, or, if there is none, the link counts as gone
abbrev pub IsLookIf : (Stripe → Type 0) → Crawl → ClassView → ClassView → List Answer → List Answer → Kind → Option Entry → Type 0
IsLookIf R q c c_new xs ys k None = IsGone c c_new xs ys k
IsLookIf R q c c_new xs ys k (Some e) = IsLook R q c c_new xs ys k e

-- a link was crawled: so the class and the gate's answers changed, and the link counts as this kind, by a state of its stripe of
-- which `R` holds
abbrev pub IsCrawled : (Stripe → Type 0) → Crawl → ClassView → ClassView → List Answer → List Answer → Kind → Type 0
IsCrawled R q c c_new xs ys k = IsLookIf R q c c_new xs ys k (entry_of q.number (lists_of c.history))

-- the event is a `Reclaimed` by this call, at this time
abbrev pub IsReclaim : Who → ℕ → ClassEvent → Type 0
IsReclaim who moment (events.Reclaimed e) = (e.who ≡ who) × (e.moment ≡ moment)
IsReclaim who moment (events.Linked e) = ⊥
IsReclaim who moment (events.Unlinked e) = ⊥
IsReclaim who moment (events.Shifted e) = ⊥
IsReclaim who moment (events.Evicted e) = ⊥
IsReclaim who moment (events.Surveyed e) = ⊥
IsReclaim who moment (events.Refused e) = ⊥
IsReclaim who moment (events.Limited e) = ⊥

-- each of these events is a `Reclaimed` by this call, at this time
abbrev pub AreReclaims : Who → ℕ → List ClassEvent → Type 0
AreReclaims who moment [] = Unit {0}
AreReclaims who moment (e ∷ es) = IsReclaim who moment e × AreReclaims who moment es

-- a class's history gained only `Reclaimed` events by this call at this time, as many as the count of reclaimed entries rose by
pub record Reclaims (who : Who) (moment : ℕ) (old new : List ClassEvent) (before after : ℕ) : Type 0 where
  pub events : List ClassEvent
  pub each : AreReclaims who moment events
  pub history_is : new ≡ old ++ events
  pub count : after ≡ before + length events

-- a link was crawled, and the histogram counts one more link, as the kind that was found; what was reclaimed has its events
pub record HasCounted (R : Stripe → Type 0) (q : Crawl) (c c_new : ClassView) (xs ys : List Answer) (histogram histogram_new : Histogram) : Type 0 where
  pub kind : Kind
  pub crawled : IsCrawled R q c c_new xs ys kind
  pub counts : histogram_new ≡ counted_as kind histogram
  pub seen : histogram_new.seen ≡ histogram.seen + 1
  pub reclaims : Reclaims q.who q.moment c.history c_new.history histogram.reclaimed histogram_new.reclaimed
