-- What a crawl of a class leaves, by what its pass had seen before and has seen after (own).
use Rattle.std.specs.Prelude.{◌≡◌, ◌<◌, ◌+◌, ◌++◌, ◌⊎◌, ℕ, List, [], ◌∷◌, length}
use mathlib.Core.List.{IsPrefix}
use Rattle.mc_item.specs.declared.{class_event.ClassEvent.ClassEvent, config.Config.Config, counts.Histogram.Histogram, event.Event.Event}
use Rattle.mc_item.specs.declared.{fault.Fault.Fault, fault.Fault.TheVariants.HistoryFull}
use Rattle.mc_item.specs.declared.{event.Event.TheVariants.Call, event.Event.TheVariants.Class, event.Event.TheVariants.Stripe, item.ClassNo.ClassNo}
use Rattle.mc_item.specs.declared.{item.Link.Link, item.Who.Who, stripe_event.StripeEvent.StripeEvent}
use Rattle.mc_item.specs.Counts.{no_counts}
use Rattle.mc_evidence.specs.{Locks.ClassKeeps, Seen.stripes_seen, Setting.IsClass}
use Rattle.mc_rule.specs.Lists.{count_of, lists_of}
use Rattle.mc_board.specs.Histories.{list_at}
use Rattle.mc_board.specs.declared.rule.Sight.{Sight}
use Rattle.mc_segment.specs.ClassState.{ClassView, opened}
use Rattle.mc_pull.specs.Question.{IsClassOf}
use Rattle.mc_pull.specs.declared.looking.Answer.{Answer}
use Rattle.mc_crawl.specs.{Crawl.IsCrawled, Crawl.IsReclaim, Crawl.Reclaims, Crawl.crawl, CrawlCount.IsBalanced, CrawlCount.counted_as, Snapshot.links_of}
use Rattle.mc_crawl.specs.declared.kind.Kind.{Kind}
use Rattle.mc_stripe.specs.declared.trying.Turn.{Turn}
use Rattle.mc_store.specs.{Accounts.Enters, Accounts.IsOfStretches, Accounts.Stretch, Accounts.stretch_of}
use Rattle.mc_store.specs.{Callers.crawling_of, Locked.class_lock, Locked.setting_of, Passes.HasCalled}
use Rattle.mc_store.specs.{Passes.PassView, Passes.caller_of, Passes.next_who, Reached.IsStateBetween, Reached.seen_stripes}
use Rattle.mc_store.specs.{Serving.IsShortFor, Sides.class_told}

-- at least so many of these events are a `Reclaimed` by this call, at this moment
abbrev pub HasReclaims : Who → ℕ → ℕ → List Event → Type 0
HasReclaims who moment many [] = many ≡ 0
HasReclaims who moment many (Stripe e ∷ es) = HasReclaims who moment many es
HasReclaims who moment many (Call e ∷ es) = HasReclaims who moment many es
HasReclaims who moment many (Class e ∷ es) = HasReclaims who moment many es
    ⊎ (IsReclaim who moment e × ((fewer : ℕ) × (many ≡ fewer + 1) × HasReclaims who moment fewer es))

-- a pass has come to see at least as many `Reclaimed` of a call in a class as a count has risen by
pub record ShowsReclaims (config : Config) (class : ClassNo) (before after : Sight) (who : Who) (moment count_before count_after : ℕ) : Type 0 where
  pub events : List Event
  pub events_are : list_at before.seen (class_lock config class) ++ events ≡ list_at after.seen (class_lock config class)
  pub many : ℕ
  pub count_is : count_after ≡ count_before + many
  pub reclaims : HasReclaims who moment many events

-- a pass has seen a class as it was at one point, with so many entries and these links, after all that it had seen of it before
pub record IsSnapshot (config : Config) (class : ClassNo) (before after : Sight) (count : ℕ) : Type 0 where
  pub history : List ClassEvent
  pub begins : IsPrefix (list_at before.seen (class_lock config class)) (class_told history)
  pub now : IsPrefix (class_told history) (list_at after.seen (class_lock config class))
  pub count_is : count ≡ count_of (lists_of history)
  pub links : List Link
  pub links_are : links ≡ links_of (record (opened config class) { history = history })

-- a pass has seen a class's whole history, which is lawful, and in what it has seen of the stripes the partner of each event
pub record IsSeenSound (config : Config) (class : ClassNo) (after : Sight) : Type 0 where
  pub history : List ClassEvent
  pub now : list_at after.seen (class_lock config class) ≡ class_told history
  pub sound : ClassKeeps (setting_of config) class history (stripes_seen (list_at after.seen))

-- a link of a class was crawled, and the histogram counts one more link, as the kind that the crawl found: by the item that the
-- stripe had after all that `older` has of its history, and by what `newer` has of it
pub record CountsLink (config : Config) (older newer : ℕ → List StripeEvent) (c c_new : ClassView) (who : Who) (moment : ℕ) (link : Link)
    (histogram histogram_new : Histogram) : Type 0 where
  pub kind : Kind
  pub answers : List Answer
  pub answers_new : List Answer
  pub crawled : IsCrawled (IsStateBetween config.stripes older newer) (crawl who link.number moment config) c c_new answers answers_new kind
  pub counts : histogram_new ≡ counted_as kind histogram

-- a link was crawled and counted, as `CountsLink` says, once as seen, and what was reclaimed has its events
pub record CountsOne (config : Config) (older newer : ℕ → List StripeEvent) (c c_new : ClassView) (turn : Turn) (link : Link)
    (histogram histogram_new : Histogram) : Type 0 where
  pub counted : CountsLink config older newer c c_new turn.who turn.moment link histogram histogram_new
  pub seen : histogram_new.seen ≡ histogram.seen + 1
  pub reclaims : Reclaims turn.who turn.moment c.history c_new.history histogram.reclaimed histogram_new.reclaimed

-- a link was counted under its class's lock: what was seen before is a beginning of the class's old history, and what is seen
-- after is all of its new one, which gained this stretch
pub record IsLinkCounted (config : Config) (class : ClassNo) (older newer : ℕ → List StripeEvent) (seen seen_new : List Event) (who : Who) (moment : ℕ)
    (link : Link) (stretch : Stretch) (histogram histogram_new : Histogram) : Type 0 where
  pub old : ClassView
  pub new : ClassView
  pub made_with : IsClassOf config old
  pub number_is : old.number ≡ class
  pub begins : IsPrefix seen (class_told old.history)
  pub now : seen_new ≡ class_told new.history
  pub stretch_is : stretch ≡ stretch_of old new
  pub counted : CountsLink config older newer old new who moment link histogram histogram_new

-- a call may crawl links of a class: the class is of the store, and the call has just begun in its pass
pub record MayCrawl (config : Config) (pass : PassView) (class : ClassNo) (turn : Turn) : Type 0 where
  pub of : IsClass (setting_of config) class
  pub called : HasCalled (caller_of pass) turn.who turn.moment (crawling_of class turn.moment)

-- a link was counted, as `IsLinkCounted` says by what a pass has seen, once as seen, and the pass has come to see what was reclaimed
pub record HasCountedLink (config : Config) (class : ClassNo) (before after : Sight) (turn : Turn) (link : Link) (stretch : Stretch)
    (histogram histogram_new : Histogram) : Type 0 where
  pub seen : histogram_new.seen ≡ histogram.seen + 1
  pub reclaims : ShowsReclaims config class before after turn.who turn.moment histogram.reclaimed histogram_new.reclaimed
  pub counted : IsLinkCounted config class (seen_stripes before) (seen_stripes after) (list_at before.seen (class_lock config class))
      (list_at after.seen (class_lock config class)) turn.who turn.moment link stretch histogram histogram_new

-- these links of a class were counted one after another, each in its stretch, and each count starting from the one before
abbrev pub AreLinksCounted : Config → ClassNo → (older newer : ℕ → List StripeEvent) → (seen seen_new : List Event) → Who → ℕ → List Link → List Stretch
    → Histogram → Histogram → Type 0
AreLinksCounted config class older newer seen seen_new who moment [] [] histogram histogram_new = (seen_new ≡ seen) × (histogram_new ≡ histogram)
AreLinksCounted config class older newer seen seen_new who moment [] (stretch ∷ stretches) histogram histogram_new = ⊥
AreLinksCounted config class older newer seen seen_new who moment (link ∷ links) [] histogram histogram_new = ⊥
AreLinksCounted config class older newer seen seen_new who moment (link ∷ links) (stretch ∷ stretches) histogram histogram_new =
    (between : List Event) × (middle : Histogram) × IsLinkCounted config class older newer seen between who moment link stretch histogram middle
    × AreLinksCounted config class older newer between seen_new who moment links stretches middle histogram_new

-- a class was crawled: the links that it had at one point were counted one after another, starting from no counts, each as one
-- kind, by a state of its stripe after all that the pass had seen of it, which the pass has seen since; the pass has seen the events
-- of what was reclaimed, and the class's whole history; its caller's history gains the call, and its account no events of the class
-- but those of these links
pub record IsCrawledBy (config : Config) (class : ClassNo) (before after : PassView) (moment : ℕ) (histogram : Histogram) : Type 0 where
  pub snapshot : IsSnapshot config class before.sight after.sight histogram.seen
  pub balanced : IsBalanced histogram
  pub reclaims : ShowsReclaims config class before.sight after.sight (next_who before) moment 0 histogram.reclaimed
  pub sound : IsSeenSound config class after.sight
  pub stretches : List Stretch
  pub counted : AreLinksCounted config class (seen_stripes before.sight) (seen_stripes after.sight) (class_told snapshot.history)
      (list_at after.sight.seen (class_lock config class)) (next_who before) moment snapshot.links stretches no_counts histogram
  pub account : Enters (IsOfStretches config class stretches) before.turn after.sight before.made after.made
  pub noted : after.calls ≡ before.calls ++ crawling_of class moment ∷ []

-- these are the first of all links, and either none of them or not all: what a crawl had counted when a fault ended it
abbrev pub AreCountedFirst : (links all : List Link) → Type 0
AreCountedFirst links all = IsPrefix links all × ((links ≡ []) ⊎ (length links < length all))

-- the same, but a fault ended it before the last link was counted; `HistoryFull` means that the history of the class or of a stripe
-- has no place left
pub record IsCrawledTill (config : Config) (class : ClassNo) (before after : PassView) (moment : ℕ) (fault : Fault) : Type 0 where
  pub history : List ClassEvent
  pub begins : IsPrefix (list_at before.sight.seen (class_lock config class)) (class_told history)
  pub links : List Link
  pub some : AreCountedFirst links (links_of (record (opened config class) { history = history }))
  pub stretches : List Stretch
  pub until : List Event
  pub now : IsPrefix until (list_at after.sight.seen (class_lock config class))
  pub histogram : Histogram
  pub counted : AreLinksCounted config class (seen_stripes before.sight) (seen_stripes after.sight) (class_told history) until (next_who before) moment links
      stretches no_counts histogram
  pub account : Enters (IsOfStretches config class stretches) before.turn after.sight before.made after.made
  pub noted : after.calls ≡ before.calls ++ crawling_of class moment ∷ []
  pub full : fault ≡ HistoryFull → IsShortFor config class after.sight
