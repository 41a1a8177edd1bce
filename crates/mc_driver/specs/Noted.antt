-- How the histories of a store note a call with its answer, after all that its caller had seen by then (own).
use Rattle.std.specs.Prelude.{ℕ, ◌≡◌, ◌≤◌, List, [], ◌∷◌, ◌++◌, length}
use Rattle.std.specs.List.{flat_map}
use mathlib.Core.List.{IsPrefix}
use Rattle.mc_item.specs.declared.{class_event.ClassEvent.ClassEvent, command.Command.Command, config.Config.Config, counts.Moves.Moves, item.ClassNo.ClassNo}
use Rattle.mc_item.specs.declared.{item.Who.Who, reply.Reply.Reply, reply.Room.Room, stripe_event.Did.Did, stripe_event.StripeEvent.StripeEvent}
use Rattle.mc_item.specs.declared.{counts.Histogram.Histogram, event.Event.Event}
use Rattle.mc_item.specs.declared.stripe_event.StripeEvent.TheVariants as events
use Rattle.mc_hits.specs.declared.rule.Hit.{Hit}
use Rattle.mc_proto.specs.Answers.{Replied}
use Rattle.mc_pull.specs.Rounds.{rounds}
use Rattle.mc_script.specs.Exchanges.{Asks, Exchange}
use Rattle.mc_segment.specs.{ClassCalls.limited_event, ClassState.opened}
use Rattle.mc_rule.specs.Lists.{count_of, lists_of}
use Rattle.mc_evidence.specs.{Refusals.WasTried, Setting.IsClass, Setting.site_in}
use Rattle.mc_crawl.specs.{CrawlCount.IsBalanced, Snapshot.links_of}
use Rattle.mc_item.specs.Counts.{no_counts}
use Rattle.mc_item.specs.declared.reply.Room.TheVariants as rooms
use Rattle.mc_store.specs.{Accounts.IsOfCommand, Accounts.IsWithin, Accounts.Stretch, Callers.HasNoneOf, Commands.LeadsUp, Crawls.AreLinksCounted}
use Rattle.mc_store.specs.{Crawls.HasReclaims, Earned.IsLastResort, Headline.answered_did, Hits.AreAdvanced, Locked.setting_of}
use Rattle.mc_store.specs.{Calls.IsJuggledWith, Made.HasNoneMadeBy, Reached.IsStateBetween, Searches.searcher, Sides.class_told}
use Rattle.mc_stripe.specs.{Plan.visible_row, StripeState.Stripe, StripeState.stripe}
use Rattle.mc_driver.specs.Searched.{NotesSearchFor, with_stripe}

-- an answered command as an exchange, without its room (the link or the refusal that it was given)
abbrev pub exchange_of : Did → Exchange
exchange_of did = record { who = did.who; call = Asks did.command; moment = did.moment; answer = Replied did.reply }

-- the exchange that an event of a stripe notes: one for an answered command, none for a loss or a cleared mark
abbrev pub exchanges_noted : StripeEvent → List Exchange
exchanges_noted (events.Did did) = exchange_of did ∷ []
exchanges_noted (events.Lost lost) = []
exchanges_noted (events.Cooled cooled) = []

-- the exchanges that a stripe's history notes, oldest first
abbrev pub exchanges_in : List StripeEvent → List Exchange
exchanges_in history = flat_map exchanges_noted history

-- the event of the answered command with these parts
abbrev pub answered_event : Who → Command → ℕ → Reply → Room → StripeEvent
answered_event who command moment reply room = events.Did (answered_did who command moment reply room)

-- the stripe with this number in a configuration, with this history
abbrev pub stripe_with : Config → ℕ → List StripeEvent → Stripe
stripe_with config number history = stripe (site_in (setting_of config) number) config.max_events config.keeps_events history 0

-- what a command may make: what its account may gain, and of its own stripe's events only those after older ones, up to this place
abbrev pub IsOfPart : Config → ℕ → Command → ℕ → (older : List StripeEvent) → (until : ℕ) → Stretch → (lock place : ℕ) → Event → Type 0
IsOfPart config number command moment older until stretch lock place event =
    IsOfCommand config (stripe_with config number older) command moment stretch lock place event
    × (lock ≡ number → IsWithin (record { from = length older; until = until }) place)

-- the history of the stripe with this number has this answered command after what was seen of it: older events, none of them of
-- this call, then just what leads up to the command, then its answer. If that cites a refusal, the class's history has that one, by
-- the same call, made not at once but after all rounds of a search. The command searched for a chunk at most once, by states that
-- stripes had after what was seen of them, and its own stripe after those older events
pub record NotesCommand (config : Config) (number : ℕ) (seen history : ℕ → List StripeEvent) (classes : ClassNo → List ClassEvent) (who : Who)
    (command : Command) (moment : ℕ) (reply : Reply) : Type 0 where
  pub older : List StripeEvent
  pub made : List StripeEvent
  pub room : Room
  pub behind : List StripeEvent
  pub past : IsPrefix (seen number) older
  pub first : HasNoneOf who older
  pub led_up : LeadsUp config who command moment (stripe_with config number older) made
  pub split : history number ≡ (older ++ made) ++ answered_event who command moment reply room ∷ behind
  pub earned : (class : ClassNo) → IsClass (setting_of config) class
      → WasTried (site_in (setting_of config) number) class (classes class) (answered_did who command moment reply room)
  pub last : (class : ClassNo) (place : ℕ) → IsClass (setting_of config) class → room ≡ rooms.Refused class place
      → IsLastResort config (record { 0 = number }) class place (classes class) (answered_did who command moment reply room)
  pub stretch : Stretch
  pub search : NotesSearchFor (searcher config number who moment) (visible_row (stripe_with config number older) command moment).need
      (with_stripe number older seen) history classes stretch

-- a class's history has a call's juggling with these moves after what was seen of it and older events, none of them of this call, in
-- one unbroken stretch: the moves of at most 256 hits, then surveys and walks. A stripe that these reached was as it was after
-- `older`, which was seen of it, and by `newer`
pub record NotesJuggling (config : Config) (older newer : ℕ → List StripeEvent) (seen history : List ClassEvent) (who : Who) (class : ClassNo) (moment : ℕ)
    (moves : Moves) : Type 0 where
  pub before : List ClassEvent
  pub past : IsPrefix seen before
  pub first : HasNoneMadeBy who before
  pub hits : List Hit
  pub few : length hits ≤ 256
  pub advances : List ClassEvent
  pub advanced : AreAdvanced (IsStateBetween config.stripes older newer) (rounds (opened config class) who moment config) hits before (before ++ advances)
  pub own : List ClassEvent
  pub behind : List ClassEvent
  pub split : history ≡ ((before ++ advances) ++ own) ++ behind
  pub juggled : IsJuggledWith (IsStateBetween config.stripes older newer) (rounds (opened config class) who moment config) (before ++ advances)
      ((before ++ advances) ++ own) moves

-- a class's history has a call's crawl: the entries at one point after what was seen, counted one by one, each in its stretch of the
-- history, give this histogram. Each was counted by the item that its stripe had after `older`, which was seen of it, and by `newer`. The
-- events after what was seen have a `Reclaimed` by this call, at this moment, for each that it counts as reclaimed
pub record NotesCrawling (config : Config) (older newer : ℕ → List StripeEvent) (seen history : List ClassEvent) (who : Who) (class : ClassNo) (moment : ℕ)
    (histogram : Histogram) : Type 0 where
  pub at : List ClassEvent
  pub behind : List ClassEvent
  pub past : IsPrefix seen at
  pub split : history ≡ at ++ behind
  pub entries : histogram.seen ≡ count_of (lists_of at)
  pub end : List ClassEvent
  pub rest : List ClassEvent
  pub ends : history ≡ end ++ rest
  pub stretches : List Stretch
  pub counted : AreLinksCounted config class older newer (class_told at) (class_told end) who moment (links_of (record (opened config class) { history = at }))
      stretches no_counts histogram
  pub balanced : IsBalanced histogram
  pub since : List ClassEvent
  pub since_is : history ≡ seen ++ since
  pub reclaims : HasReclaims who moment histogram.reclaimed (class_told since)

-- a class's history has a call's new limit of chunks after what was seen of it: older events, none of them of this call, then the
-- limit, then any others
pub record NotesLimit (seen history : List ClassEvent) (who : Who) (chunks : ℕ) : Type 0 where
  pub before : List ClassEvent
  pub behind : List ClassEvent
  pub past : IsPrefix seen before
  pub first : HasNoneMadeBy who before
  pub split : history ≡ before ++ limited_event who chunks ∷ behind
