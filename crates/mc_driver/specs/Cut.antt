-- How the histories of a store note a call that a fault broke off: a beginning of what it does, after all that its caller had seen (own).
use Rattle.std.specs.Prelude.{ℕ, ◌≡◌, ◌≤◌, ◌++◌, ◌⊎◌, List, [], length}
use mathlib.Core.List.{IsPrefix}
use Rattle.mc_item.specs.Counts.{no_counts}
use Rattle.mc_item.specs.declared.{answer.Need.Need, answer.Need.TheVariants.Fresh, class_event.ClassEvent.ClassEvent, command.Command.Command}
use Rattle.mc_item.specs.declared.{config.Config.Config, counts.Histogram.Histogram, fault.Fault.Fault, item.ClassNo.ClassNo, item.Link.Link, item.Who.Who}
use Rattle.mc_item.specs.declared.stripe_event.StripeEvent.{StripeEvent}
use Rattle.mc_hits.specs.declared.rule.Hit.{Hit}
use Rattle.mc_evidence.specs.Setting.{IsClass}
use Rattle.mc_segment.specs.ClassState.{opened}
use Rattle.mc_stripe.specs.Plan.{visible_row}
use Rattle.mc_pull.specs.Rounds.{rounds}
use Rattle.mc_crawl.specs.Snapshot.{links_of}
use Rattle.mc_store.specs.{Accounts.Stretch, Callers.HasNoneOf, Calls.IsJuggleCut, Commands.LeadsUp, Crawls.AreCountedFirst, Crawls.AreLinksCounted}
use Rattle.mc_store.specs.{Hits.AreAdvanced, Reached.IsStateBetween, Locked.setting_of, Made.HasNoneMadeBy, Sides.class_told}
use Rattle.mc_store.specs.Searches.{IsSearchBroken, Searcher, rounds_in, searcher}
use Rattle.mc_driver.specs.{Noted.stripe_with, Searched.NotesSearchFor, Searched.with_stripe}

-- a class's history has, in this stretch, a search for a chunk by this call that a fault broke off, by states as in `NotesSearch`
pub record NotesCutSearch (by : Searcher) (class : ClassNo) (older newer : ℕ → List StripeEvent) (history : List ClassEvent) (stretch : Stretch) : Type 0 where
  pub before : List ClassEvent
  pub searched : List ClassEvent
  pub broken : IsSearchBroken (rounds_in by class) by.number (IsStateBetween by.config.stripes older newer) before searched
  pub from_is : stretch.from ≡ length before
  pub until_is : stretch.until ≡ length searched
  pub begins : IsPrefix searched history

-- a command's stretch of a search is empty, or one search in the class of which it needs a new chunk, which a fault may have broken off
abbrev pub NotesSearchUpTo : Searcher → Need → (older newer : ℕ → List StripeEvent) → (ClassNo → List ClassEvent) → Stretch → Type 0
NotesSearchUpTo by need older newer classes stretch =
    NotesSearchFor by need older newer classes stretch
    ⊎ ((class : ClassNo) × (need ≡ Fresh class) × (IsClass (setting_of by.config) class → NotesCutSearch by class older newer (classes class) stretch))

-- the history of the stripe with this number has the beginning of a command after what was seen of it: older events, none of them
-- of this call, then nothing, or just what leads up to the command. The command searched for a chunk at most once, by states as in
-- `NotesCommand`
pub record NotesCommandCut (config : Config) (number : ℕ) (seen history : ℕ → List StripeEvent) (classes : ClassNo → List ClassEvent) (who : Who)
    (command : Command) (moment : ℕ) : Type 0 where
  pub older : List StripeEvent
  pub made : List StripeEvent
  pub behind : List StripeEvent
  pub past : IsPrefix (seen number) older
  pub first : HasNoneOf who older
  pub led_up : (made ≡ []) ⊎ LeadsUp config who command moment (stripe_with config number older) made
  pub split : history number ≡ (older ++ made) ++ behind
  pub stretch : Stretch
  pub search : NotesSearchUpTo (searcher config number who moment) (visible_row (stripe_with config number older) command moment).need
      (with_stripe number older seen) history classes stretch

-- a class's history has the beginning of a call's juggling after what was seen of it and older events, none of them of this call: the
-- moves of at most 256 hits, and then nothing, or surveys and walks that a fault broke off. A stripe that these reached was as it was
-- after `older`, which was seen of it, and by `newer`
pub record NotesJugglingCut (config : Config) (older newer : ℕ → List StripeEvent) (seen history : List ClassEvent) (who : Who) (class : ClassNo) (moment : ℕ)
    : Type 0 where
  pub before : List ClassEvent
  pub past : IsPrefix seen before
  pub first : HasNoneMadeBy who before
  pub hits : List Hit
  pub few : length hits ≤ 256
  pub advanced : List ClassEvent
  pub moved : AreAdvanced (IsStateBetween config.stripes older newer) (rounds (opened config class) who moment config) hits before advanced
  pub after : List ClassEvent
  pub cut : (after ≡ advanced) ⊎ ((fault : Fault) × IsJuggleCut (IsStateBetween config.stripes older newer) (rounds (opened config class) who moment config)
      fault advanced after)
  pub begins : IsPrefix after history

-- a class's history has the beginning of a call's crawl: none or not all of the entries at one point after what was seen, counted one
-- by one, each in its stretch of the history, and by the item that its stripe had after `older`, which was seen of it, and by `newer`
pub record NotesCrawlingCut (config : Config) (older newer : ℕ → List StripeEvent) (seen history : List ClassEvent) (who : Who) (class : ClassNo) (moment : ℕ)
    : Type 0 where
  pub at : List ClassEvent
  pub past : IsPrefix seen at
  pub links : List Link
  pub some : AreCountedFirst links (links_of (record (opened config class) { history = at }))
  pub stretches : List Stretch
  pub histogram : Histogram
  pub end : List ClassEvent
  pub counted : AreLinksCounted config class older newer (class_told at) (class_told end) who moment links stretches no_counts histogram
  pub begins : IsPrefix end history
