-- The one search for a chunk of a command, in its class's history (own).
use Rattle.std.specs.Prelude.{ℕ, ◌≡◌, ◌≤◌, ◌⊎◌, List, [], ◌∷◌, ◌++◌, if◌then◌else◌, length, nat_eq}
use mathlib.Core.List.{IsPrefix}
use Rattle.mc_item.specs.declared.{answer.Need.Need, answer.Need.TheVariants.Fresh, class_event.ClassEvent.ClassEvent, item.ClassNo.ClassNo}
use Rattle.mc_item.specs.declared.stripe_event.StripeEvent.{StripeEvent}
use Rattle.mc_evidence.specs.Setting.{IsClass}
use Rattle.mc_segment.specs.ClassCalls.{refused_event}
use Rattle.mc_store.specs.{Accounts.Stretch, Locked.setting_of, Reached.IsStateBetween, Searches.IsSearchedOnce, Searches.Searcher, Searches.rounds_in}

-- these histories of stripes, but with this one for the stripe with this number
abbrev pub with_stripe : ℕ → List StripeEvent → (ℕ → List StripeEvent) → ℕ → List StripeEvent
with_stripe number history histories n = if nat_eq n number then history else histories n

-- a class's history has, in this stretch, one search for a chunk by this call, of at most ten rounds, and then a refusal if it is noted.
-- Each answer judged by a state that its stripe had after all that `older` has of it, and of which `newer` has the history. Whenever
-- the call's own stripe was asked for, it answered and had the entry's item
pub record NotesSearch (by : Searcher) (class : ClassNo) (older newer : ℕ → List StripeEvent) (history : List ClassEvent) (stretch : Stretch) : Type 0 where
  pub before : List ClassEvent
  pub searched : List ClassEvent
  pub once : IsSearchedOnce (rounds_in by class) by.number (IsStateBetween by.config.stripes older newer) before searched
  pub refusal : List ClassEvent
  pub refusal_is : (refusal ≡ []) ⊎ (refusal ≡ refused_event by.who ∷ [])
  pub from_is : stretch.from ≡ length before
  pub until_is : stretch.until ≡ length (searched ++ refusal)
  pub begins : IsPrefix (searched ++ refusal) history

-- a command's stretch of a search is empty, as there was none or it left no event, or one search in the class of which it needs a new
-- chunk
abbrev pub NotesSearchFor : Searcher → Need → (older newer : ℕ → List StripeEvent) → (ClassNo → List ClassEvent) → Stretch → Type 0
NotesSearchFor by need older newer classes stretch =
    (stretch.until ≤ stretch.from)
    ⊎ ((class : ClassNo) × (need ≡ Fresh class) × (IsClass (setting_of by.config) class → NotesSearch by class older newer (classes class) stretch))
