-- The one search for a chunk that a command may make, and the account of a command that was answered (own).
use Rattle.std.specs.Prelude.{◌≡◌, ◌≤◌, ◌++◌, ◌∷◌, ◌⊎◌, ℕ, Bool, List, [], length}
use mathlib.Core.List.{IsPrefix}
use Rattle.mc_item.specs.declared.{answer.Need.Need, class_event.ClassEvent.ClassEvent, command.Command.Command, config.Config.Config, item.ClassNo.ClassNo}
use Rattle.mc_item.specs.declared.{answer.Need.TheVariants.Fresh, item.StripeNo.StripeNo, item.Who.Who}
use Rattle.mc_board.specs.Histories.{list_at, with_seen}
use Rattle.mc_board.specs.declared.rule.Sight.{Sight}
use Rattle.mc_rule.specs.Lists.{IsFull}
use Rattle.mc_segment.specs.{ClassCalls.refused_event, ClassState.ClassView, ClassState.opened}
use Rattle.mc_stripe.specs.{Plan.visible_row, StripeState.Stripe}
use Rattle.mc_stripe.specs.declared.trying.Turn.{Turn}
use Rattle.mc_pull.specs.{Broken.BreaksRoom, Rounds.IsRoom, Rounds.Rounds, Rounds.rounds, Tried.AreHad}
use Rattle.mc_pull.specs.declared.looking.Answer.{Answer}
use Rattle.mc_store.specs.{Accounts.Enters, Accounts.IsOfCommand, Accounts.Stretch, Locked.class_lock, Passes.PassView, Sides.class_told, Sides.stripe_told}
use Rattle.mc_store.specs.Reached.{AreJudgedBy, IsSeenState}

-- a class was searched for a chunk, from one history to another, in at most ten rounds, and a chunk was found or not. Whenever the
-- search asked for the stripe with this number, the stripe answered and had the entry's item. `States` holds of each state by which
-- an answer judged
pub record IsSearchedWith (r : Rounds) (number : StripeNo) (States : Stripe → Type 0) (before after : List ClassEvent) (found : Bool) : Type 0 where
  pub answers : List Answer
  pub room : IsRoom r before answers after found
  pub had : AreHad number answers
  pub states : AreJudgedBy States answers

-- the same, but a fault broke the search off: fewer than ten rounds were whole
pub record IsSearchBroken (r : Rounds) (number : StripeNo) (States : Stripe → Type 0) (before after : List ClassEvent) : Type 0 where
  pub answers : List Answer
  pub room : BreaksRoom r before answers after
  pub had : AreHad number answers
  pub states : AreJudgedBy States answers

-- a class was searched for a chunk once, whether or not one was found
abbrev pub IsSearchedOnce : Rounds → StripeNo → (Stripe → Type 0) → (before after : List ClassEvent) → Type 0
IsSearchedOnce r number States before after = (found : Bool) × IsSearchedWith r number States before after found

-- a call that may search a class for a chunk, for a key of the stripe with this number
pub record Searcher : Type 0 where
  pub config : Config
  pub number : StripeNo
  pub who : Who
  pub moment : ℕ

-- the searcher with these parts
abbrev pub searcher : Config → ℕ → Who → ℕ → Searcher
searcher config number who moment = record { config = config; number = record { 0 = number }; who = who; moment = moment }

-- the searcher of this turn, for a key of this stripe
abbrev pub searcher_at : Config → Stripe → Turn → Searcher
searcher_at config s turn = searcher config s.site.stripe turn.who turn.moment

-- the rounds of its search in a class
abbrev pub rounds_in : Searcher → ClassNo → Rounds
rounds_in by class = rounds (opened by.config class) by.who by.moment by.config

-- this whole history of a class was seen
abbrev pub HasSeenOf : Config → Sight → ClassNo → List ClassEvent → Type 0
HasSeenOf config sight class history = IsPrefix (class_told history) (list_at sight.seen (class_lock config class))

-- a class has a free chunk as it was, or a call searched it once, by states that stripes had after `earlier` and by `later`, which has
-- what the class then was
abbrev pub IsSearchedIf : Searcher → (earlier later : Sight) → (c c_new : ClassView) → Type 0
IsSearchedIf by earlier later c c_new =
    ((IsFull c_new.chunks c_new.history → ⊥) × (c_new.history ≡ c.history))
    ⊎ (IsSearchedOnce (rounds_in by c.number) by.number (IsSeenState by.config.stripes earlier later) c.history c_new.history
    × HasSeenOf by.config later c.number c_new.history)

-- a stretch of what `later` has of a class's history is one search for a chunk by this call, by states that stripes had after `earlier`
-- and by `later`, and then a refusal, if it is noted
pub record IsOneSearch (by : Searcher) (class : ClassNo) (earlier later : Sight) (stretch : Stretch) : Type 0 where
  pub before : List ClassEvent
  pub searched : List ClassEvent
  pub once : IsSearchedOnce (rounds_in by class) by.number (IsSeenState by.config.stripes earlier later) before searched
  pub refusal : List ClassEvent
  pub refusal_is : (refusal ≡ []) ⊎ (refusal ≡ refused_event by.who ∷ [])
  pub from_is : stretch.from ≡ length before
  pub until_is : stretch.until ≡ length (searched ++ refusal)
  pub seen : HasSeenOf by.config later class (searched ++ refusal)

-- the same of a search that a fault broke off
pub record IsCutSearch (by : Searcher) (class : ClassNo) (earlier later : Sight) (stretch : Stretch) : Type 0 where
  pub before : List ClassEvent
  pub searched : List ClassEvent
  pub broken : IsSearchBroken (rounds_in by class) by.number (IsSeenState by.config.stripes earlier later) before searched
  pub from_is : stretch.from ≡ length before
  pub until_is : stretch.until ≡ length searched
  pub seen : HasSeenOf by.config later class searched

-- a command's stretch of a search is empty, as there was none or it left no event, or one search in the class of which it needs a new
-- chunk
abbrev pub IsSearchFor : Searcher → Need → (earlier later : Sight) → Stretch → Type 0
IsSearchFor by need earlier later stretch =
    (stretch.until ≤ stretch.from) ⊎ ((class : ClassNo) × (need ≡ Fresh class) × IsOneSearch by class earlier later stretch)

-- the same of a command that a fault ended, but that may be a search in this class that the fault broke off
abbrev pub IsSearchUpTo : Searcher → Need → (earlier later : Sight) → Stretch → Type 0
IsSearchUpTo by need earlier later stretch =
    IsSearchFor by need earlier later stretch ⊎ ((class : ClassNo) × (need ≡ Fresh class) × IsCutSearch by class earlier later stretch)

-- what was seen, and the whole history of the searcher's stripe
abbrev pub sight_of : Searcher → Sight → Stripe → Sight
sight_of by sight s = with_seen sight by.number.0 (stripe_told s.history)

-- from one state of its pass to another, the account of a command that was answered gained only what the command may make, with one
-- search at most, by states after all that the pass had seen and its own stripe's history
pub record EntersOnce (by : Searcher) (s : Stripe) (command : Command) (before after : PassView) : Type 0 where
  pub stretch : Stretch
  pub enters : Enters (IsOfCommand by.config s command by.moment stretch) by.who.turn after.sight before.made after.made
  pub search : IsSearchFor by (visible_row s command by.moment).need (sight_of by before.sight s) after.sight stretch
