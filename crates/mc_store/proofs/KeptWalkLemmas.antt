-- What the gates under locks keep before their first visit.
use Rattle.std.proofs.Common.{◌≡◌, ◌≤◌, ℕ, List, length, refl}
use Rattle.mc_item.specs.declared.{class_event.ClassEvent.ClassEvent, config.Config.Config, item.ClassNo.ClassNo, item.Who.Who}
use Rattle.mc_board.specs.Views.{OwnerView}
use Rattle.mc_board.specs.declared.rule.Sight.{Sight}
use Rattle.mc_stripe.specs.StripeState.{Stripe}
use Rattle.mc_pull.specs.{Lone.StripeGrows, Walker.Walker}
use Rattle.mc_pull.specs.declared.looking.Answer.{Answer}
use Rattle.mc_store.specs.{Looked.HasLooked, Looked.IsOfCall, Made.WalksOwn, Passes.CallerView, Reached.GainsAnswers, Walking.StillWalksFrom}
use Rattle.mc_store.proofs.{GateLemmas.grew_itself, GateLemmas.no_shorter, GateLemmas.still_unwalked, OwnEventLemmas.walks_none, ReachedLemmas.answers_none}
use Rattle.mc_store.proofs.VisitedStripeLemmas.{looked_itself}

-- of a gate that only tries
pub kept_first : (config : Config) (class : ClassNo) (who own : Who) (moment time : ℕ) (owner : OwnerView) (sight : Sight) (caller : CallerView) (answers : List Answer) (history : List ClassEvent)
    → (own ≡ own) × (time ≡ time) × WalksOwn who moment sight sight history history × (length owner.history ≤ length owner.history)
    × StillWalksFrom config class (length owner.history) who.turn sight sight history history caller caller × GainsAnswers config.stripes sight sight answers answers
kept_first config class who own moment time owner sight caller answers history = (
  refl,
  refl,
  walks_none who moment sight history,
  no_shorter (length owner.history),
  still_unwalked config class (length owner.history) who.turn sight history caller,
  answers_none config.stripes sight sight answers answers refl,
)

-- of a gate that has one stripe at hand
pub searched_first : (config : Config) (w : Walker) (s : Stripe) (who : Who) (moment : ℕ) (owner : OwnerView) (sight : Sight) (caller : CallerView) (answers : List Answer) (history : List ClassEvent)
    → StripeGrows w s s × (IsOfCall w who moment → IsOfCall w who moment × HasLooked config.stripes w s answers answers history history) × WalksOwn w.who w.moment sight sight history history
    × (length owner.history ≤ length owner.history) × StillWalksFrom config w.class (length owner.history) w.who.turn sight sight history history caller caller
    × GainsAnswers config.stripes sight sight answers answers
searched_first config w s who moment owner sight caller answers history = (
  grew_itself w s,
  λ of. (of, looked_itself config.stripes w s answers history),
  walks_none w.who w.moment sight history,
  no_shorter (length owner.history),
  still_unwalked config w.class (length owner.history) w.who.turn sight history caller,
  answers_none config.stripes sight sight answers answers refl,
)
