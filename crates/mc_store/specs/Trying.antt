-- One try of a command under locks (own).
use Rattle.std.specs.Prelude.{◌≡◌, ◌++◌, List, ◌∷◌, [], Bool, true, false, Result, Ok, Err, length}
use Rattle.mc_item.specs.Command.{key_of}
use Rattle.mc_item.specs.declared.{command.Command.Command, config.Config.Config, fault.Fault.Fault, item.ClassNo.ClassNo, item.Link.Link, reply.Room.Room}
use Rattle.mc_segment.specs.ClassState.{with_room}
use Rattle.mc_stripe.specs.{StripeState.Stripe, Trying.item_of, Trying.row_at, Wanting.IsWanting, Wanting.Uses}
use Rattle.mc_stripe.specs.declared.{fate.Fate.Fate, wanting.Given.Given, trying.Turn.Turn}
use Rattle.mc_pull.specs.declared.attempting.Tried.{Tried}
use Rattle.mc_pull.specs.declared.attempting.Tried.TheVariants as tried
use Rattle.mc_pull.specs.Perform.{call}
use Rattle.mc_store.specs.Accounts.{IsOfBurial, IsOfStretch, IsOfTry, StillCalls, Stretch}
use Rattle.mc_store.specs.{Callers.answered_at, Passes.CallerView}
use Rattle.mc_store.specs.Performing.{IsMadeOnStripe}
use Rattle.mc_store.specs.Sides.{ClassSide, StripeSide, stripe_sight}
use Rattle.mc_pull.specs.declared.attempting.Replied.{Replied}

-- whether a try made its command
abbrev pub is_made_of : Tried → Bool
is_made_of (tried.Made replied) = true
is_made_of (tried.Wants want) = false

-- whether a try made its command, if it may also have failed
abbrev pub is_made : Result Tried Fault → Bool
is_made (Ok t) = is_made_of t
is_made (Err fault) = false

-- a command's caller goes on in the command's turn, and its account gained only what a command on this stripe may make without a
-- search
abbrev pub StillTries : Config → Turn → (own own_new : StripeSide) → (caller caller_new : CallerView) → Type 0
StillTries config turn own own_new = StillCalls (IsOfTry config own.stripe.site.stripe) turn.who.turn (stripe_sight own) (stripe_sight own_new)

-- a command's caller goes on in the command's turn, and its account gained only what the burial of the dead item with this link
-- may make
abbrev pub StillBuries : Config → Link → Turn → (own own_new : StripeSide) → (caller caller_new : CallerView) → Type 0
StillBuries config link turn own own_new =
    StillCalls (IsOfBurial config own.stripe.site.stripe link) turn.who.turn (stripe_sight own) (stripe_sight own_new)

-- a command's caller goes on in the command's turn, and its account gained only what a search in this stretch of a class may make
abbrev pub StillSearches : Config → ClassNo → Stretch → Turn → (own own_new : StripeSide) → (caller caller_new : CallerView) → Type 0
StillSearches config class stretch turn own own_new =
    StillCalls (IsOfStretch config class stretch) turn.who.turn (stripe_sight own) (stripe_sight own_new)

-- the caller, when it has noted that its command is answered by the next event of this stripe
abbrev pub noted_on : Stripe → CallerView → CallerView
noted_on s caller = record caller { calls = caller.calls ++ answered_at s.site.stripe (length s.history) ∷ [] }

-- a command was made on its stripe with what it was given, and its caller has noted the place of the answer, and entered its events
pub record IsMadeBy (config : Config) (own own_new : StripeSide) (caller caller_new : CallerView) (made : Command) (turn : Turn) (given : Given)
    (replied : Replied) : Type 0 where
  pub room : Room
  pub fate : Fate
  pub uses : Uses given (key_of made) (item_of own.stripe made) turn.moment (row_at own.stripe made turn.moment) room fate
  pub made_is : IsMadeOnStripe own.stripe own_new.stripe (call turn.who made turn.moment room) replied
  pub noted : StillTries config turn own own_new (noted_on own.stripe caller) caller_new

-- the locked classes are as they were, but for the memory that their histories have reserved
abbrev pub Stay : List ClassSide → List ClassSide → Type 0
Stay [] [] = Unit {0}
Stay [] (d ∷ ds) = ⊥
Stay (c ∷ cs) [] = ⊥
Stay (c ∷ cs) (d ∷ ds) = (d.class ≡ with_room c.class d.class.room) × Stay cs ds

-- the outcome of a try under locks: the command was made, or it wants something and nothing happened
abbrev pub IsTriedUnder : Config → (own own_new : StripeSide) (caller caller_new : CallerView) → Command → Turn → Given → (cs ds : List ClassSide)
    → Tried → Type 0
IsTriedUnder config own own_new caller caller_new command turn given cs ds (tried.Made replied) =
    IsMadeBy config own own_new caller caller_new command turn given replied
IsTriedUnder config own own_new caller caller_new command turn given cs ds (tried.Wants want) =
    (own_new.stripe.history ≡ own.stripe.history) × StillTries config turn own own_new caller caller_new × Stay cs ds
    × IsWanting given (key_of command) (item_of own.stripe command) turn.moment (row_at own.stripe command turn.moment) want
