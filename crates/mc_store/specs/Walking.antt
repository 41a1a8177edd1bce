-- What a walk asks of a class's tokens, which are lent apart from the class, and what it leaves of them (own).
use Rattle.std.specs.Prelude.{◌≡◌, ℕ, List, length, None, Some}
use Rattle.atomic_table.specs.Seated.{TableId}
use Rattle.mc_item.specs.declared.{class_event.ClassEvent.ClassEvent, config.Config.Config, item.ClassNo.ClassNo, item.Who.Who}
use Rattle.mc_board.specs.{Histories.Grows, Histories.with_seen, Views.OwnerView, Views.SeenView}
use Rattle.mc_board.specs.declared.rule.Sight.{Sight}
use Rattle.mc_segment.specs.ClassState.{ClassView}
use Rattle.mc_stripe.specs.StripeState.{Stripe}
use Rattle.mc_pull.specs.declared.{context.Context.Context, looking.Judged.Judged, looking.Look.Look}
use Rattle.mc_pull.specs.{Growth.GainsEvents, Looks.IsJudgedBy, Looks.events_if, Lone.StripeGrows, Settled.class_with, Walker.Walker}
use Rattle.mc_pull.specs.Question.{HasKeyOf, IsClassOf, MayJudge, Question, question_of}
use Rattle.mc_store.specs.{Accounts.IsOfStretch, Accounts.IsOfWalk, Accounts.StillCalls, Looked.IsKnown, Locked.HasBegun, Locked.class_lock}
use Rattle.mc_store.specs.{Made.WalksOwn}
use Rattle.mc_store.specs.{Passes.CallerView, Reached.IsSeenState, Serving.IsServed, Sides.ClassSide, Sides.class_told}

-- what was seen of all locks, with this whole history of a class
abbrev pub with_class : Config → ClassNo → List ClassEvent → Sight → Sight
with_class config class history sight = with_seen sight (class_lock config class) (class_told history)

-- what a class has seen of all locks, with all of its own history
abbrev pub class_sight : Config → ClassSide → Sight
class_sight config c = with_class config c.class.number c.class.history c.sight

-- a walk of this caller's call goes on in a class: from what was seen and the class's history to what was seen then and its history
-- then, the account gained only what the walk may make
abbrev pub StillWalks : Config → ClassNo → (turn : ℕ) → (before after : Sight) → (history history_new : List ClassEvent) → (caller caller_new : CallerView)
    → Type 0
StillWalks config class turn before after history history_new =
    StillCalls (IsOfWalk config class) turn (with_class config class history before) (with_class config class history_new after)

-- the same, from a place of the class's history on: there is no event of the class before it
abbrev pub StillWalksFrom : Config → ClassNo → (from turn : ℕ) → (before after : Sight) → (history history_new : List ClassEvent)
    → (caller caller_new : CallerView) → Type 0
StillWalksFrom config class from turn before after history history_new =
    StillCalls (IsOfStretch config class (record { from = from; until = length history_new })) turn (with_class config class history before)
    (with_class config class history_new after)

-- a call of this caller may walk in a class: the class's tokens serve it for the call, and have seen that the call began
pub record MayWalkWith (board : TableId) (config : Config) (caller : CallerView) (owner : OwnerView) (seen : SeenView) (c : ClassView) (who : Who)
    (moment : ℕ) : Type 0 where
  pub served : IsServed board config who owner seen c
  pub begun : HasBegun config seen.sight who moment
  pub number : who.caller ≡ caller.number

-- a call may walk in a class in this context: as in `MayWalkWith`, and the context is of the call, and of the store, as the class is
pub record MayTry (board : TableId) (config : Config) (context : Context) (caller : CallerView) (owner : OwnerView) (seen : SeenView) (c : ClassView)
    (who : Who) (moment : ℕ) : Type 0 where
  pub class : IsClassOf context.config.now c
  pub names : context.config.now ≡ config
  pub asks : context.turn.who ≡ who
  pub at : context.turn.moment ≡ moment
  pub walks : MayWalkWith board config caller owner seen c who moment

-- what a walk of this call leaves: the class's tokens serve it as it is now, the board has all of it, and it gained only events of the
-- call
pub record LeavesTokens (board : TableId) (config : Config) (who : Who) (moment : ℕ) (before : Sight) (c : ClassView) (owner : OwnerView) (seen : SeenView)
    (c_new : ClassView) : Type 0 where
  pub grows : GainsEvents c c_new
  pub served : IsServed board config who owner seen c_new
  pub told : owner.history ≡ class_told c_new.history
  pub walked : WalksOwn who moment before seen.sight c.history c_new.history

-- what a search of this walker leaves: the class's tokens serve it as it is now, and its stripe and the class gained only the
-- walker's events
pub record LeavesSearch (board : TableId) (config : Config) (w : Walker) (before : Sight) (c : ClassView) (s : Stripe) (owner : OwnerView) (seen : SeenView)
    (c_new : ClassView) (s_new : Stripe) : Type 0 where
  pub served : IsServed board config w.who owner seen c_new
  pub stripe : StripeGrows w s s_new
  pub walked : WalksOwn w.who w.moment before seen.sight c.history c_new.history

-- a look of this caller's call may be judged with a stripe under locks: the look is of the store, its class's tokens serve the class
-- for the call, its question may be put, the stripe has seen that the call began, and the look isn't judged yet
pub record MayJudgeUnder (board : TableId) (config : Config) (caller : CallerView) (owner : OwnerView) (seen : SeenView) (look : Look)
    (stripe : Sight) : Type 0 where
  pub of : look.ask.config.now ≡ config
  pub number : look.ask.who.caller ≡ caller.number
  pub served : IsServed board config look.ask.who owner seen look.class.now
  pub may : MayJudge look.class.now (question_of look.ask)
  pub begun : HasBegun config stripe look.ask.who look.ask.moment
  pub once : look.done ≡ None

-- an entry was judged with its key's stripe: the class gained just the events of what was done, which follows from this state of the
-- stripe, and if the entry has a key of the stripe, the stripe has its item
pub record IsJudgedUnder (config : Config) (s : Stripe) (q : Question) (c c_new : ClassView) (j : Judged) : Type 0 where
  pub class : c_new ≡ class_with c (events_if c q (Some j)) c_new.room
  pub reached : IsJudgedBy (λ state. state ≡ s) config (record { 0 = s.site.stripe }) c q j
  pub known : HasKeyOf (record { 0 = s.site.stripe }) config c q → IsKnown c s q j

-- what judging leaves: the class's tokens serve it as it is now and have seen no less, with the stripe as it was; and the stripe gained
-- only the walker's events
pub record LeavesJudged (board : TableId) (config : Config) (w : Walker) (before : Sight) (s : Stripe) (owner : OwnerView) (seen : SeenView) (c : ClassView)
    (s_new : Stripe) : Type 0 where
  pub served : IsServed board config w.who owner seen c
  pub stripe : StripeGrows w s s_new
  pub sees : Grows before seen.sight
  pub state : IsSeenState config.stripes before seen.sight s
