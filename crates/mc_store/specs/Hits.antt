-- The hits that a caller's calls offer to the queues of classes, and those that they take from them and advance (own).
use Rattle.std.specs.Prelude.{◌≡◌, ◌<◌, ◌≤◌, ◌-◌, ◌++◌, ◌∷◌, ◌⊎◌, ℕ, List, [], Bool, Option, IsSomeAnd, length}
use Rattle.std.specs.List.{Contains}
use Rattle.mc_item.specs.declared.{class_event.ClassEvent.ClassEvent, command.Command.Command, config.Config.Config, item.ClassNo.ClassNo, item.Link.Link}
use Rattle.mc_item.specs.declared.{item.Who.Who, reply.Reply.Reply, reply.Room.Room, stripe_event.StripeEvent.StripeEvent}
use Rattle.mc_item.specs.declared.stripe_event.StripeEvent.TheVariants as events
use Rattle.atomic_table.specs.Seated.{TableId}
use Rattle.mc_evidence.specs.Setting.{IsClass, site_in}
use Rattle.mc_board.specs.Histories.{list_at}
use Rattle.mc_board.specs.declared.rule.Sight.{Sight}
use Rattle.mc_hits.specs.Views.{HandsView, hit_of, hits_at, with_hit}
use Rattle.mc_hits.specs.declared.rule.Hit.{Hit}
use Rattle.mc_stripe.specs.declared.trying.Turn.{Turn}
use Rattle.mc_stripe.specs.StripeState.{Stripe}
use Rattle.mc_pull.specs.{Advance.IsAdvance, Rounds.Rounds}
use Rattle.mc_pull.specs.declared.looking.Answer.{Answer}
use Rattle.mc_store.specs.Locked.{HasBegunAs, setting_of}
use Rattle.mc_store.specs.{Callers.juggling_of, Headline.answered_did, Passes.CallerView, Reached.AreJudgedBy, Sides.ClassSide, Sides.stripe_told}
use Rattle.mc_store.specs.Waking.{MakesActive}

-- the queue of a class
abbrev pub queue_of : ClassNo → ℕ
queue_of class = class.0 - 1

-- a call of this caller may work on a class and its queue: the class is of the store and has seen that just this call began, and the
-- hands are for the store's queues
pub record MayUpkeep (config : Config) (tables : List TableId) (class : ClassSide) (turn : Turn) (hands : HandsView) (caller : CallerView) : Type 0 where
  pub of : IsClass (setting_of config) class.class.number
  pub begun : HasBegunAs config class.sight turn.who turn.moment (juggling_of class.class.number turn.moment)
  pub tables_are : hands.tables ≡ tables
  pub number : turn.who.caller ≡ caller.number

-- the hands after a hit was offered to a queue
abbrev pub with_offer : HandsView → ℕ → Hit → HandsView
with_offer hands queue hit = record hands { offers = with_hit hands.offers queue hit }

-- the hands after a hit was taken from a queue
abbrev pub with_taking : HandsView → ℕ → Hit → HandsView
with_taking hands queue hit = record hands { takings = with_hit hands.takings queue hit }

-- the hands are unchanged, or they offered one hit: this turn's, with the number of the woken item's link, to the item's class
abbrev pub OffersOne : ℕ → Option Link → HandsView → HandsView → Type 0
OffersOne turn woken old new = (new ≡ old) ⊎ IsSomeAnd woken (λ link. new ≡ with_offer old (queue_of link.class) (hit_of old.caller turn link.number))

-- a command offered one hit: its event, the last that is now seen of its stripe, made an item ACTIVE, and the caller's offers to the
-- queue of that item's class gained the hit of this turn, with the number of the item's link
pub record IsOffered (config : Config) (number : ℕ) (after : Sight) (who : Who) (command : Command) (moment : ℕ) (old new : HandsView) : Type 0 where
  pub before : List StripeEvent
  pub reply : Reply
  pub room : Room
  pub link : Link
  pub seen : list_at after.seen number ≡ stripe_told (before ++ events.Did (answered_did who command moment reply room) ∷ [])
  pub woke : MakesActive (site_in (setting_of config) number) before (answered_did who command moment reply room) link
  pub hands : new ≡ with_offer old (queue_of link.class) (hit_of who.caller who.turn link.number)

-- these hits were taken from a queue, one after the other, and the caller had taken none of them before
abbrev pub AreTaken : ℕ → HandsView → List Hit → HandsView → Type 0
AreTaken queue old [] new = new ≡ old
AreTaken queue old (hit ∷ hits) new = ¬ (Contains (hits_at old.takings queue) hit) × AreTaken queue (with_taking old queue hit) hits new

-- a call took at most 256 hits from a queue, and nothing else of its caller's hands has changed
pub record Takes (queue : ℕ) (old new : HandsView) : Type 0 where
  pub hits : List Hit
  pub taken : AreTaken queue old hits new
  pub few : length hits ≤ 256

-- a hit of the entry with this number took a class from one history to another, by states of stripes of which `States` holds
abbrev pub IsAdvancedWith : (Stripe → Type 0) → Rounds → ℕ → (before after : List ClassEvent) → (moved : Bool) → Type 0
IsAdvancedWith States r number before after moved = (answers : List Answer) × IsAdvance r number before answers after moved × AreJudgedBy States answers

-- these hits, in turn, took a class from one history to another, by states of stripes of which `States` holds
abbrev pub AreAdvanced : (Stripe → Type 0) → Rounds → List Hit → (before after : List ClassEvent) → Type 0
AreAdvanced States r [] before after = after ≡ before
AreAdvanced States r (hit ∷ hits) before after =
    (mid : List ClassEvent) × (moved : Bool) × IsAdvancedWith States r hit.number before mid moved × AreAdvanced States r hits mid after

-- a call took at most 256 hits from a class's queue and advanced them all: the class went from one history to the other
pub record IsAdvancedBy (States : Stripe → Type 0) (r : Rounds) (old new : HandsView) (before after : List ClassEvent) : Type 0 where
  pub hits : List Hit
  pub taken : AreTaken (queue_of r.class.number) old hits new
  pub few : length hits ≤ 256
  pub advanced : AreAdvanced States r hits before after

-- a call was broken off by a fault at a hit that it had taken: all hits before it were advanced, and no other was taken
pub record IsAdvancedTill (States : Stripe → Type 0) (r : Rounds) (old new : HandsView) (before after : List ClassEvent) : Type 0 where
  pub hits : List Hit
  pub last : Hit
  pub taken : AreTaken (queue_of r.class.number) old (hits ++ last ∷ []) new
  pub few : length hits < 256
  pub advanced : AreAdvanced States r hits before after
