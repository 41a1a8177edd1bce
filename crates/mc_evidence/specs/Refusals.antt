-- What comes before a refusal: the call has taken or moved an entry, or none near a tail had a key of its own stripe.
-- It is a fact about walks. This crate only proves that it stays true as more is seen.
use Rattle.std.specs.Prelude.{ℕ, ◌≡◌, ◌≢◌, ◌⊎◌, ◌<◌, List, IfSome}
use Rattle.mc_item.specs.Command.{key_of}
use Rattle.mc_item.specs.declared.{answer.Site.Site, class_event.ClassEvent.ClassEvent, item.ClassNo.ClassNo, item.Who.Who, lists.Entry.Entry}
use Rattle.mc_item.specs.declared.{stripe_event.Did.Did}
use Rattle.mc_item.specs.declared.class_event.ClassEvent.TheVariants as entries
use Rattle.mc_item.specs.declared.reply.Room.TheVariants as rooms
use Rattle.mc_rule.specs.{Belonging.IsEntryOf, Lists.from_tail, Lists.lists_of, Pairs.IsKeyOf, Pairs.IsRefusal, Places.Has}

-- none of the five entries nearest a list's tail has a key of the stripe
abbrev pub NoneNear : Site → List Entry → Type 0
NoneNear site es = (j : ℕ) → j < 5 → IfSome (from_tail es j) (λ e. IsKeyOf site e.key → ⊥)

-- in these events a call has evicted or moved an entry, or reclaimed one with another key
abbrev pub HasTried : List ClassEvent → Who → List ℕ → Type 0
HasTried behind who key =
    Has entries.Evicted behind (λ b e. e.who ≡ who)
    ⊎ (Has entries.Shifted behind (λ b e. e.who ≡ who)
    ⊎ Has entries.Reclaimed behind (λ b e. (e.who ≡ who) × ((other : List ℕ) × IsEntryOf b e.number other × (other ≢ key))))

-- a refusal that a command cites is in the class's history, after the call had tried, or with none of its stripe near the tails
abbrev pub WasTried : Site → ClassNo → List ClassEvent → Did → Type 0
WasTried site class history did =
    (place : ℕ) → did.room ≡ rooms.Refused class place → Has entries.Refused history (λ behind e. IsRefusal class did behind e
    × (HasTried behind did.who (key_of did.command) ⊎ (NoneNear site (lists_of behind).cold × NoneNear site (lists_of behind).hot)))
