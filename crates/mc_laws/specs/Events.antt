-- What the laws of the sequential cache say of events: which key an event names, and which events leave a key alone.
use Rattle.std.specs.Prelude.{ℕ, List, [], ◌∷◌, ◌≢◌}
use Rattle.mc_item.specs.Command.{key_of}
use Rattle.mc_item.specs.declared.stripe_event.StripeEvent.{StripeEvent}
use Rattle.mc_item.specs.declared.stripe_event.StripeEvent.TheVariants as events

-- the key that an event names
abbrev pub key_named : StripeEvent → List ℕ
key_named (events.Did did) = key_of did.command
key_named (events.Lost lost) = lost.key
key_named (events.Cooled cooled) = cooled.key

-- each of these events names another key than this one
abbrev pub AreOfOtherKeys : List ℕ → List StripeEvent → Type 0
AreOfOtherKeys key [] = Unit {0}
AreOfOtherKeys key (e ∷ es) = (key_named e ≢ key) × AreOfOtherKeys key es

-- no command among these events names the key; its item may be lost or cooled
abbrev pub NoneAsks : List ℕ → List StripeEvent → Type 0
NoneAsks key [] = Unit {0}
NoneAsks key (events.Did did ∷ es) = (key_of did.command ≢ key) × NoneAsks key es
NoneAsks key (events.Lost lost ∷ es) = NoneAsks key es
NoneAsks key (events.Cooled cooled ∷ es) = NoneAsks key es
