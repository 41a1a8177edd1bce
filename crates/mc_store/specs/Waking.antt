-- Which item a command's hit made ACTIVE (own).
use Rattle.std.specs.Prelude.{◌≡◌, List, Option, None, Result, Ok, Err, IsSomeAnd, true, false}
use Rattle.mc_item.specs.{Command.key_of, Stripe.cache_after, Stripe.cache_of}
use Rattle.mc_item.specs.declared.{answer.Site.Site, fault.Fault.Fault, item.Link.Link, reply.Reply.Reply, stripe_event.Did.Did}
use Rattle.mc_item.specs.declared.stripe_event.StripeEvent.{StripeEvent}
use Rattle.mc_item.specs.declared.stripe_event.StripeEvent.TheVariants as events
use Rattle.mc_pull.specs.declared.attempting.Replied.{Replied}

-- a command's event, after the events `before` of its stripe, made the item of its key ACTIVE, which it wasn't; this is the item's link
pub record MakesActive (site : Site) (before : List StripeEvent) (did : Did) (link : Link) : Type 0 where
  pub was : IsSomeAnd ((cache_of site before).items (key_of did.command)) (λ item. (item.link ≡ link) × (item.marks.active ≡ false))
  pub is : IsSomeAnd ((cache_after site (cache_of site before) (events.Did did)).items (key_of did.command))
      (λ item. (item.link ≡ link) × (item.marks.active ≡ true))

-- the reply of a command, or its fault
abbrev pub reply_in : Result Replied Fault → Result Reply Fault
reply_in (Ok replied) = Ok replied.reply
reply_in (Err fault) = Err fault

-- the link of the item that a command made ACTIVE, if it did
abbrev pub woken_in : Result Replied Fault → Option Link
woken_in (Ok replied) = replied.woken
woken_in (Err fault) = None
