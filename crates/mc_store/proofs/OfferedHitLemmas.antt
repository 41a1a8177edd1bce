-- The class of an item that a command made ACTIVE is one of the store's.
use Rattle.std.proofs.Common.{◌≡◌, ◌++◌, ◌∷◌, [], List, Result, Ok, Err, true, sym, ap, ◌∙◌, subst}
use Rattle.std.specs.Prelude.{IfSome, IsSomeAnd, None, Option, Some}
use Rattle.atomic_table.specs.Seated.{TableId}
use Rattle.mc_item.specs.{Cache.Cache, Command.key_of, Stripe.cache_after, Stripe.cache_of}
use Rattle.mc_item.specs.declared.{answer.Site.Site, command.Command.Command, config.Config.Config, fault.Fault.Fault, item.Link.Link}
use Rattle.mc_item.specs.declared.{stripe_event.Did.Did, stripe_event.StripeEvent.StripeEvent}
use Rattle.mc_item.specs.declared.stripe_event.StripeEvent.TheVariants as events
use Rattle.mc_item.proofs.StripeLemmas.{cache_of-push}
use Rattle.mc_evidence.specs.Setting.{IsClass}
use Rattle.mc_stripe.specs.StripeState.{Stripe, cache_now}
use Rattle.mc_stripe.specs.declared.trying.Turn.{Turn}
use Rattle.mc_store.specs.{Held.Ends, Locked.IsLockedStripe, Locked.setting_of, Passes.CallerView, Sides.StripeSide, Waking.MakesActive, Waking.woken_in}
use Rattle.mc_pull.specs.declared.attempting.Replied.{Replied}
use Rattle.mc_store.proofs.NeededClassLemmas.{active_class}

-- the cache after one event more
cache_then : (s : Stripe) (site : Site) (history : List StripeEvent) (event : StripeEvent) → s.site ≡ site → s.history ≡ history ++ event ∷ []
    → cache_after site (cache_of site history) event ≡ cache_now s
cache_then s site history event site_is is =
    sym (ap (λ (t : Site). cache_of t s.history) site_is ∙ (ap (λ (h : List StripeEvent). cache_of site h) is ∙ cache_of-push site history event))

pub woken_class : (table : TableId) (config : Config) (own own_new : StripeSide) (caller caller_new : CallerView) (command : Command) (turn : Turn) (r : Result Replied Fault)
    → IsLockedStripe table config own_new → Ends config own own_new caller caller_new command turn r → IfSome (woken_in r) (λ link. IsClass (setting_of config) link.class)
woken_class table config own own_new caller caller_new command turn (Err fault) kept ends = tt
woken_class table config own own_new caller caller_new command turn (Ok replied) kept ends = by replied.woken ends.replied.woken
  where
    history : List StripeEvent
    history = own.stripe.history ++ ends.replied.replied_is.answered.before

    did : Did
    did = record {
      who = turn.who;
      command = command;
      moment = turn.moment;
      reply = ends.replied.replied_is.answered.reply;
      room = ends.replied.replied_is.answered.room;
    }

    by : (woken : Option Link) → IfSome woken (MakesActive own.stripe.site history did) → IfSome woken (λ link. IsClass (setting_of config) link.class)
    by None active = tt
    by (Some link) active =
        active_class table config own_new kept (key_of command) link
        (subst (λ (c : Cache). IsSomeAnd (c.items (key_of command)) (λ item. (item.link ≡ link) × (item.marks.active ≡ true)))
        (cache_then own_new.stripe own.stripe.site history (events.Did did) ends.site.site ends.replied.replied_is.answered.history_is) active.is)
