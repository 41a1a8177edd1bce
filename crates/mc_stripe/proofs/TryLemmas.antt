-- Lemmas for a try that made its command.
use Rattle.std.proofs.Common.{ℕ, ◌≡◌, ◌<◌, ◌+◌, ◌++◌, ◌∷◌, [], List, length, refl, ap, ◌∙◌, subst}
use Rattle.std.specs.Prelude.{Option}
use Rattle.mc_item.specs.{Answer.Row, Answer.row_of, Cache.changed, Cache.versions_of, Command.key_of, Measure.stripe_of}
use Rattle.mc_item.specs.Stripe.{Fits, IsAlive, cache_of}
use Rattle.mc_item.specs.declared.{answer.Site.Site, command.Command.Command, item.Item.Item, item.Who.Who, reply.Reply.Reply, reply.Room.Room}
use Rattle.mc_item.specs.declared.{stripe_event.StripeEvent.StripeEvent}
use Rattle.mc_item.specs.declared.stripe_event.StripeEvent.TheVariants as events
use Rattle.mc_stripe.specs.{StripeState.IsKept, Trying.IsMade, Trying.Puts, Wanting.Uses}
use Rattle.mc_stripe.specs.declared.{fate.Fate.Fate, wanting.Given.Given}
use Rattle.mc_stripe.proofs.StateLemmas.{command_kept}

-- a command that was made by its row, in a room that fits
pub tried_kept : (given : Given) (site : Site) (limit versions added : ℕ) (history later : List StripeEvent) (items reserved now : List ℕ
    → Option Item) (who : Who) (command : Command) (key : List ℕ) (moment : ℕ) (row : Row) (room : Room) (reply : Reply) (fate : Fate)
    → IsKept site limit history versions items → length history < limit → ((q : List ℕ) → reserved q ≡ items q)
    → key ≡ key_of command → stripe_of key site.stripes ≡ record { 0 = site.stripe }
    → row ≡ row_of site versions (reserved key) command moment
    → IsMade given reserved now key row moment room reply fate → Fits row.need room history
    → added ≡ versions_of (row.answer room).change
    → later ≡ history ++ events.Did (record { who = who; command = command; moment = moment; reply = reply; room = room }) ∷ []
    → IsKept site limit later (versions + added) now
tried_kept given site limit versions added history later items reserved now who command key moment row room reply fate kept few same key_is stripe row_is made fits added_is later_is =
    let cache = cache_of site history in
    let item_is : reserved key ≡ cache.items (key_of command) = same key ∙ kept.items_are key ∙ ap cache.items key_is in
    let fits_row = subst (λ (r : Row). Fits r.need room history) row_is fits in
    let fits_here = subst (λ (n : ℕ). Fits (row_of site n (reserved key) command moment).need room history) kept.versions_are fits_row in
    command_kept site limit history later versions added items reserved now who command moment room ((row_of site versions (reserved key) command moment).answer room) key (reserved key)
    kept few (subst (λ (k : List ℕ). stripe_of k site.stripes ≡ record { 0 = site.stripe }) key_is stripe)
    (subst (λ (o : Option Item). IsAlive o moment) item_is made.uses.alive)
    (subst (λ (o : Option Item). Fits (row_of site cache.versions o command moment).need room history) item_is fits_here)
    same key_is refl refl
    (subst (λ (r : Row). Puts reserved now key (changed (reserved key) (r.answer room).change)) row_is made.items)
    (added_is ∙ ap (λ (r : Row). versions_of (r.answer room).change) row_is)
    (later_is ∙ ap (λ (r : Reply). history ++ events.Did (record { who = who; command = command; moment = moment; reply = r; room = room }) ∷ []) (made.reply_is ∙ ap (λ (r : Row). (r.answer room).reply) row_is))

-- what was used, said of what is equal
pub uses_at : (given : Given) (key k : List ℕ) (found o : Option Item) (moment : ℕ) (row r : Row) (room : Room) (fate : Fate) → key ≡ k → found ≡ o → row ≡ r
    → Uses given key found moment row room fate → Uses given k o moment r room fate
uses_at given key k found o moment row r room fate key_is found_is row_is uses =
    subst (λ (x : Row). Uses given k o moment x room fate) row_is
    (subst (λ (x : Option Item). Uses given k x moment row room fate) found_is (subst (λ (x : List ℕ). Uses given x found moment row room fate) key_is uses))
