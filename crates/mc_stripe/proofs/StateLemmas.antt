-- What a stripe keeps, with one event more.
use Rattle.std.proofs.Common.{◌≡◌, ◌+◌, ◌≤◌, ◌<◌, ◌++◌, ◌∷◌, [], ℕ, List, length, length-append, sym, ap, ◌∙◌, subst, arith}
use Rattle.std.specs.Prelude.{Option, Some, None, nat_eq, if◌then◌else◌, IsSomeAnd, true}
use Rattle.std.specs.Cmp.Lexicographic.{pointwise}
use Rattle.mc_item.specs.{Answer.row_of, Cache.Cache, Cache.changed, Cache.versions_of, Cache.answer_of, Cache.after_change, Command.key_of, Measure.stripe_of}
use Rattle.mc_item.specs.Stripe.{cache_of, cache_after, MayHappen, IsAlive, Fits, MayLose, cooled_change}
use Rattle.mc_item.specs.declared.{answer.Answer.Answer, answer.Change.Change, answer.Change.TheVariants.Goes, answer.Site.Site, stripe_event.Lost.Lost}
use Rattle.mc_item.specs.declared.{stripe_event.Cooled.Cooled, command.Command.Command, item.Item.Item, item.Who.Who, reply.Room.Room}
use Rattle.mc_item.specs.declared.{stripe_event.StripeEvent.StripeEvent}
use Rattle.mc_item.specs.declared.stripe_event.StripeEvent.TheVariants as events
use Rattle.mc_item.proofs.StripeLemmas.{cache_of-push, IsLegal-push, versions_of-few}
use Rattle.mc_stripe.specs.StripeState.{IsKept}

-- an event that may happen, with the items and the count that it leaves
pub kept_on : (site : Site) (limit : ℕ) (history later : List StripeEvent) (versions count : ℕ) (items now : List ℕ → Option Item) (e : StripeEvent)
    → IsKept site limit history versions items → MayHappen site (cache_of site history) history e → length history < limit
    → ((q : List ℕ) → now q ≡ (cache_after site (cache_of site history) e).items q) → count ≡ (cache_after site (cache_of site history) e).versions → count ≤ versions + 1
    → later ≡ history ++ e ∷ [] → IsKept site limit later count now
kept_on site limit history later versions count items now e kept may below new_items new_count few is =
    let pushed = cache_of-push site history e in
    let whole : IsKept site limit (history ++ e ∷ []) count now = record {
      legal = IsLegal-push site history e kept.legal may;
      items_are = λ q. new_items q ∙ ap (λ (c : Cache). c.items q) (sym pushed);
      versions_are = new_count ∙ ap (λ (c : Cache). c.versions) (sym pushed);
      few_versions = omega (arith, length-append history (e ∷ []), kept.few_versions);
      within = omega (arith, length-append history (e ∷ []));
      bounds = kept.bounds;
    } in
    subst (λ (h : List StripeEvent). IsKept site limit h count now) (sym is) whole

-- the item under a changed key
pub change_at : (before after_it : List ℕ → Option Item) (cache : Cache) (key : List ℕ) (change : Change)
    → ((q : List ℕ) → before q ≡ cache.items q)
    → ((q : List ℕ) → after_it q ≡ (if pointwise nat_eq key q then changed (before key) change else before q))
    → (q : List ℕ) → after_it q ≡ (after_change cache key change).items q
change_at before after_it cache key change same is q =
    is q ∙ ap (λ (o : Option Item). if pointwise nat_eq key q then changed o change else before q) (same key)
    ∙ ap (λ (o : Option Item). if pointwise nat_eq key q then changed (cache.items key) change else o) (same q)

-- a command that was answered by the row of its key's item
pub command_kept : (site : Site) (limit : ℕ) (history later : List StripeEvent) (versions added : ℕ) (items reserved now : List ℕ → Option Item)
    (who : Who) (command : Command) (moment : ℕ) (room : Room) (answer : Answer) (key : List ℕ) (found : Option Item)
    → IsKept site limit history versions items → length history < limit
    → stripe_of (key_of command) site.stripes ≡ record { 0 = site.stripe }
    → IsAlive ((cache_of site history).items (key_of command)) moment
    → Fits (row_of site (cache_of site history).versions ((cache_of site history).items (key_of command)) command moment).need room history
    → ((q : List ℕ) → reserved q ≡ items q)
    → key ≡ key_of command → found ≡ reserved key
    → answer ≡ (row_of site versions found command moment).answer room
    → ((q : List ℕ) → now q ≡ (if pointwise nat_eq key q then changed (reserved key) answer.change else reserved q))
    → added ≡ versions_of answer.change
    → later ≡ history ++ events.Did (record { who = who; command = command; moment = moment; reply = answer.reply; room = room }) ∷ []
    → IsKept site limit later (versions + added) now
command_kept site limit history later versions added items reserved now who command moment room answer key found kept below stripe alive fits same key_is found_is answer_is now_is added_is later_is =
    let cache : Cache = cache_of site history in
    let item_is : found ≡ (cache_of site history).items (key_of command) =
    found_is ∙ same key ∙ kept.items_are key ∙ ap (cache_of site history).items key_is in
    let same_answer : answer ≡ answer_of site (cache_of site history) command moment room =
    answer_is ∙ ap (λ (n : ℕ). (row_of site n found command moment).answer room) kept.versions_are
    ∙ ap (λ (o : Option Item). (row_of site (cache_of site history).versions o command moment).answer room) item_is in
    let same_items : (q : List ℕ) → reserved q ≡ (cache_of site history).items q = λ q. same q ∙ kept.items_are q in
    let new_items : (q : List ℕ) → now q ≡ (after_change (cache_of site history) (key_of command) (answer_of site (cache_of site history) command moment room).change).items q =
    λ q. change_at reserved now (cache_of site history) key answer.change same_items now_is q
    ∙ ap (λ (k : List ℕ). (after_change (cache_of site history) k answer.change).items q) key_is
    ∙ ap (λ (a : Answer). (after_change (cache_of site history) (key_of command) a.change).items q) same_answer in
    let count_is : versions + added ≡ (cache_of site history).versions + versions_of (answer_of site (cache_of site history) command moment room).change =
    ap (λ (n : ℕ). n + added) kept.versions_are ∙ ap (λ (n : ℕ). (cache_of site history).versions + n) (added_is ∙ ap (λ (a : Answer). versions_of a.change) same_answer) in
    kept_on site limit history later versions (versions + added) items now
    (events.Did (record { who = who; command = command; moment = moment; reply = answer.reply; room = room })) kept
    (record { stripe = stripe; alive = alive; fits = fits; reply = ap (λ (a : Answer). a.reply) same_answer }) below new_items count_is
    (omega (arith, versions_of-few answer.change)) later_is

-- an item that went
pub lost_kept : (site : Site) (limit : ℕ) (history later : List StripeEvent) (versions : ℕ) (items now : List ℕ → Option Item) (lost : Lost)
    → IsKept site limit history versions items → length history < limit → MayLose ((cache_of site history).items lost.key) lost.cause
    → ((q : List ℕ) → now q ≡ (if pointwise nat_eq lost.key q then None else items q)) → later ≡ history ++ events.Lost lost ∷ []
    → IsKept site limit later versions now
lost_kept site limit history later versions items now lost kept below may now_is later_is =
    kept_on site limit history later versions versions items now (events.Lost lost) kept may below
    (change_at items now (cache_of site history) lost.key Goes kept.items_are now_is) (kept.versions_are ∙ omega arith) (omega arith) later_is

-- cooling adds no version
cooled_adds : (n : ℕ) (found : Option Item) → n ≡ n + versions_of (cooled_change found)
cooled_adds n None = omega arith
cooled_adds n (Some item) = omega arith

-- an item that was cooled
pub cooled_kept : (site : Site) (limit : ℕ) (history later : List StripeEvent) (versions : ℕ) (items now : List ℕ → Option Item) (cooled : Cooled)
    → IsKept site limit history versions items → length history < limit → IsSomeAnd ((cache_of site history).items cooled.key) (λ item. item.marks.active ≡ true)
    → ((q : List ℕ) → now q ≡ (if pointwise nat_eq cooled.key q then changed (items cooled.key) (cooled_change (items cooled.key)) else items q)) → later ≡ history ++ events.Cooled cooled ∷ []
    → IsKept site limit later versions now
cooled_kept site limit history later versions items now cooled kept below may now_is later_is =
    let here = kept.items_are cooled.key in
    let same_change : (q : List ℕ) → now q ≡ (if pointwise nat_eq cooled.key q then changed (items cooled.key) (cooled_change ((cache_of site history).items cooled.key)) else items q) =
    λ q. now_is q ∙ ap (λ (o : Option Item). if pointwise nat_eq cooled.key q then changed (items cooled.key) (cooled_change o) else items q) here in
    kept_on site limit history later versions versions items now (events.Cooled cooled) kept may below
    (change_at items now (cache_of site history) cooled.key (cooled_change ((cache_of site history).items cooled.key)) kept.items_are same_change)
    (kept.versions_are ∙ cooled_adds ((cache_of site history).versions) ((cache_of site history).items cooled.key)) (omega arith) later_is
