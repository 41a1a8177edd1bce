-- What stands before a command's answer, and what its key's item and its row are then.
use Rattle.std.proofs.Common.{◌≡◌, ◌++◌, ◌∷◌, [], ◌+◌, ◌≤◌, inl, inr, ℕ, List, Bool, true, false, refl, sym, ap, ◌∙◌, subst, arith, append-nil}
use Rattle.std.specs.Prelude.{◌==◌, Option, Some, None, IsSomeAnd, if◌then◌else◌}
use Rattle.mc_item.specs.{Answer.Row, Answer.row_of, Cache.Cache, Cache.if_alive, Cache.visible_items, Command.key_of, Item.is_dead, Stripe.cache_of, Stripe.IsAlive, Stripe.link_of}
use Rattle.mc_item.specs.declared.{answer.Need.Need, answer.Site.Site, command.Command.Command, config.Config.Config, item.ClassNo.ClassNo, item.Item.Item, item.Link.Link, item.Who.Who, reply.Room.Room}
use Rattle.mc_item.specs.declared.{stripe_event.Cause.TheVariants.Expired, stripe_event.StripeEvent.StripeEvent}
use Rattle.mc_item.specs.declared.answer.Need.TheVariants as needs
use Rattle.mc_item.specs.declared.stripe_event.StripeEvent.TheVariants as events
use Rattle.mc_item.proofs.StripeLemmas.{cache_of-push}
use Rattle.mc_rule.specs.Pairs.{item_after}
use Rattle.mc_evidence.specs.Losses.{AreNoCommands, IsSameItem}
use Rattle.mc_evidence.proofs.{LinkLifeLemmas.after_loss, LossLemmas.was_there}
use Rattle.mc_stripe.specs.{Plan.dead_link, Plan.visible_row, StripeCalls.KeepsSite, StripeState.Stripe, StripeState.cache_now, Trying.item_of, Trying.row_at, Wanting.changes_at, Wanting.links_at}
use Rattle.mc_stripe.specs.declared.fate.Fate.{Fate}
use Rattle.mc_stripe.specs.declared.fate.Fate.TheVariants as fates
use Rattle.mc_pull.specs.{Lone.AreMadeBy, Settled.lost_event, Walker.Walker}
use Rattle.mc_store.specs.Commands.{IsSearch, LeadsUp, burial, walker_in}

-- a walker makes no command
no_commands : (w : Walker) (es : List StripeEvent) → AreMadeBy w es → AreNoCommands es
no_commands w [] made = tt
no_commands w (events.Did did ∷ es) made = absurd made.0
no_commands w (events.Lost lost ∷ es) made = no_commands w es made.1
no_commands w (events.Cooled cooled ∷ es) made = no_commands w es made.1

-- no events have no command
of_none : (es : List StripeEvent) → es ≡ [] → AreNoCommands es
of_none es is = subst AreNoCommands (sym is) tt

-- neither has a search
pub search_no_commands : (config : Config) (who : Who) (moment : ℕ) (need : Need) (walked : List StripeEvent) → IsSearch config who moment need walked → AreNoCommands walked
search_no_commands config who moment (needs.Fresh class) walked search = no_commands (walker_in config who moment class) walked search
search_no_commands config who moment needs.Nothing walked search = of_none walked search
search_no_commands config who moment needs.Same walked search = of_none walked search
search_no_commands config who moment needs.TooLarge walked search = of_none walked search

-- an item that was alive is alive or gone behind events without a command
module _ (site : Site) (key : List ℕ) (moment : ℕ) where
  pub alive_behind : (pre es : List StripeEvent) → AreNoCommands es → IsAlive (item_after site pre key) moment → IsAlive (item_after site (pre ++ es) key) moment
  alive_behind pre es none alive = by (item_after site (pre ++ es) key) refl
    where
      same_alive : (item : Item) (o : Option Item) → IsAlive o moment → IsSomeAnd o (λ before. IsSameItem before item) → is_dead item moment ≡ false
      same_alive item None living there = absurd there
      same_alive item (Some before) living there = ap (λ (x : Item). is_dead x moment) there.1 ∙ living

      by : (o : Option Item) → item_after site (pre ++ es) key ≡ o → IsAlive o moment
      by None is = tt
      by (Some item) is = same_alive item (item_after site pre key) alive (was_there site key item pre es none is)

-- what a dead item's burial leaves under its key, and of the count of versions
module _ (site : Site) (h : List StripeEvent) (who : Who) (key : List ℕ) (moment : ℕ) where
  abbrev lost_history : List StripeEvent
  lost_history = h ++ lost_event who key (Expired moment) ∷ []

  gone : item_after site lost_history key ≡ None
  gone = elim (after_loss site key h (record { who = who; key = key; cause = Expired moment })) [ inl apart ↦ absurd (apart.0 refl) | inr same ↦ same.1 ]

  gone_versions : (cache_of site lost_history).versions ≡ (cache_of site h).versions
  gone_versions =
      let pushed = ap (λ (c : Cache). c.versions) (cache_of-push site h (lost_event who key (Expired moment))) in
      let none : (cache_of site h).versions + 0 ≡ (cache_of site h).versions = omega arith in
      pushed ∙ none

  -- the key's item is alive or gone, and no other was visible before
  pub record IsBuried (new : List StripeEvent) : Type 0 where
    pub alive : IsAlive (item_after site new key) moment
    pub visible : visible_items (cache_of site new) moment key ≡ visible_items (cache_of site h) moment key
    pub versions : (cache_of site new).versions ≡ (cache_of site h).versions

  of_same : (found : Option Item) → item_after site h key ≡ found → IsAlive found moment → IsBuried (h ++ [])
  of_same found is alive =
      subst IsBuried (sym (append-nil h)) (record { alive = subst (λ (o : Option Item). IsAlive o moment) (sym is) alive; visible = refl; versions = refl })

  pub buried : IsBuried (h ++ burial who key moment (dead_link (item_after site h key) moment))
  buried = by (item_after site h key) refl
    where
      with_item : (item : Item) → item_after site h key ≡ Some item → (b : Bool) → is_dead item moment ≡ b → IsBuried (h ++ burial who key moment (if b then Some item.link else None))
      with_item item is false living = of_same (Some item) is living
      with_item item is true dead = record {
        alive = subst (λ (o : Option Item). IsAlive o moment) (sym gone) tt;
        visible = ap (λ (o : Option Item). if_alive moment o) gone
            ∙ sym (ap (λ (o : Option Item). if_alive moment o) is ∙ ap (λ (b : Bool). if b then None else Some item) dead);
        versions = gone_versions;
      }

      by : (found : Option Item) → item_after site h key ≡ found → IsBuried (h ++ burial who key moment (dead_link found moment))
      by None is = of_same None is tt
      by (Some item) is = with_item item is (is_dead item moment) refl

-- the same of a stripe
module _ (s s_new : Stripe) (who : Who) (command : Command) (moment : ℕ) (site : KeepsSite s s_new)
    (history : s_new.history ≡ s.history ++ burial who (key_of command) moment (dead_link ((cache_now s).items (key_of command)) moment)) where
  now : IsBuried s.site s.history who (key_of command) moment s_new.history
  now = subst (λ (h : List StripeEvent). IsBuried s.site s.history who (key_of command) moment h) (sym history) (buried s.site s.history who (key_of command) moment)

  pub buried_alive : IsAlive ((cache_now s_new).items (key_of command)) moment
  buried_alive = subst (λ (t : Site). IsAlive (item_after t s_new.history (key_of command)) moment) (sym site.site) now.alive

  pub buried_visible : visible_items (cache_now s_new) moment (key_of command) ≡ visible_items (cache_now s) moment (key_of command)
  buried_visible = ap (λ (t : Site). visible_items (cache_of t s_new.history) moment (key_of command)) site.site ∙ now.visible

  pub buried_row : visible_row s_new command moment ≡ visible_row s command moment
  buried_row =
      ap (λ (t : Site). row_of t (cache_of t s_new.history).versions (visible_items (cache_of t s_new.history) moment (key_of command)) command moment) site.site
      ∙ (ap (λ (n : ℕ). row_of s.site n (visible_items (cache_of s.site s_new.history) moment (key_of command)) command moment) now.versions
      ∙ ap (λ (o : Option Item). row_of s.site (cache_now s).versions o command moment) now.visible)

-- an item that is alive stays so on a search
pub searched_alive : (config : Config) (who : Who) (moment : ℕ) (need : Need) (s s_new : Stripe) (key walked : _) → KeepsSite s s_new → IsSearch config who moment need walked → s_new.history ≡ s.history ++ walked
    → IsAlive ((cache_now s).items key) moment → IsAlive ((cache_now s_new).items key) moment
searched_alive config who moment need s s_new key walked site search history alive =
    subst (λ (t : Site). IsAlive (item_after t s_new.history key) moment) (sym site.site)
    (subst (λ (h : List StripeEvent). IsAlive (item_after s.site h key) moment) (sym history)
    (alive_behind s.site key moment s.history walked (search_no_commands config who moment need walked search) alive))

-- an item that is alive is visible
pub visible_alive : (moment : ℕ) (found : Option Item) → IsAlive found moment → if_alive moment found ≡ found
visible_alive moment None alive = refl
visible_alive moment (Some item) alive = ap (λ (b : Bool). if b then None else Some item) alive

-- an item that is alive or absent has no dead link
pub not_dead : (found : Option Item) (moment : ℕ) → IsAlive found moment → dead_link found moment ≡ None
not_dead None moment alive = refl
not_dead (Some item) moment alive = ap (λ (b : Bool). if b then Some item.link else None) alive

-- whatever is needed, none may be looked for
pub searches_none : (config : Config) (who : Who) (moment : ℕ) (need : Need) → IsSearch config who moment need []
searches_none config who moment (needs.Fresh class) = tt
searches_none config who moment needs.Nothing = refl
searches_none config who moment needs.Same = refl
searches_none config who moment needs.TooLarge = refl

-- a stripe of the same history has the same cache, and a command has the same row
pub cache_same : (s mid : Stripe) → KeepsSite s mid → mid.history ≡ s.history → cache_now mid ≡ cache_now s
cache_same s mid site same = ap (λ (t : Site). cache_of t mid.history) site.site ∙ ap (λ (h : List StripeEvent). cache_of s.site h) same

module _ (command : Command) (moment : ℕ) (s mid : Stripe) (site : KeepsSite s mid) (same : mid.history ≡ s.history) where
  pub dead_same : dead_link (item_of s command) moment ≡ dead_link (item_of mid command) moment
  dead_same = ap (λ (c : Cache). dead_link (c.items (key_of command)) moment) (sym (cache_same s mid site same))

  pub visible_same : visible_items (cache_now mid) moment (key_of command) ≡ visible_items (cache_now s) moment (key_of command)
  visible_same = ap (λ (c : Cache). visible_items c moment (key_of command)) (cache_same s mid site same)

  pub row_same : visible_row mid command moment ≡ visible_row s command moment
  row_same =
      ap (λ (t : Site). row_of t (cache_now mid).versions (visible_items (cache_now mid) moment (key_of command)) command moment) site.site
      ∙ ap (λ (c : Cache). row_of s.site c.versions (visible_items c moment (key_of command)) command moment) (cache_same s mid site same)

-- a stripe of the same history leads up to a command as well
module _ (config : Config) (who : Who) (command : Command) (moment : ℕ) (s mid : Stripe) (site : KeepsSite s mid) (same : mid.history ≡ s.history) where
  pub led_same : (before : List StripeEvent) → LeadsUp config who command moment mid before → LeadsUp config who command moment s before
  led_same before led = record {
    walked = led.walked;
    split = led.split ∙ ap (λ (o : Option Link). burial who (key_of command) moment o ++ led.walked) (sym (dead_same command moment s mid site same));
    search = subst (λ (r : Row). IsSearch config who moment r.need led.walked) (row_same command moment s mid site same) led.search;
  }

-- what is needed of an item that is alive is needed of what is visible
pub fresh_visible : (s : Stripe) (command : Command) (moment : ℕ) (class : ClassNo) → IsAlive (item_of s command) moment → (row_at s command moment).need ≡ needs.Fresh class
    → (visible_row s command moment).need ≡ needs.Fresh class
fresh_visible s command moment class alive fresh =
    ap (λ (o : Option Item). (row_of s.site (cache_now s).versions o command moment).need) (visible_alive moment (item_of s command) alive) ∙ fresh

-- a command adds and removes two entries of a class at most
pub link_one : (class : ClassNo) (o : Option Link) → links_at class o ≤ 1
link_one class None = omega arith
link_one class (Some link) = by (link.class.0 == class.0)
  where
    by : (b : Bool) → (if b then 1 else 0) ≤ 1
    by true = omega arith
    by false = omega arith

pub changes_two : (class : ClassNo) (room : Room) (fate : Fate) → changes_at class room fate ≤ 2
changes_two class room fates.Untouched = omega arith
changes_two class room (fates.Renewed cost expiry old) =
    let a = link_one class (link_of room) in
    let b = link_one class old in
    omega (arith, a, b)
changes_two class room (fates.Goes link) =
    let a = link_one class (Some link) in
    omega (arith, a)
changes_two class room (fates.Woken link) = omega arith
