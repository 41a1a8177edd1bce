-- A command under the lock of its stripe: what is seen behind it, and what stands before its answer.
use Rattle.std.proofs.Common.{◌≡◌, ◌⊎◌, ◌++◌, ◌∷◌, [], ℕ, List, inl, inr, length, refl, ap, sym, ◌∙◌, subst, append_assoc, append-nil}
use Rattle.std.specs.Prelude.{Option, Some, None, IfSome, Bool, IsSomeAnd, true, if◌then◌else◌}
use Rattle.std.specs.Cmp.Lexicographic.{bytes_decides}
use Rattle.mc_item.specs.{Answer.Row, Cache.changed, Command.key_of, Stripe.IsAlive}
use Rattle.mc_item.specs.declared.{answer.Site.Site, call_event.CallEvent.CallEvent, command.Command.Command, config.Config.Config, event.Event.Event}
use Rattle.mc_item.specs.declared.{item.Link.Link, item.Who.Who, reply.Room.Room, stripe_event.Did.Did}
use Rattle.mc_item.specs.declared.stripe_event.StripeEvent.{StripeEvent}
use Rattle.mc_item.specs.declared.stripe_event.StripeEvent.TheVariants as events
use Rattle.mc_board.specs.Histories.{Grows, list_at, with_seen}
use Rattle.mc_board.specs.declared.rule.Sight.{Sight}
use Rattle.mc_board.proofs.SeenLemmas.{list_at_same}
use Rattle.mc_stripe.specs.{Plan.Wakes, Plan.dead_link, Plan.visible_row, StripeCalls.KeepsSite, StripeState.Stripe, StripeState.cache_now}
use Rattle.mc_pull.specs.{Perform.answer_to, Perform.call, Perform.item_before, Performed.did_event}
use Rattle.mc_store.specs.Commands.{IsCut, IsSearch, LeadsUp, burial}
use Rattle.mc_store.proofs.CommandLemmas.{buried_alive, buried_row, not_dead, searches_none}
use Rattle.mc_store.specs.{Callers.answered_at, Calls.IsRepliedAs, Earned.IsEarned, Performing.IsMadeOnStripe, Serving.GrowsBut, Waking.MakesActive}
use Rattle.mc_pull.specs.declared.attempting.Replied.{Replied}

-- of a lock whose history was told, that is what was seen
pub told_at : (sight : Sight) (lock : ℕ) (list : List Event) (new : Sight) (other : ℕ) (is : List Event) → new ≡ with_seen sight lock list → other ≡ lock → list ≡ is → list_at new.seen other ≡ is
told_at sight lock list new other is told same whole =
    ap (λ (k : ℕ). list_at new.seen k) same ∙ (ap (λ (s : Sight). list_at s.seen lock) told ∙ (list_at_same sight.seen lock list ∙ whole))

-- what has grown for all locks has grown for all but one
pub grows_but : (but : ℕ) (old new : Sight) → Grows old new → GrowsBut but old new
grows_but but old new grows = record { at = λ lock apart. grows.at lock }

-- what is fixed stays, over no step and over two
pub site_itself : (s : Stripe) → KeepsSite s s
site_itself s = record { site = refl; limit = refl; keeps_events = refl }

pub site_both : (a b c : Stripe) → KeepsSite a b → KeepsSite b c → KeepsSite a c
site_both a b c first more = record { site = more.site ∙ first.site; limit = more.limit ∙ first.limit; keeps_events = more.keeps_events ∙ first.keeps_events }

-- a stripe's new events are those by which a chunk was looked for, where the command needs one
abbrev pub IsSearched : Config → Who → Command → ℕ → Stripe → Stripe → Type 0
IsSearched config who command moment s s_new = (walked : List StripeEvent) × IsSearch config who moment (visible_row s command moment).need walked × (s_new.history ≡ s.history ++ walked)

-- nothing is looked for
pub searched_itself : (config : Config) (who : Who) (command : Command) (moment : ℕ) (s s_new : Stripe) → s_new.history ≡ s.history → IsSearched config who command moment s s_new
searched_itself config who command moment s s_new same = ([], searches_none config who moment (visible_row s command moment).need, same ∙ sym (append-nil s.history))

-- the same of an item that became ACTIVE, in other words
pub active_moves : (t t_new : Site) (h h_new : List StripeEvent) (did : Did) (woken : Option Link) → t ≡ t_new → h ≡ h_new → IfSome woken (MakesActive t h did) → IfSome woken (MakesActive t_new h_new did)
active_moves t t_new h h_new did woken site history active =
    subst (λ (x : Site). IfSome woken (MakesActive x h_new did)) site (subst (λ (x : List StripeEvent). IfSome woken (MakesActive t x did)) history active)

-- a command that wakes an item makes it ACTIVE by its event
module _ (s : Stripe) (who : Who) (command : Command) (moment : ℕ) (room : Room) where
  abbrev did_here : Did
  did_here = record { who = who; command = command; moment = moment; reply = (answer_to s (call who command moment room)).reply; room = room }

  wakes_active : (link : Link) → Wakes (item_before s (call who command moment room)) (answer_to s (call who command moment room)).change link → MakesActive s.site s.history did_here link
  wakes_active link wakes = record {
    was = wakes.was;
    is =
        let key = key_of command in
        let new = changed ((cache_now s).items key) (answer_to s (call who command moment room)).change in
        subst (λ (b : Bool). IsSomeAnd (if b then new else (cache_now s).items key) (λ item. (item.link ≡ link) × (item.marks.active ≡ true)))
        (sym ((bytes_decides key key).1 refl)) wakes.is;
  }

  if_active : (woken : Option Link) → IfSome woken (Wakes (item_before s (call who command moment room)) (answer_to s (call who command moment room)).change)
      → IfSome woken (MakesActive s.site s.history did_here)
  if_active None wakes = tt
  if_active (Some link) wakes = wakes_active link wakes

module _ (config : Config) (who : Who) (command : Command) (moment : ℕ) where
  -- a command whose key has no dead item is led up to by a search alone
  module _ (s last : Stripe) (alive : IsAlive ((cache_now s).items (key_of command)) moment) (searched : IsSearched config who command moment s last) where
    leads : LeadsUp config who command moment s searched.0
    leads = record {
      walked = searched.0;
      split = sym (ap (λ (o : Option Link). burial who (key_of command) moment o ++ searched.0) (not_dead ((cache_now s).items (key_of command)) moment alive));
      search = searched.1;
    }

    pub replied_behind : (end : Stripe) (sight : Sight) (room : Room) (replied : Replied) (calls calls_new : List CallEvent) → KeepsSite s last → IsMadeOnStripe last end (call who command moment room) replied
        → calls_new ≡ calls ++ answered_at last.site.stripe (length last.history) ∷ []
        → IsEarned config s.site sight (record {
          who = who;
          command = command;
          moment = moment;
          reply =
              (answer_to last (call who command moment room)).reply;
          room = room;
        }) → IsRepliedAs config who command moment s end sight calls calls_new replied
    replied_behind end sight room replied calls calls_new site made noted earned = record {
      replied_is = record {
        place = length last.history;
        answered = record {
          before = searched.0;
          led_up = leads;
          reply = (answer_to last (call who command moment room)).reply;
          room = room;
          history_is = made.history_is ∙ ap (λ (h : List StripeEvent). h ++ did_event last (call who command moment room) ∷ []) searched.2;
          place_is = ap (λ (h : List StripeEvent). length h) searched.2;
        };
        reply_is = sym made.reply_is;
        noted = noted ∙ ap (λ (t : Site). calls ++ answered_at t.stripe (length last.history) ∷ []) site.site;
        earned = earned;
      };
      woken = active_moves last.site s.site last.history (s.history ++ searched.0) (did_here last who command moment room) replied.woken site.site searched.2
          (if_active last who command moment room replied.woken made.woken);
    }

    pub cut_behind : (end : Stripe) → end.history ≡ last.history → IsCut config who command moment s end
    cut_behind end same = record { before = searched.0; led_up = inr leads; history_is = same ∙ searched.2 }

  -- a command that was answered, or broken off, where its key's dead item went before
  module _ (s mid : Stripe) (site : KeepsSite s mid) (buried_is : mid.history ≡ s.history ++ burial who (key_of command) moment (dead_link ((cache_now s).items (key_of command)) moment)) where
    abbrev gone : List StripeEvent
    gone = burial who (key_of command) moment (dead_link ((cache_now s).items (key_of command)) moment)

    none : dead_link ((cache_now mid).items (key_of command)) moment ≡ None
    none = not_dead ((cache_now mid).items (key_of command)) moment (buried_alive s mid who command moment site buried_is)

    led_from : (before : List StripeEvent) → LeadsUp config who command moment mid before → LeadsUp config who command moment s (gone ++ before)
    led_from before led = record {
      walked = led.walked;
      split = ap (λ (h : List StripeEvent). gone ++ h) (led.split ∙ ap (λ (o : Option Link). burial who (key_of command) moment o ++ led.walked) none);
      search = subst (λ (r : Row). IsSearch config who moment r.need led.walked) (buried_row s mid who command moment site buried_is) led.search;
    }

    joined : (before : List StripeEvent) → mid.history ++ before ≡ s.history ++ (gone ++ before)
    joined before = ap (λ (h : List StripeEvent). h ++ before) buried_is ∙ append_assoc s.history gone before

    pub replied_from : (end : Stripe) (sight : Sight) (calls calls_new : List CallEvent) (replied : Replied)
        → IsRepliedAs config who command moment mid end sight calls calls_new replied → IsRepliedAs config who command moment s end sight calls calls_new replied
    replied_from end sight calls calls_new replied whole =
        let r = whole.replied_is in
        let a = r.answered in
        let did : Did = record { who = who; command = command; moment = moment; reply = a.reply; room = a.room } in
        record {
          replied_is = record {
            place = r.place;
            answered = record {
              before = gone ++ a.before;
              led_up = led_from a.before a.led_up;
              reply = a.reply;
              room = a.room;
              history_is = subst (λ (h : List StripeEvent). end.history ≡ h ++ events.Did did ∷ []) (joined a.before) a.history_is;
              place_is = a.place_is ∙ ap (λ (h : List StripeEvent). length h) (joined a.before);
            };
            reply_is = r.reply_is;
            noted = r.noted ∙ ap (λ (t : Site). calls ++ answered_at t.stripe r.place ∷ []) site.site;
            earned = subst (λ (t : Site). IsEarned config t sight did) site.site r.earned;
          };
          woken = active_moves mid.site s.site (mid.history ++ a.before) (s.history ++ (gone ++ a.before)) did replied.woken site.site (joined a.before) whole.woken;
        }

    pub cut_from : (end : Stripe) → IsCut config who command moment mid end → IsCut config who command moment s end
    cut_from end cut = record { before = gone ++ cut.before; led_up = inr (by cut.led_up); history_is = cut.history_is ∙ joined cut.before }
      where
        by : (cut.before ≡ []) ⊎ LeadsUp config who command moment mid cut.before → LeadsUp config who command moment s (gone ++ cut.before)
        by (inl nothing) = record { walked = []; split = ap (λ (h : List StripeEvent). gone ++ h) nothing; search = searches_none config who moment (visible_row s command moment).need }
        by (inr led) = led_from cut.before led
