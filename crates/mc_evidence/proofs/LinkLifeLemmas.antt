-- What legal events of a stripe begin and end: an item gets a link with a command that was given it alone, and loses it with
-- a command that takes it away or with a loss; no link is given twice.
use Rattle.std.proofs.Common.{◌≡◌, ◌≢◌, ℕ, List, [], ◌∷◌, ◌++◌, Bool, true, false, refl, sym, ap, ◌∙◌, subst, inl, inr, ◌⊎◌}
use Rattle.std.specs.Prelude.{Option, Some, None, IsSomeAnd, nat_eq, if◌then◌else◌}
use Rattle.std.specs.Cmp.Lexicographic.{pointwise, bytes_decides}
use Rattle.std.proofs.lemmas.Bool.{false≢true}
use Rattle.mc_item.proofs.StripeLemmas.{cache_of-push}
use Rattle.mc_item.specs.{Answer.row_of, Cache.Cache, Cache.changed, Cache.after_change, Cache.answer_of, Command.key_of, Item.link_of_item}
use Rattle.mc_item.specs.Stripe.{cache_after, cache_of, cooled_change, link_of, Fits, IsUnnamed, IsLegal, MayDo, MayHappen}
use Rattle.mc_item.specs.declared.{answer.Change.Change, answer.Change.TheVariants.Goes, answer.Site.Site, item.Item.Item, item.Link.Link, reply.Room.Room}
use Rattle.mc_item.specs.declared.{stripe_event.Cooled.Cooled, stripe_event.Did.Did, stripe_event.Lost.Lost, stripe_event.StripeEvent.StripeEvent}
use Rattle.mc_item.specs.declared.reply.Room.TheVariants as rooms
use Rattle.mc_item.specs.declared.stripe_event.StripeEvent.TheVariants as events
use Rattle.mc_rule.proofs.{HistoryLemmas.legal_at, HistoryLemmas.legal_before, TestLemmas.none_some, TestLemmas.same_key}
use Rattle.mc_rule.specs.{Pairs.LetsGo, Pairs.item_after, Places.Stands}
use Rattle.mc_evidence.proofs.{SameItemLemmas.is_held, HeldItemLemmas.at_link, HeldItemLemmas.at_other, HeldItemLemmas.held_link, HeldItemLemmas.held_none, BeganLemmas.Once}
use Rattle.mc_evidence.proofs.{BeganLemmas.Turns, BeganLemmas.turned}
use Rattle.mc_evidence.proofs.RowLemmas.{IsGoneOrSame, IsNoChunk, LeavesLink, cooled_leaves, fits_fresh, fits_unnamed, held, row_leaves}

-- what holds of the changed item, where the key is the one, and of the old item, where it isn't, holds after a change
pub by_key : (P : Option Item → Type 0) (cache : Cache) (key q : List ℕ) (change : Change) → (key ≡ q → P (changed (cache.items key) change))
    → (key ≢ q → P (cache.items q)) → P ((after_change cache key change).items q)
by_key P cache key q change here elsewhere = by (pointwise nat_eq key q) refl
  where
    by : (b : Bool) → pointwise nat_eq key q ≡ b → P (if b then changed (cache.items key) change else cache.items q)
    by true is = here ((bytes_decides key q).0 is)
    by false is = elsewhere (λ same. false≢true (sym is ∙ (bytes_decides key q).1 same))

-- an event of a stripe gives this link to this key
abbrev pub IsGiftOf : List ℕ → Link → StripeEvent → Type 0
IsGiftOf key link (events.Did did) = (key_of did.command ≡ key) × (did.room ≡ rooms.At link)
IsGiftOf key link (events.Lost lost) = ⊥
IsGiftOf key link (events.Cooled cooled) = ⊥

-- an event of a stripe behind these takes this link from this key
abbrev pub IsLossOf : Site → List StripeEvent → List ℕ → Link → StripeEvent → Type 0
IsLossOf site before key link (events.Did did) = (key_of did.command ≡ key) × LetsGo site before did link
IsLossOf site before key link (events.Lost lost) = lost.key ≡ key
IsLossOf site before key link (events.Cooled cooled) = ⊥

unnamed_there : (link : Link) (before later : List StripeEvent) (did : Did) → did.room ≡ rooms.At link → IsUnnamed link (before ++ events.Did did ∷ later) → ⊥
unnamed_there link [] later did is unnamed = unnamed.0 (ap link_of is)
unnamed_there link (x ∷ before) later did is unnamed = unnamed_there link before later did is unnamed.1

-- a link that an event gave isn't unnamed
pub gift_named : (key : List ℕ) (link : Link) (h before : List StripeEvent) (e : StripeEvent) → Stands h before e → IsGiftOf key link e → IsUnnamed link h → ⊥
gift_named key link h before (events.Did did) s is unnamed = unnamed_there link before s.later did is.1 (subst (IsUnnamed link) s.is unnamed)
gift_named key link h before (events.Lost lost) s is unnamed = is
gift_named key link h before (events.Cooled cooled) s is unnamed = is

module _ (site : Site) where
  -- the link and the cost of a key's item
  abbrev pub holds : List ℕ → List StripeEvent → Option (Link × ℕ)
  holds key h = held key (item_after site h key)

  pub holds_push : (key : List ℕ) (h : List StripeEvent) (e : StripeEvent) (P : Option Item → Type 0) → P ((cache_after site (cache_of site h) e).items key) → P (item_after site (h ++ e ∷ []) key)
  holds_push key h e P p = subst (λ (c : Cache). P (c.items key)) (sym (cache_of-push site h e)) p

  -- what a command leaves of its key's item
  leaves : (h : List StripeEvent) (did : Did)
      → LeavesLink (key_of did.command) (item_after site h (key_of did.command))
      (row_of site (cache_of site h).versions (item_after site h (key_of did.command)) did.command did.moment)
  leaves h did = row_leaves site (cache_of site h).versions (item_after site h (key_of did.command)) did.command did.moment

  -- a command without a chunk leaves its key's item, or none
  without_chunk : (h : List StripeEvent) (did : Did) → IsNoChunk did.room → IsGoneOrSame (key_of did.command) (item_after site h (key_of did.command)) (item_after site (h ++ events.Did did ∷ []) (key_of did.command))
  without_chunk h did none =
      holds_push (key_of did.command) h (events.Did did) (λ o. IsGoneOrSame (key_of did.command) (item_after site h (key_of did.command)) o)
      (by_key (λ o. IsGoneOrSame (key_of did.command) (item_after site h (key_of did.command)) o) (cache_of site h) (key_of did.command) (key_of did.command)
      (answer_of site (cache_of site h) did.command did.moment did.room).change
      (λ same. (leaves h did).without did.room none)
      (λ apart. absurd (apart refl)))

  -- a command with a chunk leaves its key an item with that link
  pub with_link : (h : List StripeEvent) (did : Did) (link : Link) → MayDo site (cache_of site h) h did → did.room ≡ rooms.At link
      → IsSomeAnd (item_after site (h ++ events.Did did ∷ []) (key_of did.command)) (λ item. item.link ≡ link)
  with_link h did link may is =
      let fits = fits_fresh _ link h (subst (λ r. Fits (row_of site (cache_of site h).versions (item_after site h (key_of did.command)) did.command did.moment).need r h) is may.fits) in
      holds_push (key_of did.command) h (events.Did did) (λ o. IsSomeAnd o (λ item. item.link ≡ link))
      (by_key (λ o. IsSomeAnd o (λ item. item.link ≡ link)) (cache_of site h) (key_of did.command) (key_of did.command) (answer_of site (cache_of site h) did.command did.moment did.room).change
      (λ same. subst (λ r. IsSomeAnd (changed (item_after site h (key_of did.command))
      ((row_of site (cache_of site h).versions (item_after site h (key_of did.command)) did.command did.moment).answer r).change)
      (λ item. item.link ≡ link)) (sym is) ((leaves h did).with_chunk link fits))
      (λ apart. absurd (apart refl)))

  -- the link of a chunk that a command was given is new
  pub link_new : (h : List StripeEvent) (did : Did) (link : Link) → MayDo site (cache_of site h) h did → did.room ≡ rooms.At link → IsUnnamed link h
  link_new h did link may is =
      fits_unnamed (row_of site (cache_of site h).versions (item_after site h (key_of did.command)) did.command did.moment).need link h
      (subst (λ r. Fits (row_of site (cache_of site h).versions (item_after site h (key_of did.command)) did.command did.moment).need r h) is may.fits)

  -- ---- one event

  -- an event of another key leaves the item
  other_key : (key : List ℕ) (h : List StripeEvent) (did : Did) → key_of did.command ≢ key → item_after site (h ++ events.Did did ∷ []) key ≡ item_after site h key
  other_key key h did apart =
      holds_push key h (events.Did did) (λ o. o ≡ item_after site h key)
      (by_key (λ o. o ≡ item_after site h key) (cache_of site h) (key_of did.command) key (answer_of site (cache_of site h) did.command did.moment did.room).change (λ same. absurd (apart same)) (λ other. refl))

  -- a loss leaves the item, where it has another key, and else none
  pub after_loss : (key : List ℕ) (h : List StripeEvent) (lost : Lost)
      → ((lost.key ≢ key) × (item_after site (h ++ events.Lost lost ∷ []) key ≡ item_after site h key))
      ⊎ ((lost.key ≡ key) × (item_after site (h ++ events.Lost lost ∷ []) key ≡ None))
  after_loss key h lost =
      let P : Option Item → Type 0 = λ o. ((lost.key ≢ key) × (o ≡ item_after site h key)) ⊎ ((lost.key ≡ key) × (o ≡ None)) in
      holds_push key h (events.Lost lost) P
      (by_key P (cache_of site h) lost.key key Goes (λ same. inr (same, refl)) (λ apart. inl (apart, refl)))

  -- a lost key has no item
  pub lost_gone : (key : List ℕ) (h : List StripeEvent) (lost : Lost) → lost.key ≡ key → item_after site (h ++ events.Lost lost ∷ []) key ≡ None
  lost_gone key h lost same = elim (after_loss key h lost) [ inl apart ↦ absurd (apart.0 same) | inr gone ↦ gone.1 ]

  -- cooling leaves each link and cost
  pub after_cooling : (key : List ℕ) (h : List StripeEvent) (cooled : Cooled) → holds key (h ++ events.Cooled cooled ∷ []) ≡ holds key h
  after_cooling key h cooled =
      let P : Option Item → Type 0 = λ o. held key o ≡ held key (item_after site h key) in
      holds_push key h (events.Cooled cooled) P
      (by_key P (cache_of site h) cooled.key key (cooled_change (item_after site h cooled.key))
      (λ same. subst (λ (k : List ℕ). held key (changed (item_after site h k) (cooled_change (item_after site h k))) ≡ held key (item_after site h key)) (sym same) (cooled_leaves key (item_after site h key)))
      (λ apart. refl))

  -- what was held so and isn't was gone, or there is another link
  held_gone : (key : List ℕ) (old new : Option Item) (x : Link × ℕ) → IsGoneOrSame key old new → held key old ≢ Some x → held key new ≡ Some x → ⊥
  held_gone key old new x leaves was now = elim leaves [ inl gone ↦ held_none key new x gone now | inr same ↦ was (sym same ∙ now) ]

  kept_or_gone : (key : List ℕ) (old new : Option Item) (link : Link) (cost : ℕ) → IsGoneOrSame key old new → held key old ≡ Some (link, cost) → held key new ≢ Some (link, cost) → link_of_item new ≡ Some link → ⊥
  kept_or_gone key old new link cost leaves was now has =
      elim leaves [ inl gone ↦ none_some (sym (ap link_of_item gone) ∙ has) | inr same ↦ now (same ∙ was) ]

  -- what a key didn't hold so and does was given
  pub rise : (key : List ℕ) (link : Link) (cost : ℕ) (h : List StripeEvent) (e : StripeEvent) → MayHappen site (cache_of site h) h e
      → holds key h ≢ Some (link, cost) → holds key (h ++ e ∷ []) ≡ Some (link, cost) → IsGiftOf key link e
  rise key link cost h (events.Did did) may was now =
      elim (same_key (key_of did.command) key) [
        | inl apart ↦ absurd (was (sym (ap (held key) (other_key key h did apart)) ∙ now))
        | inr same ↦ (same, by did.room refl (subst (λ (k : List ℕ). holds k h ≢ Some (link, cost)) (sym same) was) (subst (λ (k : List ℕ). holds k (h ++ events.Did did ∷ []) ≡ Some (link, cost)) (sym same) now))
      ]
    where
      by : (r : Room) → did.room ≡ r → holds (key_of did.command) h ≢ Some (link, cost) → holds (key_of did.command) (h ++ events.Did did ∷ []) ≡ Some (link, cost) → did.room ≡ rooms.At link
      by (rooms.At other) is w n = is ∙ ap rooms.At (at_link (key_of did.command) _ link other cost (with_link h did other may is) n)
      by rooms.Keep is w n = absurd (held_gone (key_of did.command) _ _ (link, cost) (without_chunk h did (subst IsNoChunk (sym is) tt)) w n)
      by (rooms.Refused other place) is w n = absurd (held_gone (key_of did.command) _ _ (link, cost) (without_chunk h did (subst IsNoChunk (sym is) tt)) w n)
  rise key link cost h (events.Lost lost) may was now =
      elim (after_loss key h lost) [
        | inl apart ↦ absurd (was (sym (ap (held key) apart.1) ∙ now))
        | inr same ↦ absurd (held_none key _ (link, cost) same.1 now)
      ]
  rise key link cost h (events.Cooled cooled) may was now = absurd (was (sym (after_cooling key h cooled) ∙ now))

  module _ (key : List ℕ) (link : Link) (cost : ℕ) where
    -- the key's item hasn't this link and cost; it has
    abbrev pub NotHeld : List StripeEvent → Type 0
    NotHeld h = holds key h ≢ Some (link, cost)

    abbrev pub Held : List StripeEvent → Type 0
    Held h = holds key h ≡ Some (link, cost)

    pub which_held : (h : List StripeEvent) → NotHeld h ⊎ Held h
    which_held h = is_held link cost (holds key h)

    pub held_apart : (h : List StripeEvent) → NotHeld h → Held h → ⊥
    held_apart h was now = was now

    pub rise_at : (h : List StripeEvent) → IsLegal site h → (t : Turns NotHeld Held h) → IsGiftOf key link t.e
    rise_at h legal t = rise key link cost t.before t.e (legal_at site h t.before t.e legal t.stands) t.was t.now

    -- what is held was given
    pub was_given : (h : List StripeEvent) → IsLegal site h → Held h → (before : List StripeEvent) × (e : StripeEvent) × Stands h before e × IsGiftOf key link e × Held (before ++ e ∷ [])
    was_given h legal now =
        let t = turned NotHeld Held which_held held_apart h (λ k. none_some k) now in
        (t.before, t.e, t.stands, rise_at h legal t, t.now)

    -- a link that is held was named
    pub held_named : (h : List StripeEvent) → IsLegal site h → Held h → IsUnnamed link h → ⊥
    held_named h legal now unnamed = let g = was_given h legal now in gift_named key link h g.0 g.1 g.2 g.3 unnamed

    gift_new : (h : List StripeEvent) (e : StripeEvent) → MayHappen site (cache_of site h) h e → IsGiftOf key link e → IsUnnamed link h
    gift_new h (events.Did did) may is = link_new h did link may is.1
    gift_new h (events.Lost lost) may is = absurd is
    gift_new h (events.Cooled cooled) may is = absurd is

    -- a link begins once at the most
    pub held_once : (h : List StripeEvent) → IsLegal site h → Once NotHeld Held h
    held_once h legal t u =
        let first = rise_at t.before (legal_before site h t.before t.e legal t.stands) u in
        let second = rise_at h legal t in
        gift_named key link t.before u.before u.e u.stands first (gift_new t.before t.e (legal_at site h t.before t.e legal t.stands) second)

    -- what a key held so and doesn't was taken
    pub fall : (h : List StripeEvent) (e : StripeEvent) → IsLegal site h → MayHappen site (cache_of site h) h e → Held h → NotHeld (h ++ e ∷ []) → IsLossOf site h key link e
    fall h (events.Did did) legal may was now =
        elim (same_key (key_of did.command) key) [
          | inl apart ↦ absurd (now (ap (held key) (other_key key h did apart) ∙ was))
          | inr same ↦ (
            same,
            record {
              had = subst (λ (k : List ℕ). link_of_item (item_after site h k) ≡ Some link) (sym same) (held_link key (item_after site h key) link cost was);
              has_not = by did.room refl (subst (λ (k : List ℕ). holds k h ≡ Some (link, cost)) (sym same) was) (subst (λ (k : List ℕ). holds k (h ++ events.Did did ∷ []) ≢ Some (link, cost)) (sym same) now);
            },
          )
        ]
      where
        by : (r : Room) → did.room ≡ r → holds (key_of did.command) h ≡ Some (link, cost) → holds (key_of did.command) (h ++ events.Did did ∷ []) ≢ Some (link, cost)
            → link_of_item (item_after site (h ++ events.Did did ∷ []) (key_of did.command)) ≢ Some link
        by (rooms.At other) is w n has =
            let other_is : other ≡ link = at_other _ link other (with_link h did other may is) has in
            held_named h legal was (subst (λ (l : Link). IsUnnamed l h) other_is (link_new h did other may is))
        by rooms.Keep is w n has = kept_or_gone (key_of did.command) _ _ link cost (without_chunk h did (subst IsNoChunk (sym is) tt)) w n has
        by (rooms.Refused other place) is w n has = kept_or_gone (key_of did.command) _ _ link cost (without_chunk h did (subst IsNoChunk (sym is) tt)) w n has
    fall h (events.Lost lost) legal may was now =
        elim (after_loss key h lost) [
          | inl apart ↦ absurd (now (ap (held key) apart.1 ∙ was))
          | inr same ↦ same.0
        ]
    fall h (events.Cooled cooled) legal may was now = absurd (now (after_cooling key h cooled ∙ was))

    pub fall_at : (h : List StripeEvent) → IsLegal site h → (t : Turns Held NotHeld h) → IsLossOf site t.before key link t.e
    fall_at h legal t = fall t.before t.e (legal_before site h t.before t.e legal t.stands) (legal_at site h t.before t.e legal t.stands) t.was t.now
