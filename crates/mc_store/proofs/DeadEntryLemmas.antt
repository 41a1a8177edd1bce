-- A dead item's entry is there, and is reclaimed with it.
use Rattle.std.proofs.Common.{◌≡◌, ℕ, List, [], ◌∷◌, Option, Some, None, Bool, true, false, refl, sym, ap, ◌∙◌, subst, arith}
use Rattle.std.specs.Prelude.{◌==◌, ◌&&◌, IsSome, IsSomeAnd, if◌then◌else◌}
use Rattle.std.specs.Option.{option_map}
use Rattle.std.proofs.lemmas.Bool.Decides.{nat_tests}
use Rattle.mc_item.specs.{Item.is_dead, Stripe.IsLegal}
use Rattle.mc_item.specs.declared.{item.ClassNo.ClassNo, item.Item.Item, item.Link.Link, item.Who.Who, lists.Entry.Entry, lists.Seg.Seg}
use Rattle.mc_item.specs.declared.{stripe_event.Cause.TheVariants.Expired}
use Rattle.mc_rule.specs.{Belonging.HasEntry, Belonging.IsEntryFor, Lawful.IsLawfulHistoryByLists, Lawful.IsListed, Lists.found, Lists.lists_of}
use Rattle.mc_evidence.proofs.ItemsAreEntriesLemmas.{entry_of_item}
use Rattle.mc_segment.specs.ClassState.{ClassView}
use Rattle.mc_stripe.specs.{Plan.dead_link, StripeState.Stripe, StripeState.cache_now}
use Rattle.mc_pull.specs.{Agreeing.AgreeNow, Question.question, Settled.lost_event, Settled.done_stripe_events}
use Rattle.mc_pull.specs.Judgement.{done_of, done_with, done_if, has_link}
use Rattle.mc_pull.specs.declared.judge.Done.TheVariants as done
use Rattle.mc_pull.specs.declared.judge.Judge.TheVariants.{Dead}

none_some : {A : Type 0} {x : A} → None ≡ Some x → ⊥
none_some h = cc

some_same : {A : Type 0} (a b : A) → Some a ≡ Some b → a ≡ b
some_same a b h = cc

equal : (a : ℕ) → (a == a) ≡ true
equal a = grind (arith, nat_tests)

-- a key's item that is dead, with its link
pub record IsDeadLink (key : List ℕ) (s : Stripe) (moment : ℕ) (link : Link) : Type 0 where
  pub item : Item
  pub under : (cache_now s).items key ≡ Some item
  pub dead : is_dead item moment ≡ true
  pub link_is : item.link ≡ link

-- what the plan tells of a dead item
pub told_dead : (key : List ℕ) (s : Stripe) (moment : ℕ) (link : Link) → dead_link ((cache_now s).items key) moment ≡ Some link → IsDeadLink key s moment link
told_dead key s moment link is = by ((cache_now s).items key) refl is
  where
    with_item : (item : Item) → (cache_now s).items key ≡ Some item → (b : Bool) → is_dead item moment ≡ b → (if b then Some item.link else None) ≡ Some link → IsDeadLink key s moment link
    with_item item under true dead h = record { item = item; under = under; dead = dead; link_is = some_same item.link link h }
    with_item item under false dead h = absurd (none_some h)

    by : (o : Option Item) → (cache_now s).items key ≡ o → dead_link o moment ≡ Some link → IsDeadLink key s moment link
    by None under h = absurd (none_some h)
    by (Some item) under h = with_item item under (is_dead item moment) refl h

module _ (c : ClassView) (s : Stripe) (key : List ℕ) (moment : ℕ) (link : Link) (dead : IsDeadLink key s moment link) (of : link.class ≡ c.number)
    (legal : IsLegal s.site s.history) (lawful : IsLawfulHistoryByLists c.chunks c.rule c.history) (agree : AgreeNow c s) where
  has_entry : HasEntry c.history key dead.item
  has_entry = entry_of_item s.site c.rule c.number c.chunks s.history c.history key dead.item legal lawful agree.evidence dead.under (ap (λ (l : Link). l.class) dead.link_is ∙ of)

  there : IsSomeAnd (found link.number (lists_of c.history)) (λ p. IsEntryFor key dead.item p.1)
  there = subst (λ (l : Link). IsSomeAnd (found l.number (lists_of c.history)) (λ p. IsEntryFor key dead.item p.1)) dead.link_is has_entry

  -- its entry is in a list
  pub dead_listed : IsListed link.number (lists_of c.history)
  dead_listed = by (found link.number (lists_of c.history)) there
    where
      by : (o : Option (Seg × Entry)) → IsSomeAnd o (λ p. IsEntryFor key dead.item p.1) → IsSome o
      by None h = absurd h
      by (Some p) h = refl

  linked : has_link c.number link.number dead.item ≡ true
  linked =
      let here : dead.item.link.class ≡ c.number = ap (λ (l : Link). l.class) dead.link_is ∙ of in
      let number : dead.item.link.number ≡ link.number = ap (λ (l : Link). l.number) dead.link_is in
      subst (λ (n : ClassNo). (n.0 == c.number.0 && dead.item.link.number == link.number) ≡ true) (sym here)
      (subst (λ (n : ℕ). (c.number.0 == c.number.0 && n == link.number) ≡ true) (sym number)
      (subst (λ (b : Bool). (b && link.number == link.number) ≡ true) (sym (equal c.number.0)) (equal link.number)))

  -- it is reclaimed with the item, by whoever asks
  pub dead_reclaimed : (who : Who) → (done_of c (cache_now s) (question who link.number Dead moment) ≡ done.Reclaimed)
      × (done_stripe_events c (question who link.number Dead moment) done.Reclaimed ≡ lost_event who key (Expired moment) ∷ [])
  dead_reclaimed who = by (found link.number (lists_of c.history)) there
    where
      by_item : (o : Option Item) → o ≡ Some dead.item → done_if c.number link.number o (λ item. if is_dead item moment then done.Reclaimed else done.Alive item.expiry) ≡ done.Reclaimed
      by_item o is =
          subst (λ (x : Option Item). done_if c.number link.number x (λ item. if is_dead item moment then done.Reclaimed else done.Alive item.expiry) ≡ done.Reclaimed) (sym is)
          (subst (λ (b : Bool). (if b then (if is_dead dead.item moment then done.Reclaimed else done.Alive dead.item.expiry) else done.Stranger) ≡ done.Reclaimed) (sym linked)
          (subst (λ (b : Bool). (if b then done.Reclaimed else done.Alive dead.item.expiry) ≡ done.Reclaimed) (sym dead.dead) refl))

      by : (o : Option (Seg × Entry)) → IsSomeAnd o (λ p. IsEntryFor key dead.item p.1)
          → (done_with c (cache_now s) (question who link.number Dead moment) (option_map (λ (p : Seg × Entry). p.1) o) ≡ done.Reclaimed)
          × (Rattle.mc_pull.specs.Settled.events_with c (question who link.number Dead moment) (option_map (λ (p : Seg × Entry). p.1) o) done.Reclaimed ≡ lost_event who key (Expired moment) ∷ [])
      by None h = absurd h
      by (Some p) h = (
        by_item ((cache_now s).items p.1.key) (ap (cache_now s).items h.key_is ∙ dead.under),
        ap (λ (k : List ℕ). lost_event who k (Expired moment) ∷ []) h.key_is,
      )
