-- What a stripe holds under a key: the link and the cost of its item.
use Rattle.std.proofs.Common.{List, ap, sym, ℕ, ◌∙◌, ◌≡◌}
use Rattle.std.specs.Prelude.{IsSomeAnd, None, Option, Some}
use Rattle.mc_item.specs.{Item.link_of_item, Measure.cost_of}
use Rattle.mc_item.specs.declared.{item.ClassNo.ClassNo, item.Item.Item, item.Link.Link, reply.Room.Room}
use Rattle.mc_item.specs.declared.reply.Room.TheVariants as rooms
use Rattle.mc_rule.proofs.TestLemmas.{none_some, some_same}
use Rattle.mc_rule.specs.{Lists.found, Pairs.link_to}
use Rattle.mc_evidence.proofs.RowLemmas.{held}

-- an item that is gone is held nowhere
pub held_none : (key : List ℕ) (found : Option Item) (x : Link × ℕ) → found ≡ None → held key found ≡ Some x → ⊥
held_none key found x is h = none_some (sym (ap (held key) is) ∙ h)

-- what is held has the link
pub held_link : (key : List ℕ) (found : Option Item) (link : Link) (cost : ℕ) → held key found ≡ Some (link, cost) → link_of_item found ≡ Some link
held_link key None link cost h = absurd (none_some h)
held_link key (Some item) link cost h = let both : (item.link, cost_of key item.value) ≡ (link, cost) = some_same _ _ h in ap (λ (p : Link × ℕ). Some p.0) both

-- an item with a link has some cost
pub link_held : (key : List ℕ) (found : Option Item) (link : Link) → link_of_item found ≡ Some link → (cost : ℕ) × (held key found ≡ Some (link, cost))
link_held key None link h = absurd (none_some h)
link_held key (Some item) link h = (cost_of key item.value, ap (λ (l : Link). Some (l, cost_of key item.value)) (some_same _ _ h))

-- the link of an item that is held is its own
pub at_link : (key : List ℕ) (found : Option Item) (link other : Link) (cost : ℕ) → IsSomeAnd found (λ item. item.link ≡ other) → held key found ≡ Some (link, cost) → other ≡ link
at_link key None link other cost is h = absurd (none_some h)
at_link key (Some item) link other cost is h = let both : (item.link, cost_of key item.value) ≡ (link, cost) = some_same _ _ h in sym is ∙ ap (λ (p : Link × ℕ). p.0) both

-- the link of an item is one
pub at_other : (found : Option Item) (link other : Link) → IsSomeAnd found (λ item. item.link ≡ other) → link_of_item found ≡ Some link → other ≡ link
at_other None link other is h = absurd (none_some h)
at_other (Some item) link other is h = sym is ∙ some_same _ _ h

-- a cost that an item has is that which is held
pub cost_at : (key : List ℕ) (found : Option Item) (link : Link) (cost c : ℕ) (P : Item → Type 0) → IsSomeAnd found (λ item. (c ≡ cost_of key item.value) × P item) → held key found ≡ Some (link, cost) → c ≡ cost
cost_at key None link cost c P is h = absurd (none_some h)
cost_at key (Some item) link cost c P is h =
    let both : (item.link, cost_of key item.value) ≡ (link, cost) = some_same _ _ h in
    is.0 ∙ ap (λ (p : Link × ℕ). p.1) both

-- an item of this link and cost is held so
pub held_at : (key : List ℕ) (found : Option Item) (link : Link) (c : ℕ) (P : Item → Type 0) → IsSomeAnd found (λ item. (c ≡ cost_of key item.value) × P item) → IsSomeAnd found (λ item. item.link ≡ link)
    → held key found ≡ Some (link, c)
held_at key None link c P is at = absurd is
held_at key (Some item) link c P is at = ap (λ (l : Link). Some (l, cost_of key item.value)) at ∙ ap (λ (k : ℕ). Some (link, k)) (sym is.0)

-- a room at a link of a class tells its number
pub same_link : (class : ClassNo) (m n : ℕ) → rooms.At (link_to class m) ≡ rooms.At (link_to class n) → m ≡ n
same_link class m n h = by (rooms.At (link_to class m)) h
  where
    number_in : Room → ℕ
    number_in (rooms.At link) = link.number
    number_in rooms.Keep = m
    number_in (rooms.Refused other place) = m

    by : (r : Room) → rooms.At (link_to class m) ≡ rooms.At (link_to class n) → m ≡ n
    by r h = ap number_in h

-- and so does the link
pub same_some : (class : ClassNo) (m n : ℕ) → Some (link_to class m) ≡ Some (link_to class n) → m ≡ n
same_some class m n h = ap (λ (l : Link). l.number) (some_same (link_to class m) (link_to class n) h)
