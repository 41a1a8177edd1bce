-- A link that is told as woken is that of an item that a command made ACTIVE.
use Rattle.std.proofs.Common.{ℕ, ◌≡◌, ◌∙◌, ◌==◌, ◌&&◌, Bool, true, false, not, List, length, refl, sym, ap, subst}
use Rattle.std.specs.Prelude.{◌↔◌, Option, Some, None, decimal, nat_le, if◌then◌else◌}
use Rattle.std.specs.Option.{option_map}
use Rattle.std.proofs.lemmas.Bool.{false≢true}
use Rattle.mc_item.specs.Answer.{Row, Written, fresh, grown_row, join_row, let_go, number_row, row_of, stepped, store_row, version_of, written_over}
use Rattle.mc_item.specs.{Command.key_of, Item.expiry_of, Measure.class_of, Measure.cost_of, Measure.numeral_of}
use Rattle.mc_item.specs.declared.{answer.Answer.Answer, answer.Change.Change, answer.Site.Site, command.Command.Command, command.Verb.Verb}
use Rattle.mc_item.specs.declared.{counting.Step.TheVariants.Up, counting.Step.TheVariants.Down, item.ClassNo.ClassNo, item.Item.Item, item.Link.Link}
use Rattle.mc_item.specs.declared.{reply.Reply.Reply, reply.Room.Room}
use Rattle.mc_item.specs.declared.answer.Change.TheVariants as changes
use Rattle.mc_item.specs.declared.command.Command.TheVariants.{Get, Gat, Store, Huge, Incr, Decr, Touch, Delete}
use Rattle.mc_item.specs.declared.command.Verb.TheVariants.{Set, Add, Replace, Cas, Append, Prepend}
use Rattle.mc_item.specs.declared.reply.Room.TheVariants as rooms
use Rattle.mc_stripe.specs.Plan.{Wakes, fate_of, woken_of}
use Rattle.mc_stripe.specs.declared.fate.Fate.{Fate}
use Rattle.mc_stripe.specs.declared.fate.Fate.TheVariants as fates

-- ---- no row makes a new version that is ACTIVE
abbrev IsUnmarked : Change → Type 0
IsUnmarked changes.Stays = Unit {0}
IsUnmarked changes.Goes = Unit {0}
IsUnmarked (changes.Hit marks) = Unit {0}
IsUnmarked (changes.Touched expiry marks) = Unit {0}
IsUnmarked (changes.Counted value cas) = Unit {0}
IsUnmarked (changes.Renewed item) = item.marks.active ≡ false

let_go_unmarked : (verb : Verb) → IsUnmarked (let_go verb)
let_go_unmarked Set = tt
let_go_unmarked Add = tt
let_go_unmarked Replace = tt
let_go_unmarked (Cas unique) = tt
let_go_unmarked Append = tt
let_go_unmarked Prepend = tt

fresh_unmarked : (room : Room) (class : ClassNo) (reply : Reply) (version : Link → Item) (refused : Answer) → ((link : Link) → (version link).marks.active ≡ false) → IsUnmarked refused.change
    → IsUnmarked ((fresh class reply version refused).answer room).change
fresh_unmarked (rooms.At link) class reply version refused new none = new link
fresh_unmarked (rooms.Refused of place) class reply version refused new none = none
fresh_unmarked rooms.Keep class reply version refused new none = none

module _ (room : Room) where
  abbrev RowIsUnmarked : Row → Type 0
  RowIsUnmarked row = IsUnmarked (row.answer room).change

  either_unmarked : (b : Bool) (row other : Row) → RowIsUnmarked row → RowIsUnmarked other → RowIsUnmarked (if b then row else other)
  either_unmarked true row other first second = first
  either_unmarked false row other first second = second

  join_unmarked : (class : Option ClassNo) (found : Option Item) (version : Link → Item) → ((link : Link) → (version link).marks.active ≡ false) → RowIsUnmarked (join_row class found version)
  join_unmarked class None version new = tt
  join_unmarked None (Some item) version new = tt
  join_unmarked (Some class) (Some item) version new = fresh_unmarked room class _ version _ new tt

  store_unmarked : (class : Option ClassNo) (verb : Verb) (found : Option Item) (version : Link → Item) → ((link : Link) → (version link).marks.active ≡ false) → RowIsUnmarked (store_row class verb found version)
  store_unmarked class Append found version new = join_unmarked class found version new
  store_unmarked class Prepend found version new = join_unmarked class found version new
  store_unmarked None Set found version new = tt
  store_unmarked None Add found version new = tt
  store_unmarked None Replace found version new = tt
  store_unmarked None (Cas unique) found version new = tt
  store_unmarked (Some class) Set found version new = fresh_unmarked room class _ version _ new tt
  store_unmarked (Some class) Add None version new = fresh_unmarked room class _ version _ new tt
  store_unmarked (Some class) Add (Some item) version new = tt
  store_unmarked (Some class) Replace None version new = tt
  store_unmarked (Some class) Replace (Some item) version new = fresh_unmarked room class _ version _ new tt
  store_unmarked (Some class) (Cas unique) None version new = tt
  store_unmarked (Some class) (Cas unique) (Some item) version new = either_unmarked (item.cas == unique) _ _ (fresh_unmarked room class _ version _ new tt) tt

  grown_unmarked : (site : Site) (n : ℕ) (item : Item) (number : ℕ) (class : Option ClassNo) → RowIsUnmarked (grown_row site n item number class)
  grown_unmarked site n item number None = tt
  grown_unmarked site n item number (Some class) = fresh_unmarked room class _ _ _ (λ link. refl) tt

  number_unmarked : (site : Site) (n : ℕ) (key : List ℕ) (item : Item) (number : Option ℕ) → RowIsUnmarked (number_row site n key item number)
  number_unmarked site n key item None = tt
  number_unmarked site n key item (Some number) =
      either_unmarked (nat_le (length (decimal number)) (length item.value)) _ _ tt (grown_unmarked site n item number (class_of site.sizes (cost_of key (decimal number))))

  row_unmarked : (site : Site) (n : ℕ) (found : Option Item) (command : Command) (moment : ℕ) → RowIsUnmarked (row_of site n found command moment)
  row_unmarked site n None (Get key) moment = tt
  row_unmarked site n (Some item) (Get key) moment = tt
  row_unmarked site n None (Gat key exptime) moment = tt
  row_unmarked site n (Some item) (Gat key exptime) moment = tt
  row_unmarked site n found (Store verb key flags exptime value) moment =
      let own : Written = record { flags = flags; value = value; expiry = expiry_of exptime moment } in
      let written = written_over verb own found in
      store_unmarked (class_of site.sizes (cost_of key written.value)) verb found (version_of site n written.flags written.value written.expiry) (λ link. refl)
  row_unmarked site n found (Huge verb key) moment = let_go_unmarked verb
  row_unmarked site n None (Incr key delta) moment = tt
  row_unmarked site n (Some item) (Incr key delta) moment = number_unmarked site n key item (option_map (stepped (Up delta)) (numeral_of item.value))
  row_unmarked site n None (Decr key delta) moment = tt
  row_unmarked site n (Some item) (Decr key delta) moment = number_unmarked site n key item (option_map (stepped (Down delta)) (numeral_of item.value))
  row_unmarked site n None (Touch key exptime) moment = tt
  row_unmarked site n (Some item) (Touch key exptime) moment = tt
  row_unmarked site n None (Delete key) moment = tt
  row_unmarked site n (Some item) (Delete key) moment = tt

-- ---- what a hit tells, by the mark that it leaves and the one that was there
record IsHit (active was : Bool) (link other : Link) : Type 0 where
  pub on : active ≡ true
  pub off : was ≡ false
  pub same : link ≡ other

told_hit : (active was : Bool) (link other : Link) → woken_of (if active && not was then fates.Woken link else fates.Untouched) ≡ Some other → IsHit active was link other
told_hit true true link other is = absurd (cc is)
told_hit true false link other is = let some : Some link ≡ Some other = is in let same : link ≡ other = cc in record { on = refl; off = refl; same = same }
told_hit false was link other is = absurd (cc is)

hit_told : (active was : Bool) (link other : Link) → IsHit active was link other → woken_of (if active && not was then fates.Woken link else fates.Untouched) ≡ Some other
hit_told true true link other hit = absurd (false≢true (sym hit.off))
hit_told true false link other hit = ap (λ (l : Link). Some l) hit.same
hit_told false was link other hit = absurd (false≢true hit.on)

-- ---- by the change of an item
told_wakes : (key : List ℕ) (found : Option Item) (change : Change) (link : Link) → woken_of (fate_of key found change) ≡ Some link → Wakes found change link
told_wakes key found changes.Stays link is = absurd (cc is)
told_wakes key None changes.Goes link is = absurd (cc is)
told_wakes key (Some item) changes.Goes link is = absurd (cc is)
told_wakes key None (changes.Hit marks) link is = absurd (cc is)
told_wakes key (Some item) (changes.Hit marks) link is =
    let hit = told_hit marks.active item.marks.active item.link link is in record { was = (hit.same, hit.off); is = (hit.same, hit.on) }
told_wakes key None (changes.Touched expiry marks) link is = absurd (cc is)
told_wakes key (Some item) (changes.Touched expiry marks) link is =
    let hit = told_hit marks.active item.marks.active item.link link is in record { was = (hit.same, hit.off); is = (hit.same, hit.on) }
told_wakes key found (changes.Counted value cas) link is = absurd (cc is)
told_wakes key found (changes.Renewed item) link is = absurd (cc is)

wakes_told : (key : List ℕ) (found : Option Item) (change : Change) (link : Link) → IsUnmarked change → Wakes found change link → woken_of (fate_of key found change) ≡ Some link
wakes_told key None change link none wakes = absurd wakes.was
wakes_told key (Some item) changes.Stays link none wakes = absurd (false≢true (sym wakes.was.1 ∙ wakes.is.1))
wakes_told key (Some item) changes.Goes link none wakes = absurd wakes.is
wakes_told key (Some item) (changes.Hit marks) link none wakes = hit_told marks.active item.marks.active item.link link (record { on = wakes.is.1; off = wakes.was.1; same = wakes.was.0 })
wakes_told key (Some item) (changes.Touched expiry marks) link none wakes = hit_told marks.active item.marks.active item.link link (record { on = wakes.is.1; off = wakes.was.1; same = wakes.was.0 })
wakes_told key (Some item) (changes.Counted value cas) link none wakes = absurd (false≢true (sym wakes.was.1 ∙ wakes.is.1))
wakes_told key (Some item) (changes.Renewed new) link none wakes = absurd (false≢true (sym none ∙ wakes.is.1))

-- a command's fate tells the link of an item that it made ACTIVE, and only such a link
pub told_just_woken : (site : Site) (n : ℕ) (found : Option Item) (command : Command) (moment : ℕ) (room : Room) (fate : Fate) (link : Link)
    → fate ≡ fate_of (key_of command) found ((row_of site n found command moment).answer room).change
    → (woken_of fate ≡ Some link) ↔ Wakes found ((row_of site n found command moment).answer room).change link
told_just_woken site n found command moment room fate link is =
    let change = ((row_of site n found command moment).answer room).change in
    let both : (woken_of (fate_of (key_of command) found change) ≡ Some link) ↔ Wakes found change link =
    (told_wakes (key_of command) found change link, wakes_told (key_of command) found change link (row_unmarked room site n found command moment)) in
    subst (λ (f : Fate). (woken_of f ≡ Some link) ↔ Wakes found change link) (sym is) both
