-- The kinds of items: the dead, and the others by what they have to live.
use Rattle.std.proofs.Common.{◌≡◌, ◌+◌, ◌-◌, ◌*◌, ◌/◌, ◌<◌, ◌≤◌, ◌↔◌, ℕ, Bool, true, false, if◌then◌else◌, refl, ap, ◌∙◌, nat_lt, arith}
use Rattle.std.proofs.lemmas.Bool.Decides.{nat_tests}
use Rattle.mc_item.specs.declared.{item.Expiry.Expiry, item.Expiry.TheVariants.Never, item.Expiry.TheVariants.At, item.Item.Item}
use Rattle.mc_item.specs.Item.{is_dead}
use Rattle.mc_crawl.specs.declared.kind.Kind.{Kind}
use Rattle.mc_crawl.specs.declared.kind.Kind.TheVariants as kinds
use Rattle.mc_crawl.specs.CrawlKind.{kind_alive, kind_left, kind_of_item}

not_left : (far : Bool) (minute : ℕ) → (if far then kinds.HourPlus else kinds.Minute minute) ≡ kinds.Reclaimed → ⊥
not_left true minute h = cc
not_left false minute h = cc

not_alive : (moment : ℕ) (expiry : Expiry) → kind_alive moment expiry ≡ kinds.Reclaimed → ⊥
not_alive moment Never h = cc
not_alive moment (At end) h = not_left (nat_lt 3599 (end - moment)) ((end - moment) / 60) h

dead_by : (moment : ℕ) (expiry : Expiry) (dead : Bool) → ((if dead then kinds.Reclaimed else kind_alive moment expiry) ≡ kinds.Reclaimed) ↔ (dead ≡ true)
dead_by moment expiry true = (λ h. refl, λ h. refl)
dead_by moment expiry false = (λ h. absurd (not_alive moment expiry h), λ h. cc)

-- an item counts as reclaimed just where it is dead
pub dead_kind : (moment : ℕ) (item : Item) → (kind_of_item moment item ≡ kinds.Reclaimed) ↔ (is_dead item moment ≡ true)
dead_kind moment item = dead_by moment item.expiry (is_dead item moment)

by_far : (far : Bool) (left : ℕ) (k : Kind) → nat_lt 3599 left ≡ far → (if far then kinds.HourPlus else kinds.Minute (left / 60)) ≡ k → kind_left left ≡ k
by_far far left k is h = ap (λ (b : Bool). if b then kinds.HourPlus else kinds.Minute (left / 60)) is ∙ h

-- whole minutes
pub minute_kind : (left minute : ℕ) → minute < 60 → 60 * minute ≤ left → left < 60 * (minute + 1) → kind_left left ≡ kinds.Minute minute
minute_kind left minute inside low high =
    let whole : left / 60 ≡ minute = omega arith in
    by_far false left (kinds.Minute minute) (grind (arith, nat_tests)) (ap (λ (n : ℕ). kinds.Minute n) whole)

-- an hour or more
pub hour_kind : (left : ℕ) → 60 * 60 ≤ left → kind_left left ≡ kinds.HourPlus
hour_kind left long = by_far true left kinds.HourPlus (grind (arith, nat_tests)) refl
