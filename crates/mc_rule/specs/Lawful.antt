-- Which events of a slab class are lawful after the earlier ones (this project's own, modelled on items.c): first by its lists
-- alone, then also by the item that an event refers to (the cited item). A moment is a time in seconds, and `chunks` is the
-- limit of chunks with which the class opened.
use Rattle.std.specs.Prelude.{ℕ, ◌^◌, ◌<◌, ◌≤◌, ◌≡◌, ◌==◌, ◌||◌, ◌⊎◌, List, [], ◌∷◌, ◌++◌, Bool, true, false, Option, Some, slice_get, IsSome}
use Rattle.std.specs.Option.{IsSomeAnd}
use Rattle.mc_item.specs.declared.{class_event.ClassEvent.ClassEvent, class_event.Shifted.Shifted, class_event.Surveyed.Surveyed, class_event.Why.Why}
use Rattle.mc_item.specs.declared.{item.ClassNo.ClassNo, item.Item.Item, lists.Entry.Entry, lists.Seg.Seg}
use Rattle.mc_item.specs.declared.class_event.ClassEvent.TheVariants as events
use Rattle.mc_item.specs.declared.class_event.Why.TheVariants as whys
use Rattle.mc_item.specs.declared.lists.Seg.TheVariants.{Hot, Warm, Cold, Temp}
use Rattle.mc_item.specs.Item.{is_dead}
use Rattle.mc_rule.specs.Lists.{HasFree, IsFull, Lists, bytes_of, find, found, list_of, lists_of}
use Rattle.mc_rule.specs.Segment.{IsNearTail, Rule, age_of, cold_age_of, greatest_age_of, limit_of, total_of}

-- whether an event is about the entry of this number
abbrev pub names : ℕ → ClassEvent → Bool
names n (events.Linked e) = e.number == n
names n (events.Unlinked e) = e.number == n
names n (events.Shifted e) = e.number == n
names n (events.Evicted e) = e.number == n
names n (events.Reclaimed e) = e.number == n
names n (events.Surveyed e) = false
names n (events.Refused e) = false
names n (events.Limited e) = false

-- whether one of these events is about the entry of this number
abbrev pub is_named : ℕ → List ClassEvent → Bool
is_named n [] = false
is_named n (e ∷ es) = names n e || is_named n es

-- one of the lists has an entry of this number
abbrev pub IsListed : ℕ → Lists → Type 0
IsListed n l = IsSome (found n l)

-- the list of this segment has an entry of this number
abbrev pub IsIn : Seg → ℕ → Lists → Type 0
IsIn s n l = IsSome (find n (list_of l s))

-- the segment is HOT or WARM, the ones that a survey limits
abbrev pub IsSurveyed : Seg → Type 0
IsSurveyed s = (s ≡ Hot) ⊎ (s ≡ Warm)

-- a move refers to this survey: it is at this place of the earlier events, made by the same call at the same moment
pub record Cites (before : List ClassEvent) (place : ℕ) (e : Shifted) (survey : Surveyed) : Type 0 where
  pub there : slice_get before place ≡ Some (events.Surveyed survey)
  pub who : survey.who ≡ e.who
  pub moment : survey.moment ≡ e.moment

-- an entry was found, and its age at a moment exceeds a limit
abbrev pub IsOlder : ℕ → Option Entry → ℕ → Type 0
IsOlder moment o limit = IsSomeAnd o (λ e. limit < age_of moment e)

-- a move for bytes: the list's bytes exceed their limit by the survey
abbrev pub IsOver : Rule → List ClassEvent → Shifted → Surveyed → Type 0
IsOver rule before e survey = limit_of rule e.from_seg survey.total < bytes_of (lists_of before) e.from_seg

-- a move for age alone: the list's bytes don't exceed their limit, and the entry's age exceeds its greatest age, by the survey
abbrev pub IsOld : Rule → List ClassEvent → Shifted → Surveyed → Type 0
IsOld rule before e survey =
    (bytes_of (lists_of before) e.from_seg ≤ limit_of rule e.from_seg survey.total)
    × IsOlder e.moment (find e.number (list_of (lists_of before) e.from_seg)) (greatest_age_of rule e.from_seg survey.cold_age)

-- the moved entry is near its list's tail
abbrev pub IsByTail : List ClassEvent → Shifted → Type 0
IsByTail before e = IsNearTail e.number (list_of (lists_of before) e.from_seg) e.passed

-- a move is lawful for this reason, by the lists alone
abbrev pub IsMove : ℕ → Rule → List ClassEvent → Shifted → Why → Type 0
IsMove chunks rule before e whys.Hit = (e.from_seg ≡ Cold) × (e.to_seg ≡ Warm) × (e.passed ≡ [])
IsMove chunks rule before e whys.Active = (e.from_seg ≡ Temp → ⊥) × (e.to_seg ≡ Warm) × IsByTail before e
IsMove chunks rule before e (whys.Over place) =
    IsSurveyed e.from_seg × (e.to_seg ≡ Cold) × IsByTail before e × ((survey : Surveyed) × Cites before place e survey × IsOver rule before e survey)
IsMove chunks rule before e (whys.Old place) =
    IsSurveyed e.from_seg × (e.to_seg ≡ Cold) × IsByTail before e × ((survey : Surveyed) × Cites before place e survey × IsOld rule before e survey)
IsMove chunks rule before e whys.Forced = (e.from_seg ≡ Hot) × (e.to_seg ≡ Cold) × IsByTail before e × IsFull chunks before

-- an event is lawful after the earlier ones, by the lists alone, in a class that opened with this limit and has this rule
abbrev pub IsLawfulByLists : ℕ → Rule → List ClassEvent → ClassEvent → Type 0
IsLawfulByLists chunks rule before (events.Linked e) = HasFree chunks before × (is_named e.number before ≡ false)
IsLawfulByLists chunks rule before (events.Unlinked e) = IsListed e.number (lists_of before)
IsLawfulByLists chunks rule before (events.Shifted e) = IsIn e.from_seg e.number (lists_of before) × IsMove chunks rule before e e.why
IsLawfulByLists chunks rule before (events.Evicted e) =
    IsIn Cold e.number (lists_of before) × IsFull chunks before × IsNearTail e.number (lists_of before).cold e.passed
IsLawfulByLists chunks rule before (events.Reclaimed e) = IsListed e.number (lists_of before)
IsLawfulByLists chunks rule before (events.Surveyed e) =
    (e.total ≡ total_of (lists_of before)) × (e.cold_age ≡ cold_age_of e.moment (lists_of before))
IsLawfulByLists chunks rule before (events.Refused e) = IsFull chunks before
IsLawfulByLists chunks rule before (events.Limited e) = (1 ≤ e.chunks) × (e.chunks ≤ 2 ^ 20)

-- each of these events is lawful after the events `before` and the earlier ones of these, by the lists alone
abbrev pub IsLawfulByListsFrom : ℕ → Rule → List ClassEvent → List ClassEvent → Type 0
IsLawfulByListsFrom chunks rule before [] = Unit {0}
IsLawfulByListsFrom chunks rule before (e ∷ es) = IsLawfulByLists chunks rule before e × IsLawfulByListsFrom chunks rule (before ++ e ∷ []) es

-- each event of a history is lawful after the earlier ones, by the lists alone
abbrev pub IsLawfulHistoryByLists : ℕ → Rule → List ClassEvent → Type 0
IsLawfulHistoryByLists chunks rule history = IsLawfulByListsFrom chunks rule [] history

-- the item of a moved entry suits the reason: ACTIVE for `Hit`, alive and ACTIVE for `Active`, otherwise alive and not ACTIVE
abbrev pub SuitsMove : Why → ℕ → Item → Type 0
SuitsMove whys.Hit moment item = item.marks.active ≡ true
SuitsMove whys.Active moment item = (item.marks.active ≡ true) × (is_dead item moment ≡ false)
SuitsMove (whys.Over place) moment item = (item.marks.active ≡ false) × (is_dead item moment ≡ false)
SuitsMove (whys.Old place) moment item = (item.marks.active ≡ false) × (is_dead item moment ≡ false)
SuitsMove whys.Forced moment item = (item.marks.active ≡ false) × (is_dead item moment ≡ false)

-- the entry of this number has a cited item (by its key and `at`), whose link is to the entry, and `P` holds of it
abbrev pub IsCited : ClassNo → (List ℕ → ℕ → Option Item) → Lists → ℕ → ℕ → (Item → Type 0) → Type 0
IsCited class cited l n at P =
    IsSomeAnd (found n l) (λ p. IsSomeAnd (cited p.1.key at) (λ item. (item.link ≡ record { class = class; number = n }) × P item))

-- the cited item suits the event: as a move's reason asks, or dead for a reclaiming; other events cite none
abbrev pub SuitsItem : ClassNo → (List ℕ → ℕ → Option Item) → List ClassEvent → ClassEvent → Type 0
SuitsItem class cited before (events.Linked e) = Unit {0}
SuitsItem class cited before (events.Unlinked e) = Unit {0}
SuitsItem class cited before (events.Shifted e) = IsCited class cited (lists_of before) e.number e.at (SuitsMove e.why e.moment)
SuitsItem class cited before (events.Evicted e) = Unit {0}
SuitsItem class cited before (events.Reclaimed e) = IsCited class cited (lists_of before) e.number e.at (λ item. is_dead item e.moment ≡ true)
SuitsItem class cited before (events.Surveyed e) = Unit {0}
SuitsItem class cited before (events.Refused e) = Unit {0}
SuitsItem class cited before (events.Limited e) = Unit {0}

-- an event of a class is lawful after the earlier ones, by the lists and by the cited item; `cited` gives the item that was held
-- under a key when its stripe had a given number of events
abbrev pub IsLawful : ClassNo → ℕ → Rule → (List ℕ → ℕ → Option Item) → List ClassEvent → ClassEvent → Type 0
IsLawful class chunks rule cited before e = IsLawfulByLists chunks rule before e × SuitsItem class cited before e

-- each of these events is lawful after the events `before` and the earlier ones of these
abbrev pub IsLawfulFrom : ClassNo → ℕ → Rule → (List ℕ → ℕ → Option Item) → List ClassEvent → List ClassEvent → Type 0
IsLawfulFrom class chunks rule cited before [] = Unit {0}
IsLawfulFrom class chunks rule cited before (e ∷ es) = IsLawful class chunks rule cited before e × IsLawfulFrom class chunks rule cited (before ++ e ∷ []) es

-- each event of a class's history is lawful after the earlier ones
abbrev pub IsLawfulHistory : ClassNo → ℕ → Rule → (List ℕ → ℕ → Option Item) → List ClassEvent → Type 0
IsLawfulHistory class chunks rule cited history = IsLawfulFrom class chunks rule cited [] history
