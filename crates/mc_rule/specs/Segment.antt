-- The rule of the segments: where a new entry goes, ages, surveys, limits, and which entries are near a tail (this project's own,
-- modelled on new_lru.txt and items.c). A moment is a time in seconds.
use Rattle.std.specs.Prelude.{ℕ, ◌+◌, ◌-◌, ◌*◌, ◌/◌, ◌≤◌, ◌≡◌, ◌==◌, ◌&&◌, List, [], ◌∷◌, Bool, nat_lt, nat_le, if◌then◌else◌, Option, Some, None, length, map}
use Rattle.std.specs.Prelude.{reverse}
use Rattle.mc_item.specs.declared.{config.Config.Config, item.Expiry.Expiry, item.Expiry.TheVariants.Never, item.Expiry.TheVariants.At, lists.Entry.Entry}
use Rattle.mc_item.specs.declared.{lists.Seg.Seg, lists.Seg.TheVariants.Hot, lists.Seg.TheVariants.Warm, lists.Seg.TheVariants.Cold, lists.Seg.TheVariants.Temp}
use Rattle.mc_rule.specs.Lists.{Lists, bytes_of, from_tail}

-- the settings of the rule: percents are of the bytes of HOT, WARM and COLD, factors are hundredths of the age of COLD's tail
pub record Rule : Type 0 where
  pub temp : Bool
  pub temp_ttl : ℕ
  pub hot_percent : ℕ
  pub warm_percent : ℕ
  pub hot_factor : ℕ
  pub warm_factor : ℕ

-- the rule of a configuration
abbrev pub rule_of : Config → Rule
rule_of c =
    record {
      temp = c.temp;
      temp_ttl = c.temp_ttl;
      hot_percent = c.hot_percent;
      warm_percent = c.warm_percent;
      hot_factor = c.hot_factor;
      warm_factor =
          c.warm_factor;
    }

-- the segment of a new entry whose item dies at `end`: TEMP if it is used and that is in the next `temp_ttl` seconds, else HOT
abbrev pub segment_until : Rule → ℕ → ℕ → Seg
segment_until rule moment end = if rule.temp && nat_lt moment end && nat_le end (moment + rule.temp_ttl) then Temp else Hot

-- the segment of a new entry, by its moment and its item's expiry
abbrev pub segment_for : Rule → ℕ → Expiry → Seg
segment_for rule moment Never = Hot
segment_for rule moment (At end) = segment_until rule moment end

-- the age of an entry at a moment in seconds, 0 if the entry's time is later
abbrev pub age_of : ℕ → Entry → ℕ
age_of moment e = moment - e.time

-- the age of an entry if there is one, otherwise 0
abbrev pub age_or_none : ℕ → Option Entry → ℕ
age_or_none moment None = 0
age_or_none moment (Some e) = age_of moment e

-- a survey's total: the bytes of HOT, WARM and COLD together
abbrev pub total_of : Lists → ℕ
total_of l = bytes_of l Hot + bytes_of l Warm + bytes_of l Cold

-- a survey's cold age: that of COLD's tail at a moment, 0 if COLD is empty
abbrev pub cold_age_of : ℕ → Lists → ℕ
cold_age_of moment l = age_or_none moment (from_tail l.cold 0)

-- a segment's share of the bytes in percent, 0 for COLD and TEMP
abbrev pub percent_of : Rule → Seg → ℕ
percent_of rule Hot = rule.hot_percent
percent_of rule Warm = rule.warm_percent
percent_of rule Cold = 0
percent_of rule Temp = 0

-- a segment's share of the cold age in hundredths, 0 for COLD and TEMP
abbrev pub factor_of : Rule → Seg → ℕ
factor_of rule Hot = rule.hot_factor
factor_of rule Warm = rule.warm_factor
factor_of rule Cold = 0
factor_of rule Temp = 0

-- the limit of a segment's bytes by a survey's total, rounded down
abbrev pub limit_of : Rule → Seg → ℕ → ℕ
limit_of rule seg total = total * percent_of rule seg / 100

-- the greatest age that entries near a segment's tail may have by a survey's cold age, rounded down
abbrev pub greatest_age_of : Rule → Seg → ℕ → ℕ
greatest_age_of rule seg cold_age = cold_age * factor_of rule seg / 100

-- the entries of a list that follow the entry of this number, toward the tail
abbrev pub behind : ℕ → List Entry → List Entry
behind n [] = []
behind n (e ∷ es) = if e.number == n then es else behind n es

-- the numbers of these entries
abbrev pub numbers_of : List Entry → List ℕ
numbers_of es = map (λ (e : Entry). e.number) es

-- the numbers of the entries that follow the entry of this number, from the tail on
abbrev pub numbers_behind : ℕ → List Entry → List ℕ
numbers_behind n es = reverse (numbers_of (behind n es))

-- the entry of this number is near its list's tail: `passed` has the numbers of the at most four that follow it, tail first
pub record IsNearTail (n : ℕ) (es : List Entry) (passed : List ℕ) : Type 0 where
  pub behind_it : passed ≡ numbers_behind n es
  pub few : length passed ≤ 4
