-- Configurations: which are sound, and the usual one (this project's own).
use Rattle.std.specs.Prelude.{ℕ, ◌+◌, ◌*◌, ◌/◌, ◌^◌, ◌<◌, ◌≤◌, ◌==◌, ◌&&◌, ◌||◌, List, [], ◌∷◌, Bool, true, not, nat_le, nat_lt, if◌then◌else◌, Option, Some}
use Rattle.std.specs.Prelude.{None, length, replicate, zero, suc}
use Rattle.std.specs.Prelude.{false, ◌≡◌}
use Rattle.std.specs.List.{All, list_all}
use Rattle.mc_item.specs.declared.{config.Config.Config, config.ConfigFault.ConfigFault}
use Rattle.mc_item.specs.declared.config.ConfigFault.TheVariants.{Stripes, Sizes, Chunks, Percent, Factor, Callers, Events}

-- the number of stripes is a power of two from 1 to 64
abbrev pub are_stripes : ℕ → Bool
are_stripes n = n == 1 || n == 2 || n == 4 || n == 8 || n == 16 || n == 32 || n == 64

-- each number is larger than the one before
abbrev pub is_rising : List ℕ → Bool
is_rising [] = true
is_rising (first ∷ []) = true
is_rising (first ∷ second ∷ more) = nat_lt first second && is_rising (second ∷ more)

-- the size is from 65 to 1,048,576
abbrev pub is_size : ℕ → Bool
is_size size = nat_le 65 size && nat_le size 1048576

-- there are 1 to 63 sizes, each from 65 to 1,048,576, strictly rising
abbrev pub are_sizes : List ℕ → Bool
are_sizes sizes = nat_lt 0 (length sizes) && nat_le (length sizes) 63 && list_all is_size sizes && is_rising sizes

-- the number of chunks is from 1 to 1,048,576
abbrev pub is_limit : ℕ → Bool
is_limit limit = nat_le 1 limit && nat_le limit 1048576

-- there is one number of chunks for each class, each from 1 to 1,048,576
abbrev pub are_chunks : List ℕ → ℕ → Bool
are_chunks chunks classes = length chunks == classes && list_all is_limit chunks

-- the two percents are from 1 to 99, and their sum is at most 99
abbrev pub are_percents : ℕ → ℕ → Bool
are_percents hot warm = nat_le 1 hot && nat_le hot 99 && nat_le 1 warm && nat_le warm 99 && nat_le (hot + warm) 99

-- the two factors are at most 10,000 hundredths of an age, and `temp_ttl` is from 1 second to 30 days
abbrev pub are_factors : ℕ → ℕ → ℕ → Bool
are_factors hot warm temp_ttl = nat_le hot 10000 && nat_le warm 10000 && nat_le 1 temp_ttl && nat_le temp_ttl 2592000

-- the number of callers is from 1 to 64
abbrev pub are_callers : ℕ → Bool
are_callers callers = nat_le 1 callers && nat_le callers 64

-- the limit of a history's events is from 16 to 2^32
abbrev pub are_events : ℕ → Bool
are_events events = nat_le 16 events && nat_le events (2 ^ 32)

-- the first thing that is wrong with a configuration, if there is one
abbrev pub fault_of : Config → Option ConfigFault
fault_of c =
    if not (are_stripes c.stripes) then Some Stripes
    else if not (are_sizes c.sizes) then Some Sizes
    else if not (are_chunks c.chunks (length c.sizes)) then Some Chunks
    else if not (are_percents c.hot_percent c.warm_percent) then Some Percent
    else if not (are_factors c.hot_factor c.warm_factor c.temp_ttl) then Some Factor
    else if not (are_callers c.callers) then Some Callers
    else if not (are_events c.max_events) then Some Events
    else None

-- nothing is wrong with the configuration
abbrev pub IsSound : Config → Type 0
IsSound c = fault_of c ≡ None

-- the bounds of a sound configuration's numbers, as facts
pub record IsBounded (c : Config) : Type 0 where
  pub some_stripes : 0 < c.stripes
  pub few_stripes : c.stripes ≤ 64
  pub some_sizes : 0 < length c.sizes
  pub few_sizes : length c.sizes ≤ 63
  pub small_sizes : All (λ size. size ≤ 2 ^ 20) c.sizes
  pub as_many : length c.chunks ≡ length c.sizes
  pub some_callers : 0 < c.callers
  pub few_callers : c.callers ≤ 64
  pub some_events : 16 ≤ c.max_events
  pub few_events : c.max_events ≤ 2 ^ 32

-- the next size: a quarter larger than this one, rounded up to a multiple of 8
abbrev pub next_size : ℕ → ℕ
next_size size = (size + size / 4 + 7) / 8 * 8

-- at most this many sizes: this one and the next ones as long as they are below 1,048,576, then 1,048,576 itself
abbrev pub sizes_from : ℕ → ℕ → List ℕ
sizes_from zero size = []
sizes_from (suc more) size = if nat_lt size 1048576 then size ∷ sizes_from more (next_size size) else 1048576 ∷ []

-- the usual sizes, from 96 on
abbrev pub usual_sizes : List ℕ
usual_sizes = sizes_from 63 96

-- 1,024 chunks for each usual size
abbrev pub usual_chunks : List ℕ
usual_chunks = replicate (length usual_sizes) 1024

-- the usual configuration for this many callers: one stripe, the usual sizes, and the usual numbers of chunks
abbrev pub usual_config : ℕ → Config
usual_config callers =
    record {
      stripes = 1;
      sizes = usual_sizes;
      chunks = usual_chunks;
      hot_percent = 20;
      warm_percent = 40;
      hot_factor = 20;
      warm_factor = 200;
      temp = false;
      temp_ttl = 61;
      callers = callers;
      max_events = 1048576;
      keeps_events = true;
    }
