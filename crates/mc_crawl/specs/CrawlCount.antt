-- What a crawl adds to a histogram, and what a histogram's counts add up to (own).
use Rattle.std.specs.Prelude.{ℕ, ◌≡◌, ◌+◌, ◌<◌, ◌^◌, slice_index, slice_set}
use Rattle.std.specs.List.{All, sum}
use Rattle.mc_item.specs.declared.counts.Histogram.{Histogram}
use Rattle.mc_crawl.specs.declared.kind.Kind.{Kind}
use Rattle.mc_crawl.specs.declared.kind.Kind.TheVariants as kinds

-- a histogram's count of a kind
abbrev pub count_of_kind : Kind → Histogram → ℕ
count_of_kind kinds.Gone h = h.gone
count_of_kind kinds.Passed h = h.passed
count_of_kind kinds.Reclaimed h = h.reclaimed
count_of_kind kinds.NoExpiry h = h.no_expiry
count_of_kind kinds.HourPlus h = h.hour_plus
count_of_kind (kinds.Minute minute) h = slice_index h.minutes minute

-- the histogram with another count of one kind
abbrev pub with_count : Kind → ℕ → Histogram → Histogram
with_count kinds.Gone n h = record h { gone = n }
with_count kinds.Passed n h = record h { passed = n }
with_count kinds.Reclaimed n h = record h { reclaimed = n }
with_count kinds.NoExpiry n h = record h { no_expiry = n }
with_count kinds.HourPlus n h = record h { hour_plus = n }
with_count (kinds.Minute minute) n h = record h { minutes = slice_set h.minutes minute n }

-- the histogram after one more link was seen and counted as this kind
abbrev pub counted_as : Kind → Histogram → Histogram
counted_as k h = record (with_count k (count_of_kind k h + 1) h) { seen = h.seen + 1 }

-- one more link can be counted: no count, plus one, exceeds 2^64 - 1
pub record MayCount (h : Histogram) : Type 0 where
  pub minutes : All (λ n. n + 1 < 2 ^ 64) h.minutes
  pub hour_plus : h.hour_plus + 1 < 2 ^ 64
  pub no_expiry : h.no_expiry + 1 < 2 ^ 64
  pub seen : h.seen + 1 < 2 ^ 64
  pub reclaimed : h.reclaimed + 1 < 2 ^ 64
  pub passed : h.passed + 1 < 2 ^ 64
  pub gone : h.gone + 1 < 2 ^ 64

-- the sum of the counts of all kinds
abbrev pub sum_of_kinds : Histogram → ℕ
sum_of_kinds h = sum h.minutes + h.hour_plus + h.no_expiry + h.reclaimed + h.passed + h.gone

-- as many links were seen as all kinds count together
abbrev pub IsBalanced : Histogram → Type 0
IsBalanced h = h.seen ≡ sum_of_kinds h
