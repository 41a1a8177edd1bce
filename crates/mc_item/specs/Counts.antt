-- The crawler's histograms: the empty one, and the sum of two (this project's own).
use Rattle.std.specs.Prelude.{ℕ, ◌+◌, ◌<◌, ◌^◌, List, [], ◌∷◌, replicate}
use Rattle.mc_item.specs.declared.counts.Histogram.{Histogram}

-- the histogram of nothing: each count is 0
abbrev pub no_counts : Histogram
no_counts = record { minutes = replicate 60 0; hour_plus = 0; no_expiry = 0; seen = 0; reclaimed = 0; passed = 0; gone = 0 }

-- the sums of the numbers at the same places of two lists
abbrev pub sums : List ℕ → List ℕ → List ℕ
sums (x ∷ xs) (y ∷ ys) = (x + y) ∷ sums xs ys
sums [] ys = []
sums (x ∷ xs) [] = []

-- each sum of the two numbers at the same place is below 2^64
abbrev pub FitInPairs : List ℕ → List ℕ → Type 0
FitInPairs (x ∷ xs) (y ∷ ys) = (x + y < 2 ^ 64) × FitInPairs xs ys
FitInPairs [] ys = Unit {0}
FitInPairs (x ∷ xs) [] = Unit {0}

-- no count of the sum of two histograms exceeds 2^64 - 1
pub record FitsTogether (a : Histogram) (b : Histogram) : Type 0 where
  pub minutes : FitInPairs a.minutes b.minutes
  pub hour_plus : a.hour_plus + b.hour_plus < 2 ^ 64
  pub no_expiry : a.no_expiry + b.no_expiry < 2 ^ 64
  pub seen : a.seen + b.seen < 2 ^ 64
  pub reclaimed : a.reclaimed + b.reclaimed < 2 ^ 64
  pub passed : a.passed + b.passed < 2 ^ 64
  pub gone : a.gone + b.gone < 2 ^ 64

-- the sum of two histograms: each count is the sum of both
abbrev pub added : Histogram → Histogram → Histogram
added a b =
    record {
      minutes = sums a.minutes b.minutes;
      hour_plus = a.hour_plus + b.hour_plus;
      no_expiry = a.no_expiry + b.no_expiry;
      seen = a.seen + b.seen;
      reclaimed = a.reclaimed + b.reclaimed;
      passed = a.passed + b.passed;
      gone = a.gone + b.gone;
    }
