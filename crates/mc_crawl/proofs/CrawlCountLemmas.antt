-- The counts of histograms add up to what was seen.
use Rattle.std.proofs.Common.{◌≡◌, ◌+◌, ◌<◌, ◌^◌, ℕ, zero, suc, List, [], ◌∷◌, refl, length, arith, get_or, set}
use Rattle.std.specs.List.{sum}
use Rattle.std.proofs.lemmas.List.Sums.{sum_by-set, sum_by-cons, get_or-le-sum_by}
use Rattle.mc_item.specs.Counts.{FitInPairs, FitsTogether, added, sums}
use Rattle.mc_item.specs.declared.counts.Histogram.{Histogram}
use Rattle.mc_crawl.specs.declared.kind.Kind.{Kind}
use Rattle.mc_crawl.specs.declared.kind.Kind.TheVariants as kinds
use Rattle.mc_crawl.specs.{CrawlCount.counted_as, CrawlCount.count_of_kind, CrawlCount.IsBalanced, CrawlCount.MayCount, CrawlKind.IsCounted}

sum_first : (x : ℕ) (xs : List ℕ) → sum (x ∷ xs) ≡ x + sum xs
sum_first x xs = sum_by-cons (λ n. n) x xs

-- one more at a place
sum_raised : (ns : List ℕ) (i : ℕ) → i < length ns → sum (set ns i (get_or ns i 0 + 1)) ≡ sum ns + 1
sum_raised ns i h = omega (arith, sum_by-set (λ x. x) ns i (get_or ns i 0 + 1) 0 h)

-- one link more, counted as one kind
pub balanced_more : (k : Kind) (h : Histogram) → IsCounted k → length h.minutes ≡ 60 → IsBalanced h → IsBalanced (counted_as k h)
balanced_more kinds.Gone h is long balanced = omega arith
balanced_more kinds.Passed h is long balanced = omega arith
balanced_more kinds.Reclaimed h is long balanced = omega arith
balanced_more kinds.NoExpiry h is long balanced = omega arith
balanced_more kinds.HourPlus h is long balanced = omega arith
balanced_more (kinds.Minute minute) h is long balanced = omega (arith, sum_raised h.minutes minute (omega arith))

-- two lists of one length, summed place by place
sum_sums : (xs ys : List ℕ) → length xs ≡ length ys → sum (sums xs ys) ≡ sum xs + sum ys
sum_sums [] [] h = refl
sum_sums [] (y ∷ ys) h = absurd (omega arith)
sum_sums (x ∷ xs) [] h = absurd (omega arith)
sum_sums (x ∷ xs) (y ∷ ys) h =
    let rest = sum_sums xs ys (omega arith) in
    omega (arith, rest, sum_first (x + y) (sums xs ys), sum_first x xs, sum_first y ys)

at_sums : (xs ys : List ℕ) (i : ℕ) → length xs ≡ length ys → get_or (sums xs ys) i 0 ≡ get_or xs i 0 + get_or ys i 0
at_sums [] [] i h = refl
at_sums [] (y ∷ ys) i h = absurd (omega arith)
at_sums (x ∷ xs) [] i h = absurd (omega arith)
at_sums (x ∷ xs) (y ∷ ys) zero h = refl
at_sums (x ∷ xs) (y ∷ ys) (suc i) h = at_sums xs ys i (omega arith)

-- the sum of two balanced histograms is
pub balanced_sum : (a b : Histogram) → length a.minutes ≡ length b.minutes → IsBalanced a → IsBalanced b → IsBalanced (added a b)
balanced_sum a b long first second = omega (arith, sum_sums a.minutes b.minutes long)

-- the sum counts each kind as often as both
pub sum_counts : (k : Kind) (a b : Histogram) → length a.minutes ≡ length b.minutes → count_of_kind k (added a b) ≡ count_of_kind k a + count_of_kind k b
sum_counts kinds.Gone a b long = refl
sum_counts kinds.Passed a b long = refl
sum_counts kinds.Reclaimed a b long = refl
sum_counts kinds.NoExpiry a b long = refl
sum_counts kinds.HourPlus a b long = refl
sum_counts (kinds.Minute minute) a b long = at_sums a.minutes b.minutes minute long

-- one more fits into each count where one more fits into what was seen
pub few_fit : (h : Histogram) → IsBalanced h → h.seen + 1 < 2 ^ 64 → MayCount h
few_fit h balanced few = record {
  minutes = λ k d below. omega (arith, get_or-le-sum_by (λ x. x) h.minutes k d below);
  hour_plus = omega arith;
  no_expiry = omega arith;
  seen = few;
  reclaimed = omega arith;
  passed = omega arith;
  gone = omega arith;
}

pairs_fit : (xs ys : List ℕ) → sum xs + sum ys < 2 ^ 64 → FitInPairs xs ys
pairs_fit [] ys h = tt
pairs_fit (x ∷ xs) [] h = tt
pairs_fit (x ∷ xs) (y ∷ ys) h =
    let first = sum_first x xs in
    let second = sum_first y ys in
    (omega arith, pairs_fit xs ys (omega arith))

-- two histograms fit together where what was seen does
pub both_fit : (a b : Histogram) → IsBalanced a → IsBalanced b → a.seen + b.seen < 2 ^ 64 → FitsTogether a b
both_fit a b first second few = record {
  minutes = pairs_fit a.minutes b.minutes (omega arith);
  hour_plus = omega arith;
  no_expiry = omega arith;
  seen = few;
  reclaimed = omega arith;
  passed = omega arith;
  gone = omega arith;
}
