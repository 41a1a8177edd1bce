-- The sums of moves, and of histograms.
use Rattle.std.proofs.Common.{◌≡◌, ◌+◌, ◌<◌, ◌^◌, ℕ, List, [], ◌∷◌, ◌++◌, refl, sym, ap, ◌∙◌, arith, length}
use Rattle.std.specs.List.{sum}
use Rattle.std.proofs.lemmas.List.Sums.{sum_by-cons}
use Rattle.mc_item.specs.Counts.{FitInPairs, FitsTogether, added, no_counts, sums}
use Rattle.mc_item.specs.declared.{counts.Histogram.Histogram, counts.Moves.Moves}
use Rattle.mc_proto.specs.Answers.{Answer, Counted, Limited, Moved, Replied, counts_of, moves_of, moves_sum}
use Rattle.mc_script.specs.Calls.{AddsUp}

-- moves may be summed in any order
moves_sum-assoc : (a b c : Moves) → moves_sum (moves_sum a b) c ≡ moves_sum a (moves_sum b c)
moves_sum-assoc a b c =
    let reclaimed : a.reclaimed + b.reclaimed + c.reclaimed ≡ a.reclaimed + (b.reclaimed + c.reclaimed) = omega arith in
    let moved : a.moved + b.moved + c.moved ≡ a.moved + (b.moved + c.moved) = omega arith in
    cc

-- no moves are added behind
moves_sum-none : (a : Moves) → moves_sum a (record { reclaimed = 0; moved = 0 }) ≡ moves_sum (record { reclaimed = 0; moved = 0 }) a
moves_sum-none a =
    let reclaimed : a.reclaimed + 0 ≡ 0 + a.reclaimed = omega arith in
    let moved : a.moved + 0 ≡ 0 + a.moved = omega arith in
    cc

-- one answer more is added last
pub moves_of-push : (answers : List Answer) (sums moves : Moves) → sums ≡ moves_of answers → moves_sum sums moves ≡ moves_of (answers ++ Moved moves ∷ [])
moves_of-push [] sums moves is = rw is (sym (moves_sum-none moves))
moves_of-push (Replied reply ∷ bs) sums moves is = moves_of-push bs sums moves is
moves_of-push (Counted histogram ∷ bs) sums moves is = moves_of-push bs sums moves is
moves_of-push (Limited ∷ bs) sums moves is = moves_of-push bs sums moves is
moves_of-push (Moved first ∷ bs) sums moves is =
    ap (λ s. moves_sum s moves) is ∙ moves_sum-assoc first (moves_of bs) moves ∙ ap (moves_sum first) (moves_of-push bs (moves_of bs) moves refl)

-- lists may be summed place by place in any order
sums-assoc : (a b c : List ℕ) → sums (sums a b) c ≡ sums a (sums b c)
sums-assoc [] b c = refl
sums-assoc (x ∷ a) [] c = refl
sums-assoc (x ∷ a) (y ∷ b) [] = refl
sums-assoc (x ∷ a) (y ∷ b) (z ∷ c) =
    let first : x + y + z ≡ x + (y + z) = omega arith in
    let rest = sums-assoc a b c in
    cc

-- and either of two lists may come first
sums-comm : (a b : List ℕ) → sums a b ≡ sums b a
sums-comm [] [] = refl
sums-comm [] (y ∷ b) = refl
sums-comm (x ∷ a) [] = refl
sums-comm (x ∷ a) (y ∷ b) =
    let first : x + y ≡ y + x = omega arith in
    let rest = sums-comm a b in
    cc

-- histograms may be summed in any order
added-assoc : (a b c : Histogram) → added (added a b) c ≡ added a (added b c)
added-assoc a b c =
    let minutes = sums-assoc a.minutes b.minutes c.minutes in
    let hour_plus : a.hour_plus + b.hour_plus + c.hour_plus ≡ a.hour_plus + (b.hour_plus + c.hour_plus) = omega arith in
    let no_expiry : a.no_expiry + b.no_expiry + c.no_expiry ≡ a.no_expiry + (b.no_expiry + c.no_expiry) = omega arith in
    let seen : a.seen + b.seen + c.seen ≡ a.seen + (b.seen + c.seen) = omega arith in
    let reclaimed : a.reclaimed + b.reclaimed + c.reclaimed ≡ a.reclaimed + (b.reclaimed + c.reclaimed) = omega arith in
    let passed : a.passed + b.passed + c.passed ≡ a.passed + (b.passed + c.passed) = omega arith in
    let gone : a.gone + b.gone + c.gone ≡ a.gone + (b.gone + c.gone) = omega arith in
    cc

-- and either of two may come first
added-comm : (a b : Histogram) → added a b ≡ added b a
added-comm a b =
    let minutes = sums-comm a.minutes b.minutes in
    let hour_plus : a.hour_plus + b.hour_plus ≡ b.hour_plus + a.hour_plus = omega arith in
    let no_expiry : a.no_expiry + b.no_expiry ≡ b.no_expiry + a.no_expiry = omega arith in
    let seen : a.seen + b.seen ≡ b.seen + a.seen = omega arith in
    let reclaimed : a.reclaimed + b.reclaimed ≡ b.reclaimed + a.reclaimed = omega arith in
    let passed : a.passed + b.passed ≡ b.passed + a.passed = omega arith in
    let gone : a.gone + b.gone ≡ b.gone + a.gone = omega arith in
    cc

-- one answer more is added last
pub counts_of-push : (answers : List Answer) (sum histogram : Histogram) → sum ≡ counts_of answers → added sum histogram ≡ counts_of (answers ++ Counted histogram ∷ [])
counts_of-push [] sum histogram is = rw is (added-comm no_counts histogram)
counts_of-push (Replied reply ∷ bs) sum histogram is = counts_of-push bs sum histogram is
counts_of-push (Moved moves ∷ bs) sum histogram is = counts_of-push bs sum histogram is
counts_of-push (Limited ∷ bs) sum histogram is = counts_of-push bs sum histogram is
counts_of-push (Counted first ∷ bs) sum histogram is =
    ap (λ s. added s histogram) is ∙ added-assoc first (counts_of bs) histogram ∙ ap (added first) (counts_of-push bs (counts_of bs) histogram refl)

-- two lists of one length, summed place by place
sum_sums : (xs ys : List ℕ) → length xs ≡ length ys → sum (sums xs ys) ≡ sum xs + sum ys
sum_sums [] [] long = refl
sum_sums [] (y ∷ ys) long = absurd (omega arith)
sum_sums (x ∷ xs) [] long = absurd (omega arith)
sum_sums (x ∷ xs) (y ∷ ys) long =
    omega (arith, sum_sums xs ys (omega arith), sum_by-cons (λ n. n) (x + y) (sums xs ys), sum_by-cons (λ n. n) x xs, sum_by-cons (λ n. n) y ys)

-- the sums are as many
pub sums_long : (xs ys : List ℕ) (n : ℕ) → length xs ≡ n → length ys ≡ n → length (sums xs ys) ≡ n
sums_long [] ys n first second = first
sums_long (x ∷ xs) [] n first second = absurd (omega arith)
sums_long (x ∷ xs) (y ∷ ys) n first second = omega (arith, sums_long xs ys (length xs) refl (omega arith))

-- a sum of histograms adds up where both do
pub adds_up_both : (a b : Histogram) → length a.minutes ≡ length b.minutes → AddsUp a → AddsUp b → AddsUp (added a b)
adds_up_both a b long first second = omega (arith, sum_sums a.minutes b.minutes long)

-- minutes whose sums are below 2^64 are below it in pairs
pairs_fit : (xs ys : List ℕ) → sum xs + sum ys < 2 ^ 64 → FitInPairs xs ys
pairs_fit [] ys few = tt
pairs_fit (x ∷ xs) [] few = tt
pairs_fit (x ∷ xs) (y ∷ ys) few =
    let first = sum_by-cons (λ n. n) x xs in
    let second = sum_by-cons (λ n. n) y ys in
    (omega arith, pairs_fit xs ys (omega arith))

-- two histograms that add up fit together where what was seen does
pub both_fit : (a b : Histogram) → AddsUp a → AddsUp b → a.seen + b.seen < 2 ^ 64 → FitsTogether a b
both_fit a b first second few = record {
  minutes = pairs_fit a.minutes b.minutes (omega arith);
  hour_plus = omega arith;
  no_expiry = omega arith;
  seen = few;
  reclaimed = omega arith;
  passed = omega arith;
  gone = omega arith;
}
