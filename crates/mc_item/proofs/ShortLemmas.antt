-- Thirty bytes, eight of them at a time.
use Rattle.std.proofs.Common.{◌≡◌, ℕ, ◌<◌, ◌^◌, List, ◌++◌, sym, ap, ◌∙◌, length, take, drop, arith}
use Rattle.std.specs.Int.{to_le_bytes, from_le_bytes, w64}
use Rattle.std.proofs.lemmas.{List.take-append-drop, List.take_all, List.length-drop, List.drop-drop, Nat.from_le_bytes-to_le_bytes_8}

-- lists that begin and end alike are one
joined : (n : ℕ) (xs ys : List ℕ) → take n xs ≡ take n ys → drop n xs ≡ drop n ys → xs ≡ ys
joined n xs ys front rest = sym (take-append-drop n xs) ∙ (ap (λ f. f ++ drop n xs) front ∙ (ap (λ r. take n ys ++ r) rest ∙ take-append-drop n ys))

-- thirty bytes are those of which each eight, from these places on, are
pub words_equal : (xs ys : List ℕ) → length xs ≡ 30 → length ys ≡ 30
    → take 8 (drop 0 xs) ≡ take 8 (drop 0 ys) → take 8 (drop 8 xs) ≡ take 8 (drop 8 ys)
    → take 8 (drop 16 xs) ≡ take 8 (drop 16 ys) → take 8 (drop 22 xs) ≡ take 8 (drop 22 ys)
    → xs ≡ ys
words_equal xs ys long as_long first second third last =
    let whole : (zs : List ℕ) → length zs ≡ 30 → take 8 (drop 22 zs) ≡ drop 22 zs = λ zs is. take_all 8 (drop 22 zs) (omega (arith, is, length-drop 22 zs)) in
    let ends : drop 22 xs ≡ drop 22 ys = sym (whole xs long) ∙ (last ∙ whole ys as_long) in
    let behind : drop 24 xs ≡ drop 24 ys = sym (drop-drop 2 22 xs) ∙ (ap (drop 2) ends ∙ drop-drop 2 22 ys) in
    let from_16 : drop 16 xs ≡ drop 16 ys = joined 8 (drop 16 xs) (drop 16 ys) third (drop-drop 8 16 xs ∙ (behind ∙ sym (drop-drop 8 16 ys))) in
    let from_8 : drop 8 xs ≡ drop 8 ys = joined 8 (drop 8 xs) (drop 8 ys) second (drop-drop 8 8 xs ∙ (from_16 ∙ sym (drop-drop 8 8 ys))) in
    joined 8 xs ys first from_8

-- a number is that of its eight bytes
pub word_is : (m n : ℕ) → m < 2 ^ 64 → n < 2 ^ 64 → to_le_bytes w64 m ≡ to_le_bytes w64 n → m ≡ n
word_is m n fits as_well same = sym (from_le_bytes-to_le_bytes_8 m fits) ∙ (ap (from_le_bytes w64) same ∙ from_le_bytes-to_le_bytes_8 n as_well)
