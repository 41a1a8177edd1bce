-- Texts that end sooner.
use Rattle.std.proofs.Common.{zero, suc, ◌≡◌, ◌∙◌, ◌≤◌, ◌<◌, ◌+◌, ◌-◌, ◌++◌, ◌∷◌, [], ℕ, List, length, take, drop, get_or, ap, sym, refl, arith, append_assoc, append-nil, take-append-drop}
use Rattle.std.proofs.Math.Seq.{take-append_seam, take-append-add}
use Rattle.std.proofs.lemmas.{List.take_more, Grind.flat_map-append}
use Rattle.mc_proto.specs.{Gathered.bytes_of_parts, Gathered.part_bytes, Text.IsBeginning}
use Rattle.mc_proto.specs.declared.{gathering.TextPart.TextPart, gathering.TextPart.TheVariants.Shared}

-- of the first so many bytes, the first fewer
take_fewer : (m n : ℕ) (bs : List ℕ) → m ≤ n → take m (take n bs) ≡ take m bs
take_fewer zero n bs le = refl
take_fewer (suc m) zero bs le = absurd (omega (arith, le))
take_fewer (suc m) (suc n) [] le = refl
take_fewer (suc m) (suc n) (b ∷ bs) le = ap (λ (xs : List ℕ). b ∷ xs) (take_fewer m n bs (omega (arith, le)))

take_short : (n : ℕ) (bs : List ℕ) → length (take n bs) ≤ n
take_short zero bs = omega arith
take_short (suc n) [] = omega arith
take_short (suc n) (b ∷ bs) = omega (arith, take_short n bs)

-- a text that ends within a shared value
pub cut_shared : (parts new : List TextPart) (last value all : List ℕ) (before count kept : ℕ) → new ≡ parts ++ Shared value (count - before) ∷ [] → last ≡ []
    → length (bytes_of_parts parts) ≡ before → before ≤ count → count < before + length (take kept value)
    → take count (bytes_of_parts parts ++ take kept value) ≡ take count all → bytes_of_parts new ++ last ≡ take count all
cut_shared parts new last value all before count kept is none many le within front =
    ap (λ (ps : List TextPart). bytes_of_parts ps ++ last) is
    ∙ ap (λ (l : List ℕ). bytes_of_parts (parts ++ Shared value (count - before) ∷ []) ++ l) none
    ∙ append-nil (bytes_of_parts (parts ++ Shared value (count - before) ∷ []))
    ∙ flat_map-append part_bytes parts (Shared value (count - before) ∷ [])
    ∙ ap (λ (t : List ℕ). bytes_of_parts parts ++ t) (append-nil (take (count - before) value))
    ∙ ap (λ (t : List ℕ). bytes_of_parts parts ++ t) (sym (take_fewer (count - before) kept value (omega (arith, within, take_short kept value))))
    ∙ sym (take-append-add (bytes_of_parts parts) (take kept value) (count - before))
    ∙ ap (λ (n : ℕ). take n (bytes_of_parts parts ++ take kept value)) (omega (arith, many, le))
    ∙ front

-- a text that grew, and ends again where it did
pub ends_again : (parts last more shown old gone back : List ℕ) (start : ℕ) → back ≡ take start gone → start ≡ length old → gone ≡ parts ++ shown → shown ≡ last ++ more → parts ++ last ≡ old → back ≡ old
ends_again parts last more shown old gone back start cut long went grew was =
    cut
    ∙ ap (λ (t : List ℕ). take start t) (went ∙ ap (λ (t : List ℕ). parts ++ t) grew ∙ sym (append_assoc parts last more) ∙ ap (λ (t : List ℕ). t ++ more) was)
    ∙ ap (λ (n : ℕ). take n (old ++ more)) long
    ∙ take-append_seam old more

-- what is written of a text, and a beginning of what comes behind it, is a beginning of the whole
pub begins_behind : (old mid new front back whole : List ℕ) → mid ≡ old ++ front → IsBeginning mid new back → whole ≡ front ++ back → IsBeginning old new whole
begins_behind old mid new front back whole so begun is = (
  front ++ begun.0,
  begun.1,
  is ∙ ap (λ (t : List ℕ). front ++ t) begun.2 ∙ sym (append_assoc front begun.0 begun.1),
  begun.3 ∙ ap (λ (t : List ℕ). t ++ begun.0) so ∙ append_assoc old front begun.0,
)

-- a beginning of what comes first is one of the whole
pub begins_before : (old new front back whole : List ℕ) → IsBeginning old new front → whole ≡ front ++ back → IsBeginning old new whole
begins_before old new front back whole begun is = (
  begun.0,
  begun.1 ++ back,
  is ∙ ap (λ (t : List ℕ). t ++ back) begun.2 ∙ append_assoc begun.0 begun.1 back,
  begun.3,
)

-- the part at a place stands between those before it and those behind it
pub among : (parts : List TextPart) (i : ℕ) (part : TextPart) → i < length parts → get_or parts i part ≡ part
    → bytes_of_parts parts ≡ (bytes_of_parts (take i parts) ++ part_bytes part) ++ bytes_of_parts (drop (i + 1) parts)
among parts i part within is =
    ap (λ (ps : List TextPart). bytes_of_parts ps) (sym (take-append-drop (i + 1) parts))
    ∙ flat_map-append part_bytes (take (i + 1) parts) (drop (i + 1) parts)
    ∙ ap (λ (t : List ℕ). t ++ bytes_of_parts (drop (i + 1) parts))
    (ap (λ (ps : List TextPart). bytes_of_parts ps) (take_more parts i part within ∙ ap (λ (p : TextPart). take i parts ++ p ∷ []) is)
    ∙ flat_map-append part_bytes (take i parts) (part ∷ [])
    ∙ ap (λ (t : List ℕ). bytes_of_parts (take i parts) ++ t) (append-nil (part_bytes part)))
