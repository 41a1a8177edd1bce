-- What a reader gave, piece by piece.
use Rattle.std.proofs.Common.{◌≡◌, ◌∙◌, ◌+◌, ℕ, List, ◌++◌, Option, Some, None, ap, append-nil, append_assoc, drop, subst, sym, take}
use Rattle.std.proofs.Math.Seq.{take-add}
use Rattle.std.specs.Prelude.{IfSome}
use Rattle.std.specs.Io.KnownBytes.{Consumes, IsAtEnd}

-- what was read before, and what is read behind it
pub read_more : (a b c : Option (List ℕ)) (bs cs : List ℕ) → Consumes a b bs → Consumes b c cs → Consumes a c (bs ++ cs)
read_more None b c bs cs p q = tt
read_more (Some x) None c bs cs p q = absurd p
read_more (Some x) (Some y) None bs cs p q = absurd q
read_more (Some x) (Some y) (Some z) bs cs p q = p ∙ ap (λ l. bs ++ l) q ∙ sym (append_assoc bs cs z)

-- the same, of the room of a piece
pub filled_more : (a b c : Option (List ℕ)) (old new : List ℕ) (filled came : ℕ) → take filled new ≡ take filled old → Consumes a b (take filled old) → Consumes b c (take came (drop filled new))
    → Consumes a c (take (filled + came) new)
filled_more a b c old new filled came front before behind =
    subst (Consumes a c) (sym (take-add filled came new)) (read_more a b c (take filled new) (take came (drop filled new)) (subst (Consumes a b) (sym front) before) behind)

-- a reader that is at its end has given all
pub read_all : (a b : Option (List ℕ)) (bs : List ℕ) → Consumes a b bs → IsAtEnd b → IfSome a (λ all. bs ≡ all)
read_all None b bs p q = tt
read_all (Some x) None bs p q = absurd p
read_all (Some x) (Some y) bs p q = sym (p ∙ ap (λ l. bs ++ l) q ∙ append-nil bs)
