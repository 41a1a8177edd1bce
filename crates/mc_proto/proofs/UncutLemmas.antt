-- Lists in pieces, of which one is reached.
use Rattle.std.proofs.Common.{◌≡◌, ◌∙◌, ◌+◌, ◌-◌, ◌<◌, ◌≤◌, ◌∷◌, ◌++◌, ℕ, List, [], length, take, drop, get_or, ap, sym, arith, append_assoc, append-nil, subst, take-append-drop, length-append, length-drop}
use Rattle.std.proofs.lemmas.{List.take_more, List.length-take-le, List.take-append-le, List.drop-append-le, Grind.flat_map-append}
use Rattle.std.proofs.Math.Seq.{take-add, take-append-add, drop-append-add}
use Rattle.std.specs.List.{flat_map}
use Rattle.mc_proto.specs.Lines.{Lacks}

lacks_behind : (b : ℕ) (u v : List ℕ) → Lacks b (u ++ v) → Lacks b v
lacks_behind b [] v l = l
lacks_behind b (c ∷ u) v l = lacks_behind b u v l.1

-- a line that was begun before a piece, and ends in it
pub line_ends : (line whole piece : List ℕ) (end : ℕ) → whole ≡ line ++ take (end + 1) piece → end < length piece → get_or piece end 0 ≡ 10 → Lacks 10 whole → ⊥
line_ends line whole piece end is l lf lack =
    let front : Lacks 10 (take (end + 1) piece) = lacks_behind 10 line (take (end + 1) piece) (subst (Lacks 10) is lack) in
    let two : Lacks 10 (take end piece ++ get_or piece end 0 ∷ []) = subst (Lacks 10) (take_more piece end 0 l) front in
    (lacks_behind 10 (take end piece) (get_or piece end 0 ∷ []) two).0 lf

pub line_left : {X : Type 0} (f : X → List ℕ) (begin line whole piece : List ℕ) (end : ℕ) (all rest left : List X) (x : X) → begin ++ flat_map f all ≡ line ++ flat_map f rest → rest ≡ x ∷ left → piece ≡ f x
    → whole ≡ line ++ take (end + 1) piece → begin ++ flat_map f all ≡ whole ++ (drop (end + 1) piece ++ flat_map f left)
line_left f begin line whole piece end all rest left x so split is cut =
    so ∙ ap (λ xs. line ++ flat_map f xs) split ∙ ap (λ t. line ++ (t ++ flat_map f left)) (sym is ∙ sym (take-append-drop (end + 1) piece))
    ∙ ap (λ t. line ++ t) (append_assoc (take (end + 1) piece) (drop (end + 1) piece) (flat_map f left)) ∙ sym (append_assoc line (take (end + 1) piece) (drop (end + 1) piece ++ flat_map f left))
    ∙ ap (λ t. t ++ (drop (end + 1) piece ++ flat_map f left)) (sym cut)

-- the bytes of pieces, of one more, and of others
pub flat_push : {X : Type 0} (f : X → List ℕ) (xs all : List X) (x : X) → all ≡ xs ++ x ∷ [] → flat_map f all ≡ flat_map f xs ++ f x
flat_push f xs all x is = ap (flat_map f) is ∙ flat_map-append f xs (x ∷ []) ∙ ap (λ t. flat_map f xs ++ t) (append-nil (f x))

-- the bytes from one place on are those up to another one, and those from there on
between : (piece : List ℕ) (begin at : ℕ) → begin ≤ at → at ≤ length piece → drop begin piece ≡ drop begin (take at piece) ++ drop at piece
between piece begin at low high =
    ap (drop begin) (sym (take-append-drop at piece)) ∙ drop-append-le begin (take at piece) (drop at piece) (omega (arith, length-take-le at piece high))

-- all that pieces hold
pub all_bytes : (done piece part rest : List ℕ) (begin at : ℕ) → begin ≤ at → at ≤ length piece → part ≡ drop begin piece → (done ++ part) ++ rest ≡ (done ++ drop begin (take at piece)) ++ (drop at piece ++ rest)
all_bytes done piece part rest begin at low high is =
    ap (λ t. (done ++ t) ++ rest) (is ∙ between piece begin at low high) ∙ ap (λ t. t ++ rest) (sym (append_assoc done (drop begin (take at piece)) (drop at piece)))
    ∙ append_assoc (done ++ drop begin (take at piece)) (drop at piece) rest

-- so many bytes, of which the first lie in one list and the others behind it
behind : (n : ℕ) (front back : List ℕ) → length front ≤ n → (take n (front ++ back) ≡ front ++ take (n - length front) back) × (drop n (front ++ back) ≡ drop (n - length front) back)
behind n front back le =
    let is : n ≡ length front + (n - length front) = omega arith in
    (ap (λ k. take k (front ++ back)) is ∙ take-append-add front back (n - length front), ap (λ k. drop k (front ++ back)) is ∙ drop-append-add front back (n - length front))

-- the piece that was reached is passed to its end, and the next one reached
module _ (done piece part next rest behind_it : List ℕ) (begin at left : ℕ) (low : begin ≤ at) (high : at ≤ length piece) (is : part ≡ drop begin piece)
    (split : rest ≡ next ++ behind_it) (far : length piece - at < left) where
  room : length (drop at piece) ≡ length piece - at
  room = length-drop at piece

  pub step_passed : (done ++ part) ++ take (left - (length piece - at)) (next ++ behind_it) ≡ (done ++ drop begin (take at piece)) ++ take left (drop at piece ++ rest)
  step_passed =
      let two = behind left (drop at piece) rest (omega (arith, room)) in
      all_bytes done piece part (take (left - (length piece - at)) (next ++ behind_it)) begin at low high is
      ∙ ap (λ t. (done ++ drop begin (take at piece)) ++ t) (ap (λ n. drop at piece ++ take (left - n) (next ++ behind_it)) (sym room)
      ∙ ap (λ t. drop at piece ++ take (left - length (drop at piece)) t) (sym split) ∙ sym two.0)

  pub step_coming : drop (left - (length piece - at)) (next ++ behind_it) ≡ drop left (drop at piece ++ rest)
  step_coming =
      let two = behind left (drop at piece) rest (omega (arith, room)) in
      ap (λ n. drop (left - n) (next ++ behind_it)) (sym room) ∙ ap (drop (left - length (drop at piece))) (sym split) ∙ sym two.1

  pub step_fits : left ≤ length (drop at piece ++ rest) → left - (length piece - at) ≤ length (next ++ behind_it)
  step_fits fits = omega (arith, room, length-append (drop at piece) rest, ap length split)

-- the same, in the words of the loop that does it
pub stepped : (done all piece part next rest left_over : List ℕ) (begin none at left len : ℕ) → all ≡ done ++ part → none ≡ 0 → len ≡ length piece → begin ≤ at
    → at ≤ length piece → part ≡ drop begin piece → rest ≡ next ++ left_over → len - at < left
    → (all ++ drop none []) ++ take (left - (len - at)) (next ++ left_over) ≡ (done ++ drop begin (take at piece)) ++ take left (drop at piece ++ rest)
stepped done all piece part next rest left_over begin none at left len pushed zero_is len_is low high is split far =
    ap (λ n. (all ++ drop n []) ++ take (left - (len - at)) (next ++ left_over)) zero_is ∙ ap (λ t. t ++ take (left - (len - at)) (next ++ left_over)) (append-nil all ∙ pushed)
    ∙ ap (λ n. (done ++ part) ++ take (left - (n - at)) (next ++ left_over)) len_is ∙ step_passed done piece part next rest left_over begin at left low high is split (omega arith)

-- the last bytes that are passed lie in the piece that was reached
pub end_passed : (done piece rest : List ℕ) (begin at left : ℕ) → begin ≤ at → at ≤ length piece → left ≤ length piece - at
    → done ++ drop begin (take (at + left) piece) ≡ (done ++ drop begin (take at piece)) ++ take left (drop at piece ++ rest)
end_passed done piece rest begin at left low high near =
    ap (λ t. done ++ drop begin t) (take-add at left piece) ∙ ap (λ t. done ++ t) (drop-append-le begin (take at piece) (take left (drop at piece)) (omega (arith, length-take-le at piece high)))
    ∙ sym (append_assoc done (drop begin (take at piece)) (take left (drop at piece)))
    ∙ ap (λ t. (done ++ drop begin (take at piece)) ++ t) (sym (take-append-le left (drop at piece) rest (omega (arith, length-drop at piece))))
