-- Where lists that are joined are cut.
use Rattle.std.proofs.Common.{◌≡◌, ◌++◌, ◌∷◌, [], ◌<◌, ℕ, List, length, refl, arith}
use Rattle.mc_proto.specs.Lines.{Lacks}

pub same_line : (a b x y : List ℕ) → Lacks 10 a → Lacks 10 b → a ++ 10 ∷ x ≡ b ++ 10 ∷ y → (a ≡ b) × (x ≡ y)
same_line [] [] x y la lb e = (refl, cc)
same_line [] (c ∷ b) x y la lb e = let h : c ≡ 10 = cc in absurd (lb.0 h)
same_line (c ∷ a) [] x y la lb e = let h : c ≡ 10 = cc in absurd (la.0 h)
same_line (c ∷ a) (d ∷ b) x y la lb e =
    let h : c ≡ d = cc in
    let t : a ++ 10 ∷ x ≡ b ++ 10 ∷ y = cc in
    let r = same_line a b x y la.1 lb.1 t in
    let s : a ≡ b = r.0 in
    (cc, r.1)

pub past_line : (a b x y : List ℕ) → Lacks 10 b → length a < length b → a ++ 10 ∷ x ≡ b ++ y → ⊥
past_line [] [] x y lb l e = omega arith
past_line [] (c ∷ b) x y lb l e = let h : c ≡ 10 = cc in lb.0 h
past_line (c ∷ a) [] x y lb l e = omega arith
past_line (c ∷ a) (d ∷ b) x y lb l e =
    let t : a ++ 10 ∷ x ≡ b ++ y = cc in
    past_line a b x y lb.1 (omega arith) t

pub no_line : (a x u : List ℕ) → Lacks 10 u → u ≡ a ++ 10 ∷ x → ⊥
no_line [] x [] lu e = cc
no_line [] x (c ∷ u) lu e = let h : c ≡ 10 = cc in lu.0 h
no_line (d ∷ a) x [] lu e = cc
no_line (d ∷ a) x (c ∷ u) lu e = let t : u ≡ a ++ 10 ∷ x = cc in no_line a x u lu.1 t

pub same_front : (a b x y : List ℕ) → length a ≡ length b → a ++ x ≡ b ++ y → (a ≡ b) × (x ≡ y)
same_front [] [] x y l e = (refl, e)
same_front [] (c ∷ b) x y l e = absurd (omega arith)
same_front (c ∷ a) [] x y l e = absurd (omega arith)
same_front (c ∷ a) (d ∷ b) x y l e =
    let h : c ≡ d = cc in
    let t : a ++ x ≡ b ++ y = cc in
    let r = same_front a b x y (omega arith) t in
    let s : a ≡ b = r.0 in
    (cc, r.1)

pub lacks_both : (b : ℕ) (u v : List ℕ) → Lacks b u → Lacks b v → Lacks b (u ++ v)
lacks_both b [] v lu lv = lv
lacks_both b (c ∷ u) v lu lv = (lu.0, lacks_both b u v lu.1 lv)

pub lacks_front : (b : ℕ) (u v : List ℕ) → Lacks b (u ++ v) → Lacks b u
lacks_front b [] v l = tt
lacks_front b (c ∷ u) v l = (l.0, lacks_front b u v l.1)
