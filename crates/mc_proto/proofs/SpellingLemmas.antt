-- No spelling begins another, and a stream reads in one way.
use Rattle.std.proofs.Common.{◌≡◌, ◌++◌, ◌∷◌, [], ℕ, List, length, refl, ap, sym, ◌∙◌, arith, append_assoc, Bool, true, false, subst}
use Rattle.std.specs.Prelude.{if◌then◌else◌}
use Rattle.std.proofs.Common.{inl, inr}
use Rattle.mc_proto.specs.declared.{request.Limits.Limits, request.Request.Request}
use Rattle.mc_proto.specs.Table.{says}
use Rattle.mc_proto.specs.Grammar.{ByLine, ByLength, Spells, Spelt, Reads, BeginsNone, closes, closed, wanted, request_asked}
use Rattle.mc_proto.proofs.ListCutLemmas.{same_line, past_line, same_front}

two_lines : (limits : Limits) (a b x y : List ℕ) (q r : Request) → ByLine limits a q → ByLine limits b r → a ++ x ≡ b ++ y → (a ≡ b) × (x ≡ y) × (q ≡ r)
two_lines limits a b x y q r p s e =
    let joined : p.line ++ 10 ∷ (p.block ++ x) ≡ s.line ++ 10 ∷ (s.block ++ y) =
    sym (append_assoc p.line (10 ∷ p.block) x) ∙ ap (λ (t : List ℕ). t ++ x) (sym p.whole) ∙ e ∙ ap (λ (t : List ℕ). t ++ y) s.whole ∙ append_assoc s.line (10 ∷ s.block) y in
    let cut = same_line p.line s.line (p.block ++ x) (s.block ++ y) p.is_line.one s.is_line.one joined in
    let line : p.line ≡ s.line = cut.0 in
    let as_long : length p.block ≡ length s.block = p.long ∙ ap (λ (t : List ℕ). wanted (says limits t)) line ∙ sym s.long in
    let blocks = same_front p.block s.block x y as_long cut.1 in
    let block : p.block ≡ s.block = blocks.0 in
    let says_same : says limits p.line ≡ says limits s.line = ap (says limits) line in (
      p.whole ∙ ap (λ (t : List ℕ). t ++ 10 ∷ p.block) line ∙ ap (λ (t : List ℕ). s.line ++ 10 ∷ t) block ∙ sym s.whole,
      blocks.1,
      p.means ∙ ap (λ (t : _). request_asked t p.block) says_same ∙ ap (request_asked (says limits s.line)) block ∙ sym s.means,
    )

line_and_length : (limits : Limits) (a b x y : List ℕ) (q r : Request) → ByLine limits a q → ByLength b r → a ++ x ≡ b ++ y → ⊥
line_and_length limits a b x y q r p s e =
    let joined : p.line ++ 10 ∷ (p.block ++ x) ≡ b ++ y =
    sym (append_assoc p.line (10 ∷ p.block) x) ∙ ap (λ (t : List ℕ). t ++ x) (sym p.whole) ∙ e in
    past_line p.line b (p.block ++ x) y s.one (omega (arith, p.is_line.short, s.long)) joined

pub begins_no_other : (limits : Limits) (a b x y : List ℕ) (q r : Request) → Spells limits a q → Spells limits b r → a ++ x ≡ b ++ y → (a ≡ b) × (x ≡ y) × (q ≡ r)
begins_no_other limits a b x y q r (inl p) (inl s) e = two_lines limits a b x y q r p s e
begins_no_other limits a b x y q r (inl p) (inr s) e = absurd (line_and_length limits a b x y q r p s e)
begins_no_other limits a b x y q r (inr p) (inl s) e = absurd (line_and_length limits b a y x r q s p (sym e))
begins_no_other limits a b x y q r (inr p) (inr s) e =
    let cut = same_front a b x y (p.long ∙ sym s.long) e in
    (cut.0, cut.1, p.means ∙ sym s.means)

-- after a closing request nothing is read, and after another one the rest of the reading
go_on : (limits : Limits) (q : Request) (qs rs : List Request) (m n x y : List ℕ) (b : Bool) → closes q ≡ b → m ≡ n
    → (closes q ≡ true → qs ≡ []) → (closes q ≡ true → rs ≡ []) → Spelt limits m qs x → Spelt limits n rs y
    → (closed (q ∷ qs) ≡ false → BeginsNone limits x) → (closed (q ∷ rs) ≡ false → BeginsNone limits y)
    → ((closed qs ≡ false → BeginsNone limits x) → (closed rs ≡ false → BeginsNone limits y) → (qs ≡ rs) × (x ≡ y))
    → (qs ≡ rs) × (x ≡ y)
go_on limits q qs rs m n x y true is e lq lr sq sr hx hy more =
    let no_qs : qs ≡ [] = lq is in
    let no_rs : rs ≡ [] = lr is in
    let mx : m ≡ x = subst (λ (ts : List Request). Spelt limits m ts x) no_qs sq in
    let ny : n ≡ y = subst (λ (ts : List Request). Spelt limits n ts y) no_rs sr in
    (no_qs ∙ sym no_rs, sym mx ∙ e ∙ ny)
go_on limits q qs rs m n x y false is e lq lr sq sr hx hy more =
    more (λ f. hx (ap (λ (b : Bool). if b then true else closed qs) is ∙ f)) (λ f. hy (ap (λ (b : Bool). if b then true else closed rs) is ∙ f))

-- the same of two readings
same_readings : (limits : Limits) (stream other : List ℕ) (qs rs : List Request) (x y : List ℕ) → stream ≡ other → Spelt limits stream qs x
    → Spelt limits other rs y → (closed qs ≡ false → BeginsNone limits x) → (closed rs ≡ false → BeginsNone limits y) → (qs ≡ rs) × (x ≡ y)
same_readings limits s o [] [] x y e p q hx hy = (refl, sym p ∙ e ∙ q)
same_readings limits s o [] (r ∷ rs) x y e p q hx hy = absurd (hx refl q.0 q.1 r (sym p ∙ e ∙ q.2) q.3)
same_readings limits s o (r ∷ rs) [] x y e p q hx hy = absurd (hy refl p.0 p.1 r (sym q ∙ sym e ∙ p.2) p.3)
same_readings limits s o (q ∷ qs) (r ∷ rs) x y e p t hx hy =
    let cut = begins_no_other limits p.0 t.0 p.1 t.1 q r p.3 t.3 (sym p.2 ∙ e ∙ t.2) in
    let is : q ≡ r = cut.2 in
    let both = go_on limits q qs rs p.1 t.1 x y (closes q) refl cut.1 p.4 (λ h. t.4 (ap closes (sym is) ∙ h)) p.5 t.5 hx
    (λ f. hy (ap (λ (k : Request). closed (k ∷ rs)) (sym is) ∙ f))
    (λ hx' hy'. same_readings limits p.1 t.1 qs rs x y cut.1 p.5 t.5 hx' hy') in
    let rest : qs ≡ rs = both.0 in
    (ap (λ (k : Request). k ∷ qs) is ∙ ap (λ (ks : List Request). r ∷ ks) rest, both.1)

pub reads_once : (limits : Limits) (stream rest others : List ℕ) (qs rs : List Request) → Reads limits stream qs rest → Reads limits stream rs others → (qs ≡ rs) × (rest ≡ others)
reads_once limits stream rest others qs rs p q = same_readings limits stream stream qs rs rest others refl p.spelt q.spelt p.all q.all
