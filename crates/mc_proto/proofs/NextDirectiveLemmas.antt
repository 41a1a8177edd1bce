-- Bytes in which no % stands straight before an n, and that no script begins in them.
use Rattle.std.proofs.Common.{◌≡◌, ◌++◌, ◌∷◌, [], ◌+◌, ◌-◌, ◌<◌, ◌==◌, ℕ, List, length, refl, sym, ◌∙◌, ap, take, drop, take-append-drop, get_or, Bool, true, false, subst, inl, inr, All, zero, suc, arith}
use Rattle.std.specs.Prelude.{if◌then◌else◌, ◌&&◌, nat_eq, nat_lt, codes}
use Rattle.std.specs.{Cmp.Lexicographic.pointwise}
use Rattle.std.proofs.lemmas.{Bool.eqb-true, List.Elements.All-nil, List.Elements.All-cons}
use Rattle.mc_proto.specs.{Lines.LacksNext, Lines.LacksNextBehind, Lines.is_after, Lines.is_word, Table.table, Table.says, Grammar.Spells, Grammar.Spelt}
use Rattle.mc_proto.specs.{Scripts.IsLast, Scripts.IsOther, Scripts.says_next}
use Rattle.mc_proto.specs.declared.{request.Limits.Limits, request.LineFault.TheVariants.LineTooLong, request.Request.Request, request.Request.TheVariants.Bad}
use Rattle.mc_proto.specs.declared.{request.Request.TheVariants.Next, state.Start.Start}
use Rattle.mc_proto.specs.declared.state.Said.TheVariants as said
use Rattle.mc_proto.proofs.{TableRowLemmas.HoldsOfRows, TableRowLemmas.and, TableRowLemmas.line_holds, ScriptCutLemmas.asks_other, StreamLemmas.stream_reads}

next_loose : (after : Bool) (bs : List ℕ) → LacksNextBehind after bs → LacksNext bs
next_loose after [] lack = tt
next_loose after (b ∷ bs) lack = ((λ off. absurd (cc)), lack.1)

-- what is behind bytes that lack it, and in front of others
pub next_front : (after : Bool) (u v : List ℕ) → LacksNextBehind after (u ++ v) → LacksNextBehind after u
next_front after [] v lack = tt
next_front after (b ∷ u) v lack = (lack.0, next_front (b == 37) u v lack.1)

pub next_behind : (after : Bool) (u v : List ℕ) → LacksNextBehind after (u ++ v) → LacksNextBehind (is_after after u) v
next_behind after [] v lack = lack
next_behind after (b ∷ u) v lack = next_behind (b == 37) u v lack.1

pub next_both : (after : Bool) (u v : List ℕ) → LacksNextBehind after u → LacksNextBehind (is_after after u) v → LacksNextBehind after (u ++ v)
next_both after [] v front behind = behind
next_both after (b ∷ u) v front behind = (front.0, next_both (b == 37) u v front.1 behind)

-- the first byte, behind a %
pub next_first : (after : Bool) (bytes : List ℕ) → LacksNextBehind after bytes → after ≡ true → get_or bytes 0 0 ≡ 110 → ⊥
next_first after [] lack on is = absurd (omega arith)
next_first after (b ∷ bs) lack on is = lack.0 on is

not_on : (b : Bool) → (b ≡ true → ⊥) → b ≡ false
not_on true not = absurd (not refl)
not_on false not = refl

-- the bytes behind the first %
pub next_skip : (after : Bool) (bytes : List ℕ) (i : ℕ) → ((k : ℕ) → k < i → get_or bytes k 0 == 37 ≡ true → ⊥) → i < length bytes → get_or bytes i 0 == 37 ≡ true
    → (after ≡ true → get_or bytes 0 0 ≡ 110 → ⊥) → LacksNextBehind true (drop (suc i) bytes) → LacksNextBehind after bytes
next_skip after [] i none l is first lack = absurd (omega arith)
next_skip after (b ∷ bs) zero none l is first lack = (first, subst (λ o. LacksNextBehind o bs) (sym is) lack)
next_skip after (b ∷ bs) (suc i) none l is first lack =
    let off : b == 37 ≡ false = not_on (b == 37) (none 0 (omega arith)) in
    (first, subst (λ o. LacksNextBehind o bs) (sym off) (next_skip false bs i (λ k m. none (suc k) (omega arith)) (omega arith) is (λ on. absurd (cc)) lack))

pub next_left : (after : Bool) (bytes : List ℕ) (i : ℕ) → i < length bytes → get_or bytes i 0 == 37 ≡ true → LacksNextBehind after bytes → LacksNextBehind true (drop (suc i) bytes)
next_left after [] i l is lack = absurd (omega arith)
next_left after (b ∷ bs) zero l is lack = subst (λ o. LacksNextBehind o bs) is lack.1
next_left after (b ∷ bs) (suc i) l is lack = next_left (b == 37) bs i (omega arith) is lack.1

-- bytes without a %
pub next_none : (after : Bool) (bytes : List ℕ) → ((k : ℕ) → k < length bytes → get_or bytes k 0 == 37 ≡ true → ⊥) → (after ≡ true → get_or bytes 0 0 ≡ 110 → ⊥) → LacksNextBehind after bytes
next_none after [] none first = tt
next_none after (b ∷ bs) none first =
    let off : b == 37 ≡ false = not_on (b == 37) (none 0 (omega arith)) in
    (first, subst (λ o. LacksNextBehind o bs) (sym off) (next_none false bs (λ k m. none (suc k) (omega arith)) (λ on. absurd (cc))))

-- whether a % ends bytes is told by the last one
pub after_is : (after : Bool) (bytes : List ℕ) → 0 < length bytes → is_after after bytes ≡ (get_or bytes (length bytes - 1) 0 == 37)
after_is after [] l = absurd (omega arith)
after_is after (b ∷ []) l = refl
after_is after (b ∷ c ∷ bs) l =
    let at : length (b ∷ c ∷ bs) - 1 ≡ suc (length (c ∷ bs) - 1) = omega arith in
    after_is (b == 37) (c ∷ bs) (omega arith) ∙ ap (λ n. get_or (b ∷ c ∷ bs) n 0 == 37) (sym at)

next_back : (u v : List ℕ) → LacksNext (u ++ v) → LacksNext v
next_back u v lack = next_loose (is_after false u) v (next_behind false u v lack)

next_take : (n : ℕ) (bytes : List ℕ) → LacksNext bytes → LacksNext (take n bytes)
next_take n bytes lack = next_front false (take n bytes) (drop n bytes) (subst LacksNext (sym (take-append-drop n bytes)) lack)

begun_other : (s : Start) (b : Bool) → says_next (if b then said.Skip s else said.Block s) ≡ false
begun_other s true = refl
begun_other s false = refl

-- tests that come to nothing where the first two can't both hold
no_both : (p q r : Bool) → (p ≡ true → q ≡ true → ⊥) → p && (q && r) ≡ false
no_both false q r not = refl
no_both true false r not = refl
no_both true true r not = absurd (not refl refl)

no_one : (p : Bool) → p && false ≡ false
no_one true = refl
no_one false = refl

no_next : (verb : List ℕ) → LacksNext verb → is_word verb (codes "%next") ≡ false
no_next [] lack = refl
no_next (b ∷ []) lack = no_one (nat_eq b 37)
no_next (b ∷ c ∷ bs) lack = no_both (nat_eq b 37) (nat_eq c 110) (pointwise nat_eq bs (codes "ext")) (λ p q. lack.1.0 p (eqb-true c 110 q))

-- what each row asks begins no script, unless its verb has a % straight before an n
table_other : (limits : Limits) → HoldsOfRows (λ s. says_next s ≡ false) LacksNext (table limits)
table_other limits =
    and (inl (λ keys. refl))
    (and (inl (λ keys. refl))
    (and (inl (λ e keys. refl))
    (and (inl (λ e keys. refl))
    (and (inl (λ key flags e n quiet. begun_other _ (nat_lt limits.largest (64 + length key + n))))
    (and (inl (λ key flags e n quiet. begun_other _ (nat_lt limits.largest (64 + length key + n))))
    (and (inl (λ key flags e n quiet. begun_other _ (nat_lt limits.largest (64 + length key + n))))
    (and (inl (λ key flags e n unique quiet. begun_other _ (nat_lt limits.largest (64 + length key + n))))
    (and (inl (λ key flags e n quiet. begun_other _ (nat_lt limits.largest (64 + length key + n))))
    (and (inl (λ key flags e n quiet. begun_other _ (nat_lt limits.largest (64 + length key + n))))
    (and (inl (λ key delta quiet. refl))
    (and (inl (λ key delta quiet. refl))
    (and (inl (λ key e quiet. refl))
    (and (inl (λ key quiet. refl))
    (and (inl (λ moment. refl))
    (and (inl (λ target. refl))
    (and (inl (λ target. refl))
    (and (inl (λ class n. refl))
    (and (inr no_next)
    (and (inl refl)
    tt)))))))))))))))))))

line_other : (limits : Limits) (line : List ℕ) → LacksNext line → says_next (says limits line) ≡ false
line_other limits =
    line_holds (λ s. says_next s ≡ false) (λ kind quiet. refl) refl limits LacksNext next_take
    (λ spaces token rest blank some lack. next_back spaces token (next_front false (spaces ++ token) rest lack)) (table_other limits)

spelling_other : (limits : Limits) (bytes : List ℕ) (r : Request) → Spells limits bytes r → LacksNext bytes → IsOther r
spelling_other limits bytes r (inl p) lack =
    let line : LacksNext p.line = next_front false p.line (10 ∷ p.block) (subst (LacksNext) p.whole lack) in
    λ is. asks_other (says limits p.line) p.block (sym (line_other limits p.line line)) (sym p.means ∙ is)
spelling_other limits bytes r (inr p) lack = λ is. (let e : Bad LineTooLong false ≡ Next = sym p.means ∙ is in cc)

spelt_others : (limits : Limits) (stream : List ℕ) (rs : List Request) (rest : List ℕ) → Spelt limits stream rs rest → LacksNext stream → All IsOther rs
spelt_others limits stream [] rest s lack = All-nil IsOther
spelt_others limits stream (r ∷ rs) rest s lack =
    let both : LacksNext (s.0 ++ s.1) = subst (LacksNext) s.2 lack in
    All-cons IsOther r rs (spelling_other limits s.0 r s.3 (next_front false s.0 s.1 both)) (spelt_others limits s.1 rs rest s.5 (next_back s.0 s.1 both))

-- a stream in which no % stands straight before an n is one script
pub lacks_next : (limits : Limits) (stream : List ℕ) → LacksNext stream → IsLast limits stream
lacks_next limits stream lack =
    let r = stream_reads limits stream in
    record { requests = r.0; rest = r.1; reads = r.2; others = spelt_others limits stream r.0 r.1 r.2.spelt lack }
