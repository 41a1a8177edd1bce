-- Each stream reads, byte by byte; and a longer stream's requests begin with those of a shorter one.
use Rattle.std.proofs.Common.{◌≡◌, ◌++◌, ◌∷◌, [], ◌+◌, ◌-◌, ◌<◌, ◌≤◌, ℕ, List, length, refl, ap, sym, ◌∙◌, arith, append_assoc, append-nil, Bool, true, false, subst, inl, inr}
use Rattle.std.specs.Prelude.{if◌then◌else◌, ◌⊎◌, ◌==◌}
use Rattle.std.proofs.lemmas.Bool.{cases_lt, eqb-true, eqb-false}
use Rattle.mc_proto.specs.{Table.says, Reader.After}
use Rattle.mc_proto.specs.Grammar.{Spelt, Reads, BeginsNone, closes, closed, stored, skipped}
use Rattle.mc_proto.specs.declared.{request.Limits.Limits, request.LineFault.TheVariants.LineTooLong, request.Request.Request, request.Request.TheVariants.Bad}
use Rattle.mc_proto.specs.declared.{state.Said.Said, state.Start.Start, state.State.State}
use Rattle.mc_proto.specs.declared.state.Said.TheVariants as said
use Rattle.mc_proto.specs.declared.state.State.TheVariants.{Line, Block, Skip, Closed, Failed}
use Rattle.mc_proto.proofs.{SpellingLemmas.begins_no_other, KeptRestLemmas.after_reads}
use Rattle.mc_proto.proofs.TakingLemmas.{too_long, line_more, line_asks, line_blocks, line_skips, block_more, block_done, skip_more, skip_done, stays_closed}

-- where a reader would stand after some bytes, whatever it is
abbrev pub Somewhere : Limits → List ℕ → Type 0
Somewhere limits stream = (state : State) × (unread : List ℕ) × (requests : List Request) × After limits state unread stream requests

-- an LF, where the line so far says this
lf_request : (limits : Limits) (u stream : List ℕ) (rs : List Request) (r : Request) (b : Bool) → After limits Line u stream rs → said.Whole r ≡ says limits u → closes r ≡ b → Somewhere limits (stream ++ 10 ∷ [])
lf_request limits u stream rs r true a is shut =
    (Closed, [], rs ++ r ∷ [], line_asks limits Closed u stream (10 ∷ []) rs 0 r a (omega arith) refl tt (omega (arith, a.stands.2)) (is ∙ ap (says limits) (sym (append-nil u))) tt shut)
lf_request limits u stream rs r false a is stays =
    (Line, [], rs ++ r ∷ [], line_asks limits Line u stream (10 ∷ []) rs 0 r a (omega arith) refl tt (omega (arith, a.stands.2)) (is ∙ ap (says limits) (sym (append-nil u))) (refl, tt, omega arith) stays)

lf_step : (limits : Limits) (u stream : List ℕ) (rs : List Request) (x : Said) → After limits Line u stream rs → x ≡ says limits u → Somewhere limits (stream ++ 10 ∷ [])
lf_step limits u stream rs (said.Whole r) a is = lf_request limits u stream rs r (closes r) a is refl
lf_step limits u stream rs (said.Block s) a is =
    (Block s [], [], rs, line_blocks limits u stream (10 ∷ []) rs 0 s a (omega arith) refl tt (omega (arith, a.stands.2)) (is ∙ ap (says limits) (sym (append-nil u))))
lf_step limits u stream rs (said.Skip s) a is =
    (Skip s (s.count + 2), [], rs, line_skips limits u stream (10 ∷ []) rs 0 s a (omega arith) refl tt (omega (arith, a.stands.2)) (is ∙ ap (says limits) (sym (append-nil u))))

-- another byte of a line
line_byte : (limits : Limits) (u stream : List ℕ) (rs : List Request) (b : ℕ) → After limits Line u stream rs → (b ≡ 10 → ⊥) → (length u < 65536) ⊎ (65536 ≤ length u) → Somewhere limits (stream ++ b ∷ [])
line_byte limits u stream rs b a no_lf (inl l) =
    (Line, u ++ b ∷ [], rs, line_more limits u stream (b ∷ []) rs 1 a (omega arith) (no_lf, tt) (omega arith))
line_byte limits u stream rs b a no_lf (inr l) =
    (Closed, [], rs ++ Bad LineTooLong false ∷ [], too_long limits u [] stream (b ∷ []) rs 1 a (omega arith) (no_lf, tt) (omega arith))

line_step : (limits : Limits) (u stream : List ℕ) (rs : List Request) (b : ℕ) (t : Bool) → b == 10 ≡ t → After limits Line u stream rs → Somewhere limits (stream ++ b ∷ [])
line_step limits u stream rs b true is a =
    subst (λ (c : ℕ). Somewhere limits (stream ++ c ∷ [])) (sym (eqb-true b 10 is)) (lf_step limits u stream rs (says limits u) a refl)
line_step limits u stream rs b false is a = line_byte limits u stream rs b a (eqb-false b 10 is) (cases_lt (length u) 65536)

block_step : (limits : Limits) (u block stream : List ℕ) (rs : List Request) (s : Start) (b : ℕ) → After limits (Block s block) u stream rs
    → (length block + 1 < s.count + 2) ⊎ (s.count + 2 ≤ length block + 1) → Somewhere limits (stream ++ b ∷ [])
block_step limits u block stream rs s b a (inl l) =
    (Block s (block ++ b ∷ []), [], rs, block_more limits u [] block stream (b ∷ []) rs s a (omega arith))
block_step limits u block stream rs s b a (inr l) =
    (Line, [], rs ++ stored s (block ++ b ∷ []) ∷ [], block_done limits u [] block stream (b ∷ []) rs s 1 a (omega arith) (omega (arith, a.stands.4)) refl)

skip_step : (limits : Limits) (u stream : List ℕ) (rs : List Request) (s : Start) (left : ℕ) (b : ℕ) → After limits (Skip s left) u stream rs → (1 < left) ⊎ (left ≤ 1) → Somewhere limits (stream ++ b ∷ [])
skip_step limits u stream rs s left b a (inl l) =
    (Skip s (left - 1), [], rs, skip_more limits u [] stream (b ∷ []) rs s left (left - 1) a (omega arith) (omega arith))
skip_step limits u stream rs s left b a (inr l) =
    let one : left ≡ 1 = omega (arith, a.stands.6) in
    let last : After limits (Skip s 1) u stream rs = subst (λ (n : ℕ). After limits (Skip s n) u stream rs) one a in
    (Line, [], rs ++ skipped s ∷ [], skip_done limits u [] stream (b ∷ []) rs s 1 last (omega arith) refl)

byte_step : (limits : Limits) (state : State) (u stream : List ℕ) (rs : List Request) (b : ℕ) → After limits state u stream rs → Somewhere limits (stream ++ b ∷ [])
byte_step limits Line u stream rs b a = line_step limits u stream rs b (b == 10) refl a
byte_step limits (Block s block) u stream rs b a = block_step limits u block stream rs s b a (cases_lt (length block + 1) (s.count + 2))
byte_step limits (Skip s left) u stream rs b a = skip_step limits u stream rs s left b a (cases_lt 1 left)
byte_step limits Closed u stream rs b a = (Closed, [], rs, stays_closed limits Closed u [] stream (b ∷ []) rs refl a)
byte_step limits Failed u stream rs b a = absurd a.stands

bytes_step : (limits : Limits) (state : State) (u stream : List ℕ) (rs : List Request) (bytes : List ℕ) → After limits state u stream rs → Somewhere limits (stream ++ bytes)
bytes_step limits state u stream rs [] a = (state, u, rs, subst (λ (t : List ℕ). After limits state u t rs) (sym (append-nil stream)) a)
bytes_step limits state u stream rs (b ∷ bytes) a =
    let n = byte_step limits state u stream rs b a in
    let r = bytes_step limits n.0 n.1 (stream ++ b ∷ []) n.2 bytes n.3 in
    (r.0, r.1, r.2, subst (λ (t : List ℕ). After limits r.0 r.1 t r.2) (append_assoc stream (b ∷ []) bytes) r.3)

pub stream_reads : (limits : Limits) (stream : List ℕ) → (requests : List Request) × (rest : List ℕ) × Reads limits stream requests rest
stream_reads limits stream =
    let start : After limits Line [] [] [] = record { rest = []; spelt = refl; stands = (refl, tt, omega arith); closed_is = refl } in
    let s = bytes_step limits Line [] [] [] stream start in
    let r = after_reads limits s.0 s.1 stream s.2 s.3 in
    (s.2, r.0, r.1)

-- after a closing request there is none, and after another one the rest of both
same_ahead : (limits : Limits) (r q : Request) (rs qs : List Request) (b : Bool) → closes q ≡ b → r ≡ q → (closes r ≡ true → rs ≡ []) → (closes q ≡ true → qs ≡ [])
    → (closes q ≡ false → (others : List Request) × (qs ≡ rs ++ others)) → (others : List Request) × (q ∷ qs ≡ r ∷ rs ++ others)
same_ahead limits r q rs qs true is e lr lq more =
    let no_rs : rs ≡ [] = lr (ap closes e ∙ is) in
    let no_qs : qs ≡ [] = lq is in
    ([], cc)
same_ahead limits r q rs qs false is e lr lq more =
    let m = more is in
    let f : qs ≡ rs ++ m.0 = m.1 in
    (m.0, ap (λ (k : Request). k ∷ qs) (sym e) ∙ ap (λ (ks : List Request). r ∷ ks) f)

goes_on : (limits : Limits) (came whole more rest other : List ℕ) (requests all : List Request) → whole ≡ came ++ more → Spelt limits came requests rest → Spelt limits whole all other
    → (closed all ≡ false → BeginsNone limits other) → (others : List Request) × (all ≡ requests ++ others)
goes_on limits came whole more rest other [] all is p t none = (all, refl)
goes_on limits came whole more rest other (r ∷ rs) [] is p t none =
    absurd (none refl p.0 (p.1 ++ more) r (sym t ∙ is ∙ ap (λ (k : List ℕ). k ++ more) p.2 ∙ append_assoc p.0 p.1 more) p.3)
goes_on limits came whole more rest other (r ∷ rs) (q ∷ qs) is p t none =
    let cut = begins_no_other limits p.0 t.0 (p.1 ++ more) t.1 r q p.3 t.3 (sym (append_assoc p.0 p.1 more) ∙ ap (λ (k : List ℕ). k ++ more) (sym p.2) ∙ sym is ∙ t.2) in
    same_ahead limits r q rs qs (closes q) refl cut.2 p.4 t.4
    (λ stays. goes_on limits p.1 t.1 more rest other rs qs (sym cut.1) p.5 t.5 (λ f. none (ap (λ (b : Bool). if b then true else closed qs) stays ∙ f)))

pub reading_on : (limits : Limits) (came more rest other : List ℕ) (requests all : List Request) → Spelt limits came requests rest
    → Reads limits (came ++ more) all other → (others : List Request) × (all ≡ requests ++ others)
reading_on limits came more rest other requests all p r = goes_on limits came (came ++ more) more rest other requests all refl p r.spelt r.all
