-- What a reader keeps begins with no spelling.
use Rattle.std.proofs.Common.{◌≡◌, ◌++◌, ◌∷◌, [], ◌+◌, ◌<◌, ℕ, List, length, refl, ap, sym, ◌∙◌, arith, append_assoc, Bool, true, false, inl, inr, length-append}
use Rattle.mc_proto.specs.{Lines.Lacks, Table.says, Grammar.IsLine, Grammar.BeginsNone, Grammar.Reads, Grammar.wanted, Grammar.closed}
use Rattle.mc_proto.specs.declared.{request.Limits.Limits, request.Rest.Rest, request.Request.Request, state.State.State, state.State.TheVariants.Line}
use Rattle.mc_proto.specs.declared.{state.State.TheVariants.Block, state.State.TheVariants.Skip, state.State.TheVariants.Closed, state.State.TheVariants.Failed}
use Rattle.mc_proto.specs.Reader.{StandsForRest, After, is_closed, line_rest, rest_of, rest_name}
use Rattle.mc_proto.specs.declared.request.Rest.TheVariants as rests
use Rattle.std.specs.Prelude.{◌==◌, ◌||◌}
use Rattle.std.specs.List.{list_any}
use Rattle.std.proofs.Common.{subst}
use Rattle.std.proofs.lemmas.Bool.{ne_eqb}
use Rattle.mc_proto.proofs.ListCutLemmas.{same_line, past_line, no_line}

pub in_line : (limits : Limits) (rest u : List ℕ) → rest ≡ u → Lacks 10 u → length u < 65537 → BeginsNone limits rest
in_line limits rest u is lack short bytes more r e (inl p) =
    no_line p.line (p.block ++ more) u lack (sym is ∙ e ∙ ap (λ (t : List ℕ). t ++ more) p.whole ∙ append_assoc p.line (10 ∷ p.block) more)
in_line limits rest u is lack short bytes more r e (inr p) =
    omega (arith, ap length is, ap length e, length-append bytes more, p.long)

pub in_block : (limits : Limits) (rest line tail : List ℕ) → rest ≡ line ++ 10 ∷ tail → IsLine line → length tail < wanted (says limits line) → BeginsNone limits rest
in_block limits rest line tail is il part bytes more r e (inl p) =
    let joined : p.line ++ 10 ∷ (p.block ++ more) ≡ line ++ 10 ∷ tail =
    sym (append_assoc p.line (10 ∷ p.block) more) ∙ ap (λ (t : List ℕ). t ++ more) (sym p.whole) ∙ sym e ∙ is in
    let cut = same_line p.line line (p.block ++ more) tail p.is_line.one il.one joined in
    let long : length p.block ≡ wanted (says limits line) = p.long ∙ ap (λ (t : List ℕ). wanted (says limits t)) cut.0 in
    let whole : length (p.block ++ more) ≡ length tail = ap length cut.1 in
    omega (arith, length-append p.block more)
in_block limits rest line tail is il part bytes more r e (inr p) =
    past_line line bytes tail more p.one (omega (arith, il.short, p.long)) (sym is ∙ e)

stands_none : (limits : Limits) (state : State) (unread rest : List ℕ) → StandsForRest limits state unread rest → is_closed state ≡ false → BeginsNone limits rest
stands_none limits Line unread rest st op = in_line limits rest unread st.0 st.1 st.2
stands_none limits (Block s block) unread rest st op =
    let w : wanted (says limits st.0) ≡ s.count + 2 = ap wanted st.3 in
    in_block limits rest st.0 block st.1 st.2 (omega (arith, st.4))
stands_none limits (Skip s left) unread rest st op =
    let w : wanted (says limits st.0) ≡ s.count + 2 = ap wanted st.4 in
    in_block limits rest st.0 st.1 st.2 st.3 (omega (arith, st.5, st.6))
stands_none limits Closed unread rest st op = absurd (cc)
stands_none limits Failed unread rest st op = absurd st

pub after_reads : (limits : Limits) (state : State) (unread stream : List ℕ) (requests : List Request) → After limits state unread stream requests
    → (rest : List ℕ) × Reads limits stream requests rest × StandsForRest limits state unread rest
after_reads limits state unread stream requests a =
    (a.rest, record { spelt = a.spelt; all = λ op. stands_none limits state unread a.rest a.stands (sym a.closed_is ∙ op) }, a.stands)

-- a list in which the LF is none has no LF; one with an LF has one
no_lf : (bs : List ℕ) → Lacks 10 bs → list_any (λ b. b == 10) bs ≡ false
no_lf [] l = refl
no_lf (b ∷ bs) l =
    let off : b == 10 ≡ false = ne_eqb b 10 l.0 in
    rw off (no_lf bs l.1)

or_true : (a b : Bool) → b ≡ true → a || b ≡ true
or_true true b is = refl
or_true false b is = is

with_lf : (line tail : List ℕ) → list_any (λ b. b == 10) (line ++ 10 ∷ tail) ≡ true
with_lf [] tail = refl
with_lf (b ∷ line) tail = or_true (b == 10) (list_any (λ c. c == 10) (line ++ 10 ∷ tail)) (with_lf line tail)

-- a line that isn't whole, by its name
line_name : (rest : List ℕ) → Lacks 10 rest → line_rest rest ≡ rest_name false rest
line_name [] l = refl
line_name (b ∷ bs) l =
    let off : list_any (λ c. c == 10) (b ∷ bs) ≡ false = no_lf (b ∷ bs) l in
    rw off refl

-- a line and part of its block, by their name
lf_name : (line tail : List ℕ) → rests.Block ≡ rest_name false (line ++ 10 ∷ tail)
lf_name [] tail = refl
lf_name (b ∷ line) tail =
    let on : list_any (λ c. c == 10) (b ∷ (line ++ 10 ∷ tail)) ≡ true = with_lf (b ∷ line) tail in
    rw on refl

block_name : (rest line tail : List ℕ) → rest ≡ line ++ 10 ∷ tail → rests.Block ≡ rest_name false rest
block_name rest line tail is = rw is (lf_name line tail)

named : (limits : Limits) (state : State) (unread rest : List ℕ) → StandsForRest limits state unread rest → rest_of state unread ≡ rest_name (is_closed state) rest
named limits Line unread rest st = ap line_rest (sym st.0) ∙ line_name rest (subst (Lacks 10) (sym st.0) st.1)
named limits (Block s block) unread rest st = block_name rest st.0 block st.1
named limits (Skip s left) unread rest st = block_name rest st.0 st.1 st.2
named limits Closed unread rest st = refl
named limits Failed unread rest st = absurd st

-- what a reader calls what it keeps is the name of the rest that its stream leaves
pub after_named : (limits : Limits) (state : State) (unread stream : List ℕ) (requests : List Request) (name : Rest) → name ≡ rest_of state unread → After limits state unread stream requests
    → (rest : List ℕ) × Reads limits stream requests rest × (name ≡ rest_name (closed requests) rest)
unfolding after_reads
after_named limits state unread stream requests name is a =
    let r = after_reads limits state unread stream requests a in
    (a.rest, r.1, is ∙ named limits state unread a.rest a.stands ∙ ap (λ (b : Bool). rest_name b a.rest) (sym a.closed_is))
