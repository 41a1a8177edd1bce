-- What each part of a piece makes of the reading so far.
use Rattle.std.proofs.Common.{◌≡◌, ◌++◌, ◌∷◌, [], ◌+◌, ◌<◌, ◌≤◌, ℕ, List, length, refl, ap, sym, ◌∙◌, arith, append_assoc, take, drop, get_or, Bool, true}
use Rattle.std.proofs.Common.{false, subst, inl, inr, take-append-drop, append-nil, length-append, ◌-◌, length-drop}
use Rattle.std.specs.Prelude.{if◌then◌else◌, nat_eq, option_to_list, Option, Some, None}
use Rattle.std.specs.Cmp.Lexicographic.{pointwise}
use Rattle.std.proofs.Math.Seq.{take-add}
use Rattle.std.proofs.lemmas.List.{take_more, take_all, take-append-le, length-take-le}
use Rattle.mc_proto.specs.{Lines.Lacks, Table.says}
use Rattle.mc_proto.specs.declared.{request.Limits.Limits, state.Start.Start, request.LineFault.TheVariants.LineTooLong, request.LineFault.TheVariants.Chunk}
use Rattle.mc_proto.specs.declared.{request.Request.Request, request.Request.TheVariants.Bad, request.Request.TheVariants.One, state.Said.Said}
use Rattle.mc_proto.specs.declared.{state.State.State}
use Rattle.mc_proto.specs.Grammar.{IsLine, Spells, Spelt, closes, closed, wanted, request_asked, stored, skipped, IsFine}
use Rattle.mc_proto.specs.Reader.{StandsForRest, After, is_closed, Kept, kept}
use Rattle.mc_item.specs.declared.command.Command.TheVariants as commands
use Rattle.mc_proto.specs.declared.state.Said.TheVariants as said
use Rattle.mc_proto.specs.declared.state.State.TheVariants.{Line, Block, Skip, Closed}
use Rattle.mc_proto.proofs.ListCutLemmas.{lacks_both, lacks_front}

pub spelt_on : (limits : Limits) (stream : List ℕ) (rs : List Request) (rest p : List ℕ) → Spelt limits stream rs rest → Spelt limits (stream ++ p) rs (rest ++ p)
spelt_on limits stream [] rest p e = ap (λ (t : List ℕ). t ++ p) e
spelt_on limits stream (r ∷ rs) rest p s = (s.0, s.1 ++ p, ap (λ (t : List ℕ). t ++ p) s.2 ∙ append_assoc s.0 s.1 p, s.3, s.4, spelt_on limits s.1 rs rest p s.5)

pub parts : (b c : Bool) → (if b then true else c) ≡ false → (b ≡ false) × (c ≡ false)
parts true c e = absurd (cc)
parts false c e = (refl, e)

pub spelt_push : (limits : Limits) (stream : List ℕ) (rs : List Request) (rest bytes more : List ℕ) (r : Request) → Spelt limits stream rs rest
    → closed rs ≡ false → rest ≡ bytes ++ more → Spells limits bytes r → Spelt limits stream (rs ++ r ∷ []) more
spelt_push limits stream [] rest bytes more r e c is sp = (bytes, more, e ∙ is, sp, λ h. refl, refl)
spelt_push limits stream (q ∷ rs) rest bytes more r s c is sp =
    let two = parts (closes q) (closed rs) c in
    let off : closes q ≡ false = two.0 in
    (s.0, s.1, s.2, s.3, λ h. absurd (let on : closes q ≡ true = h in cc), spelt_push limits s.1 rs rest bytes more r s.5 two.1 is sp)

pub closed_push : (rs : List Request) (r : Request) (b : Bool) → closed rs ≡ false → closes r ≡ b → closed (rs ++ r ∷ []) ≡ b
closed_push [] r true c is = rw is refl
closed_push [] r false c is = rw is refl
closed_push (q ∷ rs) r b c is =
    let two = parts (closes q) (closed rs) c in
    let off : closes q ≡ false = two.0 in
    rw off (closed_push rs r b two.1 is)

-- no request more
pub goes : (limits : Limits) (state next : State) (u v stream p : List ℕ) (rs : List Request) → (a : After limits state u stream rs) → StandsForRest limits next v (a.rest ++ p) → is_closed state ≡ is_closed next
    → After limits next v (stream ++ p) rs
goes limits state next u v stream p rs a st cl =
    record { rest = a.rest ++ p; spelt = spelt_on limits stream rs a.rest p a.spelt; stands = st; closed_is = a.closed_is ∙ cl }

-- one request more
pub answers : (limits : Limits) (state next : State) (u v stream p : List ℕ) (rs : List Request) (r : Request) (bytes more : List ℕ) → (a : After limits state u stream rs) → is_closed state ≡ false
    → a.rest ++ p ≡ bytes ++ more → Spells limits bytes r → StandsForRest limits next v more → closes r ≡ is_closed next → After limits next v (stream ++ p) (rs ++ r ∷ [])
answers limits state next u v stream p rs r bytes more a op is sp st cl =
    record {
      rest = more;
      spelt = spelt_push limits (stream ++ p) rs (a.rest ++ p) bytes more r (spelt_on limits stream rs a.rest p a.spelt) (a.closed_is ∙ op) is sp;
      stands = st;
      closed_is = closed_push rs r (is_closed next) (a.closed_is ∙ op) cl;
    }

-- requests more, behind those of a `Vec`
pub behind : (limits : Limits) (next : State) (v stream : List ℕ) (before old add new : List Request) → new ≡ old ++ add → After limits next v stream ((before ++ old) ++ add) → After limits next v stream (before ++ new)
behind limits next v stream before old add new is a =
    subst (λ (ts : List Request). After limits next v stream ts) (append_assoc before old add ∙ ap (λ (ts : List Request). before ++ ts) (sym is)) a

pub lacks_take : (b n : ℕ) (xs : List ℕ) → Lacks b xs → Lacks b (take n xs)
lacks_take b n xs l = lacks_front b (take n xs) (drop n xs) (subst (Lacks b) (sym (take-append-drop n xs)) l)

pub too_long : (limits : Limits) (u v stream piece : List ℕ) (rs : List Request) (end : ℕ) → After limits Line u stream rs → end ≤ length piece → Lacks 10 (take end piece) → 65536 < length u + end
    → After limits Closed v (stream ++ take (length piece) piece) (rs ++ Bad LineTooLong false ∷ [])
too_long limits u v stream piece rs end a le lack long =
    let seen : List ℕ = u ++ take end piece in
    let whole : u ++ piece ≡ seen ++ drop end piece = ap (λ (t : List ℕ). u ++ t) (sym (take-append-drop end piece)) ∙ sym (append_assoc u (take end piece) (drop end piece)) in
    let enough : 65537 ≤ length (u ++ take end piece) = omega (arith, length-append u (take end piece), length-take-le end piece le) in
    let bytes : List ℕ = take 65537 (u ++ piece) in
    let same : take 65537 (u ++ piece) ≡ take 65537 (u ++ take end piece) = ap (take 65537) whole ∙ take-append-le 65537 (u ++ take end piece) (drop end piece) enough in
    let lacks : Lacks 10 (take 65537 (u ++ piece)) = subst (Lacks 10) (sym same) (lacks_take 10 65537 (u ++ take end piece) (lacks_both 10 u (take end piece) a.stands.1 lack)) in
    rw (take_all (length piece) piece (omega arith))
    (answers limits Line Closed u v stream piece rs (Bad LineTooLong false) (take 65537 (u ++ piece)) (drop 65537 (u ++ piece)) a refl
    (ap (λ (t : List ℕ). t ++ piece) a.stands.0 ∙ sym (take-append-drop 65537 (u ++ piece)))
    (inr (record { one = lacks; long = ap length same ∙ length-take-le 65537 (u ++ take end piece) enough; means = refl }))
    tt refl)

pub line_more : (limits : Limits) (u stream piece : List ℕ) (rs : List Request) (end : ℕ) → After limits Line u stream rs → end ≤ length piece → Lacks 10 (take end piece) → length u + end ≤ 65536
    → After limits Line (u ++ take end piece) (stream ++ take end piece) rs
line_more limits u stream piece rs end a le lack short =
    goes limits Line Line u (u ++ take end piece) stream (take end piece) rs a
    (ap (λ (t : List ℕ). t ++ take end piece) a.stands.0, lacks_both 10 u (take end piece) a.stands.1 lack, omega (arith, length-append u (take end piece), length-take-le end piece le)) refl

-- the bytes up to an LF, and it
line_whole : (rest u piece : List ℕ) (end : ℕ) → rest ≡ u → end < length piece → get_or piece end 0 ≡ 10 → rest ++ take (end + 1) piece ≡ (u ++ take end piece) ++ 10 ∷ []
line_whole rest u piece end is l lf =
    ap (λ (t : List ℕ). t ++ take (end + 1) piece) is
    ∙ ap (λ (t : List ℕ). u ++ t) (take_more piece end 0 l ∙ ap (λ (b : ℕ). take end piece ++ b ∷ []) lf)
    ∙ sym (append_assoc u (take end piece) (10 ∷ []))

is_line : (u piece : List ℕ) (end : ℕ) → Lacks 10 u → end < length piece → Lacks 10 (take end piece) → length u + end ≤ 65536 → IsLine (u ++ take end piece)
is_line u piece end lu l lack short = record { one = lacks_both 10 u (take end piece) lu lack; short = omega (arith, length-append u (take end piece), length-take-le end piece (omega arith)) }

-- a line that is a request, which may close the reader
pub line_asks : (limits : Limits) (next : State) (u stream piece : List ℕ) (rs : List Request) (end : ℕ) (r : Request) → After limits Line u stream rs
    → end < length piece → get_or piece end 0 ≡ 10 → Lacks 10 (take end piece) → length u + end ≤ 65536
    → said.Whole r ≡ says limits (u ++ take end piece) → StandsForRest limits next [] [] → closes r ≡ is_closed next → After limits next [] (stream ++ take (end + 1) piece) (rs ++ r ∷ [])
line_asks limits next u stream piece rs end r a l lf lack short is st fine =
    answers limits Line next u [] stream (take (end + 1) piece) rs r ((u ++ take end piece) ++ 10 ∷ []) [] a refl
    (line_whole a.rest u piece end a.stands.0 l lf ∙ sym (append-nil ((u ++ take end piece) ++ 10 ∷ [])))
    (inl (record { line = u ++ take end piece; block = []; whole = refl; is_line = is_line u piece end a.stands.1 l lack short; long = ap wanted is; means = ap (λ (s : Said). request_asked s []) is }))
    st fine

pub line_blocks : (limits : Limits) (u stream piece : List ℕ) (rs : List Request) (end : ℕ) (s : Start) → After limits Line u stream rs → end < length piece
    → get_or piece end 0 ≡ 10 → Lacks 10 (take end piece) → length u + end ≤ 65536
    → said.Block s ≡ says limits (u ++ take end piece) → After limits (Block s []) [] (stream ++ take (end + 1) piece) rs
line_blocks limits u stream piece rs end s a l lf lack short is =
    goes limits Line (Block s []) u [] stream (take (end + 1) piece) rs a
    (u ++ take end piece, line_whole a.rest u piece end a.stands.0 l lf, is_line u piece end a.stands.1 l lack short, sym is, omega arith) refl

pub line_skips : (limits : Limits) (u stream piece : List ℕ) (rs : List Request) (end : ℕ) (s : Start) → After limits Line u stream rs → end < length piece
    → get_or piece end 0 ≡ 10 → Lacks 10 (take end piece) → length u + end ≤ 65536
    → said.Skip s ≡ says limits (u ++ take end piece) → After limits (Skip s (s.count + 2)) [] (stream ++ take (end + 1) piece) rs
line_skips limits u stream piece rs end s a l lf lack short is =
    goes limits Line (Skip s (s.count + 2)) u [] stream (take (end + 1) piece) rs a
    (u ++ take end piece, [], line_whole a.rest u piece end a.stands.0 l lf, is_line u piece end a.stands.1 l lack short, sym is, omega arith, omega arith) refl

-- the state of a reader after a line that says this
abbrev state_after : Said → State
state_after (said.Whole r) = Line
state_after (said.Block s) = Block s []
state_after (said.Skip s) = Skip s (s.count + 2)

-- the request of a line that says this, none if a block is to follow
abbrev request_after : Said → Option Request
request_after (said.Whole r) = Some r
request_after (said.Block s) = None
request_after (said.Skip s) = None

-- a line that is whole, whatever it says
pub line_done : (limits : Limits) (u v stream piece : List ℕ) (rs : List Request) (end : ℕ) (x : Said) → After limits Line u stream rs → end < length piece
    → get_or piece end 0 ≡ 10 → Lacks 10 (take end piece) → length u + end ≤ 65536
    → x ≡ says limits (u ++ take end piece) → IsFine limits x → v ≡ [] → After limits (state_after x) v (stream ++ take (end + 1) piece) (rs ++ option_to_list (request_after x))
line_done limits u v stream piece rs end (said.Whole r) a l lf lack short is fine none = rw none (line_asks limits Line u stream piece rs end r a l lf lack short is (refl, tt, omega arith) fine.0)
line_done limits u v stream piece rs end (said.Block s) a l lf lack short is fine none = rw (none, append-nil rs) (line_blocks limits u stream piece rs end s a l lf lack short is)
line_done limits u v stream piece rs end (said.Skip s) a l lf lack short is fine none = rw (none, append-nil rs) (line_skips limits u stream piece rs end s a l lf lack short is)

with_more : (rest line tail p : List ℕ) → rest ≡ line ++ 10 ∷ tail → rest ++ p ≡ line ++ 10 ∷ (tail ++ p)
with_more rest line tail p is = ap (λ (t : List ℕ). t ++ p) is ∙ append_assoc line (10 ∷ tail) p

pub block_more : (limits : Limits) (u v block stream piece : List ℕ) (rs : List Request) (s : Start) → After limits (Block s block) u stream rs → length block + length piece < s.count + 2
    → After limits (Block s (block ++ piece)) v (stream ++ take (length piece) piece) rs
block_more limits u v block stream piece rs s a l =
    let st = a.stands in
    rw (take_all (length piece) piece (omega arith))
    (goes limits (Block s block) (Block s (block ++ piece)) u v stream piece rs a (st.0, with_more a.rest st.0 block piece st.1, st.2, st.3, omega (arith, length-append block piece)) refl)

pub stored_open : (s : Start) (block : List ℕ) (b : Bool) → closes (if b then One (commands.Store s.verb s.key s.flags s.exptime (take s.count block)) s.quiet else Bad Chunk s.quiet) ≡ false
stored_open s block true = refl
stored_open s block false = refl

pub block_done : (limits : Limits) (u v block stream piece : List ℕ) (rs : List Request) (s : Start) (n : ℕ) → After limits (Block s block) u stream rs → n ≤ length piece → length block + n ≡ s.count + 2 → v ≡ []
    → After limits Line v (stream ++ take n piece) (rs ++ stored s (block ++ take n piece) ∷ [])
block_done limits u v block stream piece rs s n a le long none =
    let st = a.stands in
    rw none (answers limits (Block s block) Line u [] stream (take n piece) rs (stored s (block ++ take n piece)) (st.0 ++ 10 ∷ (block ++ take n piece)) [] a refl
    (with_more a.rest st.0 block (take n piece) st.1 ∙ sym (append-nil (st.0 ++ 10 ∷ (block ++ take n piece))))
    (inl (record {
      line = st.0;
      block = block ++ take n piece;
      whole = refl;
      is_line = st.2;
      long = length-append block (take n piece) ∙ ap (λ (k : ℕ). length block + k) (length-take-le n piece le) ∙ long ∙ ap wanted (sym st.3);
      means = ap (λ (x : Said). request_asked x (block ++ take n piece)) (sym st.3);
    }))
    (refl, tt, omega arith) (stored_open s (block ++ take n piece) (pointwise nat_eq (drop s.count (block ++ take n piece)) (13 ∷ 10 ∷ []))))

-- a block behind a line in the same piece, where the piece cuts it
pub first_more : (limits : Limits) (stream piece : List ℕ) (rs : List Request) (s : Start) (begin : ℕ)
    → After limits (Block s []) [] (stream ++ take begin piece) rs → begin ≤ length piece → length piece < begin + (s.count + 2)
    → After limits (Block s (drop begin piece)) [] (stream ++ take (length piece) piece) rs
first_more limits stream piece rs s begin a within l =
    let behind = drop begin piece in
    let long : length behind ≡ length piece - begin = length-drop begin piece in
    let whole : (stream ++ take begin piece) ++ take (length behind) behind ≡ stream ++ take (length piece) piece =
    append_assoc stream (take begin piece) (take (length behind) behind)
    ∙ ap (λ (t : List ℕ). stream ++ (take begin piece ++ t)) (take_all (length behind) behind (omega arith))
    ∙ ap (λ (t : List ℕ). stream ++ t) (take-append-drop begin piece ∙ sym (take_all (length piece) piece (omega arith))) in
    subst (λ (t : List ℕ). After limits (Block s behind) [] t rs) whole (block_more limits [] [] [] (stream ++ take begin piece) behind rs s a (omega (arith, long)))

-- and where it lies whole in the piece
pub first_done : (limits : Limits) (stream piece : List ℕ) (rs : List Request) (s : Start) (begin : ℕ) → After limits (Block s []) [] (stream ++ take begin piece) rs → begin + (s.count + 2) ≤ length piece
    → After limits Line [] (stream ++ take (begin + (s.count + 2)) piece) (rs ++ stored s (take (s.count + 2) (drop begin piece)) ∷ [])
first_done limits stream piece rs s begin a within =
    let n = s.count + 2 in
    let behind = drop begin piece in
    let long : length behind ≡ length piece - begin = length-drop begin piece in
    let whole : (stream ++ take begin piece) ++ take n behind ≡ stream ++ take (begin + n) piece =
    append_assoc stream (take begin piece) (take n behind) ∙ ap (λ (t : List ℕ). stream ++ t) (sym (take-add begin n piece)) in
    subst (λ (t : List ℕ). After limits Line [] t (rs ++ stored s (take n behind) ∷ [])) whole (block_done limits [] [] [] (stream ++ take begin piece) behind rs s n a (omega (arith, long)) (omega arith) refl)

pub skip_more : (limits : Limits) (u v stream piece : List ℕ) (rs : List Request) (s : Start) (left now : ℕ) → After limits (Skip s left) u stream rs → length piece + now ≡ left → 0 < now
    → After limits (Skip s now) v (stream ++ take (length piece) piece) rs
skip_more limits u v stream piece rs s left now a l z =
    let st = a.stands in
    rw (take_all (length piece) piece (omega arith))
    (goes limits (Skip s left) (Skip s now) u v stream piece rs a (st.0, st.1 ++ piece, with_more a.rest st.0 st.1 piece st.2, st.3, st.4, omega (arith, length-append st.1 piece, st.5), z) refl)

pub skip_done : (limits : Limits) (u v stream piece : List ℕ) (rs : List Request) (s : Start) (left : ℕ) → After limits (Skip s left) u stream rs → left ≤ length piece → v ≡ []
    → After limits Line v (stream ++ take left piece) (rs ++ skipped s ∷ [])
skip_done limits u v stream piece rs s left a le none =
    let st = a.stands in
    rw none (answers limits (Skip s left) Line u [] stream (take left piece) rs (skipped s) (st.0 ++ 10 ∷ (st.1 ++ take left piece)) [] a refl
    (with_more a.rest st.0 st.1 (take left piece) st.2 ∙ sym (append-nil (st.0 ++ 10 ∷ (st.1 ++ take left piece))))
    (inl (record {
      line = st.0;
      block = st.1 ++ take left piece;
      whole = refl;
      is_line = st.3;
      long = length-append st.1 (take left piece) ∙ ap (λ (k : ℕ). length st.1 + k) (length-take-le left piece le) ∙ st.5 ∙ ap wanted (sym st.4);
      means = ap (λ (x : Said). request_asked x (st.1 ++ take left piece)) (sym st.4);
    }))
    (refl, tt, omega arith) refl)

pub stays_closed : (limits : Limits) (state : State) (u v stream p : List ℕ) (rs : List Request) → state ≡ Closed → After limits state u stream rs → After limits state v (stream ++ p) rs
stays_closed limits state u v stream p rs is a =
    goes limits state state u v stream p rs a (subst (λ (k : State). StandsForRest limits k v (a.rest ++ p)) (sym is) tt) refl

-- a closed reader, as its contract sees it
pub seen_closed : (now : Kept) (limits : Limits) (state : State) (u : List ℕ) → kept limits state u ≡ now → state ≡ Closed → now.state ≡ Closed
seen_closed now limits state u view is = ap (λ (k : Kept). k.state) (sym view) ∙ is

-- it reads a piece
pub closed_reads : (now : Kept) (stream piece : List ℕ) (rs items : List Request) → now.state ≡ Closed → items ≡ [] → After now.limits now.state now.unread stream rs
    → After now.limits now.state now.unread (stream ++ piece) (rs ++ items)
closed_reads now stream piece rs items is none a = rw (none, append-nil rs) (stays_closed now.limits now.state now.unread now.unread stream piece rs is a)

-- a piece read so far, and one part more
pub part_more : (limits : Limits) (first now next : State) (u v w piece front rest cut left : List ℕ) (old new : List Request)
    → piece ≡ front ++ rest → rest ≡ cut ++ left
    → ((s : List ℕ) (rs : List Request) → After limits first u s rs → After limits now v (s ++ front) (rs ++ old))
    → ((s : List ℕ) (rs : List Request) → After limits now v s (rs ++ old) → After limits next w (s ++ cut) (rs ++ new))
    → (x : List ℕ) × (piece ≡ x ++ left) × ((s : List ℕ) (rs : List Request) → After limits first u s rs → After limits next w (s ++ x) (rs ++ new))
part_more limits first now next u v w piece front rest cut left old new whole more before step = (
  front ++ cut,
  whole ∙ ap (λ (t : List ℕ). front ++ t) more ∙ sym (append_assoc front cut left),
  λ s rs a. subst (λ (t : List ℕ). After limits next w t (rs ++ new)) (append_assoc s front cut) (step (s ++ front) rs (before s rs a)),
)
