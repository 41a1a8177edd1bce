-- Where a stream is cut into scripts.
use Rattle.std.proofs.Common.{All, ◌≡◌, ◌++◌, ◌∷◌, [], ◌+◌, ◌<◌, ◌≤◌, ℕ, List, length, refl, ap, sym, ◌∙◌, arith, append_assoc, append-nil, take, drop, get_or}
use Rattle.std.proofs.Common.{Bool, true, false, subst, inl, take-append-drop, length-drop}
use Rattle.std.specs.Prelude.{if◌then◌else◌, nat_eq}
use Rattle.std.specs.Cmp.Lexicographic.{pointwise}
use Rattle.std.proofs.Math.Seq.{take-add}
use Rattle.std.proofs.lemmas.List.{take_all, take_more, length-take-le}
use Rattle.std.proofs.lemmas.List.Elements.{All-nil, All-head, All-tail, All-append, All-push}
use Rattle.mc_item.specs.declared.command.Command.TheVariants as commands
use Rattle.mc_proto.specs.{Lines.Lacks, Table.says, Reader.After}
use Rattle.mc_proto.specs.Grammar.{IsLine, Spells, Spelt, Reads, BeginsNone, closes, closed, wanted, request_asked, IsFine}
use Rattle.mc_proto.specs.Scripts.{IsOther, IsWhole, IsLast, IsCutAtNext, AreScripts, ReadAlone, is_next, says_next, with_next}
use Rattle.mc_proto.specs.declared.{request.Limits.Limits, request.LineFault.TheVariants.LineTooLong, request.LineFault.TheVariants.Chunk}
use Rattle.mc_proto.specs.declared.{request.Request.Request, state.Said.Said, state.Start.Start, state.State.TheVariants.Line}
use Rattle.mc_proto.specs.declared.{state.State.TheVariants.Closed}
use Rattle.mc_proto.specs.declared.request.Request.TheVariants.{Get, Gat, One, Bad, At, Next, Juggle, Crawl, Chunks, Quit}
use Rattle.mc_proto.specs.declared.state.Said.TheVariants as said
use Rattle.mc_proto.proofs.{KeptRestLemmas.after_reads, KeptRestLemmas.in_line, KeptRestLemmas.in_block, SpellingLemmas.begins_no_other, StreamLemmas.reading_on}
use Rattle.mc_proto.proofs.TakingLemmas.{parts, spelt_on, spelt_push, closed_push, stored_open, too_long}

-- a line that is too long is the last script's
pub last_too_long : (limits : Limits) (bytes : List ℕ) (end : ℕ) → end ≤ length bytes → Lacks 10 (take end bytes) → 65536 < end → IsLast limits bytes
last_too_long limits bytes end le lack long =
    let start : After limits Line [] [] [] = record { rest = []; spelt = refl; stands = (refl, tt, omega arith); closed_is = refl } in
    let shut : After limits Closed [] (take (length bytes) bytes) (Bad LineTooLong false ∷ []) = too_long limits [] [] [] bytes [] end start le lack (omega arith) in
    let r = after_reads limits Closed [] (take (length bytes) bytes) (Bad LineTooLong false ∷ []) shut in
    record {
      requests = Bad LineTooLong false ∷ [];
      rest = r.0;
      reads = subst (λ (t : List ℕ). Reads limits t (Bad LineTooLong false ∷ []) r.0) (take_all (length bytes) bytes (omega arith)) r.1;
      others = All-push IsOther [] (Bad LineTooLong false) (All-nil IsOther) (λ is. cc);
    }

none_begins : (limits : Limits) (bytes : List ℕ) → BeginsNone limits bytes → IsLast limits bytes
none_begins limits bytes none = record { requests = []; rest = bytes; reads = record { spelt = refl; all = λ _. none }; others = All-nil IsOther }

-- part of a line is the last script's
pub last_line : (limits : Limits) (bytes : List ℕ) (end : ℕ) → end ≡ length bytes → Lacks 10 (take end bytes) → end ≤ 65536 → IsLast limits bytes
last_line limits bytes end all lack short =
    none_begins limits bytes (in_line limits bytes bytes refl (subst (Lacks 10) (take_all end bytes (omega arith)) lack) (omega arith))

-- the bytes up to an LF, it, and what is behind it
line_first : (bytes : List ℕ) (end : ℕ) → end < length bytes → get_or bytes end 0 ≡ 10 → bytes ≡ take end bytes ++ 10 ∷ drop (end + 1) bytes
line_first bytes end l lf =
    sym (take-append-drop (end + 1) bytes)
    ∙ ap (λ (t : List ℕ). t ++ drop (end + 1) bytes) (take_more bytes end 0 l ∙ ap (λ (b : ℕ). take end bytes ++ b ∷ []) lf)
    ∙ append_assoc (take end bytes) (10 ∷ []) (drop (end + 1) bytes)

line_is : (bytes : List ℕ) (end : ℕ) → end < length bytes → Lacks 10 (take end bytes) → end ≤ 65536 → IsLine (take end bytes)
line_is bytes end l lack short = record { one = lack; short = omega (arith, length-take-le end bytes (omega arith)) }

-- a line and part of its block are the last script's
pub last_block : (limits : Limits) (bytes : List ℕ) (end : ℕ) → end < length bytes → get_or bytes end 0 ≡ 10 → Lacks 10 (take end bytes) → end ≤ 65536
    → length bytes < end + 1 + wanted (says limits (take end bytes)) → IsLast limits bytes
last_block limits bytes end l lf lack short part =
    none_begins limits bytes (in_block limits bytes (take end bytes) (drop (end + 1) bytes) (line_first bytes end l lf) (line_is bytes end l lack short) (omega (arith, length-drop (end + 1) bytes)))

-- a line and its whole block spell what they ask
pub spelt_first : (limits : Limits) (bytes : List ℕ) (end n : ℕ) → end < length bytes → get_or bytes end 0 ≡ 10 → Lacks 10 (take end bytes) → end ≤ 65536
    → n ≡ wanted (says limits (take end bytes)) → end + 1 + n ≤ length bytes
    → Spells limits (take (end + 1 + n) bytes) (request_asked (says limits (take end bytes)) (take n (drop (end + 1) bytes)))
spelt_first limits bytes end n l lf lack short is whole =
    inl (record {
      line = take end bytes;
      block = take n (drop (end + 1) bytes);
      whole = take-add (end + 1) n bytes
          ∙ ap (λ (t : List ℕ). t ++ take n (drop (end + 1) bytes)) (take_more bytes end 0 l ∙ ap (λ (b : ℕ). take end bytes ++ b ∷ []) lf)
          ∙ append_assoc (take end bytes) (10 ∷ []) (take n (drop (end + 1) bytes));
      is_line = line_is bytes end l lack short;
      long = length-take-le n (drop (end + 1) bytes) (omega (arith, length-drop (end + 1) bytes)) ∙ is;
      means = refl;
    })

next_is : (r : Request) → is_next r ≡ true → r ≡ Next
next_is Next is = refl
next_is (Get keys with_cas) is = cc
next_is (Gat exptime keys with_cas) is = cc
next_is (One command quiet) is = cc
next_is (Bad why quiet) is = cc
next_is (At moment) is = cc
next_is (Juggle target) is = cc
next_is (Crawl target) is = cc
next_is (Chunks class n) is = cc
next_is Quit is = cc

pub other_is : (r : Request) → is_next r ≡ false → IsOther r
other_is r off is = let on : is_next r ≡ true = ap is_next is in cc

asks_next : (s : Said) (block : List ℕ) → true ≡ says_next s → request_asked s block ≡ Next
asks_next (said.Whole r) block is = next_is r (sym is)
asks_next (said.Block s) block is = absurd (cc)
asks_next (said.Skip s) block is = absurd (cc)

stored_other : (s : Start) (block : List ℕ) (b : Bool) → IsOther (if b then One (commands.Store s.verb s.key s.flags s.exptime (take s.count block)) s.quiet else Bad Chunk s.quiet)
stored_other s block true is = cc
stored_other s block false is = cc

pub asks_other : (s : Said) (block : List ℕ) → false ≡ says_next s → IsOther (request_asked s block)
asks_other (said.Whole r) block is = other_is r (sym is)
asks_other (said.Block s) block is = stored_other s block (pointwise nat_eq (drop s.count block) (13 ∷ 10 ∷ []))
asks_other (said.Skip s) block is = λ e. cc

asks_open : (limits : Limits) (s : Said) (block : List ℕ) → IsFine limits s → closes (request_asked s block) ≡ false
asks_open limits (said.Whole r) block fine = fine.0
asks_open limits (said.Block s) block fine = stored_open s block (pointwise nat_eq (drop s.count block) (13 ∷ 10 ∷ []))
asks_open limits (said.Skip s) block fine = refl

-- a line that begins the next script
pub next_first : (limits : Limits) (bytes : List ℕ) (end n : ℕ) (x : Said) → end < length bytes → get_or bytes end 0 ≡ 10 → Lacks 10 (take end bytes) → end ≤ 65536
    → x ≡ says limits (take end bytes) → n ≡ wanted x → end + 1 + n ≤ length bytes → true ≡ says_next x → Spells limits (take (end + 1 + n) bytes) Next
next_first limits bytes end n x l lf lack short is many whole on =
    let block : List ℕ = take n (drop (end + 1) bytes) in
    subst (Spells limits (take (end + 1 + n) bytes)) (ap (λ (s : Said). request_asked s (take n (drop (end + 1) bytes))) (sym is) ∙ asks_next x (take n (drop (end + 1) bytes)) on)
    (spelt_first limits bytes end n l lf lack short (many ∙ ap wanted is) whole)

-- a request with which a script goes on
pub more_first : (limits : Limits) (bytes : List ℕ) (end n : ℕ) (x : Said) → end < length bytes → get_or bytes end 0 ≡ 10 → Lacks 10 (take end bytes) → end ≤ 65536
    → x ≡ says limits (take end bytes) → IsFine limits x → n ≡ wanted x → end + 1 + n ≤ length bytes → false ≡ says_next x
    → (r : Request) × Spells limits (take (end + 1 + n) bytes) r × (closes r ≡ false) × IsOther r
more_first limits bytes end n x l lf lack short is fine many whole off = (
  request_asked x (take n (drop (end + 1) bytes)),
  subst (λ (s : Said). Spells limits (take (end + 1 + n) bytes) (request_asked s (take n (drop (end + 1) bytes)))) (sym is) (spelt_first limits bytes end n l lf lack short (many ∙ ap wanted is) whole),
  asks_open limits x (take n (drop (end + 1) bytes)) fine,
  asks_other x (take n (drop (end + 1) bytes)) off,
)

-- a whole script, and one request more
pub whole_on : (limits : Limits) (front back : List ℕ) (r : Request) → IsWhole limits front → Spells limits back r → closes r ≡ false → IsOther r → IsWhole limits (front ++ back)
whole_on limits front back r w sp stays other = record {
  requests = w.requests ++ r ∷ [];
  spelt = spelt_push limits (front ++ back) w.requests back back [] r (spelt_on limits front w.requests [] back w.spelt) w.reads_on (sym (append-nil back)) sp;
  others = All-push IsOther w.requests r w.others other;
  reads_on = closed_push w.requests r false w.reads_on stays;
}

-- requests, and others behind them
spelt_both : (limits : Limits) (a b rest : List ℕ) (rs qs : List Request) → Spelt limits a rs [] → closed rs ≡ false → Spelt limits b qs rest → Spelt limits (a ++ b) (rs ++ qs) rest
spelt_both limits a b rest [] qs p stays q = subst (λ (t : List ℕ). Spelt limits (t ++ b) qs rest) (sym p) q
spelt_both limits a b rest (r ∷ rs) qs p stays q =
    let two = parts (closes r) (closed rs) stays in
    let off : closes r ≡ false = two.0 in
    (p.0, p.1 ++ b, ap (λ (t : List ℕ). t ++ b) p.2 ∙ append_assoc p.0 p.1 b, p.3, (λ h. absurd (let on : closes r ≡ true = h in cc)), spelt_both limits p.1 b rest rs qs p.5 two.1 q)

closed_behind : (rs qs : List Request) → closed rs ≡ false → closed (rs ++ qs) ≡ false → closed qs ≡ false
closed_behind [] qs stays off = off
closed_behind (r ∷ rs) qs stays off = closed_behind rs qs (parts (closes r) (closed rs) stays).1 (parts (closes r) (closed (rs ++ qs)) off).1

-- the last script is all of a stream, where what is behind the requests so far is its end
pub last_on : (limits : Limits) (front back : List ℕ) → IsWhole limits front → IsLast limits back → IsLast limits (front ++ back)
last_on limits front back w last = record {
  requests = w.requests ++ last.requests;
  rest = last.rest;
  reads = record {
    spelt = spelt_both limits front back last.rest w.requests last.requests w.spelt w.reads_on last.reads.spelt;
    all = λ off. last.reads.all (closed_behind w.requests last.requests w.reads_on off);
  };
  others = All-append IsOther w.requests last.requests w.others last.others;
}

-- the first script and what is behind its end are those of no other reading
same_cut : (limits : Limits) (s t x y k l : List ℕ) (qs rs : List Request) → Spelt limits s qs [] → Spelt limits t rs [] → All IsOther qs → All IsOther rs → Spells limits k Next → Spells limits l Next
    → s ++ (k ++ x) ≡ t ++ (l ++ y) → (s ≡ t) × (x ≡ y)
same_cut limits s t x y k l [] [] p q po qo kn ln e =
    let cut = begins_no_other limits k l x y Next Next kn ln (ap (λ (u : List ℕ). u ++ (k ++ x)) (sym p) ∙ e ∙ ap (λ (u : List ℕ). u ++ (l ++ y)) q) in
    (p ∙ sym q, cut.1)
same_cut limits s t x y k l [] (r ∷ rs) p q po qo kn ln e =
    let cut = begins_no_other limits k q.0 x (q.1 ++ (l ++ y)) Next r kn q.3
    (ap (λ (u : List ℕ). u ++ (k ++ x)) (sym p) ∙ e ∙ ap (λ (u : List ℕ). u ++ (l ++ y)) q.2 ∙ append_assoc q.0 q.1 (l ++ y)) in
    absurd (All-head IsOther r rs qo (sym cut.2))
same_cut limits s t x y k l (r ∷ qs) [] p q po qo kn ln e =
    let cut = begins_no_other limits p.0 l (p.1 ++ (k ++ x)) y r Next p.3 ln
    (sym (append_assoc p.0 p.1 (k ++ x)) ∙ ap (λ (u : List ℕ). u ++ (k ++ x)) (sym p.2) ∙ e ∙ ap (λ (u : List ℕ). u ++ (l ++ y)) q) in
    absurd (All-head IsOther r qs po cut.2)
same_cut limits s t x y k l (r ∷ qs) (z ∷ rs) p q po qo kn ln e =
    let cut = begins_no_other limits p.0 q.0 (p.1 ++ (k ++ x)) (q.1 ++ (l ++ y)) r z p.3 q.3
    (sym (append_assoc p.0 p.1 (k ++ x)) ∙ ap (λ (u : List ℕ). u ++ (k ++ x)) (sym p.2) ∙ e ∙ ap (λ (u : List ℕ). u ++ (l ++ y)) q.2 ∙ append_assoc q.0 q.1 (l ++ y)) in
    let first : p.0 ≡ q.0 = cut.0 in
    let more = same_cut limits p.1 q.1 x y k l qs rs p.5 q.5 (All-tail IsOther r qs po) (All-tail IsOther z rs qo) kn ln cut.1 in
    let rest : p.1 ≡ q.1 = more.0 in
    (p.2 ∙ ap (λ (u : List ℕ). u ++ p.1) first ∙ ap (λ (u : List ℕ). q.0 ++ u) rest ∙ sym q.2, more.1)

has_next : (rs others : List Request) → All IsOther ((rs ++ Next ∷ []) ++ others) → ⊥
has_next [] others all = All-head IsOther Next others all refl
has_next (r ∷ rs) others all = has_next rs others (All-tail IsOther r ((rs ++ Next ∷ []) ++ others) all)

-- a stream that is cut isn't the last script
cut_or_last : (limits : Limits) (stream script rest : List ℕ) → IsLast limits stream → IsCutAtNext limits stream script rest → ⊥
cut_or_last limits stream script rest last cut =
    let w = cut.whole in
    let spelt : Spelt limits (script ++ cut.line) (w.requests ++ Next ∷ []) [] =
    spelt_push limits (script ++ cut.line) w.requests cut.line cut.line [] Next (spelt_on limits script w.requests [] cut.line w.spelt) w.reads_on (sym (append-nil cut.line)) cut.next in
    let reads : Reads limits ((script ++ cut.line) ++ rest) last.requests last.rest =
    subst (λ (t : List ℕ). Reads limits t last.requests last.rest) (cut.is ∙ sym (append_assoc script cut.line rest)) last.reads in
    let more = reading_on limits (script ++ cut.line) rest [] last.rest (w.requests ++ Next ∷ []) last.requests spelt reads in
    has_next w.requests more.0 (subst (All IsOther) more.1 last.others)

-- a stream is cut in one way
pub scripts_once : (limits : Limits) (stream : List ℕ) (ss ts : List (List ℕ)) → AreScripts limits stream ss → AreScripts limits stream ts → ss ≡ ts
scripts_once limits stream [] ts a b = absurd a
scripts_once limits stream (s ∷ ss) [] a b = absurd b
scripts_once limits stream (s ∷ []) (t ∷ []) a b = ap (λ (u : List ℕ). u ∷ []) (a.0 ∙ sym b.0)
scripts_once limits stream (s ∷ []) (t ∷ u ∷ ts) a b = absurd (cut_or_last limits stream t b.0 a.1 b.1)
scripts_once limits stream (s ∷ u ∷ ss) (t ∷ []) a b = absurd (cut_or_last limits stream s a.0 b.1 a.1)
scripts_once limits stream (s ∷ u ∷ ss) (t ∷ v ∷ ts) a b =
    let p = a.1 in
    let q = b.1 in
    let cut = same_cut limits s t a.0 b.0 p.line q.line p.whole.requests q.whole.requests p.whole.spelt q.whole.spelt p.whole.others q.whole.others p.next q.next (sym p.is ∙ q.is) in
    let first : s ≡ t = cut.0 in
    let more : u ∷ ss ≡ v ∷ ts = scripts_once limits b.0 (u ∷ ss) (v ∷ ts) (subst (λ (r : List ℕ). AreScripts limits r (u ∷ ss)) cut.1 a.2) b.2 in
    cc

whole_reads : (limits : Limits) (script : List ℕ) → (w : IsWhole limits script) → Reads limits script w.requests []
whole_reads limits script w = record { spelt = w.spelt; all = λ _. in_line limits [] [] refl tt (omega arith) }

-- a script, a line that begins the next one, and what is read behind them
cut_reads : (limits : Limits) (stream script rest end : List ℕ) (rs : List Request) → (cut : IsCutAtNext limits stream script rest) → Reads limits rest rs end → Reads limits stream (cut.whole.requests ++ Next ∷ rs) end
cut_reads limits stream script rest end rs cut r =
    subst (λ (t : List ℕ). Reads limits t (cut.whole.requests ++ Next ∷ rs) end) (sym cut.is)
    (record {
      spelt = spelt_both limits script (cut.line ++ rest) end cut.whole.requests (Next ∷ rs) cut.whole.spelt cut.whole.reads_on (cut.line, rest, refl, cut.next, (λ h. absurd (cc)), r.spelt);
      all = λ off. r.all (closed_behind cut.whole.requests (Next ∷ rs) cut.whole.reads_on off);
    })

one_more : (limits : Limits) (stream script second rest : List ℕ) (ss : List (List ℕ)) (rss : List (List Request)) (end : List ℕ)
    → IsCutAtNext limits stream script rest → ReadAlone limits (second ∷ ss) rss end → Reads limits rest (with_next rss) end
    → (all : List (List Request)) × (last : List ℕ) × ReadAlone limits (script ∷ second ∷ ss) all last × Reads limits stream (with_next all) last
one_more limits stream script second rest ss [] end cut alone r = absurd alone
one_more limits stream script second rest ss (rs ∷ rss) end cut alone r =
    (cut.whole.requests ∷ rs ∷ rss, end, (whole_reads limits script cut.whole, alone), cut_reads limits stream script rest end (with_next (rs ∷ rss)) cut r)

-- the scripts of a stream read as its requests
pub scripts_read : (limits : Limits) (stream : List ℕ) (ss : List (List ℕ)) → AreScripts limits stream ss
    → (all : List (List Request)) × (last : List ℕ) × ReadAlone limits ss all last × Reads limits stream (with_next all) last
scripts_read limits stream [] are = absurd are
scripts_read limits stream (s ∷ []) are =
    let last = are.1 in
    (last.requests ∷ [], last.rest, subst (λ (t : List ℕ). Reads limits t last.requests last.rest) (sym are.0) last.reads, last.reads)
scripts_read limits stream (s ∷ t ∷ ss) are =
    let more = scripts_read limits are.0 (t ∷ ss) are.2 in
    one_more limits stream s t are.0 ss more.0 more.1 are.1 more.2 more.3
