use Rattle.std.proofs.Common.{◌≡◌, ◌≤◌, ◌++◌, ◌∷◌, [], ◌+◌, ◌<◌, ◌∙◌, arith, sym, ap, subst, take, get_or, List, ℕ, length, false, refl, rules, Result, Ok, Err}
use Rattle.std.specs.Prelude.{IfOk, All}
use Rattle.std.proofs.lemmas.List.{take_all}
use Rattle.std.proofs.lemmas.List.Elements.{All-push}
use Rattle.mc_proto.specs.{Lines.Lacks, Table.says, Grammar.IsFine, Grammar.IsModerate}
use Rattle.mc_proto.specs.declared.{request.LineFault.TheVariants.LineTooLong, request.Request.Request}
use Rattle.mc_proto.specs.declared.{request.Request.TheVariants.Bad, request.Request.TheVariants.Get}
use Rattle.mc_proto.specs.declared.{state.Said.TheVariants.Whole, state.Said.TheVariants.Block, state.State.TheVariants.Line, state.State.TheVariants.Closed}
use Rattle.mc_proto.proofs.OnePassLineLemmas.{says_tokens}
use Rattle.mc_proto.proofs.TakingLemmas.{behind, too_long, line_blocks, line_more, line_done, line_skips}
use Rattle.mc_proto.proofs.taking.take_line.Given.{Over}
use Rattle.mc_proto.proofs.taking.take_line.Goals as goal
use Rattle.mc_proto.proofs.taking.take_line.Goals.{After-said_at, then-is_empty+in_ok-key+in_default+in_ok-read_brief+else-branch+in_ok-start+in_default-2, else-is_empty}

-- what holds of what was answered, where one fact follows from another
ok_follows : {X E : Type 0} (r : Result X E) (P Q : X → Type 0) → ((x : X) → P x → Q x) → IfOk r P → IfOk r Q
ok_follows (Ok x) P Q follows p = follows x p
ok_follows (Err e) P Q follows p = tt

-- the end of a line within the bytes of a piece
end_within : (bytes piece : List ℕ) (end : ℕ) → bytes ≡ piece → end ≤ length bytes → end ≤ length piece
end_within bytes piece end same within = subst (λ (t : List ℕ). end ≤ length t) same within

end_lacks : (bytes piece : List ℕ) (end : ℕ) → bytes ≡ piece → Lacks 10 (take end bytes) → Lacks 10 (take end piece)
end_lacks bytes piece end same lack = subst (λ (t : List ℕ). Lacks 10 (take end t)) same lack

end_found : (bytes piece : List ℕ) (end : ℕ) → bytes ≡ piece → (end < length bytes → get_or bytes end 0 ≡ 10) → end < length piece → get_or piece end 0 ≡ 10
end_found bytes piece end same found = subst (λ (t : List ℕ). end < length t → get_or t end 0 ≡ 10) same found

pub returns-then-len-end-gt-MAX_LINE-clause-reads : goal.returns-then-len-end-gt-MAX_LINE-clause-reads
returns-then-len-end-gt-MAX_LINE-clause-reads g c = λ stream before a.
    let e = c.line_end-end in
    let p = g.P.Piece.unread c.args.piece.now in
    let same = c.bytes-bytes.ensures in
    rw (same, c.in_ok-close.ensures.0)
    (behind c.args.limits Closed _ (stream ++ take (length p) p) before c.args.requests.now.items (Bad LineTooLong false ∷ []) _ c.in_ok-close.ensures.2
    (too_long c.args.limits c.args.line.now.items _ stream p (before ++ c.args.requests.now.items) e.result a (end_within _ p e.result same e.ensures.within) (end_lacks _ p e.result same e.ensures.before) (omega arith)))

pub returns-then-end-bytes-clause-reads : goal.returns-then-end-bytes-clause-reads
returns-then-end-bytes-clause-reads g c = λ stream before a.
    let e = c.line_end-end in
    let p = g.P.Piece.unread c.args.piece.now in
    let same = c.bytes-bytes.ensures in
    let long = ap length same in
    let whole : take e.result p ≡ p = take_all e.result p (omega (arith, long)) in
    let is : c.extend_from_slice.new.self.items ≡ c.args.line.now.items ++ take e.result p =
    c.in_ok-extend_from_slice.ensures.ok ∙ ap (λ (t : List ℕ). c.args.line.now.items ++ t) (same ∙ sym whole) in
    let at : c.args.state.now ≡ Line = c.requires.line in
    rw (is, at)
    (line_more c.args.limits c.args.line.now.items stream p (before ++ c.args.requests.now.items) e.result a (end_within _ p e.result same e.ensures.within) (end_lacks _ p e.result same e.ensures.before) (omega arith))

none_left : (xs : List ℕ) → length xs ≡ 0 → xs ≡ []
none_left [] h = refl
none_left (x ∷ xs) h = absurd (omega arith)

pub returns-in-Some-clause-reads : goal.returns-in-Some-clause-reads
returns-in-Some-clause-reads g c = λ stream before a.
    let e = c.line_end-end in
    let p = g.P.Piece.unread c.args.piece.now in
    let same = c.bytes-bytes.ensures in
    let long = ap length same in
    let l : e.result < length p = omega (arith, long) in
    let front = c.split_at.ensures.front ∙ ap (take e.result) same in
    let empty : c.args.line.now.items ≡ [] = none_left c.args.line.now.items (search rules) in
    let value : says c.args.limits c.split_at.result.0.now ≡ Whole (Get (c.in-Some.key ∷ []) false) = (rw c.in-Some.is at c.in_ok-key.ensures.value) c.args.limits in
    let fine : IsFine c.args.limits (Whole (Get (c.in-Some.key ∷ []) false)) = (rw c.in-Some.is at c.in_ok-key.ensures.fine) c.args.limits in
    let told : Whole (Get (c.in-Some.key ∷ []) false) ≡ says c.args.limits (c.args.line.now.items ++ take e.result p) =
    sym value ∙ ap (says c.args.limits) front ∙ ap (λ (t : List ℕ). says c.args.limits (t ++ take e.result p)) (sym empty) in
    let at : c.args.state.now ≡ Line = c.requires.line in
    rw at
    (behind c.args.limits Line _ (stream ++ take (e.result + 1) p) before c.args.requests.now.items
    (Get (c.in-Some.key ∷ []) false ∷ []) _ (c.in_ok-push.ensures.items ∙ ap (λ (ks : List (List ℕ)). c.args.requests.now.items ++ Get ks false ∷ []) c.one.ensures)
    (line_done c.args.limits c.args.line.now.items c.args.line.now.items stream p (before ++ c.args.requests.now.items) e.result
    (Whole (Get (c.in-Some.key ∷ []) false)) a l (end_found _ p e.result same e.ensures.found l) (end_lacks _ p e.result same e.ensures.before)
    (omega arith) told fine empty))

pub returns-then-branch-clause-moderate : goal.returns-then-branch-clause-moderate
returns-then-branch-clause-moderate g c = λ all.
    let read = rw c.if-branch.true at c.in_ok-read_brief.ensures in
    subst (All (IsModerate c.args.limits)) (sym read.1) (All-push (IsModerate c.args.limits) c.args.requests.now.items read.0 all (read.2 c.args.limits).1.1)

pub returns-then-branch-clause-reads : goal.returns-then-branch-clause-reads
returns-then-branch-clause-reads g c = λ stream before a.
    let e = c.line_end-end in
    let p = g.P.Piece.unread c.args.piece.now in
    let same = c.bytes-bytes.ensures in
    let long = ap length same in
    let l : e.result < length p = omega (arith, long) in
    let front = c.split_at.ensures.front ∙ ap (take e.result) same in
    let empty : c.args.line.now.items ≡ [] = none_left c.args.line.now.items (search rules) in
    let read = rw c.if-branch.true at c.in_ok-read_brief.ensures in
    let is = read.2 c.args.limits in
    let told : Whole read.0 ≡ says c.args.limits (c.args.line.now.items ++ take e.result p) =
    sym is.0 ∙ says_tokens c.args.limits _ ∙ ap (says c.args.limits) front ∙ ap (λ (t : List ℕ). says c.args.limits (t ++ take e.result p)) (sym empty) in
    let at : c.args.state.now ≡ Line = c.requires.line in
    rw at
    (behind c.args.limits Line _ (stream ++ take (e.result + 1) p) before c.args.requests.now.items (read.0 ∷ []) _ read.1
    (line_done c.args.limits c.args.line.now.items c.args.line.now.items stream p (before ++ c.args.requests.now.items) e.result
    (Whole read.0) a l (end_found _ p e.result same e.ensures.found l) (end_lacks _ p e.result same e.ensures.before)
    (omega arith) told is.1 empty))

pub returns-in-Some-2-clause-moderate : goal.returns-in-Some-2-clause-moderate
returns-in-Some-2-clause-moderate g c =
    let same_requests : c.read_brief.new.requests.items ≡ c.args.requests.now.items = rw c.if-branch.false at c.in_ok-read_brief.ensures in
    rw same_requests at c.take_begun.ensures.moderate c.args.limits

pub returns-in-Some-2-clause-reads : goal.returns-in-Some-2-clause-reads
returns-in-Some-2-clause-reads g c =
    let e = c.line_end-end in
    let p = g.P.Piece.unread c.args.piece.now in
    let same = c.bytes-bytes.ensures in
    let long = ap length same in
    let l : e.result < length p = omega (arith, long) in
    let front = c.split_at.ensures.front ∙ ap (take e.result) same in
    let empty : c.args.line.now.items ≡ [] = none_left c.args.line.now.items (search rules) in
    let same_requests : c.read_brief.new.requests.items ≡ c.args.requests.now.items = rw c.if-branch.false at c.in_ok-read_brief.ensures in
    let value : says c.args.limits c.split_at.result.0.now ≡ Block c.in-Some-2.start = rw c.in-Some-2.is at c.in_ok-start.ensures.value in
    let told : Block c.in-Some-2.start ≡ says c.args.limits (c.args.line.now.items ++ take e.result p) =
    sym value ∙ ap (says c.args.limits) front ∙ ap (λ (t : List ℕ). says c.args.limits (t ++ take e.result p)) (sym empty) in
    ok_follows c.take_begun.result _ _
    (λ n taken stream before a. rw empty (taken c.args.limits stream before
    (rw same_requests (line_blocks c.args.limits c.args.line.now.items stream p (before ++ c.args.requests.now.items) e.result c.in-Some-2.start a l
    (end_found _ p e.result same e.ensures.found l) (end_lacks _ p e.result same e.ensures.before) (omega arith) told))))
    c.take_begun.ensures.reads

-- what wasn't read in one pass left the requests as they were
unread : (g : Over) (c : After-said_at g) → c.if-is_empty.requests.items ≡ c.args.requests.now.items
unread g c = elim c.if-is_empty.branch [
  | then-is_empty+in_ok-key+in_default+in_ok-read_brief+else-branch+in_ok-start+in_default-2 w ↦ rw w.requests-is (rw w.if-branch.false at w.in_ok-read_brief.ensures)
  | else-is_empty w ↦ rw w.requests-is refl
]

pub returns-in_ok-push-in-Whole-clause-reads : goal.returns-in_ok-push-in-Whole-clause-reads
returns-in_ok-push-in-Whole-clause-reads g c = λ stream before a.
    let e = c.line_end-end in
    let p = g.P.Piece.unread c.args.piece.now in
    let same = c.bytes-bytes.ensures in
    let long = ap length same in
    let l : e.result < length p = omega (arith, long) in
    let front = c.split_at.ensures.front ∙ ap (take e.result) same in
    let told = sym c.in-Whole.is ∙ c.in_ok-request.ensures.value ∙ ap (λ (t : List ℕ). says c.args.limits (c.args.line.now.items ++ t)) front in
    let fine : IsFine c.args.limits (Whole c.in-Whole.request) = rw c.in-Whole.is at c.in_ok-request.ensures.fine in
    let at : c.args.state.now ≡ Line = c.requires.line in
    rw at
    (behind c.args.limits Line _ (stream ++ take (e.result + 1) p) before c.args.requests.now.items (c.in-Whole.request ∷ []) _
    (c.in_ok-push-in-Whole.ensures.items ∙ ap (λ (rs : List Request). rs ++ c.in-Whole.request ∷ []) (unread g (goal.at.returns-in_ok-push-in-Whole-clause-reads g c).After-said_at))
    (line_done c.args.limits c.args.line.now.items c.said_at.new.line.items stream p (before ++ c.args.requests.now.items) e.result (Whole c.in-Whole.request) a
    l (end_found _ p e.result same e.ensures.found l) (end_lacks _ p e.result same e.ensures.before) (omega arith) told fine c.in_ok-request.ensures.none))

pub returns-in_ok-push-in-Whole-clause-moderate : goal.returns-in_ok-push-in-Whole-clause-moderate
returns-in_ok-push-in-Whole-clause-moderate g c = λ all.
    let fine : IsFine c.args.limits (Whole c.in-Whole.request) = rw c.in-Whole.is at c.in_ok-request.ensures.fine in
    let items : c.push-in-Whole.new.self.items ≡ c.args.requests.now.items ++ c.in-Whole.request ∷ [] =
    c.in_ok-push-in-Whole.ensures.items ∙ ap (λ (rs : List Request). rs ++ c.in-Whole.request ∷ []) (unread g (goal.at.returns-in_ok-push-in-Whole-clause-moderate g c).After-said_at) in
    subst (All (IsModerate c.args.limits)) (sym items) (All-push (IsModerate c.args.limits) c.args.requests.now.items c.in-Whole.request all fine.1)

pub returns-in-Block-clause-moderate : goal.returns-in-Block-clause-moderate
returns-in-Block-clause-moderate g c = rw (unread g (goal.at.returns-in-Block-clause-moderate g c).After-said_at) at c.take_begun-in-Block.ensures.moderate c.args.limits

pub returns-in-Block-clause-reads : goal.returns-in-Block-clause-reads
returns-in-Block-clause-reads g c =
    let e = c.line_end-end in
    let p = g.P.Piece.unread c.args.piece.now in
    let same = c.bytes-bytes.ensures in
    let long = ap length same in
    let l : e.result < length p = omega (arith, long) in
    let front = c.split_at.ensures.front ∙ ap (take e.result) same in
    let told = sym c.in-Block.is ∙ c.in_ok-request.ensures.value ∙ ap (λ (t : List ℕ). says c.args.limits (c.args.line.now.items ++ t)) front in
    let same_requests = unread g (goal.at.returns-in-Block-clause-reads g c).After-said_at in
    rw c.in_ok-request.ensures.none
    (ok_follows c.take_begun-in-Block.result _ _
    (λ n taken stream before a. taken c.args.limits stream before
    (rw same_requests (line_blocks c.args.limits c.args.line.now.items stream p (before ++ c.args.requests.now.items) e.result c.in-Block.start a l
    (end_found _ p e.result same e.ensures.found l) (end_lacks _ p e.result same e.ensures.before) (omega arith) told)))
    c.take_begun-in-Block.ensures.reads)

pub returns-in-Skip-clause-reads : goal.returns-in-Skip-clause-reads
returns-in-Skip-clause-reads g c = λ stream before a.
    let e = c.line_end-end in
    let p = g.P.Piece.unread c.args.piece.now in
    let same = c.bytes-bytes.ensures in
    let long = ap length same in
    let l : e.result < length p = omega (arith, long) in
    let front = c.split_at.ensures.front ∙ ap (take e.result) same in
    let told = sym c.in-Skip.is ∙ c.in_ok-request.ensures.value ∙ ap (λ (t : List ℕ). says c.args.limits (c.args.line.now.items ++ t)) front in
    rw (c.in_ok-request.ensures.none, unread g (goal.at.returns-in-Skip-clause-reads g c).After-said_at)
    (line_skips c.args.limits c.args.line.now.items stream p (before ++ c.args.requests.now.items) e.result c.in-Skip.start a l
    (end_found _ p e.result same e.ensures.found l) (end_lacks _ p e.result same e.ensures.before) (omega arith) told)
