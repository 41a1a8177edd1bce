use Rattle.std.proofs.Common.{◌≡◌, ◌++◌, ◌∷◌, [], ◌+◌, ◌∙◌, arith, ap, take, drop, List, ℕ, length}
use Rattle.mc_proto.specs.Grammar.{stored}
use Rattle.mc_proto.specs.declared.{request.Request.Request, state.State.TheVariants.Line}
use Rattle.mc_proto.proofs.TakingLemmas.{behind, first_done, first_more}
use Rattle.mc_proto.proofs.taking.take_begun.Goals as goal

pub returns-then-all-begin-clause-reads : goal.returns-then-all-begin-clause-reads
returns-then-all-begin-clause-reads g c = λ limits stream before a.
    let p = g.P.Piece.unread c.args.piece.now in
    let long : length c.bytes-all.result.now ≡ length p = ap length c.bytes-all.ensures in
    let is : c.extend_from_slice.new.self.items ≡ drop c.args.begin p =
    c.in_ok-extend_from_slice.ensures.items ∙ ap (λ (t : List ℕ). t ++ c.split_at.result.1.now) c.in_ok-bytes.ensures.items
    ∙ c.split_at.ensures.back ∙ ap (drop c.args.begin) c.bytes-all.ensures in
    rw (is, long) (first_more limits stream p (before ++ c.args.requests.now.items) c.args.start c.args.begin a (omega arith) (omega (arith, long)))

pub returns-clause-reads : goal.returns-clause-reads
returns-clause-reads g c = λ limits stream before a.
    let p = g.P.Piece.unread c.args.piece.now in
    let long : length c.bytes-all.result.now ≡ length p = ap length c.bytes-all.ensures in
    let n = c.args.start.count + 2 in
    let block = take n (drop c.args.begin p) in
    let at : c.args.state.now ≡ Line = c.requires.line in
    rw at
    (behind limits Line [] (stream ++ take (c.args.begin + n) p) before c.args.requests.now.items (stored c.args.start block ∷ []) _
    (c.in_ok-push.ensures.items ∙ ap (λ (r : Request). c.args.requests.now.items ++ r ∷ []) c.in_ok-stored_in.ensures.value)
    (first_done limits stream p (before ++ c.args.requests.now.items) c.args.start c.args.begin a (omega (arith, long))))
