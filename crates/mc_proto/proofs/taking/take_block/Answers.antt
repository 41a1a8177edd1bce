use Rattle.std.proofs.Common.{◌≡◌, ◌++◌, ◌∷◌, [], ◌-◌, ◌+◌, ◌∙◌, arith, refl, ap, take, List, ℕ, length}
use Rattle.mc_proto.specs.Grammar.{stored}
use Rattle.mc_proto.specs.declared.{state.State.TheVariants.Line, request.Request.Request}
use Rattle.mc_proto.proofs.TakingLemmas.{behind, block_more, block_done}
use Rattle.mc_proto.proofs.taking.take_block.Goals as goal

pub returns-then-piece-wanted-clause-reads : goal.returns-then-piece-wanted-clause-reads
returns-then-piece-wanted-clause-reads c = λ limits stream before a.
    let was : c.part.inside.bytes.items ≡ c.args.part = cc in
    let is : c.extend_from_slice.new.self.items ≡ c.args.part ++ c.args.piece.now =
    c.in_ok-extend_from_slice.ensures.items ∙ ap (λ (t : List ℕ). t ++ c.args.piece.now) was in
    let long : length c.part.inside.bytes.items ≡ length c.args.part = ap length was in
    rw is (block_more limits [] [] c.args.part stream c.args.piece.now (before ++ c.args.requests.now.items) c.args.start a (omega arith))

pub returns-clause-reads : goal.returns-clause-reads
returns-clause-reads c = λ limits stream before a.
    let was : c.part.inside.bytes.items ≡ c.args.part = cc in
    let long : length c.part.inside.bytes.items ≡ length c.args.part = ap length was in
    let is : c.extend_from_slice-2.new.self.items ≡ c.args.part ++ take (c.args.start.count + 2 - c.len.result) c.args.piece.now =
    c.in_ok-extend_from_slice-2.ensures.items ∙ ap (λ (t : List ℕ). c.part.inside.bytes.items ++ t) c.split_at.ensures.front
    ∙ ap (λ (t : List ℕ). t ++ take (c.args.start.count + 2 - c.len.result) c.args.piece.now) was in
    let asked : c.in_ok-stored_of.field-0 ≡ stored c.args.start (c.args.part ++ take (c.args.start.count + 2 - c.len.result) c.args.piece.now) =
    c.in_ok-stored_of.ensures.value ∙ ap (stored c.args.start) is in
    let at : c.args.state.now ≡ Line = c.requires.line in
    rw at
    (behind limits Line [] (stream ++ take (c.args.start.count + 2 - c.len.result) c.args.piece.now) before c.args.requests.now.items
    (stored c.args.start (c.args.part ++ take (c.args.start.count + 2 - c.len.result) c.args.piece.now) ∷ []) _
    (c.in_ok-push.ensures.items ∙ ap (λ (r : Request). c.args.requests.now.items ++ r ∷ []) asked)
    (block_done limits [] [] c.args.part stream c.args.piece.now (before ++ c.args.requests.now.items) c.args.start (c.args.start.count + 2 - c.len.result) a (omega arith) (omega arith) refl))
