use Rattle.std.proofs.Common.{◌≡◌, ◌++◌, ◌∷◌, arith, refl, take, []}
use Rattle.mc_proto.specs.Grammar.{skipped}
use Rattle.mc_proto.specs.declared.state.State.TheVariants.{Line}
use Rattle.mc_proto.proofs.TakingLemmas.{behind, skip_more, skip_done}
use Rattle.mc_proto.proofs.taking.take_skipped.Goals as goal

pub returns-then-count-left-clause-reads : goal.returns-then-count-left-clause-reads
returns-then-count-left-clause-reads c = λ limits stream before a.
    skip_more limits [] [] stream c.args.piece.now (before ++ c.args.requests.now.items) c.args.start c.args.left _ a (omega arith) (omega arith)

pub returns-clause-reads : goal.returns-clause-reads
returns-clause-reads c = λ limits stream before a.
    let at : c.args.state.now ≡ Line = c.requires.line in
    rw at
    (behind limits Line [] (stream ++ take c.args.left c.args.piece.now) before c.args.requests.now.items (skipped c.args.start ∷ []) _ c.in_ok-push.ensures.items
    (skip_done limits [] [] stream c.args.piece.now (before ++ c.args.requests.now.items) c.args.start c.args.left a (omega arith) refl))
