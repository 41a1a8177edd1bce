use Rattle.std.proofs.Common.{◌∙◌, arith}
use Rattle.mc_driver.proofs.ReaderPieceLemmas.{read_all, read_more}
use Rattle.mc_driver.proofs.reading.read_pieces.Goals as goal

pub returns-then-came-lt-PIECE : goal.returns-then-came-lt-PIECE
returns-then-came-lt-PIECE g c =
    let all = read_more _ _ _ _ _ c.loop.invariant.1 c.in_ok-came.ensures.bytes in
    read_all _ _ _ (rw (c.in_ok-keep_piece.ensures, c.as_slice.ensures.value) all)
    (c.in_ok-came.ensures.end (omega (arith, c.if-came-lt-PIECE.true, c.loop.invariant.0)))

pub loop-preserved : goal.loop-preserved
loop-preserved g c = (
  c.in_ok-came.ensures.room ∙ c.loop.invariant.0,
  rw (c.in_ok-keep_piece.ensures, c.as_slice.ensures.value) (read_more _ _ _ _ _ c.loop.invariant.1 c.in_ok-came.ensures.bytes),
)
