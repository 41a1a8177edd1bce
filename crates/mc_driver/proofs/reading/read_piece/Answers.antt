use Rattle.std.proofs.Common.{◌∙◌, arith}
use Rattle.mc_driver.proofs.ReaderPieceLemmas.{filled_more}
use Rattle.mc_driver.proofs.reading.read_piece.Goals as goal

pub loop-filled-preserved : goal.loop-filled-preserved
loop-filled-preserved g c =
    let so_far = c.loop-filled.invariant in (
      c.in_ok-came.ensures.room ∙ so_far.0,
      omega (arith, c.in_ok-came.ensures.fits, so_far.0),
      filled_more _ _ _ c.loop-filled.room.items c.read_behind.new.room.items c.loop-filled.filled c.in_ok-came.came c.in_ok-came.ensures.front so_far.2 c.in_ok-came.ensures.bytes,
    )
