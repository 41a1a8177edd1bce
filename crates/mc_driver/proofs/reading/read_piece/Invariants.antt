use Rattle.std.proofs.Common.{◌≡◌, ◌≤◌, ◌-◌, length, take}
use Rattle.std.specs.Io.KnownBytes.{Consumes}
use Rattle.mc_driver.proofs.reading.read_piece.Given as goal

-- the bytes so far were the reader's
abbrev pub invariant-loop-filled : goal.invariant-loop-filled
invariant-loop-filled g l = (length l.room.items ≡ length l.fn.room.items) × (l.filled ≤ length l.fn.room.items) × Consumes (g.R.Read.remaining l.fn.reader) (g.R.Read.remaining l.reader) (take l.filled l.room.items)

abbrev pub decreases-loop-filled : goal.decreases-loop-filled
decreases-loop-filled g l = length l.room.items - l.filled
