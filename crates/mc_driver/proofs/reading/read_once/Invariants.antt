use Rattle.std.proofs.Common.{◌≡◌, length}
use Rattle.std.specs.Io.KnownBytes.{Keeps}
use Rattle.mc_driver.proofs.reading.read_once.Given as goal

-- a read that was broken off took nothing
abbrev pub invariant-loop : goal.invariant-loop
invariant-loop g l = (length l.room ≡ length l.fn.room) × Keeps (g.R.Read.remaining l.fn.reader) (g.R.Read.remaining l.reader)
