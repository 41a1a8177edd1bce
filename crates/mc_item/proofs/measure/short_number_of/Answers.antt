use Rattle.std.proofs.Common.{arith}
use Rattle.mc_item.proofs.MeasureLemmas.{power_few}
use Rattle.mc_item.proofs.measure.short_number_of.Goals as goal

pub overflow_mul-number : goal.overflow_mul-number
overflow_mul-number c = omega (arith, c.loop-digit.invariant.2, c.loop-digit-test.true, c.requires.few, power_few c.loop-digit.digit-index (omega (arith, c.loop-digit-test.true, c.requires.few)))

pub overflow_add-number : goal.overflow_add-number
overflow_add-number c = omega (arith, c.loop-digit.invariant.2, c.loop-digit-test.true, c.requires.few, power_few c.loop-digit.digit-index (omega (arith, c.loop-digit-test.true, c.requires.few)))
