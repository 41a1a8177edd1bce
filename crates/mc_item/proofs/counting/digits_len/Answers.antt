use Rattle.std.proofs.Common.{◌/◌, arith}
use Rattle.mc_item.proofs.NumberLemmas.{length-decimal_step, length-decimal_digit, length-decimal_few}
use Rattle.mc_item.proofs.counting.digits_len.Goals as goal

pub overflow_add-len : goal.overflow_add-len
overflow_add-len c = omega (arith, c.loop-rest.invariant, length-decimal_few c.args.number c.ranges.number.fits)

pub loop-rest-preserved : goal.loop-rest-preserved
loop-rest-preserved c =
    let tenth = length-decimal_step c.loop-rest.rest (omega (arith, c.loop-rest-test.true)) (omega (arith, c.loop-rest.auto.rest-fits)) in
    let next = length-decimal_step (c.loop-rest.rest / 10) (omega (arith, c.loop-rest-test.true)) (omega (arith, c.loop-rest.auto.rest-fits)) in
    omega (arith, c.loop-rest.invariant, tenth, next)

pub overflow_add-result : goal.overflow_add-result
overflow_add-result c = omega (arith, c.loop-rest.invariant, length-decimal_few c.args.number c.ranges.number.fits)

pub returns-then-rest-ge10-clause-value : goal.returns-then-rest-ge10-clause-value
returns-then-rest-ge10-clause-value c =
    let tenth = length-decimal_step c.loop-rest.rest (omega (arith, c.if-rest-ge10.true)) (omega (arith, c.loop-rest.auto.rest-fits)) in
    let last = length-decimal_digit (c.loop-rest.rest / 10) (omega (arith, c.loop-rest-test.false)) in
    omega (arith, c.loop-rest.invariant, tenth, last)

pub returns-then-rest-ge10-clause-few : goal.returns-then-rest-ge10-clause-few
returns-then-rest-ge10-clause-few c =
    let tenth = length-decimal_step c.loop-rest.rest (omega (arith, c.if-rest-ge10.true)) (omega (arith, c.loop-rest.auto.rest-fits)) in
    let last = length-decimal_digit (c.loop-rest.rest / 10) (omega (arith, c.loop-rest-test.false)) in
    omega (arith, c.loop-rest.invariant, tenth, last, length-decimal_few c.args.number c.ranges.number.fits)

pub returns-else-rest-ge10-clause-value : goal.returns-else-rest-ge10-clause-value
returns-else-rest-ge10-clause-value c = omega (arith, c.loop-rest.invariant, length-decimal_digit c.loop-rest.rest (omega (arith, c.if-rest-ge10.false)))

pub returns-else-rest-ge10-clause-few : goal.returns-else-rest-ge10-clause-few
returns-else-rest-ge10-clause-few c =
    omega (arith, c.loop-rest.invariant, length-decimal_digit c.loop-rest.rest (omega (arith, c.if-rest-ge10.false)), length-decimal_few c.args.number c.ranges.number.fits)
