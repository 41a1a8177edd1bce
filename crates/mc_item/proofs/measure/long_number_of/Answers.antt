use Rattle.std.proofs.Common.{arith, sym, ◌∙◌, length}
use Rattle.mc_item.proofs.MeasureLemmas.{too_large, all_read, power_many}
use Rattle.mc_item.proofs.measure.long_number_of.Goals as goal

pub returns-in_err-checked_mul-clause-value : goal.returns-in_err-checked_mul-clause-value
returns-in_err-checked_mul-clause-value c =
    c.from_residual.ensures ∙ sym (too_large c.args.digits.now c.loop-digit.digit-index c.loop-digit.number (omega arith) c.loop-digit.invariant.0 (omega (arith, c.in_err-checked_mul.ensures)))

pub returns-in_err-number-clause-value : goal.returns-in_err-number-clause-value
returns-in_err-number-clause-value c =
    c.from_residual-in_err-number.ensures
    ∙ sym (too_large c.args.digits.now c.loop-digit.digit-index c.loop-digit.number (omega arith) c.loop-digit.invariant.0 (omega (arith, c.in_err-number.ensures, c.in_ok-checked_mul.ensures, c.from.ensures)))

pub returns-clause-value : goal.returns-clause-value
returns-clause-value c =
    all_read c.args.digits.now c.loop-digit.digit-index c.loop-digit.number (omega arith) c.loop-digit-test.false c.loop-digit.invariant.0 c.loop-digit.invariant.1 c.loop-digit.invariant.2

pub returns-clause-bound : goal.returns-clause-bound
returns-clause-bound c = omega (arith, power_many (length c.args.digits.now) (omega arith))
