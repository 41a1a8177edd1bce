use Rattle.std.proofs.Common.{◌≡◌, ◌<◌, ◌^◌, drop}
use Rattle.std.specs.List.{list_all}
use Rattle.mc_item.specs.Measure.{is_digit, number_from}
use Rattle.mc_item.proofs.measure.long_number_of.Given as goal

-- the number so far and the digits that are left make the number, and the bytes so far are digits
abbrev pub invariant-loop-digit : goal.invariant-loop-digit
invariant-loop-digit l =
    (number_from l.number (drop l.digit-index l.digits) ≡ number_from 0 l.digits)
    × (list_all is_digit (drop l.digit-index l.digits) ≡ list_all is_digit l.digits)
    × (l.number < 2 ^ 64)
