use Rattle.std.proofs.Common.{◌≡◌, ◌<◌, ◌^◌, drop}
use Rattle.std.specs.List.{list_all}
use Rattle.mc_item.specs.Measure.{is_digit, number_from}
use Rattle.mc_item.proofs.measure.short_number_of.Given as goal

-- the number so far and the digits that are left make the number, the bytes so far are digits, and the number has no more digits than they
abbrev pub invariant-loop-digit : goal.invariant-loop-digit
invariant-loop-digit l =
    (number_from l.number (drop l.digit-index l.digits) ≡ number_from 0 l.digits)
    × (list_all is_digit (drop l.digit-index l.digits) ≡ list_all is_digit l.digits)
    × (l.number < 10 ^ l.digit-index)
