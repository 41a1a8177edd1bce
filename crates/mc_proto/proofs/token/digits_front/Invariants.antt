use Rattle.std.proofs.Common.{◌≡◌, ◌<◌, ◌≤◌, ◌^◌, true, take}
use Rattle.std.specs.List.{list_all}
use Rattle.mc_item.specs.Measure.{is_digit, number_of}
use Rattle.mc_proto.proofs.token.digits_front.Given as goal

-- the bytes so far are digits, of this number
abbrev pub invariant-loop-i : goal.invariant-loop-i
invariant-loop-i l = record {
  few : l.i ≤ 18;
  digits : list_all is_digit (take l.i l.bytes) ≡ true;
  value : l.number ≡ number_of (take l.i l.bytes);
  bound : l.number < 10 ^ l.i;
}
