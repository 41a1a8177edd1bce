use Rattle.std.proofs.Common.{◌≡◌, ◌++◌, eqb, drop, length, map, Some}
use Rattle.std.specs.List.{slice_split}
use Rattle.mc_item.specs.Measure.{number_in}
use Rattle.mc_options.proofs.plans.list_in.Given as goal

-- the numbers so far are those of the parts so far
abbrev pub invariant-loop-digits : goal.invariant-loop-digits
invariant-loop-digits l =
    map Some l.numbers.items ++ map number_in (drop (length l.yielded) (slice_split (λ b. eqb b 44) l.text)) ≡ map number_in (slice_split (λ b. eqb b 44) l.text)
