use Rattle.std.proofs.Common.{◌≡◌, ◌∙◌, arith, ap, sym, true, take, drop, length}
use Rattle.std.specs.List.{list_all}
use Rattle.std.specs.Prelude.{◌==◌}
use Rattle.std.proofs.lemmas.List.Sums.{prefix_len-le-length}
use Rattle.mc_item.specs.Measure.{is_digit, digits_of}
use Rattle.mc_item.proofs.MeasureLemmas.{numeral_is_number}
use Rattle.mc_item.proofs.measure.numeral_of.Goals as goal

pub split_at-requires : goal.split_at-requires
split_at-requires c = omega (arith, c.digits_end.ensures, prefix_len-le-length is_digit c.args.value.now)

pub returns : goal.returns
returns c =
    let front : c.split_at.result.0.now ≡ digits_of c.args.value.now = c.split_at.ensures.front ∙ ap (λ n. take n c.args.value.now) c.digits_end.ensures in
    let back : c.split_at.result.1.now ≡ drop (length c.split_at.result.0.now) c.args.value.now = c.split_at.ensures.back ∙ ap (λ n. drop n c.args.value.now) (sym c.split_at.ensures.front_len) in
    let spaces : list_all (λ byte. byte == 32) c.split_at.result.1.now ≡ true = sym c.are_spaces.ensures ∙ c.if-not-are_spaces.false in
    c.number_of.ensures.value ∙ numeral_is_number c.args.value.now c.split_at.result.0.now c.split_at.result.1.now front back c.if-digits-gt20.false spaces
