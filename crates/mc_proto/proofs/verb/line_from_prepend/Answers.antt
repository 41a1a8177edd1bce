use Rattle.std.proofs.Common.{◌≡◌, codes, true, false, rules}
use Rattle.mc_proto.specs.Lines.{is_word}
use Rattle.mc_proto.proofs.verb.line_from_prepend.Goals as goal

pub returns-then-eq-2-clause-value : goal.returns-then-eq-2-clause-value
returns-then-eq-2-clause-value c =
    let not_prepend : is_word c.args.verb.now (codes "prepend") ≡ false = search rules in
    let is : is_word c.args.verb.now (codes "incr") ≡ true = search rules in
    rw (not_prepend, is) (c.count_line.ensures.value c.args.limits)

pub returns-then-eq-3-clause-value : goal.returns-then-eq-3-clause-value
returns-then-eq-3-clause-value c =
    let not_prepend : is_word c.args.verb.now (codes "prepend") ≡ false = search rules in
    let not_incr : is_word c.args.verb.now (codes "incr") ≡ false = search rules in
    let is : is_word c.args.verb.now (codes "decr") ≡ true = search rules in
    rw (not_prepend, not_incr, is) (c.count_line-then-eq-3.ensures.value c.args.limits)

pub returns-then-eq-2-clause-fine : goal.returns-then-eq-2-clause-fine
returns-then-eq-2-clause-fine c = c.count_line.ensures.fine c.args.limits

pub returns-then-eq-3-clause-fine : goal.returns-then-eq-3-clause-fine
returns-then-eq-3-clause-fine c = c.count_line-then-eq-3.ensures.fine c.args.limits

pub returns-then-eq-4-clause-fine : goal.returns-then-eq-4-clause-fine
returns-then-eq-4-clause-fine c = c.touch_line.ensures.fine c.args.limits

pub returns-then-eq-5-clause-fine : goal.returns-then-eq-5-clause-fine
returns-then-eq-5-clause-fine c = c.delete_line.ensures.fine c.args.limits
