use Rattle.std.proofs.Common.{◌≡◌, codes, true, false, rules}
use Rattle.mc_proto.specs.Lines.{is_word}
use Rattle.mc_proto.proofs.verb.line_from_get.Goals as goal

pub returns-then-eq-clause-value : goal.returns-then-eq-clause-value
returns-then-eq-clause-value c =
    let is : is_word c.args.verb.now (codes "get") ≡ true = search rules in
    rw is (c.get_line.ensures.value c.args.limits)

pub returns-then-eq-2-clause-value : goal.returns-then-eq-2-clause-value
returns-then-eq-2-clause-value c =
    let not_get : is_word c.args.verb.now (codes "get") ≡ false = search rules in
    let is : is_word c.args.verb.now (codes "gets") ≡ true = search rules in
    rw (not_get, is) (c.get_line-then-eq-2.ensures.value c.args.limits)

pub returns-then-eq-3-clause-value : goal.returns-then-eq-3-clause-value
returns-then-eq-3-clause-value c =
    let not_get : is_word c.args.verb.now (codes "get") ≡ false = search rules in
    let not_gets : is_word c.args.verb.now (codes "gets") ≡ false = search rules in
    let is : is_word c.args.verb.now (codes "gat") ≡ true = search rules in
    rw (not_get, not_gets, is) (c.gat_line.ensures.value c.args.limits)

pub returns-then-eq-4-clause-value : goal.returns-then-eq-4-clause-value
returns-then-eq-4-clause-value c =
    let not_get : is_word c.args.verb.now (codes "get") ≡ false = search rules in
    let not_gets : is_word c.args.verb.now (codes "gets") ≡ false = search rules in
    let not_gat : is_word c.args.verb.now (codes "gat") ≡ false = search rules in
    let is : is_word c.args.verb.now (codes "gats") ≡ true = search rules in
    rw (not_get, not_gets, not_gat, is) (c.gat_line-then-eq-4.ensures.value c.args.limits)

pub returns-then-eq-clause-fine : goal.returns-then-eq-clause-fine
returns-then-eq-clause-fine c = c.get_line.ensures.fine c.args.limits

pub returns-then-eq-2-clause-fine : goal.returns-then-eq-2-clause-fine
returns-then-eq-2-clause-fine c = c.get_line-then-eq-2.ensures.fine c.args.limits

pub returns-then-eq-3-clause-fine : goal.returns-then-eq-3-clause-fine
returns-then-eq-3-clause-fine c = c.gat_line.ensures.fine c.args.limits

pub returns-then-eq-4-clause-fine : goal.returns-then-eq-4-clause-fine
returns-then-eq-4-clause-fine c = c.gat_line-then-eq-4.ensures.fine c.args.limits
