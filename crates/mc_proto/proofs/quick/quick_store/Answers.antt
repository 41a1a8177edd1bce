use Rattle.std.proofs.Common.{◌≡◌, ◌∷◌, ◌∙◌, ℕ, ℤ, List, arith, ap, sym}
use Rattle.std.proofs.lemmas.Int.{to_z_pos}
use Rattle.std.specs.Prelude.{Some, pos}
use Rattle.mc_proto.specs.{Lines.tokens, Lines.key_of_token, Lines.exptime, Table.tokens_say}
use Rattle.mc_proto.proofs.OnePassLineLemmas.{quiet_tokens, number_within, says_tokens, store_line_says}
use Rattle.mc_proto.proofs.quick.quick_store.Goals as goal
use mir.Syntax.{w64}
use mir.Val.{to_z}

pub returns-in-Block-clause-value : goal.returns-in-Block-clause-value
returns-in-Block-clause-value c =
    let v = c.in-Some in
    let k = c.in-Some-next_token in
    let f = c.in-Some-next_number in
    let e = c.in-Some-next_number-2 in
    let n = c.in-Some-next_number-3 in
    let q = c.in-Some-quiet_end in
    let key : key_of_token k.token.now ≡ Some c.in-Some-2.key = sym c.in_ok-key.ensures ∙ c.in-Some-2.is in
    let cast : to_z w64 e.exptime ≡ pos e.exptime = to_z_pos w64 e.exptime (omega (arith, e.ensures.4)) in
    let new : exptime e.ensures.0 ≡ Some (to_z w64 e.exptime) = e.ensures.3 ∙ ap (λ (x : ℤ). Some x) (sym cast) in
    let behind : tokens v.rest.now ≡ k.token.now ∷ f.ensures.0 ∷ e.ensures.0 ∷ n.ensures.0 ∷ quiet_tokens q.quiet = cc (k.ensures.0, f.ensures.1, e.ensures.1, n.ensures.1, q.ensures) in
    sym (says_tokens c.args.limits c.args.line.now)
    ∙ ap (λ (line : List ℕ). tokens_say c.args.limits (tokens line)) (sym c.without_cr.ensures)
    ∙ (store_line_says c.args.limits v.verb c.without_cr.result.now v.rest.now c.in-Some-2.key k.token.now f.ensures.0 e.ensures.0 n.ensures.0 f.flags n.count (to_z w64 e.exptime) q.quiet v.ensures behind key
    (number_within 4294967295 f.flags f.ensures.0 f.ensures.2 (omega (arith, c.if-flags-gt-MAX_FLAGS.false)))
    new
    (number_within 2147483645 n.count n.ensures.0 n.ensures.2 (omega (arith, c.if-count-gt-MAX_BYTES.false))))
    ∙ sym c.begun.ensures.value ∙ c.in-Block.is
