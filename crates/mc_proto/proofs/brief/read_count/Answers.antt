use Rattle.std.proofs.Common.{◌≡◌, ◌∷◌, [], ◌++◌, ◌∙◌, arith, ap, refl, sym}
use Rattle.std.specs.Prelude.{Some, if◌then◌else◌}
use Rattle.mc_item.specs.declared.command.Command.TheVariants.{Incr, Decr}
use Rattle.mc_proto.specs.{Lines.tokens, Lines.key_of_token, Table.tokens_say}
use Rattle.mc_proto.specs.declared.request.Request.TheVariants.{One}
use Rattle.mc_proto.proofs.OnePassLineLemmas.{quiet_tokens, count_verb, counted_row, number_within}
use Rattle.mc_proto.proofs.brief.read_count.Goals as goal

pub returns : goal.returns
returns c =
    let k = c.in-Some in
    let n = c.in-Some-next_number in
    let q = c.in-Some-quiet_end in
    let key : key_of_token k.token.now ≡ Some c.in-Some-2.key = sym c.in_ok-key.ensures ∙ c.in-Some-2.is in
    let behind : tokens c.args.rest.now ≡ k.token.now ∷ n.ensures.0 ∷ quiet_tokens q.quiet = cc (k.ensures.0, n.ensures.1, q.ensures) in (
      One (if c.args.up then Incr c.in-Some-2.key n.delta else Decr c.in-Some-2.key n.delta) q.quiet,
      c.in_ok-push.ensures.items ∙ ap (λ command. c.args.requests.now.items ++ One command q.quiet ∷ []) c.counting-command.ensures,
      λ limits. (
        ap (λ args. tokens_say limits (count_verb c.args.up ∷ args)) behind
            ∙ counted_row c.args.up limits c.in-Some-2.key k.token.now n.ensures.0 n.delta q.quiet key (number_within 18446744073709551615 n.delta n.ensures.0 n.ensures.2 (omega (arith, n.ensures.4))),
        (refl, tt),
      ),
    )
