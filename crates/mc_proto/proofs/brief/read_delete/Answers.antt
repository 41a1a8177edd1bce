use Rattle.std.proofs.Common.{◌≡◌, ◌∷◌, ◌∙◌, ap, codes, refl, sym}
use Rattle.std.specs.Prelude.{Some}
use Rattle.mc_item.specs.declared.command.Command.TheVariants.{Delete}
use Rattle.mc_proto.specs.{Lines.tokens, Lines.key_of_token, Table.tokens_say}
use Rattle.mc_proto.specs.declared.request.Request.TheVariants.{One}
use Rattle.mc_proto.proofs.OnePassLineLemmas.{quiet_tokens, deleted_row}
use Rattle.mc_proto.proofs.brief.read_delete.Goals as goal

pub returns : goal.returns
returns c =
    let k = c.in-Some in
    let q = c.in-Some-quiet_end in
    let key : key_of_token k.token.now ≡ Some c.in-Some-2.key = sym c.in_ok-key.ensures ∙ c.in-Some-2.is in
    let behind : tokens c.args.rest.now ≡ k.token.now ∷ quiet_tokens q.quiet = cc (k.ensures.0, q.ensures) in (
      One (Delete c.in-Some-2.key) q.quiet,
      c.in_ok-push.ensures.items,
      λ limits. (ap (λ args. tokens_say limits (codes "delete" ∷ args)) behind ∙ deleted_row limits c.in-Some-2.key k.token.now q.quiet key, (refl, tt)),
    )
