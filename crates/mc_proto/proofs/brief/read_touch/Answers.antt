use Rattle.std.proofs.Common.{◌≡◌, ◌∷◌, ◌∙◌, ℤ, arith, ap, codes, refl, sym}
use Rattle.std.proofs.lemmas.Int.{to_z_pos}
use Rattle.std.specs.Prelude.{Some}
use Rattle.mc_item.specs.declared.command.Command.TheVariants.{Touch}
use Rattle.mc_proto.specs.{Lines.tokens, Lines.key_of_token, Lines.exptime, Table.tokens_say}
use Rattle.mc_proto.specs.declared.request.Request.TheVariants.{One}
use Rattle.mc_proto.proofs.OnePassLineLemmas.{quiet_tokens, touched_row}
use Rattle.mc_proto.proofs.brief.read_touch.Goals as goal
use mir.Syntax.{w64}
use mir.Val.{to_z}

pub returns : goal.returns
returns c =
    let k = c.in-Some in
    let e = c.in-Some-next_number in
    let q = c.in-Some-quiet_end in
    let x = to_z w64 e.exptime in
    let key : key_of_token k.token.now ≡ Some c.in-Some-2.key = sym c.in_ok-key.ensures ∙ c.in-Some-2.is in
    let new : exptime e.ensures.0 ≡ Some x = e.ensures.3 ∙ ap (λ (n : ℤ). Some n) (sym (to_z_pos w64 e.exptime (omega (arith, e.ensures.4)))) in
    let behind : tokens c.args.rest.now ≡ k.token.now ∷ e.ensures.0 ∷ quiet_tokens q.quiet = cc (k.ensures.0, e.ensures.1, q.ensures) in (
      One (Touch c.in-Some-2.key x) q.quiet,
      c.in_ok-push.ensures.items,
      λ limits. (
        ap (λ args. tokens_say limits (codes "touch" ∷ args)) behind ∙ touched_row limits c.in-Some-2.key k.token.now e.ensures.0 x q.quiet key new,
        (refl, tt),
      ),
    )
