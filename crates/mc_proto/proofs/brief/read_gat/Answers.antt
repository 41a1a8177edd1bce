use Rattle.std.proofs.Common.{◌≡◌, ◌∷◌, [], ◌++◌, ◌∙◌, ℤ, arith, ap, refl, sym}
use Rattle.std.proofs.lemmas.Int.{to_z_pos}
use Rattle.std.specs.Prelude.{Some}
use Rattle.mc_proto.specs.{Lines.tokens, Lines.exptime, Table.tokens_say}
use Rattle.mc_proto.specs.declared.{request.Request.TheVariants.Gat}
use Rattle.mc_proto.proofs.{KeyListLemmas.key_some, OnePassLineLemmas.gat_row, OnePassLineLemmas.gat_verb, TokenLemmas.key_is_token}
use Rattle.mc_proto.proofs.brief.read_gat.Goals as goal
use mir.Syntax.{w64}
use mir.Val.{to_z}

pub returns : goal.returns
returns c =
    let e = c.in-Some in
    let token = c.in-Some-after_space.token.now in
    let x = to_z w64 e.exptime in
    let key = key_some token c.in-Some-2.key (sym c.in-Some-2.is ∙ c.in_ok-key.ensures) in
    let new : exptime e.ensures.0 ≡ Some x = e.ensures.3 ∙ ap (λ (n : ℤ). Some n) (sym (to_z_pos w64 e.exptime (omega (arith, e.ensures.4)))) in
    let behind : tokens c.args.rest.now ≡ e.ensures.0 ∷ token ∷ [] = cc (e.ensures.1, c.in-Some-after_space.ensures, key_is_token token key.0) in (
      Gat x (c.in-Some-2.key ∷ []) c.args.with_cas,
      c.in_ok-push.ensures.items ∙ ap (λ ks. c.args.requests.now.items ++ Gat x ks c.args.with_cas ∷ []) c.one.ensures,
      λ limits. (
        ap (λ args. tokens_say limits (gat_verb c.args.with_cas ∷ args)) behind ∙ gat_row c.args.with_cas limits c.in-Some-2.key token e.ensures.0 x key.0 key.1 new,
        (refl, tt),
      ),
    )
