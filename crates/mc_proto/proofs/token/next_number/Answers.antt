use Rattle.std.proofs.Common.{◌≡◌, ◌<◌, ◌≤◌, ◌∙◌, ℕ, List, length, take, get_or, arith, ap, sym, refl, rules}
use Rattle.std.specs.Prelude.{Some, pos}
use Rattle.std.proofs.lemmas.List.{length-take-le}
use Rattle.mc_proto.proofs.TokenLemmas.{first_token, digits_lack, digits_number, digits_exptime, pow_within}
use Rattle.mc_proto.proofs.token.next_number.Goals as goal

pub returns : goal.returns
returns c =
    let b = c.spaces_end-begin in
    let s = c.split_at in
    let d = c.digits_front-number in
    let l = c.split_at-2 in
    let t : List ℕ = take d.result.1 s.result.1.now in
    let z : 0 < c.digits_front-number.result.1 = omega (arith, c.if-end-eq0.false) in
    let long : length (take c.digits_front-number.result.1 c.split_at.result.1.now) ≡ c.digits_front-number.result.1 = length-take-le d.result.1 s.result.1.now d.ensures.within in
    let ends : c.digits_front-number.result.1 < length c.split_at.result.1.now → get_or c.split_at.result.1.now c.digits_front-number.result.1 0 ≡ 32 = search rules in
    let some : 0 < length (take c.digits_front-number.result.1 c.split_at.result.1.now) = omega (arith, z, long) in
    let few : length (take c.digits_front-number.result.1 c.split_at.result.1.now) ≤ 18 = omega (arith, long, d.ensures.few) in
    let first = first_token c.args.line.now s.result.1.now (take d.result.1 s.result.1.now) l.result.1.now b.result d.result.1
    b.ensures.within b.ensures.before s.ensures.back d.ensures.within (digits_lack (take d.result.1 s.result.1.now) d.ensures.digits) ends z refl l.ensures.back in (
      take d.result.1 s.result.1.now,
      first.0,
      digits_number (take d.result.1 s.result.1.now) some few d.ensures.digits ∙ ap Some (sym d.ensures.value),
      digits_exptime (take d.result.1 s.result.1.now) some few d.ensures.digits ∙ ap (λ (n : ℕ). Some (pos n)) (sym d.ensures.value),
      pow_within d.result.0 d.result.1 18 d.ensures.bound d.ensures.few,
    )
