use Rattle.std.proofs.Common.{◌≡◌, sym, ap, ◌∙◌, arith, rules, take, drop}
use Rattle.std.proofs.lemmas.Bool.{eqb-true, eq-eqb}
use Rattle.std.specs.Int.{to_le_bytes, w64}
use Rattle.mc_item.proofs.ShortLemmas.{words_equal, word_is}
use Rattle.mc_item.proofs.short.are_same.Goals as goal

pub returns : goal.returns
returns c =
    let at_0 : c.word_at.result ≡ c.word_at-2.result = omega (arith, c.if-word_at.false) in
    let at_8 : c.word_at-3.result ≡ c.word_at-4.result = omega (arith, c.if-word_at-2.false) in
    let at_16 : c.word_at-5.result ≡ c.word_at-6.result = omega (arith, c.if-word_at-3.false) in (
      λ last.
          let at_22 : c.word_at-7.result ≡ c.word_at-8.result = eqb-true _ _ last in
          words_equal c.args.bytes.now c.args.others.now c.told-bytes c.told-others
          (sym c.word_at.ensures ∙ (ap (to_le_bytes w64) at_0 ∙ c.word_at-2.ensures))
          (sym c.word_at-3.ensures ∙ (ap (to_le_bytes w64) at_8 ∙ c.word_at-4.ensures))
          (sym c.word_at-5.ensures ∙ (ap (to_le_bytes w64) at_16 ∙ c.word_at-6.ensures))
          (sym c.word_at-7.ensures ∙ (ap (to_le_bytes w64) at_22 ∙ c.word_at-8.ensures)),
      λ same. eq-eqb _ _ (word_is c.word_at-7.result c.word_at-8.result (search rules) (search rules) (c.word_at-7.ensures ∙ (ap (λ bs. take 8 (drop 22 bs)) same ∙ sym c.word_at-8.ensures))),
    )
