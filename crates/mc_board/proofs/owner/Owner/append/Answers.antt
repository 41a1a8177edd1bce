use Rattle.std.proofs.Common.{◌<◌, ◌+◌, ◌^◌, ◌∷◌, [], ◌∙◌, sym, ap, subst, length-append}
use Rattle.mc_board.specs.{Steps.owned_of, Writing.owned_with}
use Rattle.mc_board.proofs.{FigureLemmas.figures_of-plain, OwnerLemmas.kept_in_memory}
use Rattle.mc_board.proofs.owner.Owner.append.Goals as goal

pub invariant_of-self : goal.invariant_of-self
invariant_of-self g c =
    let i = c.self.invariant in
    let old = owned_of c.self.inside.place.me.0 in
    let entries = g.E.Logged.entry c.args.event.now ∷ [] in
    let table = sym c.add.ensures.place.0 in
    let kept = kept_in_memory _ (owned_with old entries) _ _ _ c.add.ensures.added i.0.word i.0.stage (length-append old.history entries ∙ ap (λ n. n + 1) i.1)
    (i.2 ∙ sym (figures_of-plain old.history entries c.requires.plain)) in
    (kept.0, kept.1, kept.2, subst (λ t. c.self.inside.word + 8 < t.words) table i.3, subst (λ t. t.words < 2 ^ 64) table i.4)
