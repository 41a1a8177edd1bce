use Rattle.std.proofs.Common.{Some, subst}
use Rattle.std.proofs.lemmas.Bool.Decides.{not_from_Decides}
use Rattle.std.specs.Option.{option_copied}
use Rattle.mc_options.specs.Asked.{AreMoments, AreNamed}
use Rattle.mc_options.proofs.WordLemmas.{no_moments}
use Rattle.mc_options.proofs.plans.moments_named.Goals as goal

pub returns-else-are_moments-clause-list : goal.returns-else-are_moments-clause-list
returns-else-are_moments-clause-list c = λ is.
    let list : AreNamed (option_copied c.args.text) (Some c.in-Some.moments.items) = rw c.in-Some.is at c.in_ok-named.ensures.ok in
    let refused = not_from_Decides c.are_moments.result c.are_moments.ensures c.if-are_moments.false in
    no_moments _ c.in-Some.moments.items list (subst (λ numbers. AreMoments numbers → ⊥) c.deref.ensures.value refused)
