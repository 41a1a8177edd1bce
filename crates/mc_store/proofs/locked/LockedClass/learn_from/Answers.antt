use Rattle.std.proofs.Common.{◌≡◌, ◌∙◌, ap, subst, sym}
use Rattle.mc_board.specs.{Histories.Grows, Histories.with_seen}
use Rattle.mc_board.proofs.PrefixLemmas.{prefix_self}
use Rattle.mc_store.specs.{Locked.IsLockedClass, Sides.ClassSide, Sides.StripeSide, Sides.stripe_sight, Sides.stripe_told}
use Rattle.mc_store.proofs.{AccountLemmas.whole_grows, LockKeepsLemmas.grows_trans, OwnEventLemmas.locked_sees}
use Rattle.mc_store.proofs.locked.LockedClass.learn_from.Goals as goal

pub invariant_of-self : goal.invariant_of-self
invariant_of-self g c =
    let table = g.N.Named.board.table in
    let config = g.N.Named.config in
    let was = c.self.inside.side in
    let last : c.hear.new.self ≡ record was { sight = c.hear.new.self.sight } =
    c.hear.ensures.told
    ∙ (ap (λ (x : ClassSide). record x { sight = with_seen c.learn.new.self.sight c.learn.new.stripe.lock (stripe_told c.learn.new.stripe.stripe.history) }) c.learn.ensures.class
    ∙ ap (λ (x : ClassSide). record was { sight = x.sight }) (sym c.hear.ensures.told)) in
    subst (IsLockedClass table config) (sym last)
    (locked_sees table config was c.hear.new.self.sight (grows_trans was.sight c.learn.new.self.sight c.hear.new.self.sight c.learn.ensures.grows c.hear.ensures.grows) c.self.invariant)

pub returns-clause-grows : goal.returns-clause-grows
returns-clause-grows g c =
    let own = c.args.self.now in
    let grows : Grows own.sight c.learn.new.self.sight = subst (λ (x : ClassSide). Grows x.sight c.learn.new.self.sight) c.self.view_is c.learn.ensures.grows in
    grows_trans own.sight c.learn.new.self.sight c.hear.new.self.sight grows c.hear.ensures.grows

pub returns-clause-learnt : goal.returns-clause-learnt
returns-clause-learnt g c =
    let own = c.args.stripe.now in
    let learnt : Grows own.sight c.learn.new.self.sight = subst (λ (x : StripeSide). Grows x.sight c.learn.new.self.sight) c.stripe.view_is c.learn.ensures.learnt in
    grows_trans own.sight c.learn.new.self.sight c.hear.new.self.sight learnt c.hear.ensures.grows

pub returns-clause-heard : goal.returns-clause-heard
returns-clause-heard g c =
    let own = c.args.stripe.now in
    let told = stripe_told own.stripe.history in
    let same = c.learn.ensures.stripe ∙ c.stripe.view_is in
    let learnt : Grows own.sight c.learn.new.self.sight = subst (λ (x : StripeSide). Grows x.sight c.learn.new.self.sight) c.stripe.view_is c.learn.ensures.learnt in
    subst (λ (x : ClassSide). Grows (stripe_sight own) x.sight)
    (sym (c.hear.ensures.told ∙ ap (λ (x : StripeSide). record c.learn.new.self { sight = with_seen c.learn.new.self.sight x.lock (stripe_told x.stripe.history) }) same))
    (whole_grows own.lock told told (prefix_self told) learnt)
