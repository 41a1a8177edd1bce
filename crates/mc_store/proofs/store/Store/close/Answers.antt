use Rattle.std.proofs.Common.{List, sym, subst}
use Rattle.mc_board.specs.Views.{BoardView}
use Rattle.mc_store.specs.Sides.{AreClassesOn, AreStripesOn, ClassSide, StripeSide}
use Rattle.mc_store.proofs.NumberOrderLemmas.{classes_on, stripes_on}
use Rattle.mc_store.proofs.store.Store.close.Goals as goal

pub new-requires-clause-stripes : goal.new-requires-clause-stripes
new-requires-clause-stripes g c =
    let stripes = c.take_stripes.new.shelf.items in
    subst (λ (ys : List StripeSide). AreStripesOn c.self.inside.board.table ys) (sym c.compare_each_other.ensures.same.0)
    (subst (λ (b : BoardView). AreStripesOn b.table stripes) (sym c.self.invariant.0) (stripes_on g.N.Named.board.table g.N.Named.config stripes c.take_stripes.ensures))

pub new-requires-clause-classes : goal.new-requires-clause-classes
new-requires-clause-classes g c =
    let classes = c.take_classes.new.shelf.items in
    subst (λ (ys : List ClassSide). AreClassesOn c.self.inside.board.table ys) (sym c.compare_each_other.ensures.same.1)
    (subst (λ (b : BoardView). AreClassesOn b.table classes) (sym c.self.invariant.0) (classes_on g.N.Named.board.table g.N.Named.config classes c.take_classes.ensures))
