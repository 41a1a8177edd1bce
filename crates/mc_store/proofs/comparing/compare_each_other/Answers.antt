use Rattle.std.proofs.Common.{List, slice_get, ap, sym, subst, ◌∙◌}
use Rattle.mc_board.specs.Views.{BoardView}
use Rattle.mc_store.specs.{Finals.IsBehindStripes, Sides.AreClassesOn, Sides.AreStripesOn, Sides.ClassSide, Sides.StripeSide}
use Rattle.mc_store.proofs.{ClosedLemmas.closed_entries, ClosedLemmas.closed_sound, NumberOrderLemmas.classes_on, NumberOrderLemmas.stripes_on}
use Rattle.mc_store.proofs.comparing.compare_each_other.Goals as goal

pub compare_from_stripes-requires-clause-stripes : goal.compare_from_stripes-requires-clause-stripes
compare_from_stripes-requires-clause-stripes g c =
    subst (λ (b : BoardView). AreStripesOn b.table c.args.stripes.now.items) (sym c.requires.board) (stripes_on g.N.Named.board.table g.N.Named.config c.args.stripes.now.items c.requires.stripes)

pub compare_from_stripes-requires-clause-classes : goal.compare_from_stripes-requires-clause-classes
compare_from_stripes-requires-clause-classes g c =
    subst (λ (b : BoardView). AreClassesOn b.table c.args.classes.now.items) (sym c.requires.board) (classes_on g.N.Named.board.table g.N.Named.config c.args.classes.now.items c.requires.classes)

pub compare_from_classes-requires-clause-stripes : goal.compare_from_classes-requires-clause-stripes
compare_from_classes-requires-clause-stripes g c =
    subst (λ (ys : List StripeSide). AreStripesOn c.args.board.now.table ys) (sym c.compare_from_stripes.ensures.same.0)
    (subst (λ (b : BoardView). AreStripesOn b.table c.args.stripes.now.items) (sym c.requires.board) (stripes_on g.N.Named.board.table g.N.Named.config c.args.stripes.now.items c.requires.stripes))

pub compare_from_classes-requires-clause-classes : goal.compare_from_classes-requires-clause-classes
compare_from_classes-requires-clause-classes g c =
    subst (λ (ys : List ClassSide). AreClassesOn c.args.board.now.table ys) (sym c.compare_from_stripes.ensures.same.1)
    (subst (λ (b : BoardView). AreClassesOn b.table c.args.classes.now.items) (sym c.requires.board) (classes_on g.N.Named.board.table g.N.Named.config c.args.classes.now.items c.requires.classes))

pub returns-clause-sound : goal.returns-clause-sound
returns-clause-sound g c =
    closed_sound g.N.Named.board.table g.N.Named.config c.requires.some c.args.stripes.now.items c.args.classes.now.items c.requires.stripes c.requires.classes c.compare_from_stripes.ensures.behind
    (λ k s e. subst (λ (ys : List StripeSide). IsBehindStripes s.sight ys) c.compare_from_stripes.ensures.same.0
    (c.compare_from_classes.ensures.behind k s (ap (λ ys. slice_get ys k) c.compare_from_stripes.ensures.same.1 ∙ e)))

pub returns-clause-entries : goal.returns-clause-entries
returns-clause-entries g c =
    closed_entries g.N.Named.board.table g.N.Named.config c.requires.some c.args.stripes.now.items c.args.classes.now.items c.requires.stripes c.requires.classes c.compare_from_stripes.ensures.behind
    (λ k s e. subst (λ (ys : List StripeSide). IsBehindStripes s.sight ys) c.compare_from_stripes.ensures.same.0
    (c.compare_from_classes.ensures.behind k s (ap (λ ys. slice_get ys k) c.compare_from_stripes.ensures.same.1 ∙ e)))
