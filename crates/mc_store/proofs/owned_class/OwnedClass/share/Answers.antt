use Rattle.std.proofs.Common.{ap, ◌∙◌, sym, subst}
use Rattle.mc_board.specs.{Views.SeenView, Histories.Grows}
use Rattle.mc_board.proofs.SeenLemmas.{Grows-trans}
use Rattle.mc_board.specs.declared.rule.Sight.{Sight}
use Rattle.mc_store.specs.Sides.{ClassSide, class_told}
use Rattle.mc_store.proofs.{LaterLemmas.later_told, UnderLockLemmas.grows_but, UnderLockLemmas.told_at}
use Rattle.mc_store.proofs.owned_class.OwnedClass.share.Goals as goal

pub returns-clause-told : goal.returns-clause-told
returns-clause-told c =
    told_at c.learn.new.self.sight c.self.inside.owner.lock c.self.inside.owner.history c.tell.new.seen.sight c.args.self.now.lock _
    (ap (λ (v : SeenView). v.sight) c.tell.ensures.whole) (sym (ap (λ (s : ClassSide). s.lock) c.self.view_is))
    (c.self.invariant.0 ∙ ap (λ (s : ClassSide). class_told s.class.history) c.self.view_is)

pub returns-clause-grows : goal.returns-clause-grows
returns-clause-grows c =
    later_told c.args.seen.now.sight c.learn.new.self.sight c.tell.new.seen.sight c.self.inside.seen.sight c.self.inside.owner.lock c.self.inside.owner.history c.learn.ensures.learned
    (ap (λ (v : SeenView). v.sight) c.tell.ensures.whole)
    (Grows-trans c.args.seen.now.sight c.learn.new.self.sight c.tell.new.seen.sight c.learn.ensures.mine c.tell.ensures.grows)

pub returns-clause-all : goal.returns-clause-all
returns-clause-all c =
    Grows-trans c.args.self.now.sight c.learn.new.self.sight c.tell.new.seen.sight
    (subst (λ (s : Sight). Grows s c.learn.new.self.sight) (ap (λ (s : ClassSide). s.sight) c.self.view_is) c.learn.ensures.theirs) c.tell.ensures.grows

pub returns-clause-theirs : goal.returns-clause-theirs
returns-clause-theirs c = grows_but c.args.self.now.lock c.args.self.now.sight c.tell.new.seen.sight (returns-clause-all c)
