use Rattle.std.proofs.Common.{◌≡◌, ◌∙◌, ap, subst, sym}
use Rattle.mc_store.specs.{Locked.class_lock, Sides.ClassSide, Sides.StripeSide, Sides.class_told}
use Rattle.mc_store.proofs.{EarnedRefusalLemmas.class_seen, SyncLemmas.meet_agree, SyncLemmas.meet_class, SyncLemmas.meet_stripe, UnderLockLemmas.told_at}
use Rattle.mc_store.proofs.pairing.meet.Goals as goal

pub invariant_of-own : goal.invariant_of-own
invariant_of-own g c =
    meet_stripe g.N.Named.board.table g.N.Named.config c.own.inside.side c.hear.new.self c.hear-2.new.stripe c.lent.inside.side c.hear.new.class c.hear-2.new.self c.own.invariant c.lent.invariant
    c.hear.ensures.class c.hear.ensures.told c.hear.ensures.grows c.hear-2.ensures.stripe c.hear-2.ensures.told c.hear-2.ensures.grows

pub invariant_of-lent : goal.invariant_of-lent
invariant_of-lent g c =
    meet_class g.N.Named.board.table g.N.Named.config c.own.inside.side c.hear.new.self c.hear-2.new.stripe c.lent.inside.side c.hear.new.class c.hear-2.new.self c.own.invariant c.lent.invariant
    c.hear.ensures.class c.hear.ensures.told c.hear.ensures.grows c.hear-2.ensures.stripe c.hear-2.ensures.told c.hear-2.ensures.grows

pub returns-clause-met : goal.returns-clause-met
returns-clause-met g c =
    meet_agree g.N.Named.board.table g.N.Named.config c.own.inside.side c.hear.new.self c.hear-2.new.stripe c.lent.inside.side c.hear.new.class c.hear-2.new.self c.own.invariant c.lent.invariant
    c.hear.ensures.class c.hear.ensures.told c.hear.ensures.grows c.hear-2.ensures.stripe c.hear-2.ensures.told c.hear-2.ensures.grows

pub returns-clause-told : goal.returns-clause-told
returns-clause-told g c =
    told_at c.own.inside.side.sight c.lent.inside.side.lock (class_told c.lent.inside.side.class.history) c.hear-2.new.stripe.sight c.args.lent.now.lock (class_told c.args.lent.now.class.history)
    (ap (λ (x : StripeSide). x.sight) (c.hear-2.ensures.stripe ∙ c.hear.ensures.told)) (sym (ap (λ (x : ClassSide). x.lock) c.lent.view_is)) (ap (λ (x : ClassSide). class_told x.class.history) c.lent.view_is)

pub returns-clause-heard : goal.returns-clause-heard
returns-clause-heard g c =
    class_seen g.N.Named.config c.hear-2.new.stripe.sight c.args.lent.now.lock c.args.lent.now.class.number c.args.lent.now.class.history
    (subst (λ (x : ClassSide). x.lock ≡ class_lock g.N.Named.config x.class.number) c.lent.view_is c.lent.invariant.held.lock_is) (returns-clause-told g c)
