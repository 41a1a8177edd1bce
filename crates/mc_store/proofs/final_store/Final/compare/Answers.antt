use Rattle.std.proofs.Common.{◌≡◌, List, slice_get, ap, ◌∙◌, subst}
use Rattle.mc_board.specs.Histories.{HasSeen}
use Rattle.mc_store.specs.{Callers.calls_told, Finals.FinalView, Locked.caller_place, Passes.CallerView, Passes.PassView, Sides.ClassSide, Sides.StripeSide}
use Rattle.mc_store.specs.{Finals.AreEntered, Sides.class_told, Sides.stripe_told}
use Rattle.mc_store.proofs.ClosedCallLemmas.{accounted, its_own, its_own_in_classes}
use Rattle.mc_board.specs.Histories.{list_at}
use Rattle.mc_evidence.specs.Seen.{stripes_seen}
use Rattle.mc_store.specs.{Finals.IsBehindStripes, Passes.ArePlaced, Passes.caller_of}
use Rattle.mc_store.proofs.PlacedLemmas.{placed_just}
use Rattle.mc_store.proofs.final_store.Final.compare.Goals as goal

pub returns-clause-own : goal.returns-clause-own
returns-clause-own g c = λ are.
    let config = g.N.Named.config in
    let same : c.compare_stripes.new.stripes.items ≡ c.args.self.now.stripes = c.compare_stripes.ensures.same.0 ∙ ap (λ (f : FinalView). f.stripes) c.self.view_is in
    its_own g.N.Named.board.table config c.args.pass.now c.args.self.now.stripes are
    (λ k s e.
    subst (λ (p : PassView). HasSeen (calls_told p.calls) s.sight (caller_place config p.caller)) c.pass.view_is
    (c.compare_calls.ensures.behind k s (ap (λ (ys : List StripeSide). slice_get ys k) same ∙ e)))

pub returns-clause-own_in_classes : goal.returns-clause-own_in_classes
returns-clause-own_in_classes g c = λ are.
    let config = g.N.Named.config in
    let same : c.compare_classes.new.classes.items ≡ c.args.self.now.classes = c.compare_classes.ensures.same.0 ∙ ap (λ (f : FinalView). f.classes) c.self.view_is in
    its_own_in_classes g.N.Named.board.table config c.args.pass.now c.args.self.now.classes are
    (λ k s e.
    subst (λ (p : PassView). HasSeen (calls_told p.calls) s.sight (caller_place config p.caller)) c.pass.view_is
    (subst (λ (v : CallerView). HasSeen (calls_told v.calls) s.sight (caller_place config v.number)) c.compare_calls.ensures.same.1
    (c.compare_class_calls.ensures.behind k s (ap (λ (ys : List ClassSide). slice_get ys k) same ∙ e))))

pub returns-clause-placed : goal.returns-clause-placed
returns-clause-placed g c = λ are.
    let config = g.N.Named.config in
    let pass = c.args.pass.now in
    let stripes = c.args.self.now.stripes in
    let same : c.compare_stripes.new.stripes.items ≡ stripes = c.compare_stripes.ensures.same.0 ∙ ap (λ (f : FinalView). f.stripes) c.self.view_is in
    let own = its_own g.N.Named.board.table config pass stripes are
    (λ k s e.
    subst (λ (p : PassView). HasSeen (calls_told p.calls) s.sight (caller_place config p.caller)) c.pass.view_is
    (c.compare_calls.ensures.behind k s (ap (λ (ys : List StripeSide). slice_get ys k) same ∙ e))) in
    let behind : IsBehindStripes pass.sight stripes =
    subst (λ (p : PassView). IsBehindStripes p.sight stripes) c.pass.view_is
    (subst (IsBehindStripes c.pass.inside.seen.sight) (ap (λ (f : FinalView). f.stripes) c.self.view_is) c.compare_stripes.ensures.behind) in
    placed_just g.N.Named.board.table config pass stripes are own behind
    (subst (λ (p : PassView). ArePlaced config (caller_of p) (stripes_seen (list_at p.sight.seen))) c.pass.view_is c.pass.invariant.1)

pub returns-clause-account : goal.returns-clause-account
returns-clause-account g c =
    let stripes_are : c.compare_stripes.new.stripes.items ≡ c.args.self.now.stripes = c.compare_stripes.ensures.same.0 ∙ ap (λ (f : FinalView). f.stripes) c.self.view_is in
    let classes_are : c.compare_classes.new.classes.items ≡ c.args.self.now.classes = c.compare_classes.ensures.same.0 ∙ ap (λ (f : FinalView). f.classes) c.self.view_is in
    accounted c.args.pass.now c.args.self.now.stripes c.args.self.now.classes
    (λ k s e.
    subst (λ (p : PassView). AreEntered (caller_of p) s.lock (stripe_told s.stripe.history)) c.pass.view_is
    (c.compare_calls.ensures.entered k s (ap (λ (ys : List StripeSide). slice_get ys k) stripes_are ∙ e)))
    (λ k s e.
    subst (λ (p : PassView). AreEntered (caller_of p) s.lock (class_told s.class.history)) c.pass.view_is
    (subst (λ (v : CallerView). AreEntered v s.lock (class_told s.class.history)) c.compare_calls.ensures.same.1
    (c.compare_class_calls.ensures.entered k s (ap (λ (ys : List ClassSide). slice_get ys k) classes_are ∙ e))))
