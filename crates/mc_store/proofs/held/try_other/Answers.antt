use Rattle.std.proofs.Common.{◌≡◌, ◌∙◌, ◌∷◌, [], ap, refl, subst}
use Rattle.std.specs.Prelude.{None, Some}
use Rattle.mc_item.specs.Command.{key_of}
use Rattle.mc_item.specs.declared.item.ClassNo.{ClassNo}
use Rattle.mc_segment.specs.ClassState.{ClassView}
use Rattle.mc_stripe.specs.Trying.{item_of, row_at}
use Rattle.mc_stripe.specs.declared.wanting.Given.{Given}
use Rattle.mc_pull.specs.Attempt.{OffersOther}
use Rattle.mc_store.specs.Sides.{ClassSide}
use Rattle.mc_store.proofs.HeldTryLemmas.{crowded_lacks, crowded_other, err_heard, none_earned, only_heard, other_fits, readied, same_number, short_seen, tried_heard, tried_on}
use Rattle.mc_store.proofs.{LockKeepsLemmas.grows_trans, SeenStripeLemmas.on_err_always}
use Rattle.mc_store.proofs.held.try_other.Goals as goal

pub try_on_one-requires-clause-room : goal.try_on_one-requires-clause-room
try_on_one-requires-clause-room g c =
    let at : c.state.result.now ≡ c.ready_class.new.class.class = c.state.ensures ∙ ap (λ (x : ClassSide). x.class) c.side.ensures.value in
    (tt, λ same. other_fits c.ready_class.new.class.class c.offer_other.result c.in_ok-ready_class.ensures.ready (subst (λ (v : ClassView). OffersOther v c.offer_other.result) at c.offer_other.ensures))

pub returns-clause-tried : goal.returns-clause-tried
returns-clause-tried g c =
    let table = g.N.Named.board.table in
    let config = g.N.Named.config in
    let command = c.args.task.command.now in
    let turn = c.args.task.turn in
    let s = c.args.own.now.stripe in
    let was = c.args.other.now in
    let met = c.meet.new.lent in
    let side = c.ready_class.new.class in
    let end = c.try_on_one.new.own in
    let offer = c.offer_other.result in
    let given : Given = record { home = None; other = Some offer } in
    let at : c.state.result.now ≡ side.class = c.state.ensures ∙ ap (λ (x : ClassSide). x.class) c.side.ensures.value in
    let offers = subst (λ (v : ClassView). OffersOther v offer) at c.offer_other.ensures in
    let is = readied was met side c.meet.ensures.lent c.ready_class.ensures.same in
    tried_on config c.args.own.now end c.args.caller.now c.try_on_one.new.caller command turn given (side ∷ []) (c.try_on_one.new.class ∷ []) None (Some was.class.number) ⊥
    refl (ap (λ (n : ClassNo). Some n) (offers.class_is ∙ same_number table config was side met.sight side.class.room is))
    (λ room taken. none_earned config s turn (key_of command) end.sight given (row_at s command turn.moment).need room refl taken)
    (λ stay lacks. absurd lacks.none)
    (λ stay class crowded. crowded_lacks config s end.sight command turn.moment given class crowded tt side.class
    (crowded_other given (key_of command) (item_of s command) turn.moment (row_at s command turn.moment) class crowded side.class refl offers)
    (short_seen table config was side met.sight side.class.room is c.meet.new.own.sight end.sight c.side.ensures.kept c.meet.ensures.told c.try_on_one.ensures.sees))
    c.try_on_one.result
    (tried_heard config c.args.own.now c.meet.new.own end c.args.caller.now c.try_on_one.new.caller command turn c.meet.ensures.own c.meet.ensures.grows given (side ∷ []) (c.try_on_one.new.class ∷ [])
    c.try_on_one.result c.try_on_one.ensures.tried)

pub returns-clause-err : goal.returns-clause-err
returns-clause-err g c =
    err_heard g.N.Named.config c.args.own.now c.meet.new.own c.try_on_one.new.own c.args.caller.now c.try_on_one.new.caller c.args.task.command.now c.args.task.turn c.meet.ensures.own c.meet.ensures.grows
    c.try_on_one.result c.try_on_one.ensures.err

pub returns-in_err-ready_class-clause-err : goal.returns-in_err-ready_class-clause-err
returns-in_err-ready_class-clause-err g c =
    on_err_always _ (only_heard g.N.Named.config c.args.task.turn c.args.own.now c.meet.new.own c.args.caller.now c.meet.ensures.own c.meet.ensures.grows)

pub returns-clause-sees : goal.returns-clause-sees
returns-clause-sees g c = grows_trans c.args.own.now.sight c.meet.new.own.sight c.try_on_one.new.own.sight c.meet.ensures.grows c.try_on_one.ensures.sees
