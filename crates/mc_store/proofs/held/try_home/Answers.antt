use Rattle.std.proofs.Common.{◌≡◌, ◌≢◌, ◌∙◌, ◌∷◌, [], ℕ, ap, inl, inr, refl, sym, subst, ⊎_elim}
use Rattle.std.specs.Prelude.{None, Some}
use Rattle.mc_item.specs.{Command.key_of, Measure.stripe_of}
use Rattle.mc_item.specs.declared.item.ClassNo.{ClassNo}
use Rattle.mc_segment.specs.ClassState.{ClassView, with_room}
use Rattle.mc_board.specs.Histories.{Grows}
use Rattle.mc_stripe.specs.Trying.{item_of, row_at}
use Rattle.mc_stripe.specs.declared.wanting.Given.{Given}
use Rattle.mc_pull.specs.{Agreeing.AgreeNow, Attempt.IsNoted, Attempt.OffersHome, Attempt.OffersOther}
use Rattle.mc_store.specs.{Held.class_held, Held.class_number, Sides.ClassSide, Sides.StripeSide, Trying.StillTries}
use Rattle.mc_store.proofs.HeldTryLemmas.{crowded_both, crowded_home, crowded_lacks, err_heard, full_seen, heard_both, heard_of, home_fits, keeps_full, noted_of, other_fits, readied, readied_class, refused_of}
use Rattle.mc_store.proofs.HeldTryLemmas.{only_heard, short_seen, taken_earned, tried_heard, tried_on, wants_chunk}
use Rattle.mc_store.proofs.{LockKeepsLemmas.grows_trans, SeenStripeLemmas.on_err_always}
use Rattle.mc_store.proofs.held.try_home.Given.{Over}
use Rattle.mc_store.proofs.held.try_home.Goals as goal
use Rattle.mc_store.proofs.held.try_home.Goals.{After-meet-in-Some-2, After-offer_home, After-offer_other}

-- ---- on the class of the new version alone

pub offer_home-requires : goal.offer_home-requires
offer_home-requires g c =
    let is = readied c.args.home.now c.meet.new.lent c.ready_class.new.class c.meet.ensures.lent c.ready_class.ensures.same in
    let at = c.state.ensures ∙ ap (λ (x : ClassSide). x.class) (c.side.ensures.value ∙ is) in
    record { noted = subst (λ (v : ClassView). IsNoted c.args.refused c.args.task.turn.who v) (sym at) (noted_of g.N.Named.config c.args.own.now.stripe _ _ c.args.home.now.class _ c.requires.refused) }

-- what it offers, once it is ready
offers_alone : (g : Over) (c : After-offer_home g) → OffersHome c.ready_class.new.class.class c.args.refused c.args.task.turn.who c.offer_home.result
offers_alone g c =
    subst (λ (v : ClassView). OffersHome v c.args.refused c.args.task.turn.who c.offer_home.result) (c.state.ensures ∙ ap (λ (x : ClassSide). x.class) c.side.ensures.value) c.offer_home.ensures

pub try_on_one-requires-clause-may : goal.try_on_one-requires-clause-may
try_on_one-requires-clause-may g c =
    let offers = offers_alone g (goal.at.try_on_one-requires-clause-may g c).After-offer_home in
    record {
      stripe = ap (λ (n : ℕ). stripe_of (key_of c.args.task.command.now) n) c.law.ensures.made_with.stripes
          ∙ (c.requires.called.own ∙ ap (λ (x : StripeSide). record { 0 = x.stripe.site.stripe }) (sym c.meet.ensures.own));
      moment = c.requires.called.early;
      distinct = (tt, tt);
      met = (subst (λ (x : ClassSide). AgreeNow x.class c.meet.new.own.stripe) (sym c.ready_class.ensures.same) c.meet.ensures.met, tt);
      refused = c.args.refused;
      offered = record { home = inl offers; other = tt; each = (inl offers, tt) };
    }

pub try_on_one-requires-clause-room : goal.try_on_one-requires-clause-room
try_on_one-requires-clause-room g c =
    (λ same. home_fits _ _ _ _ c.in_ok-ready_class-in-None.ensures.ready (offers_alone g (goal.at.try_on_one-requires-clause-room g c).After-offer_home), tt)

pub returns-in_ok-ready_class-in-None-clause-tried : goal.returns-in_ok-ready_class-in-None-clause-tried
returns-in_ok-ready_class-in-None-clause-tried g c =
    let table = g.N.Named.board.table in
    let config = g.N.Named.config in
    let command = c.args.task.command.now in
    let turn = c.args.task.turn in
    let refused = c.args.refused in
    let s = c.args.own.now.stripe in
    let was = c.args.home.now in
    let side = c.ready_class.new.class in
    let end = c.try_on_one.new.own in
    let given : Given = record { home = Some c.offer_home.result; other = None } in
    let offers = offers_alone g (goal.at.returns-in_ok-ready_class-in-None-clause-tried g c).After-offer_home in
    let is = readied was c.meet.new.lent side c.meet.ensures.lent c.ready_class.ensures.same in
    let for_home = ap (λ (n : ClassNo). Some n) (offers.class_is ∙ ap (λ (x : ClassSide). x.class.number) is) in
    let for_other = sym (ap class_held c.in-None.is) in
    let short = short_seen _ _ was side _ _ is _ end.sight c.side.ensures.kept c.meet.ensures.told c.try_on_one.ensures.sees in
    let seen = full_seen _ _ was side _ _ is _ end.sight c.side.ensures.kept c.meet.ensures.told c.try_on_one.ensures.sees in
    tried_on config c.args.own.now end c.args.caller.now c.try_on_one.new.caller command turn given (side ∷ []) (c.try_on_one.new.class ∷ []) _ _ _ for_home for_other
    (λ room taken. taken_earned config s turn (key_of command) side.class refused _ end.sight (heard_of table config was side _ _ is c.meet.new.own.sight c.meet.ensures.heard) c.try_on_one.ensures.sees
    (refused_of table config was side _ _ is s turn _ refused c.requires.refused) given (row_at s command turn.moment).need room offers taken)
    (λ stay lacks. (
      keeps_full config end.sight was.class side.class _ refused turn.who given.home offers (readied_class table config was side _ _ is) stay.0 seen short lacks.none,
      refl,
      wants_chunk s command turn.moment given was.class.number (class_held c.args.other.now) for_home for_other lacks,
    ))
    (λ stay class crowded. crowded_lacks config s end.sight command turn.moment given class crowded (side.class, refused, turn.who, offers) side.class
    (crowded_home given _ (item_of s command) turn.moment (row_at s command turn.moment) class crowded side.class refused turn.who refl offers) short)
    c.try_on_one.result
    (tried_heard config c.args.own.now c.meet.new.own end _ _ command turn c.meet.ensures.own c.meet.ensures.grows given (side ∷ []) (c.try_on_one.new.class ∷ []) _ c.try_on_one.ensures.tried)

pub returns-in_ok-ready_class-in-None-clause-err : goal.returns-in_ok-ready_class-in-None-clause-err
returns-in_ok-ready_class-in-None-clause-err g c =
    err_heard g.N.Named.config c.args.own.now _ c.try_on_one.new.own _ _ c.args.task.command.now c.args.task.turn c.meet.ensures.own c.meet.ensures.grows _ c.try_on_one.ensures.err

pub returns-in_err-ready_class-in-None-clause-err : goal.returns-in_err-ready_class-in-None-clause-err
returns-in_err-ready_class-in-None-clause-err g c =
    on_err_always _ (only_heard g.N.Named.config c.args.task.turn c.args.own.now c.meet.new.own c.args.caller.now c.meet.ensures.own c.meet.ensures.grows)

pub returns-in_ok-ready_class-in-None-clause-sees : goal.returns-in_ok-ready_class-in-None-clause-sees
returns-in_ok-ready_class-in-None-clause-sees g c = grows_trans c.args.own.now.sight c.meet.new.own.sight c.try_on_one.new.own.sight c.meet.ensures.grows c.try_on_one.ensures.sees

-- ---- on both

-- the stripe has only heard more
module _ (g : Over) (c : After-meet-in-Some-2 g) where
  heard : c.meet-in-Some-2.new.own ≡ record c.args.own.now { sight = c.meet-in-Some-2.new.own.sight }
  heard = heard_both c.args.own.now c.meet-in-Some.new.own c.meet-in-Some-2.new.own c.meet-in-Some.ensures.own c.meet-in-Some-2.ensures.own

  grew : Grows c.args.own.now.sight c.meet-in-Some-2.new.own.sight
  grew = grows_trans c.args.own.now.sight c.meet-in-Some.new.own.sight c.meet-in-Some-2.new.own.sight c.meet-in-Some.ensures.grows c.meet-in-Some-2.ensures.grows

  unmade : (c.meet-in-Some-2.new.own.stripe.history ≡ c.args.own.now.stripe.history)
      × StillTries g.N.Named.config c.args.task.turn c.args.own.now c.meet-in-Some-2.new.own c.args.caller.now c.args.caller.now
  unmade = only_heard g.N.Named.config c.args.task.turn c.args.own.now c.meet-in-Some-2.new.own c.args.caller.now heard grew

-- the classes are ready, apart, and offer what they can
module _ (g : Over) (c : After-offer_other g) where
  home_is : c.ready_class-in-Some.new.class
      ≡ record c.args.home.now { class = with_room c.args.home.now.class c.ready_class-in-Some.new.class.class.room; sight = c.meet-in-Some.new.lent.sight }
  home_is = readied c.args.home.now c.meet-in-Some.new.lent c.ready_class-in-Some.new.class c.meet-in-Some.ensures.lent c.ready_class-in-Some.ensures.same

  beside_is : c.ready_class-in-Some-2.new.class
      ≡ record c.deref_mut-beside.result.now { class = with_room c.deref_mut-beside.result.now.class c.ready_class-in-Some-2.new.class.class.room; sight = c.meet-in-Some-2.new.lent.sight }
  beside_is = readied c.deref_mut-beside.result.now c.meet-in-Some-2.new.lent c.ready_class-in-Some-2.new.class c.meet-in-Some-2.ensures.lent c.ready_class-in-Some-2.ensures.same

  number : class_held c.args.other.now ≡ Some c.ready_class-in-Some-2.new.class.class.number
  number = ap class_held c.in-Some.is ∙ (ap (λ (x : ClassSide). Some (class_number x)) (sym c.deref_mut-beside.ensures.value) ∙ ap (λ (x : ClassSide). Some x.class.number) (sym beside_is))

  apart : c.ready_class-in-Some.new.class.class.number ≢ c.ready_class-in-Some-2.new.class.class.number
  apart = λ same. c.requires.apart (number ∙ ap (λ (n : ClassNo). Some n) (sym same ∙ ap (λ (x : ClassSide). x.class.number) home_is))

  offers : OffersHome c.ready_class-in-Some.new.class.class c.args.refused c.args.task.turn.who c.offer_home-in-Some.result
  offers = subst (λ (v : ClassView). OffersHome v c.args.refused c.args.task.turn.who c.offer_home-in-Some.result)
      (c.state-in-Some.ensures ∙ ap (λ (x : ClassSide). x.class) c.side-in-Some.ensures.value) c.offer_home-in-Some.ensures

  offers_beside : OffersOther c.ready_class-in-Some-2.new.class.class c.offer_other.result
  offers_beside = subst (λ (v : ClassView). OffersOther v c.offer_other.result) (c.state-in-Some-2.ensures ∙ ap (λ (x : ClassSide). x.class) c.side-in-Some-2.ensures.value) c.offer_other.ensures

pub returns-in_err-ready_class-in-Some-clause-sees : goal.returns-in_err-ready_class-in-Some-clause-sees
returns-in_err-ready_class-in-Some-clause-sees g c = grew g (goal.at.returns-in_err-ready_class-in-Some-clause-sees g c).After-meet-in-Some-2

pub returns-in_err-ready_class-in-Some-2-clause-sees : goal.returns-in_err-ready_class-in-Some-2-clause-sees
returns-in_err-ready_class-in-Some-2-clause-sees g c = grew g (goal.at.returns-in_err-ready_class-in-Some-2-clause-sees g c).After-meet-in-Some-2

pub offer_home-requires-in-Some : goal.offer_home-requires-in-Some
offer_home-requires-in-Some g c =
    let is = readied c.args.home.now c.meet-in-Some.new.lent c.ready_class-in-Some.new.class c.meet-in-Some.ensures.lent c.ready_class-in-Some.ensures.same in
    let at = c.state-in-Some.ensures ∙ ap (λ (x : ClassSide). x.class) (c.side-in-Some.ensures.value ∙ is) in
    record { noted = subst (λ (v : ClassView). IsNoted c.args.refused c.args.task.turn.who v) (sym at) (noted_of g.N.Named.config c.args.own.now.stripe _ _ c.args.home.now.class _ c.requires.refused) }

pub try_on_two-requires-clause-may : goal.try_on_two-requires-clause-may
try_on_two-requires-clause-may g c =
    let at = goal.at.try_on_two-requires-clause-may g c in
    let offer = offers g at.After-offer_other in
    let offer_beside = offers_beside g at.After-offer_other in
    let met = subst (λ (x : ClassSide). AgreeNow x.class c.meet-in-Some.new.own.stripe) (sym c.ready_class-in-Some.ensures.same) c.meet-in-Some.ensures.met in
    record {
      stripe = ap (λ (n : ℕ). stripe_of (key_of c.args.task.command.now) n) c.law-in-Some.ensures.made_with.stripes
          ∙ (c.requires.called.own ∙ ap (λ (x : StripeSide). record { 0 = x.stripe.site.stripe }) (sym (heard g at.After-meet-in-Some-2)));
      moment = c.requires.called.early;
      distinct = ((apart g at.After-offer_other, tt), (tt, tt));
      met = (
        subst (λ (x : StripeSide). AgreeNow c.ready_class-in-Some.new.class.class x.stripe) (sym c.meet-in-Some-2.ensures.own) met,
        (subst (λ (x : ClassSide). AgreeNow x.class c.meet-in-Some-2.new.own.stripe) (sym c.ready_class-in-Some-2.ensures.same) c.meet-in-Some-2.ensures.met, tt),
      );
      refused = c.args.refused;
      offered = record { home = inl offer; other = inr (inl offer_beside); each = (inl offer, (inr offer_beside, tt)) };
    }

pub try_on_two-requires-clause-room : goal.try_on_two-requires-clause-room
try_on_two-requires-clause-room g c =
    let at = (goal.at.try_on_two-requires-clause-room g c).After-offer_other in (
      (λ same. home_fits _ _ _ _ c.in_ok-ready_class-in-Some.ensures.ready (offers g at), λ same. absurd (apart g at (sym same ∙ (offers_beside g at).class_is))),
      (λ same. absurd (apart g at (sym (offers g at).class_is ∙ same)), λ same. other_fits _ _ c.in_ok-ready_class-in-Some-2.ensures.ready (offers_beside g at)),
    )

pub returns-in_ok-ready_class-in-Some-2-clause-tried : goal.returns-in_ok-ready_class-in-Some-2-clause-tried
returns-in_ok-ready_class-in-Some-2-clause-tried g c =
    let table = g.N.Named.board.table in
    let config = g.N.Named.config in
    let heard_at = (goal.at.returns-in_ok-ready_class-in-Some-2-clause-tried g c).After-meet-in-Some-2 in
    let at = (goal.at.returns-in_ok-ready_class-in-Some-2-clause-tried g c).After-offer_other in
    let command = c.args.task.command.now in
    let turn = c.args.task.turn in
    let refused = c.args.refused in
    let s = c.args.own.now.stripe in
    let was = c.args.home.now in
    let side = c.ready_class-in-Some.new.class in
    let side_b = c.ready_class-in-Some-2.new.class in
    let is = home_is g at in
    let end = c.try_on_two.new.own in
    let given : Given = record { home = Some c.offer_home-in-Some.result; other = Some c.offer_other.result } in
    let for_home = ap (λ (n : ClassNo). Some n) ((offers g at).class_is ∙ ap (λ (x : ClassSide). x.class.number) is) in
    let for_other = ap (λ (n : ClassNo). Some n) (offers_beside g at).class_is ∙ sym (number g at) in
    let later = grows_trans _ _ _ c.meet-in-Some-2.ensures.grows c.try_on_two.ensures.sees in
    let short = short_seen _ _ was side _ _ is _ end.sight c.side-in-Some.ensures.kept c.meet-in-Some.ensures.told later in
    let seen = full_seen _ _ was side _ _ is _ end.sight c.side-in-Some.ensures.kept c.meet-in-Some.ensures.told later in
    let short_b = short_seen _ _ c.deref_mut-beside.result.now side_b _ _ (beside_is g at) _ end.sight c.side-in-Some-2.ensures.kept c.meet-in-Some-2.ensures.told c.try_on_two.ensures.sees in
    tried_on config c.args.own.now end c.args.caller.now c.try_on_two.new.caller command turn given (side ∷ side_b ∷ []) (c.try_on_two.new.home ∷ c.try_on_two.new.other ∷ []) _ _ _ for_home for_other
    (λ room taken. taken_earned config s turn (key_of command) side.class refused _ end.sight (heard_of table config was side _ _ is c.meet-in-Some.new.own.sight c.meet-in-Some.ensures.heard) later
    (refused_of table config was side _ _ is s turn _ refused c.requires.refused) given (row_at s command turn.moment).need room (offers g at) taken)
    (λ stay lacks. (
      keeps_full config end.sight was.class side.class _ refused turn.who given.home (offers g at) (readied_class table config was side _ _ is) stay.0 seen short lacks.none,
      ap (λ (v : ClassView). Some v.number) stay.1.0 ∙ sym (number g at),
      wants_chunk s command turn.moment given was.class.number (class_held c.args.other.now) for_home for_other lacks,
    ))
    (λ stay class crowded. ⊎_elim
    (λ lacks. crowded_lacks config s end.sight command turn.moment given class crowded (side.class, refused, turn.who, offers g at) side.class lacks short)
    (λ lacks. crowded_lacks config s end.sight command turn.moment given class crowded (side.class, refused, turn.who, offers g at) side_b.class lacks short_b)
    (crowded_both given _ (item_of s command) turn.moment (row_at s command turn.moment) class crowded side.class _ refused turn.who (apart g at) (offers g at) (offers_beside g at)))
    c.try_on_two.result (tried_heard config c.args.own.now c.meet-in-Some-2.new.own end _ _ command turn (heard g heard_at) (grew g heard_at)
    given (side ∷ side_b ∷ []) (c.try_on_two.new.home ∷ c.try_on_two.new.other ∷ []) _ c.try_on_two.ensures.tried)

pub returns-in_ok-ready_class-in-Some-2-clause-err : goal.returns-in_ok-ready_class-in-Some-2-clause-err
returns-in_ok-ready_class-in-Some-2-clause-err g c =
    let at = (goal.at.returns-in_ok-ready_class-in-Some-2-clause-err g c).After-meet-in-Some-2 in
    err_heard g.N.Named.config c.args.own.now _ c.try_on_two.new.own _ _ c.args.task.command.now c.args.task.turn (heard g at) (grew g at) _ c.try_on_two.ensures.err

pub returns-in_err-ready_class-in-Some-clause-err : goal.returns-in_err-ready_class-in-Some-clause-err
returns-in_err-ready_class-in-Some-clause-err g c = on_err_always _ (unmade g (goal.at.returns-in_err-ready_class-in-Some-clause-err g c).After-meet-in-Some-2)

pub returns-in_err-ready_class-in-Some-2-clause-err : goal.returns-in_err-ready_class-in-Some-2-clause-err
returns-in_err-ready_class-in-Some-2-clause-err g c = on_err_always _ (unmade g (goal.at.returns-in_err-ready_class-in-Some-2-clause-err g c).After-meet-in-Some-2)

pub returns-in_ok-ready_class-in-Some-2-clause-sees : goal.returns-in_ok-ready_class-in-Some-2-clause-sees
returns-in_ok-ready_class-in-Some-2-clause-sees g c =
    grows_trans _ _ _ (grew g (goal.at.returns-in_ok-ready_class-in-Some-2-clause-sees g c).After-meet-in-Some-2) c.try_on_two.ensures.sees
