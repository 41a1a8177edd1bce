use Rattle.std.proofs.Common.{rules, ◌∷◌, ◌∙◌, [], ap, subst, sym}
use Rattle.mc_board.specs.Histories.{with_seen}
use Rattle.mc_board.specs.declared.rule.Sight.{Sight}
use Rattle.mc_store.specs.declared.owned_class.OwnedClass.TheInside as classes
use Rattle.mc_store.specs.declared.owned_stripe.OwnedStripe.TheInside as stripes
use Rattle.mc_store.specs.{Callers.IsUnanswered, Callers.asked_for, Passes.CallerView, Passes.HasCalled, Sides.ClassSide, Sides.class_told}
use Rattle.mc_store.proofs.EnteredLemmas.{told_has}
use Rattle.mc_store.proofs.LentClassLemmas.{class_behind}
use Rattle.mc_store.proofs.OpenTryLemmas.{IsKnown, IsLeft, IsLent, IsOpenClass, IsOpenStripe, IsStep, class_by, class_left, entered_class, entered_stripe, first_lent, known_in, left_first, left_more, left_same}
use Rattle.mc_store.proofs.OpenTryLemmas.{left_err, left_full, left_sees, left_stays, left_told, left_tried, open_class, open_stripe, second_lent, step_two, stripe_by, stripe_lacks, told_later, two_left}
use Rattle.mc_store.proofs.PlacedLemmas.{asked_unanswered}
use Rattle.mc_store.proofs.trying.try_on_two.Given.{Over}
use Rattle.mc_store.proofs.trying.try_on_two.Goals as goal
use Rattle.mc_store.proofs.trying.try_on_two.Goals.{After-attempt_two-tried, After-hear-2}

-- the try: the stripe and the classes are out of their locks, and the command was tried on them
module _ (g : Over) (c : After-attempt_two-tried g) where
  abbrev raw : stripes.Inside
  raw = c.own-inside.inside.0.0

  abbrev raw_home : classes.Inside
  raw_home = c.home-inside.inside.0.0

  abbrev raw_other : classes.Inside
  raw_other = c.other-inside.inside.0.0

  own : IsOpenStripe g.N.Named.board.table g.N.Named.config raw.owner raw.seen raw.state c.own.inside.side c.args.own.now
  own = open_stripe g.N.Named.board.table g.N.Named.config raw.owner raw.seen raw.state _ _ (ap (λ i. i.side) c.own-inside.view_is) c.own.invariant c.own.view_is

  home : IsOpenClass g.N.Named.board.table g.N.Named.config raw_home.owner raw_home.seen raw_home.state c.args.home.now
  home = open_class g.N.Named.board.table g.N.Named.config raw_home.owner raw_home.seen raw_home.state _ _ (ap (λ i. i.side) c.home-inside.view_is) c.home.invariant c.home.view_is

  other : IsOpenClass g.N.Named.board.table g.N.Named.config raw_other.owner raw_other.seen raw_other.state c.args.other.now
  other = open_class g.N.Named.board.table g.N.Named.config raw_other.owner raw_other.seen raw_other.state _ _ (ap (λ i. i.side) c.other-inside.view_is) c.other.invariant c.other.view_is

  step : IsStep g.N.Named.board.table g.N.Named.config c.args.task.command.now c.args.task.turn c.args.given raw.owner raw.seen raw.state c.attempt_two-tried.new.stripe
      (raw_home.state ∷ raw_other.state ∷ []) (c.attempt_two-tried.new.home ∷ c.attempt_two-tried.new.other ∷ []) c.attempt_two-tried.result
  step =
      let tried = c.attempt_two-tried in
      step_two own tried.result tried.ensures.site home tried.new.home other tried.new.other c.requires.may tried.ensures.tried tried.ensures.err

  lent : IsLent g.N.Named.board.table g.N.Named.config c.args.task.command.now c.args.task.turn raw.state c.attempt_two-tried.new.stripe raw_home.owner raw_home.seen raw_home.state c.attempt_two-tried.new.home
  lent = first_lent step home

  beside : IsLent g.N.Named.board.table g.N.Named.config c.args.task.command.now c.args.task.turn raw.state c.attempt_two-tried.new.stripe raw_other.owner raw_other.seen raw_other.state c.attempt_two-tried.new.other
  beside = second_lent step other

-- the stripe was told of both classes: it is left so, and the caller has entered and noted all
module _ (g : Over) (c : After-hear-2 g) where
  abbrev sight_home : Sight
  sight_home = with_seen c.note_if.new.seen.sight c.home-inside.inside.0.0.owner.lock (class_told c.attempt_two-tried.new.home.history)

  abbrev sight : Sight
  sight = with_seen sight_home c.other-inside.inside.0.0.owner.lock (class_told c.attempt_two-tried.new.other.history)

  end : IsLeft c.own-inside.inside.0.0.owner c.attempt_two-tried.new.stripe c.note_if.new.seen.sight c.hear-2.new.self sight
      × IsKnown g.N.Named.config c.args.task.command.now c.args.task.turn c.own-inside.inside.0.0.owner c.own-inside.inside.0.0.seen c.own-inside.inside.0.0.state c.attempt_two-tried.new.stripe
      c.attempt_two-tried.result c.note_if.new.seen.sight sight c.args.caller.now c.note_if.new.caller
  end =
      let raw = c.own-inside.inside.0.0 in
      let raw_home = c.home-inside.inside.0.0 in
      let raw_other = c.other-inside.inside.0.0 in
      let tried = c.attempt_two-tried in
      let note = c.note_if in
      let own = open_stripe g.N.Named.board.table g.N.Named.config raw.owner raw.seen raw.state _ _ (ap (λ i. i.side) c.own-inside.view_is) c.own.invariant c.own.view_is in
      let home = open_class g.N.Named.board.table g.N.Named.config raw_home.owner raw_home.seen raw_home.state _ _ (ap (λ i. i.side) c.home-inside.view_is) c.home.invariant c.home.view_is in
      let other = open_class g.N.Named.board.table g.N.Named.config raw_other.owner raw_other.seen raw_other.state _ _ (ap (λ i. i.side) c.other-inside.view_is) c.other.invariant c.other.view_is in
      let step = step_two own tried.result tried.ensures.site home tried.new.home other tried.new.other c.requires.may tried.ensures.tried tried.ensures.err in
      let lent = first_lent step home in
      let beside = second_lent step other in
      let one = left_told (left_first note.new.seen.sight c.catch_up_stripe.ensures.told) lent c.catch_up_class.ensures.told c.hear.ensures.told c.hear.ensures.grows in
      let left = left_told one beside c.catch_up_class-2.ensures.told c.hear-2.ensures.told c.hear-2.ensures.grows in
      let more = left_more one beside c.catch_up_class-2.ensures.told c.hear-2.ensures.told c.hear-2.ensures.grows in
      let has = told_later note.new.seen.sight _ raw_home.owner.lock tried.new.home.history more in
      let has_other = told_has sight_home raw_other.owner.lock (class_told tried.new.other.history) in
      let first = entered_class step lent left c.home-inside.invariant.0 has (entered_stripe step note.ensures.grows left _ c.catch_up_stripe.ensures.entered) c.catch_up_class.ensures.entered in
      let still = entered_class step beside left c.other-inside.invariant.0 has_other first c.catch_up_class-2.ensures.entered in
      (left, known_in step own left still c.requires.asked c.events-place.ensures c.is_made.ensures note.ensures.grows note.ensures.of note.ensures.told note.ensures.noted note.ensures.unnoted)

pub catch_up_stripe-requires-clause-behind : goal.catch_up_stripe-requires-clause-behind
catch_up_stripe-requires-clause-behind g c = stripe_lacks (step g (goal.at.catch_up_stripe-requires-clause-behind g c).After-attempt_two-tried) c.own-inside.invariant.0

pub catch_up_stripe-requires-clause-by : goal.catch_up_stripe-requires-clause-by
catch_up_stripe-requires-clause-by g c = stripe_by (step g (goal.at.catch_up_stripe-requires-clause-by g c).After-attempt_two-tried) c.own-inside.invariant.0

pub catch_up_stripe-requires-clause-caller : goal.catch_up_stripe-requires-clause-caller
catch_up_stripe-requires-clause-caller g c = c.requires.asked.number

pub catch_up_class-requires-clause-behind : goal.catch_up_class-requires-clause-behind
catch_up_class-requires-clause-behind g c =
    class_behind _ _ _ c.home-inside.invariant.0 (lent g (goal.at.catch_up_class-requires-clause-behind g c).After-attempt_two-tried).grows

pub catch_up_class-requires-clause-by : goal.catch_up_class-requires-clause-by
catch_up_class-requires-clause-by g c = class_by (lent g (goal.at.catch_up_class-requires-clause-by g c).After-attempt_two-tried) c.home-inside.invariant.0

pub catch_up_class-requires-clause-caller : goal.catch_up_class-requires-clause-caller
catch_up_class-requires-clause-caller g c = c.requires.asked.number ∙ ap (λ (k : CallerView). k.number) (sym c.catch_up_stripe.ensures.entered)

pub catch_up_class-requires-2-clause-behind : goal.catch_up_class-requires-2-clause-behind
catch_up_class-requires-2-clause-behind g c =
    class_behind _ _ _ c.other-inside.invariant.0 (beside g (goal.at.catch_up_class-requires-2-clause-behind g c).After-attempt_two-tried).grows

pub catch_up_class-requires-2-clause-by : goal.catch_up_class-requires-2-clause-by
catch_up_class-requires-2-clause-by g c = class_by (beside g (goal.at.catch_up_class-requires-2-clause-by g c).After-attempt_two-tried) c.other-inside.invariant.0

pub catch_up_class-requires-2-clause-caller : goal.catch_up_class-requires-2-clause-caller
catch_up_class-requires-2-clause-caller g c =
    c.requires.asked.number ∙ (ap (λ (k : CallerView). k.number) (sym c.catch_up_stripe.ensures.entered) ∙ ap (λ (k : CallerView). k.number) (sym c.catch_up_class.ensures.entered))

pub invariant_of-own : goal.invariant_of-own
invariant_of-own g c =
    let at = (goal.at.invariant_of-own g c).After-attempt_two-tried in
    let told = end g (goal.at.invariant_of-own g c).After-hear-2 in
    two_left (step g at) told.1 (lent g at) (beside g at) (left_same (left_same told.0 c.hear-3.ensures.stripe) c.hear-4.ensures.stripe) c.history.ensures.legal

pub invariant_of-home : goal.invariant_of-home
invariant_of-home g c =
    let at = (goal.at.invariant_of-home g c).After-attempt_two-tried in
    let told = end g (goal.at.invariant_of-home g c).After-hear-2 in
    class_left (step g at) told.1 c.history.ensures.legal (lent g at) c.catch_up_class.ensures.told c.hear.ensures.class c.law.ensures.lawful told.0 c.hear-3.ensures.told c.hear-3.ensures.grows
    c.tell_owned.ensures.class c.tell_owned.ensures.grows (c.tell_owned.ensures.begun _ _ _ told.1.begun)

pub invariant_of-other : goal.invariant_of-other
invariant_of-other g c =
    let at = (goal.at.invariant_of-other g c).After-attempt_two-tried in
    let told = end g (goal.at.invariant_of-other g c).After-hear-2 in
    let begun = subst (λ (k : CallerView). HasCalled k c.args.task.turn.who c.args.task.turn.moment (asked_for c.args.task.command.now c.args.task.turn.moment)) (sym c.tell_owned.ensures.same) told.1.begun in
    class_left (step g at) told.1 c.history.ensures.legal (beside g at) c.catch_up_class-2.ensures.told c.hear-2.ensures.class c.law-2.ensures.lawful (left_same told.0 c.hear-3.ensures.stripe)
    c.hear-4.ensures.told c.hear-4.ensures.grows c.tell_owned-2.ensures.class c.tell_owned-2.ensures.grows (c.tell_owned-2.ensures.begun _ _ _ begun)

pub returns : goal.returns
returns g c =
    let at = (goal.at.returns g c).After-attempt_two-tried in
    let told = end g (goal.at.returns g c).After-hear-2 in
    let left = left_same (left_same told.0 c.hear-3.ensures.stripe) c.hear-4.ensures.stripe in
    let same = c.tell_owned-2.ensures.same ∙ c.tell_owned.ensures.same in
    record {
      tried = left_tried (step g at) told.1 (own g at) left same (c.args.home.now ∷ c.args.other.now ∷ []) (c.tell_owned.new.class ∷ c.tell_owned-2.new.class ∷ []) (λ untouched. (
        left_stays (home g at) c.tell_owned.new.class (ap (λ (x : ClassSide). x.class) c.tell_owned.ensures.class
            ∙ ap (λ (x : ClassSide). x.class) c.hear-3.ensures.told ∙ ap (λ (x : ClassSide). x.class) c.hear.ensures.class) untouched.classes.0,
        (
          left_stays (other g at) c.tell_owned-2.new.class (ap (λ (x : ClassSide). x.class) c.tell_owned-2.ensures.class
              ∙ ap (λ (x : ClassSide). x.class) c.hear-4.ensures.told ∙ ap (λ (x : ClassSide). x.class) c.hear-2.ensures.class) untouched.classes.1.0,
          tt,
        ),
      ));
      err = left_err (step g at) told.1 (own g at) left same;
      sees = left_sees (step g at) told.1 (own g at) left;
      site = search rules;
      full = λ full. left_full (step g at) told.1 left c.attempt_two-tried.ensures.full full;
    }

pub note_if-requires-clause-last : goal.note_if-requires-clause-last
note_if-requires-clause-last g c =
    let unanswered = asked_unanswered c.args.caller.now c.args.task.turn.who c.args.task.command.now c.args.task.turn.moment c.requires.asked in
    let classes = ap (λ (k : CallerView). k.calls) c.catch_up_class-2.ensures.entered ∙ ap (λ (k : CallerView). k.calls) c.catch_up_class.ensures.entered in
    subst IsUnanswered (sym (classes ∙ ap (λ (k : CallerView). k.calls) c.catch_up_stripe.ensures.entered)) unanswered
