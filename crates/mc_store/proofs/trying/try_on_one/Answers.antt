use Rattle.std.proofs.Common.{rules, ◌∷◌, ◌∙◌, [], ap, subst, sym}
use Rattle.mc_store.specs.{Callers.IsUnanswered, Passes.CallerView, Sides.ClassSide, Sides.class_told}
use Rattle.mc_store.proofs.EnteredLemmas.{told_has}
use Rattle.mc_store.proofs.LentClassLemmas.{class_behind}
use Rattle.mc_store.proofs.OpenTryLemmas.{class_by, class_left, entered_class, entered_stripe, first_lent, grow_in, known_in, left_first, left_same, left_sees, left_stays, left_told}
use Rattle.mc_store.proofs.OpenTryLemmas.{left_full, left_err, left_tried, one_left, open_class, open_stripe, step_one, stripe_by, stripe_lacks}
use Rattle.mc_store.proofs.PlacedLemmas.{asked_unanswered}
use Rattle.mc_store.proofs.trying.try_on_one.Goals as goal

pub catch_up_stripe-requires-clause-behind : goal.catch_up_stripe-requires-clause-behind
catch_up_stripe-requires-clause-behind g c =
    let raw = c.own-inside.inside.0.0 in
    let raw_of = c.class-inside.inside.0.0 in
    let tr = c.attempt_one-tried in
    let own = open_stripe g.N.Named.board.table g.N.Named.config raw.owner raw.seen raw.state c.own.inside.side c.args.own.now (ap (λ i. i.side) c.own-inside.view_is) c.own.invariant c.own.view_is in
    let class = open_class g.N.Named.board.table g.N.Named.config raw_of.owner raw_of.seen raw_of.state c.class.inside.side c.args.class.now (ap (λ i. i.side) c.class-inside.view_is) c.class.invariant c.class.view_is in
    let step = step_one own tr.result tr.ensures.site class tr.new.class c.requires.may tr.ensures.tried tr.ensures.err in
    stripe_lacks step c.own-inside.invariant.0

pub catch_up_stripe-requires-clause-by : goal.catch_up_stripe-requires-clause-by
catch_up_stripe-requires-clause-by g c =
    let raw = c.own-inside.inside.0.0 in
    let raw_of = c.class-inside.inside.0.0 in
    let tr = c.attempt_one-tried in
    let own = open_stripe g.N.Named.board.table g.N.Named.config raw.owner raw.seen raw.state c.own.inside.side c.args.own.now (ap (λ i. i.side) c.own-inside.view_is) c.own.invariant c.own.view_is in
    let class = open_class g.N.Named.board.table g.N.Named.config raw_of.owner raw_of.seen raw_of.state c.class.inside.side c.args.class.now (ap (λ i. i.side) c.class-inside.view_is) c.class.invariant c.class.view_is in
    let step = step_one own tr.result tr.ensures.site class tr.new.class c.requires.may tr.ensures.tried tr.ensures.err in
    stripe_by step c.own-inside.invariant.0

pub catch_up_stripe-requires-clause-caller : goal.catch_up_stripe-requires-clause-caller
catch_up_stripe-requires-clause-caller g c = c.requires.asked.number

pub catch_up_class-requires-clause-behind : goal.catch_up_class-requires-clause-behind
catch_up_class-requires-clause-behind g c =
    let raw = c.own-inside.inside.0.0 in
    let raw_of = c.class-inside.inside.0.0 in
    let tr = c.attempt_one-tried in
    let own = open_stripe g.N.Named.board.table g.N.Named.config raw.owner raw.seen raw.state c.own.inside.side c.args.own.now (ap (λ i. i.side) c.own-inside.view_is) c.own.invariant c.own.view_is in
    let class = open_class g.N.Named.board.table g.N.Named.config raw_of.owner raw_of.seen raw_of.state c.class.inside.side c.args.class.now (ap (λ i. i.side) c.class-inside.view_is) c.class.invariant c.class.view_is in
    let step = step_one own tr.result tr.ensures.site class tr.new.class c.requires.may tr.ensures.tried tr.ensures.err in
    class_behind raw_of.owner.history raw_of.state tr.new.class c.class-inside.invariant.0 (grow_in step).0

pub catch_up_class-requires-clause-by : goal.catch_up_class-requires-clause-by
catch_up_class-requires-clause-by g c =
    let raw = c.own-inside.inside.0.0 in
    let raw_of = c.class-inside.inside.0.0 in
    let tr = c.attempt_one-tried in
    let own = open_stripe g.N.Named.board.table g.N.Named.config raw.owner raw.seen raw.state c.own.inside.side c.args.own.now (ap (λ i. i.side) c.own-inside.view_is) c.own.invariant c.own.view_is in
    let class = open_class g.N.Named.board.table g.N.Named.config raw_of.owner raw_of.seen raw_of.state c.class.inside.side c.args.class.now (ap (λ i. i.side) c.class-inside.view_is) c.class.invariant c.class.view_is in
    let step = step_one own tr.result tr.ensures.site class tr.new.class c.requires.may tr.ensures.tried tr.ensures.err in
    class_by (first_lent step class) c.class-inside.invariant.0

pub catch_up_class-requires-clause-caller : goal.catch_up_class-requires-clause-caller
catch_up_class-requires-clause-caller g c = c.requires.asked.number ∙ ap (λ (k : CallerView). k.number) (sym c.catch_up_stripe.ensures.entered)

pub invariant_of-own : goal.invariant_of-own
invariant_of-own g c =
    let raw = c.own-inside.inside.0.0 in
    let raw_of = c.class-inside.inside.0.0 in
    let tr = c.attempt_one-tried in
    let own = open_stripe g.N.Named.board.table g.N.Named.config raw.owner raw.seen raw.state c.own.inside.side c.args.own.now (ap (λ i. i.side) c.own-inside.view_is) c.own.invariant c.own.view_is in
    let class = open_class g.N.Named.board.table g.N.Named.config raw_of.owner raw_of.seen raw_of.state c.class.inside.side c.args.class.now (ap (λ i. i.side) c.class-inside.view_is) c.class.invariant c.class.view_is in
    let step = step_one own tr.result tr.ensures.site class tr.new.class c.requires.may tr.ensures.tried tr.ensures.err in
    let note = c.note_if in
    let lent = first_lent step class in
    let left = left_told (left_first note.new.seen.sight c.catch_up_stripe.ensures.told) lent c.catch_up_class.ensures.told c.hear.ensures.told c.hear.ensures.grows in
    let has = told_has note.new.seen.sight raw_of.owner.lock (class_told tr.new.class.history) in
    let still = entered_class step lent left c.class-inside.invariant.0 has (entered_stripe step note.ensures.grows left _ c.catch_up_stripe.ensures.entered) c.catch_up_class.ensures.entered in
    let known = known_in step own left still c.requires.asked c.events-place.ensures c.is_made.ensures note.ensures.grows note.ensures.of note.ensures.told note.ensures.noted note.ensures.unnoted in
    one_left step known lent (left_same left c.hear-2.ensures.stripe) c.history.ensures.legal

pub invariant_of-class : goal.invariant_of-class
invariant_of-class g c =
    let raw = c.own-inside.inside.0.0 in
    let raw_of = c.class-inside.inside.0.0 in
    let tr = c.attempt_one-tried in
    let own = open_stripe g.N.Named.board.table g.N.Named.config raw.owner raw.seen raw.state c.own.inside.side c.args.own.now (ap (λ i. i.side) c.own-inside.view_is) c.own.invariant c.own.view_is in
    let class = open_class g.N.Named.board.table g.N.Named.config raw_of.owner raw_of.seen raw_of.state c.class.inside.side c.args.class.now (ap (λ i. i.side) c.class-inside.view_is) c.class.invariant c.class.view_is in
    let step = step_one own tr.result tr.ensures.site class tr.new.class c.requires.may tr.ensures.tried tr.ensures.err in
    let note = c.note_if in
    let lent = first_lent step class in
    let left = left_told (left_first note.new.seen.sight c.catch_up_stripe.ensures.told) lent c.catch_up_class.ensures.told c.hear.ensures.told c.hear.ensures.grows in
    let has = told_has note.new.seen.sight raw_of.owner.lock (class_told tr.new.class.history) in
    let still = entered_class step lent left c.class-inside.invariant.0 has (entered_stripe step note.ensures.grows left _ c.catch_up_stripe.ensures.entered) c.catch_up_class.ensures.entered in
    let known = known_in step own left still c.requires.asked c.events-place.ensures c.is_made.ensures note.ensures.grows note.ensures.of note.ensures.told note.ensures.noted note.ensures.unnoted in
    class_left step known c.history.ensures.legal lent c.catch_up_class.ensures.told c.hear.ensures.class c.law.ensures.lawful left c.hear-2.ensures.told c.hear-2.ensures.grows
    c.tell_owned.ensures.class c.tell_owned.ensures.grows (c.tell_owned.ensures.begun _ _ _ known.begun)

pub returns : goal.returns
returns g c =
    let raw = c.own-inside.inside.0.0 in
    let raw_of = c.class-inside.inside.0.0 in
    let tr = c.attempt_one-tried in
    let own = open_stripe g.N.Named.board.table g.N.Named.config raw.owner raw.seen raw.state c.own.inside.side c.args.own.now (ap (λ i. i.side) c.own-inside.view_is) c.own.invariant c.own.view_is in
    let class = open_class g.N.Named.board.table g.N.Named.config raw_of.owner raw_of.seen raw_of.state c.class.inside.side c.args.class.now (ap (λ i. i.side) c.class-inside.view_is) c.class.invariant c.class.view_is in
    let step = step_one own tr.result tr.ensures.site class tr.new.class c.requires.may tr.ensures.tried tr.ensures.err in
    let note = c.note_if in
    let lent = first_lent step class in
    let left = left_told (left_first note.new.seen.sight c.catch_up_stripe.ensures.told) lent c.catch_up_class.ensures.told c.hear.ensures.told c.hear.ensures.grows in
    let has = told_has note.new.seen.sight raw_of.owner.lock (class_told tr.new.class.history) in
    let still = entered_class step lent left c.class-inside.invariant.0 has (entered_stripe step note.ensures.grows left _ c.catch_up_stripe.ensures.entered) c.catch_up_class.ensures.entered in
    let known = known_in step own left still c.requires.asked c.events-place.ensures c.is_made.ensures note.ensures.grows note.ensures.of note.ensures.told note.ensures.noted note.ensures.unnoted in
    let end = left_same left c.hear-2.ensures.stripe in
    record {
      tried = left_tried step known own end c.tell_owned.ensures.same (c.args.class.now ∷ []) (c.tell_owned.new.class ∷ []) (λ untouched. (
        left_stays class c.tell_owned.new.class (ap (λ (x : ClassSide). x.class) c.tell_owned.ensures.class
            ∙ ap (λ (x : ClassSide). x.class) c.hear-2.ensures.told ∙ ap (λ (x : ClassSide). x.class) c.hear.ensures.class) untouched.classes.0,
        tt,
      ));
      err = left_err step known own end c.tell_owned.ensures.same;
      sees = left_sees step known own end;
      site = search rules;
      full = λ full. left_full step known end tr.ensures.full full;
    }

pub note_if-requires-clause-last : goal.note_if-requires-clause-last
note_if-requires-clause-last g c =
    let unanswered = asked_unanswered c.args.caller.now c.args.task.turn.who c.args.task.command.now c.args.task.turn.moment c.requires.asked in
    let calls = ap (λ (k : CallerView). k.calls) c.catch_up_class.ensures.entered ∙ ap (λ (k : CallerView). k.calls) c.catch_up_stripe.ensures.entered in
    subst IsUnanswered (sym calls) unanswered
