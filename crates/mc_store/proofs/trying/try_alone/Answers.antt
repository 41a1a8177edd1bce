use Rattle.std.proofs.Common.{[], ap, refl, subst, sym}
use Rattle.mc_store.specs.{Callers.IsUnanswered, Passes.CallerView}
use Rattle.mc_store.proofs.OpenTryLemmas.{alone_left, entered_stripe, known_in, left_first, left_tried, left_unnoted, open_stripe, step_on, stripe_by, stripe_lacks}
use Rattle.mc_store.proofs.PlacedLemmas.{asked_unanswered}
use Rattle.mc_store.proofs.trying.try_alone.Goals as goal

pub catch_up_stripe-requires-clause-behind : goal.catch_up_stripe-requires-clause-behind
catch_up_stripe-requires-clause-behind g c =
    let raw = c.own-inside.inside.0.0 in
    let tr = c.attempt_none-tried in
    let own = open_stripe g.N.Named.board.table g.N.Named.config raw.owner raw.seen raw.state c.own.inside.side c.args.own.now (ap (λ i. i.side) c.own-inside.view_is) c.own.invariant c.own.view_is in
    let step = step_on own tr.result tr.ensures.site [] [] c.requires.may (tr.ensures.tried g.N.Named.config) tr.ensures.err in
    stripe_lacks step c.own-inside.invariant.0

pub catch_up_stripe-requires-clause-by : goal.catch_up_stripe-requires-clause-by
catch_up_stripe-requires-clause-by g c =
    let raw = c.own-inside.inside.0.0 in
    let tr = c.attempt_none-tried in
    let own = open_stripe g.N.Named.board.table g.N.Named.config raw.owner raw.seen raw.state c.own.inside.side c.args.own.now (ap (λ i. i.side) c.own-inside.view_is) c.own.invariant c.own.view_is in
    let step = step_on own tr.result tr.ensures.site [] [] c.requires.may (tr.ensures.tried g.N.Named.config) tr.ensures.err in
    stripe_by step c.own-inside.invariant.0

pub catch_up_stripe-requires-clause-caller : goal.catch_up_stripe-requires-clause-caller
catch_up_stripe-requires-clause-caller g c = c.requires.asked.number

pub invariant_of-own : goal.invariant_of-own
invariant_of-own g c =
    let raw = c.own-inside.inside.0.0 in
    let tr = c.attempt_none-tried in
    let own = open_stripe g.N.Named.board.table g.N.Named.config raw.owner raw.seen raw.state c.own.inside.side c.args.own.now (ap (λ i. i.side) c.own-inside.view_is) c.own.invariant c.own.view_is in
    let step = step_on own tr.result tr.ensures.site [] [] c.requires.may (tr.ensures.tried g.N.Named.config) tr.ensures.err in
    let note = c.note_if in
    let left = left_first note.new.seen.sight c.catch_up_stripe.ensures.told in
    let still = entered_stripe step note.ensures.grows left _ c.catch_up_stripe.ensures.entered in
    let known = known_in step own left still c.requires.asked c.events-place.ensures c.is_made.ensures note.ensures.grows note.ensures.of note.ensures.told note.ensures.noted note.ensures.unnoted in
    alone_left step known c.history.ensures.legal left

pub returns-clause-tried : goal.returns-clause-tried
returns-clause-tried g c =
    let raw = c.own-inside.inside.0.0 in
    let tr = c.attempt_none-tried in
    let own = open_stripe g.N.Named.board.table g.N.Named.config raw.owner raw.seen raw.state c.own.inside.side c.args.own.now (ap (λ i. i.side) c.own-inside.view_is) c.own.invariant c.own.view_is in
    let step = step_on own tr.result tr.ensures.site [] [] c.requires.may (tr.ensures.tried g.N.Named.config) tr.ensures.err in
    let note = c.note_if in
    let left = left_first note.new.seen.sight c.catch_up_stripe.ensures.told in
    let still = entered_stripe step note.ensures.grows left _ c.catch_up_stripe.ensures.entered in
    let known = known_in step own left still c.requires.asked c.events-place.ensures c.is_made.ensures note.ensures.grows note.ensures.of note.ensures.told note.ensures.noted note.ensures.unnoted in
    left_tried step known own left refl [] [] (λ untouched. tt)

pub returns-clause-unnoted : goal.returns-clause-unnoted
returns-clause-unnoted g c =
    let raw = c.own-inside.inside.0.0 in
    let tr = c.attempt_none-tried in
    let own = open_stripe g.N.Named.board.table g.N.Named.config raw.owner raw.seen raw.state c.own.inside.side c.args.own.now (ap (λ i. i.side) c.own-inside.view_is) c.own.invariant c.own.view_is in
    let step = step_on own tr.result tr.ensures.site [] [] c.requires.may (tr.ensures.tried g.N.Named.config) tr.ensures.err in
    let note = c.note_if in
    let left = left_first note.new.seen.sight c.catch_up_stripe.ensures.told in
    let still = entered_stripe step note.ensures.grows left _ c.catch_up_stripe.ensures.entered in
    let known = known_in step own left still c.requires.asked c.events-place.ensures c.is_made.ensures note.ensures.grows note.ensures.of note.ensures.told note.ensures.noted note.ensures.unnoted in
    left_unnoted step known own left refl

pub note_if-requires-clause-last : goal.note_if-requires-clause-last
note_if-requires-clause-last g c =
    let unanswered = asked_unanswered c.args.caller.now c.args.task.turn.who c.args.task.command.now c.args.task.turn.moment c.requires.asked in
    subst IsUnanswered (sym (ap (λ (k : CallerView). k.calls) c.catch_up_stripe.ensures.entered)) unanswered
