use Rattle.std.proofs.Common.{◌≡◌, ◌/◌, ◌∙◌, [], ap}
use Rattle.mc_board.specs.{Histories.with_figures, Histories.with_noted, Looking.opened_in, Steps.known_of}
use Rattle.mc_board.proofs.LookLemmas.{eight, looked, noted_busy, noted_figures}
use Rattle.mc_board.proofs.seen.Seen.figures.Goals as goal

pub returns-then-last-first-clause-noted : goal.returns-then-last-first-clause-noted
returns-then-last-first-clause-noted c =
    let first = c.open_look-first.result in
    let last = c.check_look-last.result in
    let lock = c.args.lock in
    let known = known_of c.self.inside.place.me.0 in
    let opened = c.open_look-first.ensures.opened ∙ (λ i. (opened_in lock first (c.self.invariant i).0, [])) in
    let sight = looked known lock first last c.gather-v.result _ _ _ opened c.gather-v.ensures.read.1 c.check_look-last.ensures.checked
    ∙ (noted_busy known.sight lock first last c.gather-v.result c.if-last-first.true ∙ ap (λ s. with_noted s.sight lock (last / 2)) c.self.view_is) in
    let board = c.check_look-last.ensures.place.0 ∙ (c.gather-v.ensures.place.0 ∙ (c.open_look-first.ensures.place.0 ∙ ap (λ s. s.board) c.self.view_is)) in
    λ i. record { board = board i; sight = sight i }

pub returns-clause-noted : goal.returns-clause-noted
returns-clause-noted c =
    let first = c.open_look-first.result in
    let last = c.check_look-last.result in
    let lock = c.args.lock in
    let known = known_of c.self.inside.place.me.0 in
    let v = c.gather-v.result in
    let opened = c.open_look-first.ensures.opened ∙ (λ i. (opened_in lock first (c.self.invariant i).0, [])) in
    let start : with_noted known.sight lock (first / 2) ≡ with_noted c.args.self.now.sight lock (first / 2) = ap (λ s. with_noted s.sight lock (first / 2)) c.self.view_is in
    let sight = looked known lock first last v _ _ _ opened c.gather-v.ensures.read.1 c.check_look-last.ensures.checked
    ∙ (noted_figures (with_noted known.sight lock (first / 2)) lock first last v c.if-last-first.false
    ∙ (λ i. with_figures (start i) (record { lock = lock; events = first / 2; values = eight v c.gather-v.ensures.read.0 i }))) in
    let board = c.check_look-last.ensures.place.0 ∙ (c.gather-v.ensures.place.0 ∙ (c.open_look-first.ensures.place.0 ∙ ap (λ s. s.board) c.self.view_is)) in
    λ i. record { board = board i; sight = sight i }
