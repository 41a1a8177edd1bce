use Rattle.std.proofs.Common.{rules, ◌∙◌, ap, sym, arith}
use Rattle.mc_pull.specs.{Growth.looks_for_chunk, Pulled.counts_if, Pulled.is_end_if}
use Rattle.mc_pull.proofs.ChunkEventLemmas.{gains_both, gains_itself, gains_nothing}
use Rattle.mc_pull.proofs.LeavesGateLemmas.{leaves_both, leaves_itself, served_later}
use Rattle.mc_pull.proofs.{GrowthLemmas.may_later, WalkAnswerLemmas.looked_more, WalkAnswerLemmas.looked_on, WalkAnswerLemmas.looked_whole}
use Rattle.mc_pull.proofs.pulling.pull_tail.Goals as goal

pub looks-preserved : goal.looks-preserved
looks-preserved g c =
    let inv = c.looks.invariant in
    let look = c.in_ok-done.ensures.looked c.looks.left c.looks-test.true in
    let grows = c.in_ok-done.ensures.grows in (
      looked_on look.answer inv.0 look.fits look.answers look.history_is grows.same (c.counted-pulled.ensures ∙ ap (λ d. counts_if d c.looks.pulled) look.made_is) c.looks-test.true
          (ap is_end_if (sym look.made_is) ∙ (sym c.ends_with.ensures ∙ c.if-ends_with.false)),
      may_later c.looks.class c.look_next.new.class c.args.seg c.args.mode c.args.context.turn.who c.args.context.turn.moment grows inv.1,
      served_later g.G.Gate.references g.G.Gate.serves g.G.Gate.keeps c.args.context _ _ c.looks.class c.look_next.new.class inv.2 grows c.in_ok-done.ensures.gate,
      leaves_both g.G.Gate.references g.G.Gate.serves g.G.Gate.keeps c.args.context _ _ _ c.args.class.now c.looks.class c.look_next.new.class inv.0.gains.grows inv.3 c.in_ok-done.ensures.gate,
    )

pub returns-then-ends_with-clause-walk : goal.returns-then-ends_with-clause-walk
returns-then-ends_with-clause-walk g c =
    let inv = c.looks.invariant in
    let look = c.in_ok-done.ensures.looked c.looks.left c.looks-test.true in
    looked_whole look.answer inv.0 look.fits look.answers look.history_is c.in_ok-done.ensures.grows.same
    (c.counted-pulled.ensures ∙ ap (λ d. counts_if d c.looks.pulled) look.made_is) (ap is_end_if (sym look.made_is) ∙ (sym c.ends_with.ensures ∙ c.if-ends_with.true))

pub look_next-requires-clause-next : goal.look_next-requires-clause-next
look_next-requires-clause-next g c =
    let inv = c.looks.invariant in
    record { walk = inv.1; wanted = search rules; few = search rules; there = omega (arith, inv.0.enough, c.looks-test.true) }

pub looks-init : goal.looks-init
looks-init g c = (
  record { on = search rules; gains = gains_itself (looks_for_chunk c.args.mode) c.args.class.now; few = search rules; enough = search rules },
  c.requires.walk,
  c.requires.gate,
  leaves_itself g.G.Gate.references g.G.Gate.serves g.G.Gate.keeps c.args.context c.args.gate.now c.args.class.now c.requires.gate,
)

pub returns-in_err-done-clause-gains : goal.returns-in_err-done-clause-gains
returns-in_err-done-clause-gains g c =
    let looks = looks_for_chunk c.args.mode in
    gains_both looks c.args.class.now c.looks.class c.look_next.new.class c.looks.invariant.0.gains
    (gains_nothing looks c.looks.class c.look_next.new.class c.in_err-done.ensures.grows c.in_err-done.ensures.err.0)

pub returns-then-ends_with-clause-gains : goal.returns-then-ends_with-clause-gains
returns-then-ends_with-clause-gains g c =
    let inv = c.looks.invariant in
    let look = c.in_ok-done.ensures.looked c.looks.left c.looks-test.true in
    gains_both (looks_for_chunk c.args.mode) c.args.class.now c.looks.class c.look_next.new.class inv.0.gains
    (looked_more look.answer inv.0 look.fits look.answers look.history_is c.in_ok-done.ensures.grows.same (c.counted-pulled.ensures ∙ ap (λ d. counts_if d c.looks.pulled) look.made_is))
