use Rattle.std.proofs.Common.{◌++◌, subst, sym}
use Rattle.mc_proto.specs.Scripts.{IsLast, StandsFirst}
use Rattle.mc_proto.proofs.{DividingLemmas.goes_on, DividingLemmas.stays_on, NextDirectiveLemmas.lacks_next, ScriptCutLemmas.last_on}
use Rattle.mc_proto.proofs.dividing.pass_script.Goals as goal

pub returns-then-lacks_next-clause-line : goal.returns-then-lacks_next-clause-line
returns-then-lacks_next-clause-line c =
    let coming = c.args.uncut.now.coming in
    subst (λ t. IsLast c.args.limits (t ++ c.args.uncut.now.coming)) (sym c.requires) (lacks_next c.args.limits coming (c.lacks_next.ensures.lacks c.if-lacks_next.true))

pub returns-in-Last-clause-line : goal.returns-in-Last-clause-line
returns-in-Last-clause-line c =
    let at = c.loop-count in
    last_on c.args.limits at.uncut.passed at.uncut.coming at.invariant.whole (subst (StandsFirst c.args.limits c.loop-count.uncut.coming) c.in-Last.is c.in_ok-count.ensures)

pub loop-count-preserved : goal.loop-count-preserved
loop-count-preserved c =
    let at = c.loop-count in
    let new = c.pass.new.self in
    let stands = subst (StandsFirst c.args.limits c.loop-count.uncut.coming) c.in-More.is c.in_ok-count.ensures in
    record {
      stays = stays_on at.uncut.passed at.uncut.coming new.passed new.coming c.args.uncut.now.coming c.in-More.count c.in_ok-pass-in-More.ensures.passed c.in_ok-pass-in-More.ensures.coming at.invariant.stays;
      whole = goes_on c.args.limits at.uncut.passed at.uncut.coming new.passed c.in-More.count c.in_ok-pass-in-More.ensures.passed stands at.invariant.whole;
    }
