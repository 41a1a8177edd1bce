use Rattle.std.proofs.Common.{ap, arith, drop, length, refl, slice_index_or, subst, suc}
use Rattle.std.proofs.lemmas.List.{take_all}
use Rattle.mc_script.proofs.MadeCallLemmas.{same_both, same_itself}
use Rattle.mc_script.proofs.UpkeepLemmas.{HasKept, cut_at, kept_all, kept_fails, kept_more, kept_none, kept_turns, taken_more}
use Rattle.mc_script.proofs.upkeep.run_upkeep.Goals as goal

pub loop-i-init : goal.loop-i-init
loop-i-init g c = record {
  may = c.requires.starts.may;
  same = same_itself (g.C.Calls.view c.args.calls.now);
  kept = kept_none c.args.limits c.args.keeper (g.C.Calls.view c.args.calls.now) c.requires.starts.first c.requires.starts.none;
  idle = λ none. refl;
}

pub returns-in-Err-NoMemory-clause-leaves : goal.returns-in-Err-NoMemory-clause-leaves
returns-in-Err-NoMemory-clause-leaves g c =
    kept_fails c.loop-i.invariant.kept (slice_index_or c.args.moments.now c.loop-i.i 0) (drop (suc c.loop-i.i) c.args.moments.now) c.loop-i.invariant.same
    (rw c.in-Err-NoMemory.field-0-is at c.in-Err-NoMemory.ensures.err) c.in-Err-NoMemory.ensures.caller.same (cut_at c.args.moments.now c.loop-i.i 0 (omega arith))

pub returns-in-Err-HistoryFull-clause-leaves : goal.returns-in-Err-HistoryFull-clause-leaves
returns-in-Err-HistoryFull-clause-leaves g c =
    kept_fails c.loop-i.invariant.kept (slice_index_or c.args.moments.now c.loop-i.i 0) (drop (suc c.loop-i.i) c.args.moments.now) c.loop-i.invariant.same
    (rw c.in-Err-HistoryFull.field-0-is at c.in-Err-HistoryFull.ensures.err) c.in-Err-HistoryFull.ensures.caller.same (cut_at c.args.moments.now c.loop-i.i 0 (omega arith))

pub loop-i-preserved : goal.loop-i-preserved
loop-i-preserved g c =
    let before = c.loop-i.invariant in
    record {
      may = c.in-Ok.ensures.caller.may;
      same = same_both before.same c.in-Ok.ensures.caller.same;
      kept = subst (λ ms. HasKept c.args.limits c.args.keeper ms (g.C.Calls.view c.keep_all.new.calls)) (taken_more c.args.moments.now c.loop-i.i 0 (omega arith))
          (kept_more before.kept (slice_index_or c.args.moments.now c.loop-i.i 0) c.in-Ok.ensures.ok);
      idle = λ none. absurd (omega (arith, none));
    }

pub returns-clause-leaves : goal.returns-clause-leaves
returns-clause-leaves g c = kept_all c.loop-i.invariant.same c.loop-i.invariant.kept (take_all c.loop-i.i c.args.moments.now c.loop-i-test.false)

pub returns-clause-turns : goal.returns-clause-turns
returns-clause-turns g c = λ done. kept_turns c.loop-i.invariant.kept (take_all c.loop-i.i c.args.moments.now c.loop-i-test.false)

pub returns-clause-idle : goal.returns-clause-idle
returns-clause-idle g c = λ none. c.loop-i.invariant.idle (omega (arith, ap length none, c.loop-i.auto.i-end))
