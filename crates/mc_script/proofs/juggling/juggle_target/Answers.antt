use Rattle.std.proofs.Common.{List, arith, map, rules, subst}
use Rattle.mc_item.specs.declared.item.ClassNo.{ClassNo}
use Rattle.mc_script.specs.{Calls.BreaksAmong, Exchanges.Juggles}
use Rattle.mc_script.proofs.{DirectiveCallLemmas.class_fails, DirectiveCallLemmas.class_more, MadeCallLemmas.same_both}
use Rattle.mc_script.proofs.SumLemmas.{moves_of-push}
use Rattle.mc_script.proofs.juggling.juggle_target.Goals as goal

pub returns-in_err-moves-clause-err : goal.returns-in_err-moves-clause-err
returns-in_err-moves-clause-err g c =
    let broken = subst (λ (cs : List ClassNo). BreaksAmong c.in_err-moves.field-0.0 (map Juggles cs) c.args.moment (g.C.Calls.view c.args.calls.now) (g.C.Calls.view c.juggle.new.self)) c.numbers_of-first.ensures.named
    (class_fails c.numbers_of-first.result.0 c.loop-i.i {all = c.numbers_of-first.result.1} (omega arith) c.loop-i.invariant.juggled c.in_err-moves.ensures.err) in
    search rules

pub loop-i-preserved : goal.loop-i-preserved
loop-i-preserved g c =
    let before = c.loop-i.invariant in
    let here = c.in_ok-moves.ensures in
    record {
      may = here.caller.may;
      same = same_both before.same here.caller.same;
      reclaimed = omega (arith, before.reclaimed, here.small.0);
      moved = omega (arith, before.moved, here.small.1);
      juggled = class_more c.numbers_of-first.result.0 c.loop-i.i before.juggled here.ok (moves_of-push before.juggled.answers c.loop-i.sums c.in_ok-moves.moves before.juggled.added);
    }
