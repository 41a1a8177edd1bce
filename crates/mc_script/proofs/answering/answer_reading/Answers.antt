use Rattle.std.proofs.Common.{rules, ◌∙◌}
use Rattle.std.specs.Vec.Iter.{into_iter_items}
use Rattle.mc_item.specs.declared.fault.Fault.TheVariants as faults
use Rattle.mc_script.specs.Calls.{Fails, reading_request}
use Rattle.mc_script.proofs.KeyLemmas.{begins_further, begins_itself, keys_all, keys_end_fails, keys_fail, keys_more, keys_none}
use Rattle.mc_script.proofs.MadeCallLemmas.{same_both, same_itself}
use Rattle.mc_script.proofs.IterLemmas.{all_taken, split_at}
use Rattle.mc_script.proofs.answering.answer_reading.Goals as goal
use Rattle.mc_script.proofs.answering.answer_reading.Goals.{in-Ok+in_ok-answer_key-in-Ok, in-Err+in-None}

pub loop-key-init : goal.loop-key-init
loop-key-init g c = record {
  may = c.requires.may;
  same = same_itself (g.C.Calls.view c.args.calls.now);
  front = begins_itself c.args.text.now.items;
  keys = keys_none (g.C.Calls.view c.args.calls.now) c.args.text.now.items;
}

pub loop-key-preserved : goal.loop-key-preserved
loop-key-preserved g c =
    let before = c.loop-key.invariant in
    let here = c.in_ok-answer_key-in-Err.ensures in
    record {
      may = here.caller.may;
      same = same_both before.same here.caller.same;
      front = begins_further c.args.text.now.items c.loop-key.text.items c.answer_key-in-loop-key.new.text.items before.front here.front;
      keys = keys_more before.keys here.ok;
    }

pub returns-in_err-answer_key-in-Err-clause-err : goal.returns-in_err-answer_key-in-Err-clause-err
returns-in_err-answer_key-in-Err-clause-err g c = λ limits.
    let split = split_at c.in-Err.keys.items c.loop-key.yielded c.in-Some.key c.into_iter-key-iterator.result c.loop-key.key-iterator c.next.new.self
    c.into_iter-key-iterator.ensures.into_iter_gives.0 c.loop-key.yielded_by c.in-Some.ensures.steps.0 in
    let made = keys_fail c.in-Some.key (into_iter_items c.next.new.self) (c.in-Err.ensures.err ∙ split) c.loop-key.invariant.keys c.in_err-answer_key-in-Err.ensures.err limits in
    search rules

pub returns-in_err-push_end-clause-err : goal.returns-in_err-push_end-clause-err
returns-in_err-push_end-clause-err g c = λ limits.
    let made : Fails faults.NoMemory limits (reading_request c.args.reading.exptime c.args.keys c.args.reading.with_cas) c.args.moment (g.C.Calls.view c.args.calls.now)
    (g.C.Calls.view c.match-into_one.calls) =
    elim c.match-into_one.branch [
      | in-Ok+in_ok-answer_key-in-Ok w ↦ rw w.calls-is (keys_end_fails w.in-Ok.ensures.ok
          (keys_more (keys_none (g.C.Calls.view c.args.calls.now) c.args.text.now.items) w.in_ok-answer_key-in-Ok.ensures.ok) limits)
      | in-Err+in-None w ↦ rw w.calls-is (keys_end_fails
          (w.in-Err.ensures.err ∙ all_taken w.in-Err.keys.items w.into_iter-key-iterator.result w.loop-key.yielded w.loop-key.key-iterator
          w.into_iter-key-iterator.ensures.into_iter_gives.0 (w.into_iter-key-iterator.ensures.into_iter_gives.1
          ∙ w.in-Err.keys.ok.0) w.loop-key.yielded_by w.in-None.ensures.steps.0) w.loop-key.invariant.keys limits)
    ] in
    search rules

pub returns-clause-ok : goal.returns-clause-ok
returns-clause-ok g c = λ limits.
    let last = c.in_ok-push_end.ensures.ok in
    elim c.match-into_one.branch [
      | in-Ok+in_ok-answer_key-in-Ok w ↦ rw w.calls-is (keys_all w.in-Ok.ensures.ok
          (keys_more (keys_none (g.C.Calls.view c.args.calls.now) c.args.text.now.items) w.in_ok-answer_key-in-Ok.ensures.ok) (rw w.text-is at last) limits)
      | in-Err+in-None w ↦ rw w.calls-is (keys_all
          (w.in-Err.ensures.err ∙ all_taken w.in-Err.keys.items w.into_iter-key-iterator.result w.loop-key.yielded w.loop-key.key-iterator
          w.into_iter-key-iterator.ensures.into_iter_gives.0 (w.into_iter-key-iterator.ensures.into_iter_gives.1
          ∙ w.in-Err.keys.ok.0) w.loop-key.yielded_by w.in-None.ensures.steps.0) w.loop-key.invariant.keys (rw w.text-is at last) limits)
    ]
