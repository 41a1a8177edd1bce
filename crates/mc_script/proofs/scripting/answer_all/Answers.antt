use Rattle.std.proofs.Common.{◌∷◌, [], append_assoc, sym, ◌∙◌, subst, refl}
use Rattle.std.specs.Vec.Iter.{into_iter_items}
use Rattle.mc_script.specs.Progress.{AreModerate}
use Rattle.mc_script.proofs.IterLemmas.{split_at, all_taken}
use Rattle.mc_script.proofs.MadeCallLemmas.{same_both, same_itself}
use Rattle.mc_script.proofs.ProgressLemmas.{goes_ended, goes_more, goes_memory, goes_full, goes_torn, moderate_among, NoneEnds-push, went_none, went_further, went_printed}
use Rattle.mc_script.proofs.ScriptRunLemmas.{asks_both}
use Rattle.mc_script.proofs.scripting.answer_all.Goals as goal

pub loop-request-init : goal.loop-request-init
loop-request-init g c = record {
  ready = c.requires.ready;
  same = same_itself (g.C.Calls.view c.args.calls.now);
  writes = refl;
  asks_nothing = record { came = g.met.E.Ends.stays c.args.ends.now; same_reads = refl; same_over = refl };
  own = tt;
  went = λ before start has. went_none has;
}

pub answer_request-requires-clause-moderate : goal.answer_request-requires-clause-moderate
answer_request-requires-clause-moderate g c =
    let split = split_at c.args.requests.items c.loop-request.yielded c.in-Some.request c.into_iter-request-iterator.result c.loop-request.request-iterator
    c.next.new.self c.into_iter-request-iterator.ensures.into_iter_gives.0 c.loop-request.yielded_by c.in-Some.ensures.steps.0 in
    moderate_among c.args.limits c.loop-request.yielded c.in-Some.request (into_iter_items c.next.new.self) (subst (AreModerate c.args.limits) split c.requires.moderate)

pub returns-then-ends_script-clause-goes : goal.returns-then-ends_script-clause-goes
returns-then-ends_script-clause-goes g c = λ before start has.
    let split = split_at c.args.requests.items c.loop-request.yielded c.in-Some.request c.into_iter-request-iterator.result c.loop-request.request-iterator
    c.next.new.self c.into_iter-request-iterator.ensures.into_iter_gives.0 c.loop-request.yielded_by c.in-Some.ensures.steps.0 in
    goes_ended (c.loop-request.invariant.went before start has) c.loop-request.invariant.own c.in-Some.request (into_iter_items c.next.new.self) split
    (sym c.ends_script.ensures ∙ c.if-ends_script.true)

pub returns-in-Err-NoMemory-clause-goes : goal.returns-in-Err-NoMemory-clause-goes
returns-in-Err-NoMemory-clause-goes g c = λ before start has.
    let split = split_at c.args.requests.items c.loop-request.yielded c.in-Some.request c.into_iter-request-iterator.result c.loop-request.request-iterator
    c.next.new.self c.into_iter-request-iterator.ensures.into_iter_gives.0 c.loop-request.yielded_by c.in-Some.ensures.steps.0 in
    goes_memory (c.loop-request.invariant.went before start has) c.loop-request.invariant.own c.in-Some.request (into_iter_items c.next.new.self) split
    (sym c.ends_script.ensures ∙ c.if-ends_script.false) c.in-Err-NoMemory.ensures.caller.same.caller c.in-Err-NoMemory.ensures.text
    (rw c.in-Err-NoMemory.field-0-is at c.in-Err-NoMemory.ensures.err)

pub returns-in-Err-HistoryFull-clause-goes : goal.returns-in-Err-HistoryFull-clause-goes
returns-in-Err-HistoryFull-clause-goes g c = λ before start has.
    let split = split_at c.args.requests.items c.loop-request.yielded c.in-Some.request c.into_iter-request-iterator.result c.loop-request.request-iterator
    c.next.new.self c.into_iter-request-iterator.ensures.into_iter_gives.0 c.loop-request.yielded_by c.in-Some.ensures.steps.0 in
    goes_full (c.loop-request.invariant.went before start has) c.loop-request.invariant.own c.in-Some.request (into_iter_items c.next.new.self) split
    (sym c.ends_script.ensures ∙ c.if-ends_script.false) c.in-Err-HistoryFull.ensures.caller.same.caller c.in-Err-HistoryFull.ensures.text
    (rw c.in-Err-HistoryFull.field-0-is at c.in-Err-HistoryFull.ensures.err)

pub loop-request-preserved : goal.loop-request-preserved
loop-request-preserved g c =
    let before' = c.loop-request.invariant in
    record {
      ready = record { may = c.in-Ok.ensures.caller.may; early = c.in-Ok.ensures.early; classes = λ n least most. (c.in-Ok.ensures.caller.same.classes _).0 (before'.ready.classes n least most) };
      same = same_both before'.same c.in-Ok.ensures.caller.same;
      writes = c.in-Ok-print_much.ensures.fine ∙ before'.writes;
      asks_nothing = asks_both g.met.E.Ends.goes_on before'.asks_nothing c.in-Ok-print_much.ensures.asks_nothing;
      own = NoneEnds-push c.loop-request.yielded c.in-Some.request before'.own (sym c.ends_script.ensures ∙ c.if-ends_script.false);
      went = λ before start has. went_printed (went_further (before'.went before start has) c.in-Ok.ensures.ok c.in-Ok.ensures.moment) c.in-Ok-print_much.ensures.ok;
    }

pub returns-in-Err-clause-goes : goal.returns-in-Err-clause-goes
returns-in-Err-clause-goes g c = λ before start has.
    let split = split_at c.args.requests.items c.loop-request.yielded c.in-Some.request c.into_iter-request-iterator.result c.loop-request.request-iterator
    c.next.new.self c.into_iter-request-iterator.ensures.into_iter_gives.0 c.loop-request.yielded_by c.in-Some.ensures.steps.0 in
    let rest = into_iter_items c.next.new.self in
    goes_torn (went_further (c.loop-request.invariant.went before start has) c.in-Ok.ensures.ok c.in-Ok.ensures.moment)
    (NoneEnds-push c.loop-request.yielded c.in-Some.request c.loop-request.invariant.own (sym c.ends_script.ensures ∙ c.if-ends_script.false))
    rest (split ∙ sym (append_assoc c.loop-request.yielded (c.in-Some.request ∷ []) rest)) c.in-Err.ensures.err.1

pub returns-clause-goes : goal.returns-clause-goes
returns-clause-goes g c = λ before start has.
    goes_more (c.loop-request.invariant.went before start has) c.loop-request.invariant.own
    (all_taken c.args.requests.items c.into_iter-request-iterator.result c.loop-request.yielded c.loop-request.request-iterator
    c.into_iter-request-iterator.ensures.into_iter_gives.0 (c.into_iter-request-iterator.ensures.into_iter_gives.1
    ∙ c.args.requests.ok.0) c.loop-request.yielded_by c.in-None.ensures.steps.0)
