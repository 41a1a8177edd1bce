use Rattle.std.proofs.Common.{◌++◌, [], ◌∙◌, ap, refl, arith, subst, inr}
use Rattle.std.specs.Prelude.{All, unwrap_or}
use Rattle.mc_proto.specs.Grammar.{IsModerate}
use Rattle.mc_proto.specs.declared.request.Limits.{Limits}
use Rattle.mc_script.specs.declared.{outcome.Outcome.TheVariants.Done}
use Rattle.mc_script.proofs.ScriptRunLemmas.{since_none, way_starts, way_out, way_ends, way_runs_out, way_starves, way_comes, way_goes_on, moderate_are}
use Rattle.mc_script.proofs.MadeCallLemmas.{same_both, same_itself}
use Rattle.mc_script.proofs.scripting.run_script.Goals as goal

pub loop-init : goal.loop-init
loop-init g c = record {
  ready = record { may = c.requires.starts.may; early = omega arith; classes = c.requires.starts.classes };
  same = same_itself (g.C.Calls.view c.args.calls.now);
  reads = refl;
  writes = refl;
  over = refl;
  limits = c.new-reader.ensures.limits;
  none = c.new.ensures.items;
  came = [];
  since = g.met.E.Ends.stays c.args.ends.now;
  way = way_starts c.new-reader.ensures.start c.new.ensures.items c.requires.starts.first refl c.requires.starts.none;
}

pub piece-requires : goal.piece-requires
piece-requires g c =
    let i = c.loop.invariant in
    c.requires.asks c.loop.ends i.came i.since (way_out i.way i.none) i.reads i.writes i.over

pub returns-in-Ok-None-clause-leaves : goal.returns-in-Ok-None-clause-leaves
returns-in-Ok-None-clause-leaves g c =
    let i = c.loop.invariant in
    let over = rw c.in-Ok-None.field-0-is at c.in-Ok-None.ensures.ok in
    record {
      came = i.came;
      since = since_none g.met.E.Ends.goes_on i.since over.0;
      leaves = λ left none. rw c.in-Ok-None.ensures.taken (rw i.same.caller at (way_ends i.way i.none (none over.1)));
    }

pub returns-in-Err-Failed-clause-leaves : goal.returns-in-Err-Failed-clause-leaves
returns-in-Err-Failed-clause-leaves g c =
    let i = c.loop.invariant in
    let fault = rw c.in-Err-Failed.field-0-is at c.in-Err-Failed.ensures.err in
    record {
      came = i.came;
      since = since_none g.met.E.Ends.goes_on i.since fault.1;
      leaves = λ left none. rw c.in-Err-Failed.ensures.taken (rw i.same.caller at (way_runs_out i.way i.none left));
    }

pub returns-in-Err-NoMemory-clause-leaves : goal.returns-in-Err-NoMemory-clause-leaves
returns-in-Err-NoMemory-clause-leaves g c =
    let i = c.loop.invariant in
    let fault = rw c.in-Err-NoMemory.field-0-is at c.in-Err-NoMemory.ensures.err in
    record {
      came = i.came;
      since = since_none g.met.E.Ends.goes_on i.since fault.1;
      leaves = λ left none. rw c.in-Err-NoMemory.ensures.taken (inr (record { piece = []; run = rw i.same.caller at (way_runs_out i.way i.none left) }));
    }

pub returns-in-Err-clause-leaves : goal.returns-in-Err-clause-leaves
returns-in-Err-clause-leaves g c =
    let i = c.loop.invariant in
    let came = rw c.in-Ok-Some.field-0-is at c.in-Ok-Some.ensures.ok in
    record {
      came = i.came ++ c.in-Ok-Some.piece.items;
      since = g.met.E.Ends.goes_on _ _ _ _ _ i.since came.0;
      leaves = λ left none. rw c.in-Ok-Some.ensures.taken (inr (rw i.same.caller at (way_starves i.way i.none c.in-Ok-Some.piece.items left)));
    }

pub answer_piece-requires-clause-moderate : goal.answer_piece-requires-clause-moderate
answer_piece-requires-clause-moderate g c =
    moderate_are c.args.limits c.in-Ok.requests.items (subst (λ (l : Limits). All (IsModerate l) c.in-Ok.requests.items) c.loop.invariant.limits c.in-Ok.ensures.moderate)

pub returns-in-Some-answer_piece-clause-leaves : goal.returns-in-Some-answer_piece-clause-leaves
returns-in-Some-answer_piece-clause-leaves g c =
    let i = c.loop.invariant in
    let came = rw c.in-Ok-Some.field-0-is at c.in-Ok-Some.ensures.ok in
    let come = way_comes i.way i.none i.limits c.in-Ok.ensures.limits c.in-Ok.ensures.reads in
    record {
      came = i.came ++ c.in-Ok-Some.piece.items;
      since = since_none g.met.E.Ends.goes_on (g.met.E.Ends.goes_on _ _ _ _ _ i.since came.0) c.answer_piece.ensures.asks_nothing.came;
      leaves = λ left none. rw (c.in-Some-answer_piece.is, c.answer_piece.ensures.caller.same.caller, i.same.caller) at
          (c.answer_piece.ensures.leaves _ left (g.E.Ends.taken c.args.ends.now) i.way.done come (rw c.in-Ok-Some.ensures.taken i.way.state_of));
    }

pub loop-preserved : goal.loop-preserved
unfolding way_comes
loop-preserved g c =
    let i = c.loop.invariant in
    let came = rw c.in-Ok-Some.field-0-is at c.in-Ok-Some.ensures.ok in
    let come = way_comes i.way i.none i.limits c.in-Ok.ensures.limits c.in-Ok.ensures.reads in
    let on = rw c.in-None-answer_piece.is at (c.answer_piece.ensures.leaves _ [] (g.E.Ends.taken c.args.ends.now) i.way.done come
    (rw c.in-Ok-Some.ensures.taken i.way.state_of)) in
    let counted = rw c.in-None-answer_piece.is at c.answer_piece.ensures.counted in
    record {
      ready = record {
        may = c.answer_piece.ensures.caller.done (ap (λ o. unwrap_or o Done) c.in-None-answer_piece.is);
        early = c.answer_piece.ensures.early;
        classes = λ n least most. (c.answer_piece.ensures.caller.same.classes _).0 (i.ready.classes n least most);
      };
      same = same_both i.same c.answer_piece.ensures.caller.same;
      reads = counted.0 ∙ c.in-Ok-Some.ensures.fine ∙ i.reads;
      writes = counted.1 ∙ c.in-Ok-Some.ensures.writes ∙ i.writes;
      over = c.answer_piece.ensures.asks_nothing.same_over ∙ came.1 ∙ i.over;
      limits = c.in-Ok.ensures.limits ∙ i.limits;
      none = on.out;
      came = i.came ++ c.in-Ok-Some.piece.items;
      since = since_none g.met.E.Ends.goes_on (g.met.E.Ends.goes_on _ _ _ _ _ i.since came.0) c.answer_piece.ensures.asks_nothing.came;
      way = way_goes_on come on;
    }
