use Rattle.std.proofs.Common.{inr, arith}
use Rattle.std.specs.List.{flat_map}
use Rattle.mc_proto.specs.Gathered.{bytes_of_parts}
use Rattle.mc_item.proofs.ConfigLemmas.{bounded}
use Rattle.mc_driver.proofs.StatusLemmas.{unrun_for_number}
use Rattle.mc_driver.proofs.program.run_input.Goals as goal

pub returns-clause-done : goal.returns-clause-done
returns-clause-done g c = λ zero.
    let input = flat_map (λ v. v.items) c.args.input.items in
    let run = c.in-Ok.run' in
    let printed = flat_map (λ end. bytes_of_parts end.1.pieces.items) run.ends.items in
    record {
      printed = printed;
      ended = run.outcomes.items;
      final = run.ledger;
      run = c.in-Ok.ensures.ok;
      done = c.print_answered-status.ensures.done zero;
      written = c.print_answered-status.ensures.printed (λ three. omega (arith, zero, three));
    }

pub run_cut-requires-clause-bounded : goal.run_cut-requires-clause-bounded
run_cut-requires-clause-bounded g c κs within = bounded c.args.plan.config c.requires.plan.0

pub run_cut-requires-clause-early : goal.run_cut-requires-clause-early
run_cut-requires-clause-early g c κs within = c.requires.plan.1

pub returns-in-Err-clause-refused : goal.returns-in-Err-clause-refused
returns-in-Err-clause-refused g c = λ two.
    unrun_for_number c.in-Err.fault c.args.plan.config (flat_map (λ v. v.items) c.args.input.items) c.requires.plan.0
    (λ memory. omega (arith, two, c.say_fault.ensures.memory memory)) c.in-Err.ensures.err

pub returns-clause-broken : goal.returns-clause-broken
returns-clause-broken g c = λ one.
    let input = flat_map (λ v. v.items) c.args.input.items in
    let run = c.in-Ok.run' in
    let printed = flat_map (λ end. bytes_of_parts end.1.pieces.items) run.ends.items in
    inr (record {
      printed = printed;
      ended = run.outcomes.items;
      final = run.ledger;
      run = c.in-Ok.ensures.ok;
      fault = c.print_answered-status.ensures.first one;
      written = c.print_answered-status.ensures.printed (λ three. omega (arith, one, three));
    })

pub returns-clause-refused : goal.returns-clause-refused
returns-clause-refused g c = λ two. absurd (c.print_answered-status.ensures.never two)

pub returns-clause-kept : goal.returns-clause-kept
returns-clause-kept g c = λ two. absurd (c.print_answered-status.ensures.never two)
