use Rattle.mc_pull_tests.proofs.MetLemmas.{met_refused}
use Rattle.mc_pull_tests.proofs.tests.asking.tell_refusal.Goals as goal

pub returns : goal.returns
returns c =
    let pair = c.args.pair.now in
    record { met = met_refused pair.config pair.stripe pair.first c.refuse.new.self pair.second _ c.in_ok-place.ensures.ok c.requires.met }
