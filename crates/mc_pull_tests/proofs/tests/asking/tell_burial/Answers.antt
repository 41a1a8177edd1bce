use Rattle.mc_pull_tests.proofs.MetLemmas.{met_settled}
use Rattle.mc_pull_tests.proofs.tests.asking.tell_burial.Goals as goal

pub returns : goal.returns
returns c =
    let pair = c.args.pair.now in
    let keeps = c.settle.ensures.keeps in
    record { met = met_settled pair.config pair.stripe c.settle.new.stripe pair.first c.settle.new.class pair.second _ _ keeps.site c.in_ok-done.ensures.settled keeps.agreement c.requires.met }
