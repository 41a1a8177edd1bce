use Rattle.mc_pull_tests.proofs.MetLemmas.{met_walked}
use Rattle.mc_pull_tests.proofs.tests.asking.tell_juggle.Goals as goal

pub returns : goal.returns
returns c =
    let pair = c.args.pair.now in
    record { met = met_walked pair.config pair.stripe c.juggle.new.self.stripe.now pair.first c.juggle.new.class pair.second _ _ c.juggle.ensures.gains.grows c.juggle.ensures.walked.walked c.requires.met }
