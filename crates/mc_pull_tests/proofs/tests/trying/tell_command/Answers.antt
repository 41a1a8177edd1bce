use Rattle.mc_pull_tests.proofs.MetLemmas.{met_rooms}
use Rattle.mc_pull_tests.proofs.tests.trying.tell_command.Goals as goal

pub try_lent-tried-requires-clause-met : goal.try_lent-tried-requires-clause-met
try_lent-tried-requires-clause-met c =
    let pair = c.args.pair.now in
    met_rooms pair.config pair.stripe pair.first c.ready.new.class pair.second c.ready-2.new.class c.ready.ensures.same c.ready-2.ensures.same c.requires.met
