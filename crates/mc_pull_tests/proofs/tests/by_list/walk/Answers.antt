use Rattle.std.proofs.Common.{subst}
use Rattle.mc_pull.specs.Lone.{Serves}
use Rattle.mc_pull.proofs.GrowthLemmas.{class_later}
use Rattle.mc_pull_tests.proofs.tests.by_list.walk.Goals as goal

-- the class has only grown, and the gate serves it still
pub invariant_of-world-2 : goal.invariant_of-world-2
invariant_of-world-2 c =
    let before = c.args.world.now in
    record {
      sound = record {
        class = class_later before.config before.class c.pull_tail.new.class before.sound.class c.pull_tail.ensures.gains.grows;
        stripe = subst (Serves 0 c.pull_tail.new.gate.stripe.now) c.context-context.ensures.config c.pull_tail.ensures.gate.serves;
      };
    }
