use Rattle.std.proofs.Common.{subst}
use Rattle.mc_pull.specs.Lone.{Serves}
use Rattle.mc_pull.proofs.GrowthLemmas.{class_later}
use Rattle.mc_pull_tests.proofs.tests.by_list.room.Goals as goal

-- the class has only grown, and the gate serves it still
pub invariant_of-world : goal.invariant_of-world
invariant_of-world c =
    let before = c.args.world.now in
    record {
      sound = record {
        class = class_later before.config before.class c.make_room.new.class before.sound.class c.make_room.ensures.gains.grows;
        stripe = subst (Serves 0 c.make_room.new.gate.stripe.now) c.context-context.ensures.config c.make_room.ensures.gate.serves;
      };
    }
