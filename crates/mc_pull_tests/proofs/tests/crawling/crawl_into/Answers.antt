use Rattle.std.proofs.Common.{subst}
use Rattle.mc_pull.specs.Lone.{Serves}
use Rattle.mc_pull.proofs.GrowthLemmas.{class_later}
use Rattle.mc_pull_tests.proofs.tests.crawling.crawl_into.Goals as goal

-- the class has only grown, and the gate serves it still
pub invariant_of-world : goal.invariant_of-world
invariant_of-world c =
    let before = c.args.world.now in
    record {
      sound = record {
        class = class_later before.config before.class c.crawl_one.new.class before.sound.class c.crawl_one.ensures.grows;
        stripe = subst (Serves 0 c.crawl_one.new.gate.stripe.now) c.context-context.ensures.config c.crawl_one.ensures.gate.serves;
      };
    }
