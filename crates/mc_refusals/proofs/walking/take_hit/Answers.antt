use Rattle.std.proofs.Common.{rules, [], refl, subst}
use Rattle.mc_item.specs.declared.config.Config.{Config}
use Rattle.mc_pull.specs.Question.{IsStripeOf}
use Rattle.mc_pull.proofs.OneStripeGateLemmas.{alone_itself, alone_later, walked_itself}
use Rattle.mc_refusals.proofs.WorldLemmas.{world_later}
use Rattle.mc_refusals.proofs.walking.take_hit.Goals as goal

-- the class has only grown, and the stripe is the one that was lent
pub invariant_of-world : goal.invariant_of-world
invariant_of-world c =
    let before = c.args.world.now in
    let after = c.advance-moved.new in
    let did = c.advance-moved.ensures in
    let lent = record after.gate { number = record { 0 = 0 }; stripe = record after.gate.stripe { now = before.stripe }; answers = record after.gate.answers { now = [] } } in
    let made = subst (λ (config : Config). IsStripeOf config after.gate.stripe.now) c.context-context.ensures.config did.gate.serves.made_with in
    let answers = alone_later lent lent _ (alone_itself lent) refl (search rules) in
    let walked = (did.gate.kept lent before.class.history (walked_itself _ before.stripe before.class.history, answers)).0 in
    record { sound = world_later before.config before.class after.class before.stripe after.gate.stripe.now _ before.sound did.gains.grows walked made }
