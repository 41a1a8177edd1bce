use Rattle.mc_hits.proofs.HandsLemmas.{below_hands, same_table, taken}
use Rattle.mc_hits.proofs.queues.Queues.take.Goals as goal

pub take-requires : goal.take-requires
take-requires g c =
    record {
      queue = same_table c.hands.inside.caller c.args.queue c.hands.inside.each.items c.self.inside.each.items c.args.hands.now c.args.self.now
          c.hands.view_is c.self.view_is c.requires.hands c.requires.queue c.index_mut.result.now c.index.result.now c.index_mut.ensures.value c.index.ensures;
    }

pub returns-clause-taken : goal.returns-clause-taken
returns-clause-taken g c =
    let xs = c.hands.inside.each.items in
    let below = below_hands c.hands.inside.caller c.args.queue xs c.self.inside.each.items c.args.hands.now c.args.self.now c.hands.view_is c.self.view_is c.requires.hands c.requires.queue in
    taken c.hands.inside.caller c.args.queue xs c.index_mut.result.now c.take.new.hand below c.index_mut.ensures.value
    c.args.hands.now c.take.result c.hands.view_is c.take.ensures.taken
