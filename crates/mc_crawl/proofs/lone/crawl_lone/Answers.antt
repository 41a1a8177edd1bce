use Rattle.std.proofs.Common.{rules}
use Rattle.mc_pull.specs.Walker.{walker_by}
use Rattle.mc_pull.proofs.OneStripeGateLemmas.{alone_itself, walked_itself}
use Rattle.mc_crawl.proofs.lone.crawl_lone.Goals as goal

pub returns-clause-walked : goal.returns-clause-walked
returns-clause-walked c =
    let left = c.crawl_one.ensures.gate in
    let w = walker_by c.args.class.now c.args.context in
    let kept = left.kept c.args.gate.now c.args.class.now.history (walked_itself w c.args.gate.now.stripe.now c.args.class.now.history, alone_itself c.args.gate.now) in
    record { holds = search rules; walked = kept.0; answers = kept.1; serves = left.serves }
