use Rattle.std.proofs.Common.{rules}
use Rattle.mc_pull.specs.Walker.{walker_by}
use Rattle.mc_pull.proofs.OneStripeGateLemmas.{alone_itself, walked_itself, walked_survey}
use Rattle.mc_pull.proofs.lone.Lone.juggle.Goals as goal

pub returns-clause-walked : goal.returns-clause-walked
returns-clause-walked c =
    let left = c.juggle.ensures.gate in
    let w = walker_by c.args.class.now c.args.context in
    let kept = left.kept c.args.self.now c.args.class.now.history (walked_itself w c.args.self.now.stripe.now c.args.class.now.history, alone_itself c.args.self.now) in
    record { holds = search rules; walked = kept.0; answers = kept.1; serves = left.serves }

pub juggle-requires : goal.juggle-requires
juggle-requires c = record {
  gate = record {
    served = record { class = c.requires.gate.class; serves = c.requires.gate.serves };
    surveys = λ first begun gate history survey by at kept. (walked_survey _ _ _ _ _ survey kept.0, kept.1);
    outlasts = record { survey = λ gate config v who moment room serves. serves; room = λ gate config v who room serves. serves };
  };
}
