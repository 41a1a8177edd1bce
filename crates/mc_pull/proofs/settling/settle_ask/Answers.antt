use Rattle.mc_pull.specs.Question.{question_of}
use Rattle.mc_pull.proofs.JudgementKeepsLemmas.{judgement_kept, judgement_seen}
use Rattle.mc_pull.proofs.settling.settle_ask.Goals as goal

pub returns-clause-keeps : goal.returns-clause-keeps
returns-clause-keeps c =
    let q = question_of c.args.ask.now in
    let made = c.settle_by.ensures in
    record {
      site = made.site;
      agreement = judgement_kept _ _ _ made.site q _ c.settle_by.result c.history.ensures.legal c.law.ensures.lawful made.done made.settled made.err;
      sight = judgement_seen _ _ _ made.site q _ c.settle_by.result c.history.ensures.legal made.done made.settled made.err;
    }
