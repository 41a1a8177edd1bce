use Rattle.mc_options.proofs.ReadingLemmas.{yes_read}
use Rattle.mc_options.proofs.words.follow_at.Goals as goal

pub returns : goal.returns
returns c = yes_read _ c.get_flag.result c.get_flag.ensures.none c.get_flag.ensures.value c.get_flag.ensures.other
