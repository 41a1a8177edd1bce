use Rattle.mc_pull.proofs.SearchTriedLemmas.{tried_in_vain}
use Rattle.mc_pull.proofs.trying.a_search_in_vain_has_tried.Goals as goal

pub returns : goal.returns
returns c = tried_in_vain
