use Rattle.mc_laws.proofs.VersionLemmas.{stored_over}
use Rattle.mc_laws.proofs.versions.cas_stores_over_what_was_read.Goals as goal

pub returns : goal.returns
returns c = stored_over
