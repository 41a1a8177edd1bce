use Rattle.mc_laws.proofs.VersionLemmas.{numbers_rise}
use Rattle.mc_laws.proofs.versions.cas_numbers_rise.Goals as goal

pub returns : goal.returns
returns c = numbers_rise
