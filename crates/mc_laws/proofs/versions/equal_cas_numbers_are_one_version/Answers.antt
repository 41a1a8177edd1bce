use Rattle.mc_laws.proofs.VersionLemmas.{one_version}
use Rattle.mc_laws.proofs.versions.equal_cas_numbers_are_one_version.Goals as goal

pub returns : goal.returns
returns c = one_version
