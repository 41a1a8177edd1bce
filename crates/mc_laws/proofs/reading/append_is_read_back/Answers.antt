use Rattle.mc_laws.proofs.EventLemmas.{append_read_back}
use Rattle.mc_laws.proofs.reading.append_is_read_back.Goals as goal

pub returns : goal.returns
returns c = λ site before between joined got key added flags exptime. append_read_back site before between joined got key flags exptime added
