use Rattle.mc_laws.proofs.EventLemmas.{read_back}
use Rattle.mc_laws.proofs.reading.set_is_read_back.Goals as goal

pub returns : goal.returns
returns c = λ site before between set got key value flags exptime. read_back site before between set got key flags exptime value
