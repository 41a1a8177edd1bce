use Rattle.mc_laws.proofs.ValueSourceLemmas.{written_before}
use Rattle.mc_laws.proofs.reading.a_value_is_that_of_its_last_version.Goals as goal

pub returns : goal.returns
returns c = λ site before got key value flags cas. written_before site flags value cas key before got
