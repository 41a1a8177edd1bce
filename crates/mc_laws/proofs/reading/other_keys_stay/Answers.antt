use Rattle.mc_laws.proofs.EventLemmas.{change_elsewhere}
use Rattle.mc_item.specs.{Cache.answer_of, Command.key_of}
use Rattle.mc_laws.proofs.reading.other_keys_stay.Goals as goal

pub returns : goal.returns
returns c = λ site cache command moment room other apart. change_elsewhere cache (key_of command) other (answer_of site cache command moment room).change apart
