use Rattle.mc_evidence.proofs.SmallItemLemmas.{absent_spares, reader_spares}
use Rattle.mc_evidence.proofs.commands.readers_spare_links.Goals as goal

pub returns : goal.returns
returns c = record { reads = reader_spares; absent = absent_spares }
